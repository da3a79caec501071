-- The channels of a valid state, and what may be written into one.
use Rattle.std.specs.Prelude.{if◌then◌else◌}
use Prim.Native.Nat.{ℕ, suc, ◌<◌}
use mathlib.Core.Path.{◌≡◌, refl, sym, ap, ◌∙◌}
use mathlib.Core.Bool.{false, true, ◌&&◌}
use lib.Dec.{T, eqb}
use lib.ListN.{length, length-map}
use Rattle.rules.specs.Lists.{within}
use Rattle.rules.specs.State.{Way, ChannelWord, Channel, State, Wiring, end_of}
use Rattle.rules.specs.Items.{channel_word, transfers, put, no_channel, channel_of}
use Rattle.rules.specs.Soundness.{is_process, own_end, valid_word, valid_channel}
use Rattle.rules.proofs.Tests.{and_means, leb_means, all_nth}
use Rattle.rules.proofs.Validity.Reflect.{Valid}
use Rattle.rules.proofs.Validity.Changes.{set_channel}

-- What `valid_channel` asks.
pub record GoodChannel (w : Wiring) (c : Channel) : Type 0 where
  pub ends : T (is_process w c.ends.writer && is_process w c.ends.reader && (if eqb c.ends.writer c.ends.reader then false else true))
  pub word : T (valid_word w c.word)
  pub transfers : c.transfers < 4294967296

-- `valid_channel` is the fact
good_channel : (w : Wiring) (c : Channel) → T (valid_channel w c) → GoodChannel w c
unfolding valid_channel
good_channel w c h =
    let h' = simp and_means at h in
    record { ends = simp and_means h'.0.0; word = h'.0.1; transfers = (leb_means (suc c.transfers) 4294967296).0 h'.1 }

-- and the other way
pub good_channel_tested : (w : Wiring) (c : Channel) → GoodChannel w c → T (valid_channel w c)
unfolding valid_channel
good_channel_tested w c g = simp (and_means, leb_means) ((simp (and_means, leb_means) at g.ends, g.word), g.transfers)

module _ {w : Wiring} {s : State} (way : Way) (p c : ℕ) (v : Valid w s) (own : T (own_end w way p c)) where
  -- a channel of which p is an end is as it should be
  pub channel_good : GoodChannel w (channel_of s c)
  channel_good =
      let numbered = ((and_means (within 1 (length w.ends) c) (eqb (end_of w way c) p)).0 own).0 in
      let as_many : length s.channels ≡ length w.ends =
      sym (length-map s.channels (λ (x : Channel). x.ends)) ∙ ap (λ (x : Wiring). length x.ends) v.wired in
      good_channel w (channel_of s c) (all_nth (valid_channel w) s.channels c no_channel v.channels (rw as_many numbered))

  -- another word, of a process, may stand in it
  pub word_written : (x : ChannelWord) → T (valid_word w x) → Valid w (put channel_word c x s)
  word_written x named =
      set_channel c _ v (good_channel_tested w _ (record { ends = channel_good.ends; word = named; transfers = channel_good.transfers })) refl

  -- another number of transfers
  pub transfers_written : (n : ℕ) → n < 4294967296 → Valid w (put transfers c n s)
  transfers_written n small =
      set_channel c _ v (good_channel_tested w _ (record { ends = channel_good.ends; word = channel_good.word; transfers = small })) refl
