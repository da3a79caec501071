-- A process that runs, and is at a guard of its choice: what is known of that guard and its channel.
use Prim.Native.Nat.{ℕ, ◌≤◌, ◌<◌, ◌^◌}
use mathlib.Core.Path.{◌≡◌, sym, ap, ◌∙◌, subst}
use mathlib.Core.List.{List}
use mathlib.Core.Option.{Option, none}
use native.Mathlib.Omega.{arith}
use lib.Dec.{T, lit<}
use lib.ListN.{length, get_or}
use Rattle.rules.specs.Lists.{within, all, distinct}
use Rattle.rules.specs.State.{receiving, Stage, doing, nobody, wiring}
use Rattle.rules.specs.Items.{channel_of}
use Rattle.rules.specs.Choice.{guard}
use Rattle.rules.specs.Layout.{channel_holder}
use Rattle.rules.specs.Packing.{of_choice, progress_words, view, word_number, word_numbered}
use Rattle.rules.specs.Soundness.{own_end, own_guards, in_list, ready_in_list, valid_enabling, valid_disabling, valid_stage, valid_word}
use Rattle.rules.proofs.Tests.{both, three, within_means}
use Rattle.parts.specs.Does.{Card, At}
use Rattle.parts.proofs.Card.{facts, card_core, card_process, card_channel, name_fits, stage_valid, runs_process}
use Rattle.parts.proofs.Packs.{IsChannel, channel_read, who_stands}
use Rattle.table.specs.Has.{HasCore, HasProcess, HasChannel}
use Rattle.guards.specs.Read.{word_of, guard_place, guard_at, guard_word_at, AtGuard}
use Rattle.guards.proofs.Rules.{word_nobody}
use Rattle.guards.proofs.Guards.{Chooses, at_chooses, guard_range, index_reads, guard_reads}

-- The table has the words of the process that runs, and of its core.
module _ {t : List ℕ} {cores processes k p : ℕ} {x : Stage} (at : At t cores processes k p x) where
  pub at_process : HasProcess t cores p
  at_process = runs_process t cores processes k p x at

  pub at_core : HasCore t k
  at_core = card_core t cores processes k at.card

-- process p is at the guard of index i, in a stage of this number with these guards and this first ready guard
pub record Stands (t : List ℕ) (cores processes k p n : ℕ) (gs : List ℕ) (i : ℕ) (r : Option ℕ) : Type 0 where
  pub card : Card t cores processes k
  pub chooses : Chooses t cores processes (view t) p n gs i r
  pub own : T (own_guards (wiring (view t)) p gs)
  pub inside : T (in_list gs i)
  pub ready : T (ready_in_list gs r)

-- so it is at each stage that enables a guard, and at each that disables one, by the words and the validity of their shape
module _ {t : List ℕ} {cores processes k p : ℕ} {x : Stage} (at : At t cores processes k p x) {n : ℕ} {gs : List ℕ} {i : ℕ} where
  pub enabling_stands : progress_words (doing x) ≡ of_choice n gs i none
      → valid_stage (wiring (view t)) p x ≡ valid_enabling (wiring (view t)) p gs i → Stands t cores processes k p n gs i none
  enabling_stands words valid =
      let parts = both (own_guards (wiring (view t)) p gs) (in_list gs i) (rw valid at (stage_valid t cores processes k p x at)) in
      record { card = at.card; chooses = at_chooses at n gs i none words; own = parts.0; inside = parts.1; ready = tt }

  pub disabling_stands : {r : Option ℕ} → progress_words (doing x) ≡ of_choice n gs i r
      → valid_stage (wiring (view t)) p x ≡ valid_disabling (wiring (view t)) p gs i r → Stands t cores processes k p n gs i r
  disabling_stands {r} words valid =
      let parts = three (own_guards (wiring (view t)) p gs) (in_list gs i) (ready_in_list gs r) (rw valid at (stage_valid t cores processes k p x at)) in
      record { card = at.card; chooses = at_chooses at n gs i r words; own = parts.0; inside = parts.1; ready = parts.2 }

module _ {t : List ℕ} {cores processes k p n : ℕ} {gs : List ℕ} {i : ℕ} {r : Option ℕ} (h : Stands t cores processes k p n gs i r) where
  -- the index is one of the guards'
  pub index_range : (1 ≤ i) × (i ≤ length gs) × (length gs ≤ 8)
  index_range =
      let list = three (within 1 8 (length gs)) (all (own_end (wiring (view t)) receiving p) gs) (distinct gs) h.own in
      let index = within_means 1 (length gs) i h.inside in
      (index.0, index.1, (within_means 1 8 (length gs) list.0).1)

  -- the guard is a channel, and is read off the table
  pub guard_among : IsChannel (view t) (guard gs i)
  guard_among = guard_range (view t) p gs h.own i index_range.0 index_range.1

  pub guard_is : guard_at t cores p ≡ guard gs i
  guard_is =
      let range = index_range in
      ap (λ (j : ℕ). word_of t cores p (guard_place j)) (index_reads h.chooses)
      ∙ guard_reads h.chooses i range.0 (omega arith)

  -- the table has its words
  pub has_guard : AtGuard t cores processes p
  has_guard =
      let among = h.chooses.among in
      let process : HasProcess t cores p = card_process t cores processes k h.card p among.0 among.1 in
      let index = index_reads h.chooses in
      let range = index_range in
      let channel = card_channel t cores processes k h.card (guard gs i) guard_among.0 guard_among.1 in
      record {
        process = process;
        index = omega arith;
        channel = subst (λ (c : ℕ). HasChannel t cores processes c) (sym guard_is) channel;
      }

  -- its channel word is valid, and is read off the table
  pub word_valid : T (valid_word (wiring (view t)) (channel_of (view t) (guard gs i)).word)
  word_valid = ((facts t h.card.is_sound).channels (guard gs i) guard_among.0 guard_among.1).word

  pub word_is : get_or t (guard_word_at t cores processes p) 0 ≡ word_number (channel_of (view t) (guard gs i)).word
  word_is = rw guard_is (channel_read h.chooses.packs (guard gs i) guard_among channel_holder (lit< tt))

  -- what is made of it there is the word
  pub found_word : word_numbered (get_or t (guard_word_at t cores processes p) 0) ≡ (channel_of (view t) (guard gs i)).word
  found_word = rw guard_is (who_stands h.card (guard gs i) guard_among)

  -- a word of 0 is nobody's
  pub free_word : get_or t (guard_word_at t cores processes p) 0 ≡ 0 → (channel_of (view t) (guard gs i)).word ≡ nobody
  free_word e = word_nobody (wiring (view t)) (channel_of (view t) (guard gs i)).word word_valid (sym word_is ∙ e)

  -- the process's number is small
  pub number_small : p < 2 ^ 31
  number_small = name_fits h.card h.chooses.among.1
