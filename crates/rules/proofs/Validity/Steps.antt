-- The steps of send and receive keep a state valid.
use Prim.Native.Nat.{ℕ, ◌+◌, ◌%◌}
use native.Mathlib.Omega.{arith}
use mathlib.Core.Path.{refl}
use mathlib.Core.Bool.{◌&&◌}
use lib.Dec.{T}
use Rattle.rules.specs.State.{
  Way,
  sending,
  receiving,
  copy,
  clear,
  wake,
  due,
  no_task,
  trigger,
  ChannelWord,
  nobody,
  plain,
  choosing,
  State,
  Wiring,
}
use Rattle.rules.specs.Items.{data_word, channel_word, transfers, get, put}
use Rattle.rules.specs.Rule.{run}
use Rattle.rules.specs.Steps.{next, after_look, look_step, outcome, parked, park_step, copy_step, clear_step, reports, wake_step}
use Rattle.rules.specs.Soundness.{is_process, own_end, valid_stage, valid_progress, valid_word}
use Rattle.rules.proofs.Tests.{both, together}
use Rattle.rules.proofs.Validity.Reflect.{Valid, good_of}
use Rattle.rules.proofs.Validity.Places.{Runs}
use Rattle.rules.proofs.Validity.Channels.{channel_good, word_written, transfers_written}
use Rattle.rules.proofs.Validity.Rules.{Accepts, still_runs, data_written, next_keeps, reports_keeps, sleeps_keeps, work_written, wakes_keeps}

module _ {w : Wiring} {k p : ℕ} {s : State} (way : Way) (c : ℕ) (h : Runs w k p s) (own : T (own_end w way p c)) where
  -- the process in its word, if there is one, is one of the table's
  its_word : T (valid_word w (get channel_word s c))
  its_word = (channel_good way p c h.valid own).word

  -- an outcome of p at the channel may be due
  outcome_due : (way' : Way) → T (own_end w way' p c) → T (valid_progress w p (due (outcome way' c)))
  outcome_due sending its = its
  outcome_due receiving its = its

  -- a partner may be p's at the stages that have one
  with_partner : (q : ℕ) → T (is_process w q) → T (valid_stage w p (copy way c q))
  with_partner q named = together (own_end w way p c) (is_process w q) own named

  -- look
  pub look_keeps : Accepts (Valid w) (run (look_step p way c) s)
  look_keeps = next_keeps h (after_look way c (get channel_word s c)) (by_word (get channel_word s c) its_word)
    where
      by_word : (x : ChannelWord) → T (valid_word w x) → T (valid_stage w p (after_look way c x))
      by_word nobody named = own
      by_word (plain q) named = with_partner q named
      by_word (choosing q) named = own

  -- park, where the old word was x
  parked_keeps : (x : ChannelWord) → T (valid_word w x) → Accepts (Valid w) (run (parked k p way c x) s)
  parked_keeps nobody named = sleeps_keeps h (due (outcome way c)) no_task (outcome_due way own) tt tt
  parked_keeps (choosing q) named = sleeps_keeps h (due (outcome way c)) (trigger q) (outcome_due way own) tt named
  parked_keeps (plain q) named = next_keeps h (copy way c q) (with_partner q named)

module _ {w : Wiring} {k p : ℕ} {s : State} (way : Way) (c : ℕ) (h : Runs w k p s) (own : T (own_end w way p c)) where
  -- park
  pub park_keeps : Accepts (Valid w) (run (park_step k p way c) s)
  park_keeps =
      parked_keeps way c (still_runs h refl (word_written way p c h.valid own (plain p) h.named)) own (get channel_word s c)
      (its_word way c h own)

-- Stages with a partner
module _ {w : Wiring} {k p : ℕ} {s : State} (way : Way) (c q : ℕ) (h : Runs w k p s) (its : T (own_end w way p c && is_process w q)) where
  own : T (own_end w way p c)
  own = (both (own_end w way p c) (is_process w q) its).0

  named : T (is_process w q)
  named = (both (own_end w way p c) (is_process w q) its).1

  -- clear
  pub clear_keeps : Accepts (Valid w) (run (clear_step p way c q) s)
  clear_keeps = next_keeps (still_runs h refl (word_written way p c h.valid own nobody tt)) (wake way c q) its

  -- wake
  pub wake_keeps : Accepts (Valid w) (run (wake_step k p way c q) s)
  wake_keeps =
      wakes_keeps k h.valid h.on (Valid w) q (reports p (outcome way c)) named
      (λ v. reports_keeps (still_runs h (work_written k h.valid h.on _) v) (outcome way c))

  -- the data word of y is written into that of x, and counted
  copied : (x y : ℕ) → T (is_process w x) → T (is_process w y)
      → Accepts (Valid w)
      (run (next p (clear way c q)) (put transfers c ((get transfers s c + 1) % 4294967296) (put data_word x (get data_word s y) s)))
  copied x y to_named from_named =
      let written = data_written h.valid x to_named (get data_word s y) (good_of y h.valid from_named).word in
      next_keeps (still_runs h refl (transfers_written way p c written own _ (omega arith))) (clear way c q) its

-- copy
pub copy_keeps : {w : Wiring} {k p : ℕ} {s : State} (way : Way) (c q : ℕ) → Runs w k p s → T (own_end w way p c && is_process w q)
    → Accepts (Valid w) (run (copy_step p way c q) s)
copy_keeps {p} sending c q h its = copied sending c q h its q p (named sending c q h its) h.named
copy_keeps {p} receiving c q h its = copied receiving c q h its p q h.named (named receiving c q h its)
