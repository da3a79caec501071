-- How a request of send or receive goes from stage to stage, on a table that packs a state.
use Rattle.std.proofs.Common.{◌≡◌, ℕ, ◌-◌, List, [], ◌∷◌, set, refl}
use Rattle.rules.specs.State.{Way, sending, receiving, look, park, copy, clear, wake, Progress, doing, due, State}
use Rattle.rules.specs.Items.{process_of, put, progress}
use Rattle.rules.specs.Layout.{process_at, process_progress, process_partner, at_send_look, at_send_park, at_send_copy, at_send_clear, at_send_wake}
use Rattle.rules.specs.Packing.{of_channel, progress_words}
use Rattle.rules.specs.Steps.{outcome}
use Rattle.layout.specs.Numbers.{of_way}
use Rattle.parts.proofs.Packs.{Packs, IsProcess, progress_written}
use Rattle.steps.specs.Outcomes.{due_of}

-- the words of the stages at channel c with partner q, and of the outcome
pub record StageWords (w : Way) (c q : ℕ) : Type 0 where
  pub look : progress_words (doing (look w c)) ≡ of_channel (of_way w at_send_look) c 0
  pub park : progress_words (doing (park w c)) ≡ of_channel (of_way w at_send_park) c 0
  pub copy : progress_words (doing (copy w c q)) ≡ of_channel (of_way w at_send_copy) c q
  pub clear : progress_words (doing (clear w c q)) ≡ of_channel (of_way w at_send_clear) c q
  pub wake : progress_words (doing (wake w c q)) ≡ of_channel (of_way w at_send_wake) c q
  pub due : progress_words (due (outcome w c)) ≡ of_channel (due_of w) c 0

pub stage_words : (w : Way) (c q : ℕ) → StageWords w c q
unfolding progress_words
stage_words sending c q = record { look = refl; park = refl; copy = refl; clear = refl; wake = refl; due = refl }
stage_words receiving c q = record { look = refl; park = refl; copy = refl; clear = refl; wake = refl; due = refl }

-- the stage's number and the partner, among the words of a progress
abbrev number : ℕ
number = process_progress - process_progress

abbrev partner : ℕ
partner = process_partner - process_progress

module _ {t : List ℕ} {cores processes : ℕ} {s : State} (packs : Packs t cores processes s)
    (p : ℕ) (is : IsProcess s p) {x : Progress} (had : (process_of s p).progress ≡ x) (y : Progress) where
  -- the stage's number is another
  pub goes_on : {n m c q : ℕ} → progress_words x ≡ of_channel n c q → progress_words y ≡ of_channel m c q
      → Packs (set t (process_at cores p process_progress) m) cores processes (put progress p y s)
  goes_on {n} {m} e e' = progress_written packs p is y ((number, m) ∷ []) tt (rw (had, e, e'))

  -- and so is the partner, who was none
  pub finds : {n m c q : ℕ} → progress_words x ≡ of_channel n c 0 → progress_words y ≡ of_channel m c q
      → Packs (set (set t (process_at cores p process_partner) q) (process_at cores p process_progress) m) cores processes (put progress p y s)
  finds {n} {m} {c} {q} e e' = progress_written packs p is y ((partner, q) ∷ (number, m) ∷ []) tt (rw (had, e, e'))
