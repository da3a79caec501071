-- Take: the head of the active queue runs, and answers its outcome or MOVED.
use Prim.Native.Nat.{ℕ, suc, ◌+◌, ◌-◌, ◌≤◌, ◌<◌}
use mathlib.Core.Path.{◌≡◌, sym, ap, ◌∙◌, subst}
use mathlib.Core.List.{List, ◌∷◌}
use native.Mathlib.Omega.{arith}
use lib.Dec.{lit≤, lit<}
use lib.ListN.{get_or, length-set}
use Rattle.rules.specs.Numbers.{Said, MOVED, GOT, yes_with}
use Rattle.rules.specs.State.{running, sending, receiving, Stage, look, park, copy, clear, wake, enable_look, raise, place_name, ready_from_look, ready_from_place, wait, disable, lower, finish, Outcome, go, sent, got, chose, Progress, nothing, doing, due, State}
use Rattle.rules.specs.Items.{core_of, process_of, core, place, put}
use Rattle.rules.specs.Rule.{run}
use Rattle.rules.specs.CoreStep.{step}
use Rattle.rules.specs.Scheduler.{taken}
use Rattle.rules.specs.Layout.{core_at, process_at, core_first, core_dispatch, process_data, process_progress, process_channel, progress_size, due_go, due_chose}
use Rattle.rules.specs.Packing.{view, word_at, progress_words}
use Rattle.rules.proofs.Nth.{length_set_nth}
use Rattle.packing.proofs.Links.{Stands}
use Rattle.packing.proofs.Standing.{first_stands}
use Rattle.parts.specs.Does.{Comes, Does}
use Rattle.parts.specs.Shared.{cleared, reported}
use Rattle.parts.proofs.Packs.{Packs, IsProcess, on_pack, as_packed, still, still_process, process_read, progress_read, progress_cleared}
use Rattle.table.specs.Has.{HasProcess}
use Rattle.queues.specs.Fits.{CanTake}
use Rattle.queues.proofs.Fits.{can_take}
use Rattle.queues.proofs.Laws.{takes, take_step_law}
use Rattle.scheduler.specs.Free.{Takes, taken_table}
use Rattle.scheduler.proofs.Idle as idle
use Rattle.scheduler.proofs.Known.{free_packs, free_inside, free_order, free_read, queue}

-- the channel stands among the words of a progress
abbrev channel_place : ℕ
channel_place = process_channel - process_progress

-- the number of a stage is below those of outcomes
stage_number : (x : Stage) → get_or (progress_words (doing x)) 0 0 < due_go
unfolding progress_words
stage_number (look sending c) = lit< tt
stage_number (look receiving c) = lit< tt
stage_number (park sending c) = lit< tt
stage_number (park receiving c) = lit< tt
stage_number (copy sending c q) = lit< tt
stage_number (copy receiving c q) = lit< tt
stage_number (clear sending c q) = lit< tt
stage_number (clear receiving c q) = lit< tt
stage_number (wake sending c q) = lit< tt
stage_number (wake receiving c q) = lit< tt
stage_number (enable_look gs i) = lit< tt
stage_number (raise gs i) = lit< tt
stage_number (place_name gs i) = lit< tt
stage_number (ready_from_look gs i) = lit< tt
stage_number (ready_from_place gs i) = lit< tt
stage_number (wait gs) = lit< tt
stage_number (disable gs i r) = lit< tt
stage_number (lower gs i r) = lit< tt
stage_number (finish gs r) = lit< tt

-- of an outcome it is one of those
outcome_least : (o : Outcome) → due_go ≤ get_or (progress_words (due o)) 0 0
unfolding progress_words
outcome_least go = lit≤ tt
outcome_least (sent c) = lit≤ tt
outcome_least (got c) = lit≤ tt
outcome_least (chose c) = lit≤ tt

outcome_most : (o : Outcome) → get_or (progress_words (due o)) 0 0 ≤ due_chose
unfolding progress_words
outcome_most go = lit≤ tt
outcome_most (sent c) = lit≤ tt
outcome_most (got c) = lit≤ tt
outcome_most (chose c) = lit≤ tt

-- no outcome has this number
abbrev NoOutcome : ℕ → Type 0
NoOutcome n = due_go ≤ n → due_chose < n

module _ {u : List ℕ} {cores processes : ℕ} {s : State} (packs : Packs u cores processes s) (t : List ℕ) (p : ℕ) where
  -- the taken process goes on with its request
  pub goes_on : (x : Progress) → NoOutcome (get_or (progress_words x) 0 0) → {r : Said} → r ≡ yes_with MOVED → Comes (run (taken p x) s) t r u
  goes_on nothing h reply = (reply, packs.is_pack)
  goes_on (doing x) h reply = (reply, packs.is_pack)
  goes_on (due o) h reply = absurd (omega (arith, h (outcome_least o), outcome_most o))

  -- or it answers its outcome
  pub answers_outcome : IsProcess s p → (x : Progress) → due_go ≤ get_or (progress_words x) 0 0 → {r : Said}
      → r ≡ yes_with (reported (get_or (progress_words x) 0 0) p (get_or (progress_words x) channel_place 0) (get_or u (process_at cores p process_data) 0))
      → Comes (run (taken p x) s) t r (cleared u cores p)
  unfolding progress_words
  answers_outcome is nothing h reply = absurd (omega arith)
  answers_outcome is (doing x) h reply = absurd (omega (arith, stage_number x))
  answers_outcome is (due go) h reply = (reply, (progress_cleared packs p is).is_pack)
  answers_outcome is (due (sent c)) h reply = (reply, (progress_cleared packs p is).is_pack)
  answers_outcome is (due (got c)) h reply =
      (reply ∙ ap (λ (v : ℕ). yes_with (GOT p c v)) (process_read packs p is process_data (lit< tt)), (progress_cleared packs p is).is_pack)
  answers_outcome is (due (chose c)) h reply = (reply, (progress_cleared packs p is).is_pack)

module _ {t : List ℕ} {cores processes k : ℕ} (pre : Takes t cores processes k) where
  -- the process that is read, with which the active queue begins
  abbrev first : ℕ
  first = word_at t (core_at k core_first)

  rest : List ℕ
  rest = (queue pre.free pre.head).0

  begins : (core_of (view t) k).active ≡ first ∷ rest
  unfolding rest
  begins = (queue pre.free pre.head).1

  stands : Stands (view t) k first
  stands = first_stands (view t) k (free_inside pre.free) (free_order pre.free) _ rest begins

  pub can_take_head : CanTake t cores k first
  can_take_head =
      on_pack (free_packs pre.free) (λ u n. CanTake u n k first)
      (can_take (view t) k (free_inside pre.free) (free_order pre.free) _ rest begins)

  -- the state after the take
  after : ℕ → State
  after n = put place first running (put core k (takes first n rest (core_of (view t) k)) (view t))

  taken_packs : (n : ℕ) → Packs (taken_table t cores k first n) cores processes (after n)
  unfolding after
  taken_packs n =
      let packs = free_packs pre.free in
      still packs (length-set (view t).cores k _) (length_set_nth (view t).processes first _)
      (as_packed packs (λ u m. taken_table u m k first n)
      (take_step_law (view t) k (free_inside pre.free) (free_order pre.free) first n rest begins pre.free.work))

  -- the dispatch count is one less
  counted : (n : ℕ) → word_at t (core_at k core_dispatch) ≡ suc n → (core_of (view t) k).dispatch ≡ suc n
  counted n e = sym (free_read pre.free core_dispatch (lit< tt)) ∙ e

  -- what the step comes to
  comes : (n : ℕ) → word_at t (core_at k core_dispatch) ≡ suc n → (r : Said) (v : List ℕ)
      → Comes (run (taken first (process_of (after n) first).progress) (after n)) t r v
      → Does (step k) t r v
  unfolding after
  comes n e r v h =
      subst (λ x. Comes x t r v) (sym (idle.takes (view t) k pre.free.work _ n rest (counted n e) begins)) h

  is_taken : (n : ℕ) → IsProcess (after n) first
  unfolding after
  is_taken n = still_process (view t) first first _ (stands.low, stands.high)

  -- the words of the taken process's progress
  number_read : (n j : ℕ) → j < progress_size → get_or (taken_table t cores k first n) (process_at cores first (process_progress + j)) 0
      ≡ get_or (progress_words (process_of (after n) first).progress) j 0
  unfolding after
  number_read n j h = progress_read (taken_packs n) first (is_taken n) j h

  -- what the code has written once the first process p runs, with the dispatch count one less
  module _ {p count : ℕ} {u : List ℕ} (head : p ≡ first) (count_is : count ≡ word_at t (core_at k core_dispatch))
      (wrote : u ≡ taken_table t cores k p (count - 1)) where
    n : ℕ
    n = count - 1

    above : word_at t (core_at k core_dispatch) ≡ suc n
    unfolding n
    above = let h = pre.count in omega arith

    written : u ≡ taken_table t cores k first n
    unfolding n
    written = wrote ∙ ap (λ (q : ℕ). taken_table t cores k q (count - 1)) head

    packs : Packs u cores processes (after n)
    packs = subst (λ (w : List ℕ). Packs w cores processes (after n)) (sym written) (taken_packs n)

    -- the words that are then read of it
    word_read : (j : ℕ) → j < progress_size → get_or u (process_at cores p (process_progress + j)) 0 ≡ get_or (progress_words (process_of (after n) first).progress) j 0
    word_read j h = (λ i. get_or (written i) (process_at cores (head i) (process_progress + j)) 0) ∙ number_read n j h

    pub take_moved : {num : ℕ} {r : Said} → num ≡ get_or u (process_at cores p process_progress) 0 → NoOutcome num
        → r ≡ yes_with MOVED → Does (step k) t r u
    take_moved {num} {r} num_is other reply =
        let x = (process_of (after n) first).progress in
        comes n above r u (goes_on packs t first x (subst NoOutcome (num_is ∙ word_read 0 (lit< tt)) other) reply)

    pub take_reports : {num c : ℕ} {r : Said} {v : List ℕ} → num ≡ get_or u (process_at cores p process_progress) 0 → due_go ≤ num
        → c ≡ get_or u (process_at cores p process_channel) 0
        → r ≡ yes_with (reported num p c (get_or u (process_at cores p process_data) 0)) → v ≡ cleared u cores p → Does (step k) t r v
    take_reports {num} {c} {r} {v} num_is large c_is reply cleared_is =
        let x = (process_of (after n) first).progress in
        let number : num ≡ get_or (progress_words x) 0 0 = num_is ∙ word_read 0 (lit< tt) in
        let channel : c ≡ get_or (progress_words x) channel_place 0 = c_is ∙ word_read channel_place (lit< tt) in
        let told : r ≡ yes_with (reported (get_or (progress_words x) 0 0) first (get_or (progress_words x) channel_place 0) (get_or u (process_at cores first process_data) 0)) =
        reply ∙ (λ i. yes_with (reported (number i) (head i) (channel i) (get_or u (process_at cores (head i) process_data) 0))) in
        comes n above r v (subst (λ (v : List ℕ). Comes (run (taken first x) (after n)) t r v)
        (sym (cleared_is ∙ ap (λ (p : ℕ). cleared u cores p) head))
        (answers_outcome packs t first (is_taken n) x (subst (λ (m : ℕ). due_go ≤ m) number large) told))

  -- the process that the code has read
  pub can_take_first : {p : ℕ} → p ≡ first → CanTake t cores k p
  can_take_first e = subst (CanTake t cores k) (sym e) can_take_head

  pub head_has : {p : ℕ} → p ≡ first → HasProcess t cores p
  head_has e = (can_take_first e).process
