-- What the end of a choice and the kernel task trigger come to: by a word that the code reads, the words that it writes then.
use Rattle.std.specs.Prelude.{if◌then◌else◌}
use Prim.Native.Nat.{ℕ, suc, ◌-◌, ◌≤◌, ◌<◌}
use mathlib.Core.Path.{◌≡◌, refl, sym, ap, ◌∙◌, subst}
use mathlib.Core.Bool.{Bool, true, false, ◌||◌}
use mathlib.Core.Logic.{◌⊎◌, inl, inr}
use mathlib.Core.List.{List, [], ◌∷◌}
use mathlib.Core.Option.{Option}
use native.Mathlib.Omega.{arith}
use lib.Dec.{T, eqb, lit<}
use lib.ListN.{length}
use borrow.Author.Tests.{eq-eqb, ne_eqb}
use Rattle.rules.specs.Lists.{bit, within, all, distinct}
use Rattle.rules.specs.Numbers.{Answer, Refusal, Said, MOVED, SLEPT, CHOSE, yes_with, no_because}
use Rattle.rules.specs.State.{receiving, finish, chose, due, Alternation, no_task, trigger, wake_up, free, State, wiring}
use Rattle.rules.specs.Items.{core_of, process_of, put, alternation, progress}
use Rattle.rules.specs.Rule.{Rule, refuse, run, done, the, becomes, ◌>>=◌, ◌>>◌}
use Rattle.rules.specs.Steps.{has_task}
use Rattle.rules.specs.Choice.{guard, counting, flags, lowered, finished, finish_step, trigger_step}
use Rattle.rules.specs.Layout.{process_at, at_finish, due_chose, guard_places, process_channel, process_count, process_first_ready}
use Rattle.rules.specs.Layout.{process_not_ready, process_progress, process_waiting, task_none, task_wake}
use Rattle.rules.specs.Packing.{work_words, ready_number, progress_words, view}
use Rattle.rules.specs.Soundness.{own_end, own_guards, ready_in_list}
use Rattle.rules.proofs.Tests.{both, three, within_means}
use Rattle.table.specs.Has.{HasProcess}
use Rattle.parts.specs.Does.{Card, At, Comes, Does}
use Rattle.parts.specs.Shared.{task_table, asleep_table, cleared, due_table}
use Rattle.parts.proofs.Card.{card_inside, card_process, work_valid, stage_valid, runs_process}
use Rattle.parts.proofs.Packs.{Packs, IsProcess, card_packs, still_process, process_read, alternation_written, fresh_written, progress_cleared}
use Rattle.parts.proofs.Packs.{task_written, asleep_written}
use Rattle.parts.proofs.Flags.{set_flag, unset_flag}
use Rattle.guards.specs.Read.{word_of, count_at, counted_table, guard_place, triggered_table}
use Rattle.guards.proofs.Guards.{in_progress, in_alternation, Chooses, at_chooses, ready_reads, guard_reads, alternation_chooses}
use Rattle.guards.proofs.Rules.{ready_range, first_on, by_count}

-- Finish

-- process p has chosen, and the outcome is due
chose_due : {t : List ℕ} {cores processes : ℕ} {s : State} → Packs t cores processes s → (p : ℕ) → IsProcess s p → (c : ℕ)
    → Packs (due_table t cores p due_chose c) cores processes (put progress p (due (chose c)) s)
unfolding progress_words
chose_due packs p is c =
    fresh_written packs p is (due (chose c)) ((in_progress process_progress, due_chose) ∷ (in_progress process_channel, c) ∷ []) tt refl

module _ {t : List ℕ} {cores processes k p : ℕ} {gs : List ℕ} {x : Option ℕ} (at : At t cores processes k p (finish gs x)) where
  finish_chooses : Chooses t cores processes (view t) p at_finish gs 0 x
  unfolding progress_words
  finish_chooses = at_chooses at at_finish gs 0 x refl

  finish_valid : T (own_guards (wiring (view t)) p gs) × T (ready_in_list gs x)
  finish_valid = both (own_guards (wiring (view t)) p gs) (ready_in_list gs x) (stage_valid t cores processes k p (finish gs x) at)

  -- the number of the first ready guard is one of the guards'
  finish_range : (word_of t cores p process_first_ready ≡ 0 → ⊥) → (1 ≤ ready_number x) × (ready_number x ≤ guard_places)
  finish_range there =
      let list = three (within 1 8 (length gs)) (all (own_end (wiring (view t)) receiving p) gs) (distinct gs) finish_valid.0 in
      let size = within_means 1 8 (length gs) list.0 in
      let range = ready_range gs x finish_valid.1 (λ e. there (ready_reads finish_chooses ∙ e)) in
      (range.0, omega arith)

  -- the table has its word
  pub finish_guard : (word_of t cores p process_first_ready ≡ 0 → ⊥)
      → process_at cores p (guard_place (word_of t cores p process_first_ready)) < length t
  finish_guard there =
      let process : HasProcess t cores p = runs_process t cores processes k p (finish gs x) at in
      let range = finish_range there in
      let e = ready_reads finish_chooses in
      omega arith

  -- and that word is the guard
  chosen : (word_of t cores p process_first_ready ≡ 0 → ⊥)
      → word_of t cores p (guard_place (word_of t cores p process_first_ready)) ≡ guard gs (ready_number x)
  chosen there =
      let range = finish_range there in
      ap (λ (j : ℕ). word_of t cores p (guard_place j)) (ready_reads finish_chooses)
      ∙ guard_reads finish_chooses (ready_number x) range.0 range.1

  abbrev finisher : Alternation
  finisher = (process_of (view t) p).alternation

  -- what follows the guard, and then the count
  abbrev ending : ℕ → ℕ → Rule Answer
  ending c n = becomes alternation p (counting n finisher) >> finished k p c n

  abbrev counted : ℕ → Rule Answer
  counted c = the alternation p >>= (λ (a : Alternation). lowered a.count >>= (λ n. becomes alternation p (counting n a) >> finished k p c n))

  -- the state with the count n
  abbrev less : ℕ → State
  less n = put alternation p (counting n finisher) (view t)

  module _ (there : word_of t cores p process_first_ready ≡ 0 → ⊥) where
    -- a guard is ready
    one_ready : (r : Said) (u : List ℕ) → Comes (run (counted (guard gs (ready_number x))) (view t)) t r u → Does (finish_step k p gs x) t r u
    one_ready r u h = first_on (view t) t counted r u gs x (λ e. there (ready_reads finish_chooses ∙ e)) h

    -- by what becomes of the count
    counting_on : (to : Rule ℕ) → to ≡ lowered (count_at t cores p) → (r : Said) (u : List ℕ)
        → Comes (run (to >>= ending (guard gs (ready_number x))) (view t)) t r u → Does (finish_step k p gs x) t r u
    counting_on to made r u h =
        one_ready r u
        (by_count finish_chooses.packs p finish_chooses.among lowered (ending (guard gs (ready_number x))) to made r u h)

    pub finish_fault : {why : Refusal} {r : Said} {u : List ℕ} → refuse why ≡ lowered (count_at t cores p) → r ≡ no_because why → u ≡ t
        → Does (finish_step k p gs x) t r u
    finish_fault {why} {r} {u} made a b = counting_on (refuse why) made r u (a, b)

  -- the count is n
  finish_lowered : (n : ℕ) → Chooses (counted_table t cores p n) cores processes (less n) p at_finish gs 0 x
  finish_lowered n = alternation_chooses finish_chooses (counting n finisher) ((in_alternation process_count, n) ∷ []) tt refl

  -- the first ready guard is read as i, and its channel as c
  chosen_is : {i c : ℕ} → i ≡ word_of t cores p process_first_ready → (i ≡ 0 → ⊥) → c ≡ word_of t cores p (guard_place i)
      → c ≡ guard gs (ready_number x)
  chosen_is ready there found = found ∙ ap (λ (j : ℕ). word_of t cores p (guard_place j)) ready ∙ chosen (λ e. there (ready ∙ e))

  -- The count becomes n; the tables on the way are v and w.
  module _ {i c n : ℕ} {v : List ℕ} where
    -- to 0: the choice is over
    pub finish_now : {r : Said} {u : List ℕ} → i ≡ word_of t cores p process_first_ready → (i ≡ 0 → ⊥)
        → done n ≡ lowered (count_at t cores p) → n ≡ 0 → c ≡ word_of t cores p (guard_place i)
        → v ≡ counted_table t cores p n → r ≡ yes_with (CHOSE p c) → u ≡ cleared v cores p → Does (finish_step k p gs x) t r u
    finish_now {r} {u} ready there made none_left found first a b =
        counting_on (λ e. there (ready ∙ e)) (done n) made r u
        (subst (λ (m : ℕ). Comes (run (finished k p (guard gs (ready_number x)) m) (less n)) t r u) (sym none_left) (
          a ∙ ap (λ (g : ℕ). yes_with (CHOSE p g)) (chosen_is ready there found),
          b ∙ ap (λ (l : List ℕ). cleared l cores p) first ∙ (progress_cleared (finish_lowered n).packs p (finish_lowered n).among).is_pack,
        ))

    -- above 0: it sleeps
    pub finish_later : {r : Said} {u w : List ℕ} → i ≡ word_of t cores p process_first_ready → (i ≡ 0 → ⊥)
        → done n ≡ lowered (count_at t cores p) → (n ≡ 0 → ⊥) → c ≡ word_of t cores p (guard_place i)
        → v ≡ counted_table t cores p n → w ≡ due_table v cores p due_chose c → r ≡ yes_with (SLEPT p)
        → u ≡ asleep_table w cores k p task_none 0 → Does (finish_step k p gs x) t r u
    finish_later {r} {u} {w} ready there made some_left found first second a b =
        let left : suc (n - 1) ≡ n = omega arith in
        let g : ℕ = guard gs (ready_number x) in
        let due_there : w ≡ due_table (counted_table t cores p n) cores p due_chose g = rw (second, first, chosen_is ready there found) in
        counting_on (λ e. there (ready ∙ e)) (done n) made r u
        (subst (λ (m : ℕ). Comes (run (finished k p g m) (less n)) t r u) left (
          a,
          b ∙ ap (λ (l : List ℕ). asleep_table l cores k p task_none 0) due_there
              ∙ (asleep_written (chose_due (finish_lowered n).packs p (finish_lowered n).among g) k (card_inside at.card) p
              (still_process (less n) p p _ (finish_lowered n).among) no_task task_none 0 refl).is_pack,
        ))

-- Trigger

module _ {t : List ℕ} {cores processes k q : ℕ} (card : Card t cores processes k) (work : (core_of (view t) k).work ≡ free (trigger q)) where
  trigger_among : IsProcess (view t) q
  trigger_among = within_means 1 (length (view t).processes) q (work_valid card work)

  -- the table has the words of q
  pub trigger_process : HasProcess t cores q
  trigger_process = card_process t cores processes k card q trigger_among.0 trigger_among.1

  abbrev triggered : Alternation
  triggered = (process_of (view t) q).alternation

  trigger_waiting : word_of t cores q process_waiting ≡ bit triggered.waiting
  trigger_waiting = process_read (card_packs card) q trigger_among process_waiting (lit< tt)

  -- what follows the count
  abbrev triggering : ℕ → Rule Answer
  triggering n =
      becomes alternation q (flags triggered.enabling false false (counting n triggered))
      >> (has_task k (if triggered.waiting || eqb n 0 then wake_up q else no_task) >> done MOVED)

  pub trigger_fault : {why : Refusal} {r : Said} {u : List ℕ} → refuse why ≡ lowered (count_at t cores q) → r ≡ no_because why → u ≡ t
      → Does (trigger_step k q) t r u
  trigger_fault {why} {r} {u} made a b = by_count (card_packs card) q trigger_among lowered triggering (refuse why) made r u (a, b)

  -- The count becomes n, the waiting flag is read as m, the table on the way is v. By the words of the task that comes next:
  module _ {r : Said} {u v : List ℕ} {m n : ℕ} (reads : m ≡ word_of t cores q process_waiting)
      (made : done n ≡ lowered (count_at t cores q)) (first : v ≡ triggered_table t cores q n) (a : r ≡ yes_with MOVED) where
    trigger_done : (task p : ℕ) → work_words (free (if triggered.waiting || eqb n 0 then wake_up q else no_task)) ≡ 0 ∷ task ∷ p ∷ []
        → u ≡ task_table v k task p → Does (trigger_step k q) t r u
    trigger_done task p words b =
        by_count (card_packs card) q trigger_among lowered triggering (done n) made r u (
          a,
          b ∙ ap (λ (l : List ℕ). task_table l k task p) first
              ∙ (task_written (alternation_written (card_packs card) q trigger_among (flags triggered.enabling false false (counting n triggered))
              ((in_alternation process_not_ready, 0) ∷ (in_alternation process_waiting, 0) ∷ (in_alternation process_count, n) ∷ []) tt refl)
              k (card_inside card) (if triggered.waiting || eqb n 0 then wake_up q else no_task) task p words).is_pack,
        )

    -- waiting had been set, or the new count is 0
    pub trigger_wakes : (m ≡ 1) ⊎ ((m ≡ 1 → ⊥) × (n ≡ 0)) → u ≡ task_table v k task_wake q → Does (trigger_step k q) t r u
    trigger_wakes (inl e) =
        let bit_is = trigger_waiting in trigger_done task_wake q (rw (set_flag triggered.waiting (λ z. omega arith)))
    trigger_wakes (inr e) = trigger_done task_wake q (rw (eq-eqb n 0 e.1) (either triggered.waiting))
      where
        either : (y : Bool) → work_words (free (if y || true then wake_up q else no_task)) ≡ 0 ∷ task_wake ∷ q ∷ []
        either true = refl
        either false = refl

    -- neither
    pub trigger_over : (m ≡ 1 → ⊥) × (n ≡ 0 → ⊥) → u ≡ task_table v k task_none 0 → Does (trigger_step k q) t r u
    trigger_over none =
        trigger_done task_none 0 (rw (unset_flag triggered.waiting (λ e. none.0 (reads ∙ trigger_waiting ∙ e)), ne_eqb n 0 none.1))
