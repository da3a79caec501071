-- What a step says: FAULT exactly where one of its deeds is at fault, AWAITED exactly where the running process has nothing in hand.
use Rattle.std.specs.Prelude.{if◌then◌else◌}
use Prim.Native.Nat.{ℕ, zero, suc, ◌+◌}
use mathlib.Core.Path.{◌≡◌, refl}
use mathlib.Core.Bool.{Bool, true, false, not}
use mathlib.Core.List.{List, [], ◌∷◌}
use mathlib.Core.Option.{none, some}
use lib.Dec.{T, eqb, eqb-suc-zero}
use Rattle.rules.specs.Numbers.{Answer, FAULT}
use Rattle.rules.specs.State.{
  Place,
  running,
  queued,
  asleep,
  ended,
  sending,
  receiving,
  Stage,
  look,
  park,
  copy,
  clear,
  wake,
  enable_look,
  raise,
  place_name,
  ready_from_look,
  ready_from_place,
  wait,
  disable,
  lower,
  finish,
  Outcome,
  go,
  sent,
  got,
  chose,
  Progress,
  nothing,
  doing,
  due,
  Alternation,
  no_task,
  trigger,
  wake_up,
  Work,
  runs,
  free,
  Core,
  ChannelWord,
  nobody,
  plain,
  choosing,
  State,
}
use Rattle.rules.specs.Items.{place, alternation, channel_word, get, process_of}
use Rattle.rules.specs.Rule.{Rule, done, refuse, run, ◌>>=◌, ◌>>◌}
use Rattle.rules.specs.Steps.{joins, must_sleep, outcome, parked, reports}
use Rattle.rules.specs.Choice.{guard, lowered, raised, name_placed, waits, disabled, finished}
use Rattle.rules.specs.CoreStep.{stage_step, running_step, work_step}
use Rattle.rules.specs.Scheduler.{taken, schedule}
use Rattle.rules.specs.Soundness.{fits}
use Rattle.rules.specs.Calls.{the_step}
use Rattle.rules.specs.Refusals.{Case, ◌when◌, is_asleep, stage_deeds, fault_cases, running_cases, step_cases}
use Rattle.rules.proofs.Laws.Says.{Says, answers_of, said}

-- what the rule of a step says from a state
abbrev pub StepSays : Rule Answer → State → List Case → Type 0
StepSays r s cases = Says (answers_of the_step) (said (run r s)) cases

-- it answers, whatever the state
abbrev Answers : Rule Answer → Type 0
Answers r = (s : State) → StepSays r s []

-- what holds of each channel word
by_word : (P : ChannelWord → Type 0) → P nobody → ((q : ℕ) → P (plain q)) → ((q : ℕ) → P (choosing q)) → (word : ChannelWord) → P word
by_word P h f g nobody = h
by_word P h f g (plain q) = f q
by_word P h f g (choosing q) = g q

module _ (s : State) where
  -- a step that first lowers a count
  lowered_says : (n : ℕ) (f : ℕ → Rule Answer) → ((m : ℕ) → Answers (f m)) → StepSays (lowered n >>= f) s (FAULT when eqb n 0 ∷ [])
  lowered_says zero f h = refl
  lowered_says (suc n) f h = rw eqb-suc-zero (h n s)

  -- that first raises one
  raised_says : (n : ℕ) (f : ℕ → Rule Answer) → ((m : ℕ) → Answers (f m)) → StepSays (raised n >>= f) s (FAULT when eqb n 9 ∷ [])
  raised_says n f h = by_count (eqb n 9)
    where
      by_count : (b : Bool) → StepSays ((if b then refuse FAULT else done (n + 1)) >>= f) s (FAULT when b ∷ [])
      by_count true = refl
      by_count false = h (n + 1) s

  -- that first wakes a process, by its place
  woken_says : (k q : ℕ) (x : Place) (r : Rule Answer) → Answers r
      → StepSays (must_sleep x >> joins k q >> r) s (FAULT when not (is_asleep x) ∷ [])
  woken_says k q running r h = refl
  woken_says k q queued r h = refl
  woken_says k q asleep r h = h _
  woken_says k q ended r h = refl

-- an outcome is answered
reports_says : (p : ℕ) (o : Outcome) → Answers (reports p o)
reports_says p go s = tt
reports_says p (sent c) s = tt
reports_says p (got c) s = tt
reports_says p (chose c) s = tt

-- a wait, by the flag
waits_says : (k p : ℕ) (gs : List ℕ) (a : Alternation) (not_ready : Bool) → Answers (waits k p gs a not_ready)
waits_says k p gs a true s = tt
waits_says k p gs a false s = tt

-- the end of a choice, by the count
finished_says : (k p c n : ℕ) → Answers (finished k p c n)
finished_says k p c zero s = tt
finished_says k p c (suc n) s = tt

-- a test between two that answer
own_says : (b : Bool) (r q : Rule Answer) → Answers r → Answers q → Answers (if b then r else q)
own_says true r q h g = h
own_says false r q h g = g

module _ (s : State) (k p : ℕ) where
  -- each stage
  stage_says : (x : Stage) → StepSays (stage_step k p x) s (fault_cases s (stage_deeds p x))
  stage_says (look w c) = tt
  stage_says (park w c) = by_word (λ old. Answers (parked k p w c old)) (λ _. tt) (λ q _. tt) (λ q _. tt) (get channel_word s c) _
  stage_says (copy sending c q) = tt
  stage_says (copy receiving c q) = tt
  stage_says (clear w c q) = tt
  stage_says (wake w c q) = woken_says s k q (get place s q) _ (reports_says p (outcome w c))
  stage_says (enable_look gs i) = tt
  stage_says (raise gs i) = raised_says s (get alternation s p).count _ (λ n _. tt)
  stage_says (place_name gs i) =
      by_word (λ word. Answers (name_placed p gs i word)) (λ _. tt) (λ q _. tt) (λ q _. tt) (get channel_word s (guard gs i)) s
  stage_says (ready_from_look gs i) = tt
  stage_says (ready_from_place gs i) = lowered_says s (get alternation s p).count _ (λ n _. tt)
  stage_says (wait gs) = waits_says k p gs (get alternation s p) (get alternation s p).not_ready s
  stage_says (disable gs i r) =
      by_word (λ word. Answers (disabled p gs i r word)) (λ _. tt) (λ q _. tt) (λ q. own_says (eqb q p) _ _ (λ _. tt) (λ _. tt))
      (get channel_word s (guard gs i)) s
  stage_says (lower gs i r) = lowered_says s (get alternation s p).count _ (λ n _. tt)
  stage_says (finish gs none) = refl
  stage_says (finish gs (some i)) = lowered_says s (get alternation s p).count _ (λ n _. finished_says k p (guard gs i) n _)

  -- the running process, by its progress
  running_says : (has : Progress) → T (fits running has) → StepSays (running_step k p has) s (running_cases s p has)
  running_says nothing h = refl
  running_says (doing x) h = stage_says x
  running_says (due o) h = absurd h

-- a process that is taken, by its progress
taken_says : (p : ℕ) (had : Progress) → Answers (taken p had)
taken_says p nothing s = tt
taken_says p (doing x) s = tt
taken_says p (due o) s = reports_says p o s

-- a core with nothing running and no task
schedule_says : (k : ℕ) (c : Core) (n : ℕ) (active : List ℕ) (batches : List (List ℕ)) → Answers (schedule k c n active batches)
schedule_says k c (suc n) (p ∷ rest) batches s = search taken_says
schedule_says k c zero (p ∷ rest) batches s = tt
schedule_says k c n [] (batch ∷ rest) s = tt
schedule_says k c n [] [] s = tt

-- a core, by its work
pub work_says : (s : State) (k : ℕ) (c : Core) (w : Work) → ((p : ℕ) → w ≡ runs p → T (fits running (process_of s p).progress))
    → StepSays (work_step k c w) s (step_cases s w)
work_says s k c (runs p) h = running_says s k p (process_of s p).progress (h p refl)
work_says s k c (free no_task) h = schedule_says k c c.dispatch c.active c.run_queue s
work_says s k c (free (trigger q)) h = lowered_says s (get alternation s q).count _ (λ n _. tt)
work_says s k c (free (wake_up q)) h = woken_says s k q (get place s q) _ (λ _. tt)
