-- Document 01, "Steps of a core with nothing running and no task (000, section 2.1)".
use Rattle.std.specs.Prelude.{ℕ, zero, suc, ◌*◌, min, Bool, true, false, List, [], ◌∷◌, ◌++◌, eqb, length}
use Rattle.rules.specs.Numbers.{Answer, MOVED, IDLE}
use Rattle.rules.specs.State.{running, Progress, nothing, doing, due, runs, Core}
use Rattle.rules.specs.Items.{core, place, progress}
use Rattle.rules.specs.Rule.{Rule, done, the, becomes, ◌>>=◌, ◌>>◌}
use Rattle.rules.specs.Steps.{reports}

-- "answer its outcome, or MOVED where its request goes on." (A queued process has a stage or an outcome.)
abbrev pub taken : ℕ → Progress → Rule Answer
taken p nothing = done MOVED
taken p (doing x) = done MOVED
taken p (due o) = reports p o

-- "Active queue not empty, dispatch count above 0: take the head, count - 1"
abbrev pub take_step : ℕ → Core → ℕ → List ℕ → ℕ → Rule Answer
take_step k c p rest n = do
  becomes core k (record { work = runs p; active = rest; dispatch = n; mark = c.mark; run_queue = c.run_queue })
  becomes place p running
  had ← the progress p
  taken p had

-- "Not empty, count 0: store. With the mark set, or one process only, the queue becomes one batch at the end of the run queue.
-- Otherwise split: the head alone, then the remainder, in that order at the end." (000, section 2.1.2)
abbrev pub stored : Bool → ℕ → List ℕ → List (List ℕ)
stored mark p [] = (p ∷ []) ∷ []
stored true p (q ∷ rest) = (p ∷ (q ∷ rest)) ∷ []
stored false p (q ∷ rest) = (p ∷ []) ∷ ((q ∷ rest) ∷ [])

abbrev pub store_step : ℕ → Core → ℕ → List ℕ → Rule Answer
store_step k c p rest = do
  becomes core k (record { work = c.work; active = []; dispatch = c.dispatch; mark = c.mark; run_queue = c.run_queue ++ stored c.mark p rest })
  done MOVED

-- "Empty, run queue not empty: load the first batch; dispatch count = the lesser of 32 and 4 times its size; the mark is set exactly
-- if its size is 1."
abbrev pub load_step : ℕ → Core → List ℕ → List (List ℕ) → Rule Answer
load_step k c batch rest = do
  becomes core k (record { work = c.work; active = batch; dispatch = min 32 (4 * length batch); mark = eqb (length batch) 1; run_queue = rest })
  done MOVED

-- Which of the four bullets it is: the dispatch count, the active queue and the run queue of the core c decide. "Both empty: IDLE."
abbrev pub schedule : ℕ → Core → ℕ → List ℕ → List (List ℕ) → Rule Answer
schedule k c (suc n) (p ∷ rest) batches = take_step k c p rest n
schedule k c zero (p ∷ rest) batches = store_step k c p rest
schedule k c n [] (batch ∷ rest) = load_step k c batch rest
schedule k c n [] [] = done IDLE
