-- The steps of a core keep a state valid.
use Prim.Native.Nat.{ℕ, zero, suc, ◌≤◌, ◌<◌}
use native.Mathlib.Omega.{arith}
use mathlib.Core.Path.{◌≡◌, refl, sym, ap}
use mathlib.Core.Bool.{Bool, true, false}
use mathlib.Core.List.{List, [], ◌∷◌}
use lib.Dec.{T}
use Rattle.rules.specs.Lists.{all, total, times}
use Rattle.rules.specs.State.{
  running,
  Stage,
  look,
  park,
  copy,
  clear,
  wake,
  enable_look,
  raise,
  place_name,
  ready_from_look,
  ready_from_place,
  wait,
  disable,
  lower,
  finish,
  Progress,
  nothing,
  doing,
  due,
  Process,
  no_task,
  trigger,
  wake_up,
  Work,
  runs,
  free,
  State,
  Wiring,
}
use Rattle.rules.specs.Items.{no_core, core_of, process_of, core, place, progress, with_field, get, put}
use Rattle.rules.specs.Rule.{run}
use Rattle.rules.specs.CoreStep.{stage_step, running_step, work_step, step}
use Rattle.rules.specs.Scheduler.{taken, take_step, stored, store_step, load_step, schedule}
use Rattle.rules.specs.Soundness.{is_process, valid_stage, fits, on_cores, in_queues, not_empty}
use Rattle.rules.proofs.Tests.{and_means, all_append}
use Rattle.rules.proofs.Sums.{total_append, counts_once}
use Rattle.rules.proofs.Good.{Good}
use Rattle.rules.proofs.Validity.Reflect.{Valid, good_of}
use Rattle.rules.proofs.Validity.Changes.{refit, Open, open_at, close, change, queued_in, queues_after}
use Rattle.rules.proofs.Validity.Places.{stands_once, core_good, same_standing, taken_off, Runs, running_good, works_on, runs_there}
use Rattle.rules.proofs.Validity.Rules.{Accepts, reports_clears}
use Rattle.rules.proofs.Validity.Steps.{look_keeps, park_keeps, copy_keeps, clear_keeps, wake_keeps}
use Rattle.rules.proofs.Validity.Choice.{
  enable_look_keeps,
  raise_keeps,
  place_keeps,
  ready_from_look_keeps,
  ready_from_place_keeps,
  wait_keeps,
  disable_keeps,
  lower_keeps,
  finish_keeps,
  trigger_keeps,
  wake_task_keeps,
}

-- Store

-- the batches stored hold what the queue held
stored_total : (q : ℕ) (mark : Bool) (p : ℕ) (rest : List ℕ) → total (times q) (stored mark p rest) ≡ times q (p ∷ rest)
stored_total q mark p [] = omega arith
stored_total q true p (x ∷ rest) = omega arith
stored_total q false p (x ∷ rest) = omega arith

-- none of them is empty
stored_not_empty : (mark : Bool) (p : ℕ) (rest : List ℕ) → T (all not_empty (stored mark p rest))
stored_not_empty mark p [] = tt
stored_not_empty true p (x ∷ rest) = tt
stored_not_empty false p (x ∷ rest) = tt

-- what holds of each of the queue holds of each of theirs
stored_all : (f : ℕ → Bool) (mark : Bool) (p : ℕ) (rest : List ℕ) → T (all f (p ∷ rest)) → T (all (all f) (stored mark p rest))
stored_all f mark p [] h = (and_means (all f (p ∷ [])) true).1 (h, tt)
stored_all f true p (x ∷ rest) h = (and_means (all f (p ∷ (x ∷ rest))) true).1 (h, tt)
stored_all f false p (x ∷ rest) h = simp and_means (let h' = simp and_means at h in ((h'.0, tt), (h'.1, tt)))

module _ {w : Wiring} {k : ℕ} {s : State} (v : Valid w s) (on : k < w.K) where
  -- store
  store_keeps : (p : ℕ) (rest : List ℕ) → (core_of s k).active ≡ p ∷ rest → Accepts (Valid w) (run (store_step k (core_of s k) p rest) s)
  store_keeps p rest active =
      let g = core_good 0 k v on in
      let more = stored (core_of s k).mark p rest in
      let filled = all_append not_empty (core_of s k).run_queue more g.batches (stored_not_empty (core_of s k).mark p rest) in
      let named = stored_all (is_process w) (core_of s k).mark p rest (rw active at g.active) in
      let all_named = all_append (all (is_process w)) (core_of s k).run_queue more g.waiting named in
      same_standing k _ v on
      (record { working = g.working; dispatching = g.dispatching; batches = filled; active = tt; waiting = all_named })
      (λ q. record { works = refl; queues = simp (total_append, stored_total, active) (omega arith) })

  -- load
  load_keeps : (batch : List ℕ) (rest : List (List ℕ)) → (core_of s k).active ≡ [] → (core_of s k).run_queue ≡ batch ∷ rest
      → Accepts (Valid w) (run (load_step k (core_of s k) batch rest) s)
  load_keeps batch rest active run_queue =
      let g = core_good 0 k v on in
      let filled = (and_means (not_empty batch) (all not_empty rest)).0 (rw run_queue at g.batches) in
      let named = (and_means (all (is_process w) batch) (all (all (is_process w)) rest)).0 (rw run_queue at g.waiting) in
      same_standing k _ v on
      (record { working = g.working; dispatching = omega arith; batches = filled.1; active = named.0; waiting = named.1 })
      (λ q. record { works = refl; queues = rw (active, run_queue) (omega arith) })

  -- the head of the active queue is queued, once
  head_open : (p : ℕ) (rest : List ℕ) → (core_of s k).active ≡ p ∷ rest → Open w p (process_of s p) 0 1 s
  head_open p rest active =
      let named = ((and_means (is_process w p) (all (is_process w) rest)).0 (rw active at (core_good 0 k v on).active)).0 in
      let at_head : 1 ≤ queued_in p (core_of s k) = rw (active, counts_once p) (omega arith) in
      let in_a_queue : 1 ≤ in_queues s p = omega (arith, queues_after k no_core v on p) in
      let once = stands_once (process_of s p).place (on_cores s p) (in_queues s p) (good_of p v named).standing in
      open_at p v named (omega arith) (omega arith)

  -- take
  take_keeps : (p : ℕ) (rest : List ℕ) (n : ℕ) → (core_of s k).work ≡ free no_task → (core_of s k).active ≡ p ∷ rest → (core_of s k).dispatch ≡ suc n
      → Accepts (Valid w) (run (take_step k (core_of s k) p rest n) s)
  take_keeps p rest n work active dispatch = by_progress (get progress now p) (sym (ap (λ (r : Process). r.progress) o.its_record))
    where
      now : State
      now =
          put place p running
          (put core k (record { work = runs p; active = rest; dispatch = n; mark = (core_of s k).mark; run_queue = (core_of s k).run_queue }) s)

      o : Open w p (with_field place running (process_of s p)) 1 0 now
      o = change (with_field place running) (taken_off k (head_open p rest active) on rest n no_task work active dispatch refl refl)

      g : Good w p (process_of s p) (on_cores s p) (in_queues s p)
      g = good_of p v o.named

      -- where nothing is reported
      goes_on : T (fits running (process_of s p).progress) → Valid w now
      goes_on fit = close o (refit g running (process_of s p).progress g.in_hand fit tt)

      by_progress : (x : Progress) → (process_of s p).progress ≡ x → Accepts (Valid w) (run (taken p x) now)
      by_progress nothing e = goes_on (rw e tt)
      by_progress (doing x) e = goes_on (rw e tt)
      by_progress (due out) e =
          reports_clears (Valid w) now p out
          (close (change (with_field progress nothing) o) (refit g running nothing tt tt tt))

  -- whichever of the four it is
  schedule_keeps : (n : ℕ) (a : List ℕ) (b : List (List ℕ)) → (core_of s k).work ≡ free no_task → (core_of s k).dispatch ≡ n → (core_of s k).active ≡ a
      → (core_of s k).run_queue ≡ b → Accepts (Valid w) (run (schedule k (core_of s k) n a b) s)
  schedule_keeps (suc n) (p ∷ rest) batches work dispatch active run_queue = take_keeps p rest n work active dispatch
  schedule_keeps zero (p ∷ rest) batches work dispatch active run_queue = store_keeps p rest active
  schedule_keeps n [] (batch ∷ rest) work dispatch active run_queue = load_keeps batch rest active run_queue
  schedule_keeps n [] [] work dispatch active run_queue = v

-- The stages of a request

module _ {w : Wiring} {k p : ℕ} {s : State} (h : Runs w k p s) where
  -- whatever the stage of p's request is
  stage_keeps : (x : Stage) → T (valid_stage w p x) → Accepts (Valid w) (run (stage_step k p x) s)
  stage_keeps (look way c) its = look_keeps way c h its
  stage_keeps (park way c) its = park_keeps way c h its
  stage_keeps (copy way c q) its = copy_keeps way c q h its
  stage_keeps (clear way c q) its = clear_keeps way c q h its
  stage_keeps (wake way c q) its = wake_keeps way c q h its
  stage_keeps (enable_look gs i) its = enable_look_keeps h gs i its
  stage_keeps (raise gs i) its = raise_keeps h gs i its
  stage_keeps (place_name gs i) its = place_keeps h gs i its
  stage_keeps (ready_from_look gs i) its = ready_from_look_keeps h gs i its
  stage_keeps (ready_from_place gs i) its = ready_from_place_keeps h gs i its
  stage_keeps (wait gs) its = wait_keeps h gs its
  stage_keeps (disable gs i r) its = disable_keeps h gs i r its
  stage_keeps (lower gs i r) its = lower_keeps h gs i r its
  stage_keeps (finish gs r) its = finish_keeps h gs r its

  -- whatever p has in hand
  running_keeps : (x : Progress) → get progress s p ≡ x → Accepts (Valid w) (run (running_step k p x) s)
  running_keeps nothing e = tt
  running_keeps (doing x) e = stage_keeps x (rw e at (running_good h).in_hand)
  running_keeps (due o) e = tt

module _ {w : Wiring} {s : State} (k : ℕ) (v : Valid w s) (on : k < w.K) where
  -- whatever the core works on
  work_keeps : (x : Work) → (core_of s k).work ≡ x → Accepts (Valid w) (run (work_step k (core_of s k) x) s)
  work_keeps (runs p) e = running_keeps (runs_there k v on p e) (get progress s p) refl
  work_keeps (free no_task) e = schedule_keeps v on _ _ _ e refl refl refl
  work_keeps (free (trigger q)) e = trigger_keeps q v on (works_on k v on (free (trigger q)) e) e
  work_keeps (free (wake_up q)) e = wake_task_keeps q v on (works_on k v on (free (wake_up q)) e) e

  -- the next step of the core
  pub step_keeps : Accepts (Valid w) (run (step k) s)
  step_keeps = work_keeps (core_of s k).work refl
