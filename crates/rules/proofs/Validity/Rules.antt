-- What a rule comes to, and the parts that the rules of a running process are made of.
use Prim.Native.Nat.{ℕ, ◌≤◌, ◌<◌}
use native.Mathlib.Omega.{arith}
use mathlib.Core.Path.{◌≡◌, refl, ap, ◌∙◌}
use mathlib.Core.List.{[], ◌∷◌, ◌++◌}
use lib.Dec.{T}
use lib.Seq.{get_or-set_same}
use Rattle.rules.specs.State.{
  Place,
  running,
  queued,
  asleep,
  ended,
  Stage,
  Outcome,
  go,
  sent,
  got,
  chose,
  Progress,
  nothing,
  doing,
  due,
  Alternation,
  Task,
  free,
  Core,
  State,
  Wiring,
}
use Rattle.rules.specs.Items.{no_core, core_of, process_of, core, place, data_word, alternation, progress, with_field, get, put}
use Rattle.rules.specs.Rule.{Rule, ◌>>◌, Ran, accepted, refused, run}
use Rattle.rules.specs.Steps.{with_work, with_active, next, sleeps, reports, joins, must_sleep, wakes}
use Rattle.rules.specs.Soundness.{is_process, valid_stage, valid_progress, fits, valid_work}
use Rattle.rules.proofs.Tests.{tests}
use Rattle.rules.proofs.Validity.Reflect.{Valid, good_of}
use Rattle.rules.proofs.Validity.Changes.{refit, close, change, open_at}
use Rattle.rules.proofs.Validity.Places.{good_work, core_good, amend, same_standing, leaves, joined, Runs, is_running, running_good, running_open}

-- what holds of the state that a rule accepts
abbrev pub Accepts : {A : Type 0} → (State → Type 0) → Ran A → Type 0
Accepts P (accepted a s) = P s
Accepts P (refused r) = Unit {0}

-- whatever is reported, nothing is left in hand
pub reports_clears : (P : State → Type 0) (s : State) (p : ℕ) (o : Outcome) → P (put progress p nothing s) → Accepts P (run (reports p o) s)
reports_clears P s p go h = h
reports_clears P s p (sent c) h = h
reports_clears P s p (got c) h = h
reports_clears P s p (chose c) h = h

-- the state in which q has joined the active queue of core k
abbrev pub woken : ℕ → ℕ → State → State
woken k q s = put core k (with_active ((core_of s k).active ++ (q ∷ [])) (core_of s k)) (put place q queued s)

-- the same process runs in another valid state with the same work on its core
pub still_runs : {w : Wiring} {k p : ℕ} {s s' : State} → Runs w k p s → (core_of s' k).work ≡ (core_of s k).work → Valid w s' → Runs w k p s'
still_runs h same v = record { valid = v; on = h.on; named = h.named; work = same ∙ h.work }

module _ {w : Wiring} {s : State} (v : Valid w s) (p : ℕ) (named : T (is_process w p)) where
  -- a process may have another data word
  pub data_written : (n : ℕ) → n < 4294967296 → Valid w (put data_word p n s)
  data_written n small =
      amend p (with_field data_word n) v named
      (λ here there g. record { word = small; count = g.count; in_hand = g.in_hand; fitting = g.fitting; standing = g.standing })

  -- another alternation state
  pub alternation_written : (a : Alternation) → a.count ≤ 9 → Valid w (put alternation p a s)
  alternation_written a small =
      amend p (with_field alternation a) v named
      (λ here there g. record { word = g.word; count = small; in_hand = g.in_hand; fitting = g.fitting; standing = g.standing })

module _ {w : Wiring} {k p : ℕ} {s : State} (h : Runs w k p s) where
  -- p may have another progress
  pub progress_written : (x : Progress) → T (valid_progress w p x) → T (fits running x) → Valid w (put progress p x s)
  progress_written x its fit =
      amend p (with_field progress x) h.valid h.named (λ here there g. refit g (process_of s p).place x its (rw (is_running h) fit) g.standing)

  -- p goes on at another stage
  pub next_keeps : (x : Stage) → T (valid_stage w p x) → Accepts (Valid w) (run (next p x) s)
  next_keeps x its = progress_written (doing x) its tt

  -- p reports an outcome
  pub reports_keeps : (o : Outcome) → Accepts (Valid w) (run (reports p o) s)
  reports_keeps o = reports_clears (Valid w) s p o (progress_written nothing tt tt)

  -- p falls asleep
  pub sleeps_keeps : (then : Progress) (t : Task) → T (valid_progress w p then) → T (fits asleep then) → T (valid_work w (free t))
      → Accepts (Valid w) (run (sleeps k p then t) s)
  sleeps_keeps then t its fit task =
      close (leaves k (change (with_field place asleep) (change (with_field progress then) (running_open h))) h.on t h.work task refl)
      (refit (running_good h) asleep then its fit tt)

module _ {w : Wiring} {s : State} (k : ℕ) (v : Valid w s) (on : k < w.K) where
  -- a core just written works as written
  pub work_written : (c : Core) → (core_of (put core k c s) k).work ≡ c.work
  work_written c = ap (λ (x : Core). x.work) (get_or-set_same s.cores k c no_core (omega (arith, ap (λ (x : Wiring). x.K) v.wired)))

  -- a core that runs nothing takes another task
  pub task_given : (t t' : Task) → (core_of s k).work ≡ free t → T (valid_work w (free t'))
      → Valid w (put core k (with_work (free t') (core_of s k)) s)
  task_given t t' work task =
      same_standing k (with_work (free t') (core_of s k)) v on (good_work (free t') (core_good 0 k v on) task)
      (λ q. record { works = rw work; queues = refl })

  -- waking q refuses, or leaves a valid state in which q has joined the active queue
  pub wakes_keeps : {A : Type 0} (P : State → Type 0) (q : ℕ) (rest : Rule A) → T (is_process w q)
      → (Valid w (woken k q s) → Accepts P (run rest (woken k q s)))
      → Accepts P (run (wakes k q >> rest) s)
  wakes_keeps P q rest named then = by_place (get place s q) refl
    where
      -- what a sleeping process has in hand fits a queued one
      fits_queue : (x : Progress) → T (fits asleep x) → T (fits queued x)
      fits_queue nothing h = h
      fits_queue (doing x) h = h
      fits_queue (due o) h = h

      -- so it is where it sleeps
      from_sleep : get place s q ≡ asleep → Valid w (woken k q s)
      from_sleep is_asleep =
          let g = good_of q v named in
          let stood = simp tests at (rw is_asleep at g.standing) in
          let fit = fits_queue (process_of s q).progress (rw is_asleep at g.fitting) in
          close (joined k (change (with_field place queued) (open_at q v named stood.0 stood.1)) on refl)
          (refit g queued (process_of s q).progress g.in_hand fit tt)

      by_place : (x : Place) → get place s q ≡ x → Accepts P (run (must_sleep x >> joins k q >> rest) s)
      by_place running e = tt
      by_place queued e = tt
      by_place asleep e = then (from_sleep e)
      by_place ended e = tt
