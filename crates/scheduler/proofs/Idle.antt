-- What the rules come to on a core with nothing running and no task, by what its queues and its dispatch count are.
use Prim.Native.Nat.{ℕ, suc}
use mathlib.Core.Path.{◌≡◌, refl, ap, ◌∙◌}
use mathlib.Core.List.{List, [], ◌∷◌}
use Rattle.rules.specs.Numbers.{IDLE}
use Rattle.rules.specs.State.{free, no_task, Work, State}
use Rattle.rules.specs.Items.{core_of}
use Rattle.rules.specs.Rule.{accepted, run}
use Rattle.rules.specs.CoreStep.{work_step, step}
use Rattle.rules.specs.Scheduler.{take_step, store_step, load_step, schedule}

module _ (s : State) (k : ℕ) (Free_of : (core_of s k).work ≡ free no_task) where
  -- the step is the scheduler's
  scheduled : (n : ℕ) (active : List ℕ) (batches : List (List ℕ))
      → (core_of s k).dispatch ≡ n → (core_of s k).active ≡ active → (core_of s k).run_queue ≡ batches
      → run (step k) s ≡ run (schedule k (core_of s k) n active batches) s
  scheduled n active batches d a b =
      let c = core_of s k in
      ap (λ (w : Work). run (work_step k c w) s) Free_of ∙ (λ i. run (schedule k c (d i) (a i) (b i)) s)

  -- take, store, load or idle
  pub takes : (p n : ℕ) (rest : List ℕ) → (core_of s k).dispatch ≡ suc n → (core_of s k).active ≡ p ∷ rest
      → run (step k) s ≡ run (take_step k (core_of s k) p rest n) s
  takes p n rest d a = scheduled (suc n) (p ∷ rest) (core_of s k).run_queue d a refl

  pub stores : (p : ℕ) (rest : List ℕ) → (core_of s k).dispatch ≡ 0 → (core_of s k).active ≡ p ∷ rest
      → run (step k) s ≡ run (store_step k (core_of s k) p rest) s
  stores p rest d a = scheduled 0 (p ∷ rest) (core_of s k).run_queue d a refl

  pub loads : (batch : List ℕ) (rest : List (List ℕ)) → (core_of s k).active ≡ [] → (core_of s k).run_queue ≡ batch ∷ rest
      → run (step k) s ≡ run (load_step k (core_of s k) batch rest) s
  loads batch rest a b = scheduled (core_of s k).dispatch [] (batch ∷ rest) refl a b

  pub idles : (core_of s k).active ≡ [] → (core_of s k).run_queue ≡ [] → run (step k) s ≡ accepted IDLE s
  idles a b = scheduled (core_of s k).dispatch [] [] refl a b
