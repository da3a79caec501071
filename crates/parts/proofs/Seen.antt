-- A core and a process of a table, as the view reads them.
use Prim.Native.Nat.{ℕ, zero, suc, ◌+◌, ◌≤◌, ◌<◌}
use mathlib.Core.Path.{◌≡◌, ap, ◌∙◌}
use mathlib.Core.List.{List}
use native.Mathlib.Omega.{arith}
use native.Mathlib.Nat.{zero-add}
use lib.ListN.{take}
use Rattle.rules.specs.Lists.{tabulate}
use Rattle.rules.specs.State.{Process, Core}
use Rattle.rules.specs.Items.{no_core, no_process, core_of, process_of}
use Rattle.rules.specs.Layout.{core_runs, core_task, core_task_process, process_progress, process_channel, process_partner, process_guards, process_index, process_first_ready, process_first_guard, guard_places}
use Rattle.rules.specs.Packing.{view, view_core, view_process, k_of, n_of, word_of_core, word_of_process, work_numbered, progress_numbered, ready_numbered}
use Rattle.rules.proofs.Tabulate.{tabulate_at}

module _ (t : List ℕ) where
  -- a core and a process that are there are what the view reads at their words
  pub core_seen : (k : ℕ) → k < k_of t → core_of (view t) k ≡ view_core t k
  unfolding view
  core_seen k h = tabulate_at (view_core t) 0 (k_of t) no_core k h ∙ ap (view_core t) (zero-add k)

  pub process_seen : (p : ℕ) → 1 ≤ p → p ≤ n_of t → process_of (view t) p ≡ view_process t p
  unfolding view
  process_seen zero low high = absurd (omega arith)
  process_seen (suc i) low high =
      tabulate_at (view_process t) 1 (n_of t) no_process i (omega arith) ∙ ap (view_process t) (let e : 1 + i ≡ suc i = omega arith in e)

  -- the work of a core and the progress of a process, as they are read
  pub work_seen : (k : ℕ) → k < k_of t → (core_of (view t) k).work ≡ work_numbered (word_of_core t k core_runs) (word_of_core t k core_task) (word_of_core t k core_task_process)
  unfolding view_core
  work_seen k h = ap (λ (c : Core). c.work) (core_seen k h)

  pub progress_seen : (p : ℕ) → 1 ≤ p → p ≤ n_of t
      → (process_of (view t) p).progress
      ≡ progress_numbered (word_of_process t p process_progress) (word_of_process t p process_channel) (word_of_process t p process_partner) (take (word_of_process t p process_guards) (tabulate (word_of_process t p) process_first_guard guard_places))
      (word_of_process t p process_index) (ready_numbered (word_of_process t p process_first_ready))
  unfolding view_process
  progress_seen p low high = ap (λ (r : Process). r.progress) (process_seen p low high)
