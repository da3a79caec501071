-- The processes before p are filled.
use Rattle.std.proofs.Common.{◌+◌, ◌-◌, ◌≤◌, ◌≡◌}
use Rattle.set_up.specs.Filled.{in_turn, process_filled}
use Rattle.set_up.proofs.fill_processes.Given as goal

abbrev pub invariant-loop-p : goal.invariant-loop-p
invariant-loop-p l = (l.p ≤ l.p-end + 1) × (l.t ≡ in_turn (process_filled l.sizes.cores) 1 (l.p - 1) l.initial.t)
