-- The processes before p stand in batches.
use Rattle.std.proofs.Common.{◌+◌, ◌-◌, ◌≤◌, ◌≡◌}
use Rattle.set_up.specs.Filled.{in_batches}
use Rattle.set_up.proofs.fill_queues.Given as goal

abbrev pub invariant-loop-p : goal.invariant-loop-p
invariant-loop-p l = (l.p ≤ l.p-end + 1) × (l.t ≡ in_batches l.sizes.cores (l.p - 1) l.initial.t)
