-- The guards up to `at` fit, and the rest decides.
use Rattle.std.proofs.Common.{◌-◌, ◌≡◌}
use Rattle.fitting.specs.Twin as twin
use Rattle.processes.proofs.progress.guards_fit.Given as goal

abbrev pub invariant-loop-at : goal.invariant-loop-at
invariant-loop-at l =
    let fit = twin.guards_fit l.t l.p.sizes.cores l.p.sizes.processes l.p.sizes.channels l.p.number in
    fit l.from l.count ≡ fit l.at (l.end - l.at)
