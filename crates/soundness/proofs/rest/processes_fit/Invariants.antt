-- The processes before this one fit, and the rest decides.
use Rattle.std.proofs.Common.{◌-◌, ◌+◌, ◌≡◌}
use Rattle.fitting.specs.Twin as twin
use Rattle.processes.specs.Met.{met_numbers}
use Rattle.soundness.proofs.rest.processes_fit.Given as goal

abbrev pub invariant-loop-number : goal.invariant-loop-number
invariant-loop-number l =
    let fit = twin.processes_fit l.t l.sizes.cores l.sizes.processes l.sizes.channels (met_numbers l.met) in
    fit 1 l.sizes.processes ≡ fit l.number (l.sizes.processes + 1 - l.number)
