-- The channels before this one fit, and the rest decides.
use Rattle.std.proofs.Common.{◌-◌, ◌+◌, ◌≡◌}
use Rattle.fitting.specs.Twin as twin
use Rattle.soundness.proofs.rest.channels_fit.Given as goal

abbrev pub invariant-loop-number : goal.invariant-loop-number
invariant-loop-number l =
    let fit = twin.channels_fit l.t l.sizes.cores l.sizes.processes in
    fit 1 l.sizes.channels ≡ fit l.number (l.sizes.channels + 1 - l.number)
