use Rattle.std.proofs.Common.{◌<◌, ◌+◌, sym, ◌∙◌, arith}
use Rattle.fitting.specs.Twin as twin
use Rattle.processes.proofs.Runs.{goes_on}
use Rattle.soundness.proofs.rest.channels_fit.Goals as goal

pub loop-number-preserved : goal.loop-number-preserved
loop-number-preserved c =
    let a = c.args in
    let more : c.loop-number.number < a.sizes.channels + 1 = omega arith in
    c.loop-number.invariant
    ∙ goes_on (twin.channels_fit a.t.now a.sizes.cores a.sizes.processes) _ _ more (rw (sym c.channel_fits.ensures ∙ c.if-not-channel_fits.false))
