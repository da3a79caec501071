use Rattle.std.proofs.Common.{◌<◌, ◌+◌, sym, ◌∙◌, arith}
use Rattle.fitting.specs.Twin as twin
use Rattle.processes.proofs.Runs.{goes_on, over, stops}
use Rattle.processes.specs.Met.{met_numbers}
use Rattle.soundness.proofs.Numbers.{by_number}
use Rattle.soundness.proofs.rest.processes_fit.Goals as goal

pub returns-then-not-process_fits : goal.returns-then-not-process_fits
returns-then-not-process_fits c =
    let a = c.args in
    let more : c.loop-number.number < a.sizes.processes + 1 = omega arith in
    sym
    (c.loop-number.invariant
    ∙ stops (twin.processes_fit a.t.now a.sizes.cores a.sizes.processes a.sizes.channels (met_numbers a.met.now)) _ _ _ more (rw (by_number a.met.now a.t.now a.sizes.cores a.sizes.processes a.sizes.channels c.loop-number.number _ _ (omega arith) c.process_fits.ensures ∙ c.if-not-process_fits.true)))

pub loop-number-preserved : goal.loop-number-preserved
loop-number-preserved c =
    let a = c.args in
    let more : c.loop-number.number < a.sizes.processes + 1 = omega arith in
    c.loop-number.invariant
    ∙ goes_on (twin.processes_fit a.t.now a.sizes.cores a.sizes.processes a.sizes.channels (met_numbers a.met.now)) _ _ more (rw (by_number a.met.now a.t.now a.sizes.cores a.sizes.processes a.sizes.channels c.loop-number.number _ _ (omega arith) c.process_fits.ensures ∙ c.if-not-process_fits.false))

pub returns-else-not-process_fits : goal.returns-else-not-process_fits
returns-else-not-process_fits c =
    let a = c.args in
    let more : c.loop-number.number < a.sizes.processes + 1 = omega arith in
    sym
    (c.loop-number.invariant
    ∙ goes_on (twin.processes_fit a.t.now a.sizes.cores a.sizes.processes a.sizes.channels (met_numbers a.met.now)) _ _ more (rw (by_number a.met.now a.t.now a.sizes.cores a.sizes.processes a.sizes.channels c.loop-number.number _ _ (omega arith) c.process_fits.ensures ∙ c.if-not-process_fits.false))
    ∙ over (twin.processes_fit a.t.now a.sizes.cores a.sizes.processes a.sizes.channels (met_numbers a.met.now)) _ _ (omega arith))
