use Rattle.std.proofs.Common.{◌+◌, sym, ◌∙◌, arith}
use Rattle.processes.proofs.Guards.{twice, once}
use Rattle.processes.proofs.progress.guards_fit.Goals as goal

pub returns-then-contains : goal.returns-then-contains
returns-then-contains c =
    let sizes = c.args.p.sizes in
    sym
    (c.loop-at.invariant
    ∙ twice c.args.t.now sizes.cores sizes.processes sizes.channels c.args.p.number c.loop-at.at (c.args.from + c.args.count) (omega arith) (omega arith)
    (sym c.end_fits.ensures ∙ c.if-not-end_fits.false)
    (sym c.contains.ensures.value ∙ c.if-contains.true))

pub loop-at-preserved : goal.loop-at-preserved
loop-at-preserved c =
    let sizes = c.args.p.sizes in
    c.loop-at.invariant
    ∙ once c.args.t.now sizes.cores sizes.processes sizes.channels c.args.p.number c.loop-at.at (c.args.from + c.args.count) (omega arith) (omega arith)
    (sym c.end_fits.ensures ∙ c.if-not-end_fits.false)
    (sym c.contains.ensures.value ∙ c.if-contains.false)
