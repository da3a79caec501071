use Rattle.std.proofs.Common.{arith, rules, refl, ap, ◌∙◌}
use Rattle.rules.specs.Choice.{lowered}
use Rattle.guards.proofs.Stands.{at_process}
use Rattle.choice.proofs.Finishing.{finish_guard, finish_fault, finish_now, finish_later}
use Rattle.choice.proofs.finish_step.Goals as goal

pub guard-c-requires : goal.guard-c-requires
guard-c-requires c =
    let process = at_process c.requires in
    let inside = finish_guard c.requires (λ e. omega arith) in
    omega arith

pub returns-in_err-left : goal.returns-in_err-left
returns-in_err-left c =
    finish_fault c.requires (λ e. omega arith) (c.in_err-left.ensures ∙ ap lowered c.word-count.ensures) (search rules) refl

pub returns-then-left-eq0 : goal.returns-then-left-eq0
returns-then-left-eq0 c =
    finish_now c.requires c.word-ready.ensures c.if-ready-eq0.false (c.in_ok-left.ensures ∙ ap lowered c.word-count.ensures)
    c.if-left-eq0.true c.guard-c.ensures c.set.ensures c.reports.ensures.reply c.reports.ensures.table

pub returns-else-left-eq0 : goal.returns-else-left-eq0
returns-else-left-eq0 c =
    finish_later c.requires c.word-ready.ensures c.if-ready-eq0.false (c.in_ok-left.ensures ∙ ap lowered c.word-count.ensures)
    c.if-left-eq0.false c.guard-c.ensures c.set.ensures c.set_due.ensures c.falls_asleep.ensures.reply c.falls_asleep.ensures.table
