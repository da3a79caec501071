-- The partner is woken and the outcome is reported, or it is a fault.
use Rattle.steps.proofs.Near.{stage_process}
use Rattle.steps.proofs.Wake.{can_wake, wake_reports}
use Rattle.steps.proofs.wake_step.Goals as goal

pub wakes-requires : goal.wakes-requires
wakes-requires c = search can_wake

pub reports-requires : goal.reports-requires
reports-requires c = search stage_process

pub returns : goal.returns
returns c = wake_reports c.requires c.wakes.ensures c.in_ok-wakes.was c.due.ensures c.reports.ensures.reply c.reports.ensures.table
