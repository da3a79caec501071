-- A process that runs has no outcome due, and its number is one of a progress; if it were otherwise it would be awaited too.
use Rattle.std.proofs.Common.{refl}
use Rattle.core_step.proofs.Stage.{awaited_due, awaited_beyond}
use Rattle.core_step.proofs.running_step.Goals as goal

pub returns-in-Ok-Due : goal.returns-in-Ok-Due
returns-in-Ok-Due c = awaited_due c.requires c.word-number.ensures c.in-Ok-Due.ensures c.in-Ok-Due.field-0-is refl

pub returns-in-Err : goal.returns-in-Err
returns-in-Err c = awaited_beyond c.requires c.word-number.ensures c.in-Err.ensures refl
