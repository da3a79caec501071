-- The core's first word says whether a process runs.
use Rattle.std.proofs.Common.{arith}
use Rattle.parts.proofs.Card.{card_core}
use Rattle.core_step.proofs.Tasks.{is_running}
use Rattle.core_step.proofs.step.Goals as goal

pub word-number-requires-clause-reaches : goal.word-number-requires-clause-reaches
word-number-requires-clause-reaches c = let has = card_core _ _ _ _ c.requires in omega arith

pub running_step-requires : goal.running_step-requires
running_step-requires c = is_running c.requires c.word-number.ensures c.if-number-eq0.false
