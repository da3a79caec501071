-- The word is written before the stage.
use Rattle.std.proofs.Common.{rules}
use Rattle.steps.proofs.Near.{clear_channel, stage_process}
use Rattle.steps.proofs.Comes.{clear_does}
use Rattle.steps.proofs.clear_step.Goals as goal

pub set_word-requires : goal.set_word-requires
set_word-requires c = search (clear_channel, rules)

pub goes_on-requires : goal.goes_on-requires
goes_on-requires c = search (stage_process, rules)

pub returns : goal.returns
returns c = search clear_does
