-- The data word is copied, then the transfers are counted, then comes the next stage.
use Rattle.std.proofs.Common.{rules}
use Rattle.steps.proofs.Near.{copy_partner, copy_channel, stage_process, later_process}
use Rattle.steps.proofs.Comes.{copy_does}
use Rattle.steps.proofs.copy_step.Goals as goal

pub copy_word-requires-clause-process : goal.copy_word-requires-clause-process
copy_word-requires-clause-process c = search (stage_process, rules)

pub copy_word-requires-clause-partner : goal.copy_word-requires-clause-partner
copy_word-requires-clause-partner c = search copy_partner

pub count_transfer-requires : goal.count_transfer-requires
count_transfer-requires c = search (copy_channel, rules)

pub goes_on-requires : goal.goes_on-requires
goes_on-requires c = search (stage_process, later_process)

pub returns : goal.returns
returns c = search copy_does
