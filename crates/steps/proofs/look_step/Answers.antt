-- Who is found in the word stands there, and each arm's writes come to the stage of the rule.
use Rattle.std.proofs.Common.{rules}
use Rattle.steps.proofs.Near.{look_channel, stage_process}
use Rattle.steps.proofs.Comes.{look_parks, look_copies}
use Rattle.steps.proofs.look_step.Goals as goal

pub who_is_at-found-requires : goal.who_is_at-found-requires
who_is_at-found-requires c = search (look_channel, rules)

pub goes_on-requires : goal.goes_on-requires
goes_on-requires c = search (stage_process, rules)

pub goes_on-requires-in-Choosing : goal.goes_on-requires-in-Choosing
goes_on-requires-in-Choosing c = search (stage_process, rules)

pub finds-requires : goal.finds-requires
finds-requires c = search (stage_process, rules)

pub returns-in-Nobody : goal.returns-in-Nobody
returns-in-Nobody c = search look_parks

pub returns-in-Choosing : goal.returns-in-Choosing
returns-in-Choosing c = search look_parks

pub returns-in-Plain : goal.returns-in-Plain
returns-in-Plain c = search look_copies
