-- Who was found in the word stood there, and each arm's writes come to what the rule says of it.
use Rattle.std.proofs.Common.{rules}
use Rattle.steps.proofs.Near.{park_channel, stage_core, stage_process, stage_name}
use Rattle.steps.proofs.Comes.{park_alone, park_triggers, park_copies}
use Rattle.steps.proofs.park_step.Goals as goal

pub who_is_at-found-requires : goal.who_is_at-found-requires
who_is_at-found-requires c = search (park_channel, rules)

pub plain_name-name-requires : goal.plain_name-name-requires
plain_name-name-requires c = search (stage_name, rules)

pub set_word-requires : goal.set_word-requires
set_word-requires c = search (park_channel, rules)

pub sleeps-requires : goal.sleeps-requires
sleeps-requires c = search (stage_core, stage_process, rules)

pub sleeps-requires-in-Choosing : goal.sleeps-requires-in-Choosing
sleeps-requires-in-Choosing c = search (stage_core, stage_process, rules)

pub finds-requires : goal.finds-requires
finds-requires c = search (stage_process, rules)

pub returns-in-Nobody : goal.returns-in-Nobody
returns-in-Nobody c = search park_alone

pub returns-in-Choosing : goal.returns-in-Choosing
returns-in-Choosing c = search park_triggers

pub returns-in-Plain : goal.returns-in-Plain
returns-in-Plain c = search park_copies
