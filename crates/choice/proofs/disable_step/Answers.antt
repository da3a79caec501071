use Rattle.choice.proofs.Disabling.{disable_guard, disable_nobody, disable_ready, disable_own, disable_other}
use Rattle.choice.proofs.disable_step.Goals as goal

pub guard_word-requires : goal.guard_word-requires
guard_word-requires c = disable_guard c.requires

pub set_guard_word-requires : goal.set_guard_word-requires
set_guard_word-requires c = disable_guard c.requires

pub returns-in-Nobody : goal.returns-in-Nobody
returns-in-Nobody c =
    disable_nobody c.requires c.in-Nobody.ensures c.guard_word.ensures c.next_guard.ensures.reply c.next_guard.ensures.table

pub returns-in-Plain : goal.returns-in-Plain
returns-in-Plain c =
    disable_ready c.requires c.in-Plain.ensures c.guard_word.ensures c.next_guard-in-Plain.ensures.reply
    (rw c.keep_first.ensures at c.next_guard-in-Plain.ensures.table)

pub returns-in-Choosing : goal.returns-in-Choosing
returns-in-Choosing c =
    disable_own c.requires c.in-Choosing.ensures c.guard_word.ensures c.if-q-p.true c.move_on.ensures.reply (cc)

pub returns-in-Choosing-2 : goal.returns-in-Choosing-2
returns-in-Choosing-2 c =
    disable_other c.requires c.in-Choosing.ensures c.guard_word.ensures c.if-q-p.false
    c.next_guard-in-Choosing-2.ensures.reply c.next_guard-in-Choosing-2.ensures.table
