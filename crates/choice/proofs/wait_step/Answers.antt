use Rattle.std.proofs.Common.{arith}
use Rattle.choice.proofs.Disabling.{wait_ready, wait_asleep}
use Rattle.choice.proofs.wait_step.Goals as goal

pub returns-then-word-eq0 : goal.returns-then-word-eq0
returns-then-word-eq0 c = wait_ready c.requires (omega arith) c.goes_on.ensures.reply (cc)

pub returns-else-word-eq0 : goal.returns-else-word-eq0
returns-else-word-eq0 c =
    wait_asleep c.requires c.word.ensures c.if-word-eq0.false c.set_waiting.ensures c.set_stage.ensures
    c.falls_asleep.ensures.reply c.falls_asleep.ensures.table
