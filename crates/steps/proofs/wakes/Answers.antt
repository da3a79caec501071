-- The place decides: it stays awake, or it joins the active queue.
use Rattle.std.proofs.Common.{arith}
use Rattle.steps.proofs.Waking.{woken_process, can_join, stays_awake, wakes_up}
use Rattle.steps.proofs.wakes.Goals as goal

pub word-requires-clause-reaches : goal.word-requires-clause-reaches
word-requires-clause-reaches c = let has = woken_process c.requires in omega arith

pub returns-then-word : goal.returns-then-word
returns-then-word c = search stays_awake

pub joins-requires : goal.joins-requires
joins-requires c = search can_join

pub returns : goal.returns
returns c = search wakes_up
