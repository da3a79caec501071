use Rattle.std.proofs.Common.{arith, rules, refl, ap, ◌∙◌}
use Rattle.rules.specs.Choice.{lowered}
use Rattle.choice.proofs.Finishing.{trigger_process, trigger_fault, trigger_wakes, trigger_over}
use Rattle.choice.proofs.trigger_step.Goals as goal
use Rattle.choice.proofs.trigger_step.Goals.{then-n-eq0, else-n-eq0}

pub word-requires-clause-from : goal.word-requires-clause-from
word-requires-clause-from c =
    let h = trigger_process c.requires.card c.requires.task in
    omega arith

pub returns-in_err-n : goal.returns-in_err-n
returns-in_err-n c =
    trigger_fault c.requires.card c.requires.task (c.in_err-n.ensures ∙ ap lowered c.word.ensures) (search rules) refl

pub returns : goal.returns
returns c =
    elim c.if-n-eq0.branch [
      | then-n-eq0 w ↦ trigger_wakes c.requires.card c.requires.task c.word-waiting.ensures (c.in_ok-n.ensures ∙ ap lowered c.word.ensures)
          c.set_triggered.ensures refl w.if-n-eq0.either (rw w.task-is at c.has_task.ensures)
      | else-n-eq0 w ↦ trigger_over c.requires.card c.requires.task c.word-waiting.ensures (c.in_ok-n.ensures ∙ ap lowered c.word.ensures)
          c.set_triggered.ensures refl w.if-n-eq0.false (rw w.task-is at c.has_task.ensures)
    ]
