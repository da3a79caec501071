use Rattle.std.proofs.Common.{rules, refl, ap, ◌∙◌}
use Rattle.rules.specs.Choice.{lowered}
use Rattle.choice.proofs.Disabling.{lower_fault, lower_done}
use Rattle.choice.proofs.lower_step.Goals as goal

pub returns-in_err-n : goal.returns-in_err-n
returns-in_err-n c = lower_fault c.requires (c.in_err-n.ensures ∙ ap lowered c.word.ensures) (search rules) refl

pub returns : goal.returns
returns c = lower_done c.requires (c.in_ok-n.ensures ∙ ap lowered c.word.ensures) c.next_guard.ensures.reply (cc)
