use Rattle.std.proofs.Common.{rules, refl, ap, ◌∙◌}
use Rattle.rules.specs.Choice.{lowered}
use Rattle.enabling.proofs.Enabling.{ready_place_fault, ready_place_done}
use Rattle.enabling.proofs.ready_from_place_step.Goals as goal

pub returns-in_err-n : goal.returns-in_err-n
returns-in_err-n c = ready_place_fault c.requires (c.in_err-n.ensures ∙ ap lowered c.word.ensures) (search rules) refl

pub returns : goal.returns
returns c = ready_place_done c.requires (c.in_ok-n.ensures ∙ ap lowered c.word.ensures) c.goes_on_ready.ensures.reply (cc)
