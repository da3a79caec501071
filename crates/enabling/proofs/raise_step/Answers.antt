use Rattle.std.proofs.Common.{arith, rules, refl, ap, ◌∙◌}
use Rattle.rules.specs.Choice.{raised}
use Rattle.enabling.proofs.Enabling.{raise_small, raise_fault, raise_done}
use Rattle.enabling.proofs.raise_step.Goals as goal

pub raised-requires : goal.raised-requires
raised-requires c =
    let small = raise_small c.requires in
    omega arith

pub returns-in_err-n : goal.returns-in_err-n
returns-in_err-n c = raise_fault c.requires (c.in_err-n.ensures ∙ ap raised c.word.ensures) (search rules) refl

pub returns : goal.returns
returns c = raise_done c.requires (c.in_ok-n.ensures ∙ ap raised c.word.ensures) c.move_on.ensures.reply (cc)
