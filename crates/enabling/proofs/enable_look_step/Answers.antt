use Rattle.std.proofs.Common.{arith}
use Rattle.enabling.proofs.Enabling.{look_guard, look_free, look_held}
use Rattle.enabling.proofs.enable_look_step.Goals as goal
use Rattle.enabling.proofs.enable_look_step.Goals.{then-guard_word-eq0, else-guard_word-eq0}

pub guard_word-requires : goal.guard_word-requires
guard_word-requires c = look_guard c.requires

pub returns : goal.returns
returns c =
    elim c.if-guard_word-eq0.branch [
      | then-guard_word-eq0 w ↦ look_free c.requires (omega arith) c.move_on.ensures.reply (rw w.stage-is at c.move_on.ensures.table)
      | else-guard_word-eq0 w ↦ look_held c.requires (λ e. omega arith) c.move_on.ensures.reply (rw w.stage-is at c.move_on.ensures.table)
    ]
