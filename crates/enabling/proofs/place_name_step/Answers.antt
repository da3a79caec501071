use Rattle.std.proofs.Common.{arith}
use Rattle.enabling.proofs.Enabling.{place_guard, place_small, place_free, place_held}
use Rattle.enabling.proofs.place_name_step.Goals as goal

pub guard_word-requires : goal.guard_word-requires
guard_word-requires c = place_guard c.requires

pub choosing_name-requires : goal.choosing_name-requires
choosing_name-requires c = place_small c.requires

pub set_guard_word-requires : goal.set_guard_word-requires
set_guard_word-requires c = place_guard c.requires

pub returns-then-guard_word-eq0 : goal.returns-then-guard_word-eq0
returns-then-guard_word-eq0 c = place_free c.requires (omega arith) c.next_guard.ensures.reply (cc)

pub returns-else-guard_word-eq0 : goal.returns-else-guard_word-eq0
returns-else-guard_word-eq0 c = place_held c.requires (λ e. omega arith) c.move_on.ensures.reply c.move_on.ensures.table
