use Rattle.scheduler.proofs.Take.{can_take_first}
use Rattle.scheduler.proofs.take_step.Goals as goal

pub run_first-requires : goal.run_first-requires
run_first-requires c = can_take_first c.requires c.word.ensures
