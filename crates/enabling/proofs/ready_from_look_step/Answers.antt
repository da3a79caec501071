use Rattle.enabling.proofs.Enabling.{ready_look_done}
use Rattle.enabling.proofs.ready_from_look_step.Goals as goal

pub returns : goal.returns
returns c = ready_look_done c.requires c.goes_on_ready.ensures.reply c.goes_on_ready.ensures.table
