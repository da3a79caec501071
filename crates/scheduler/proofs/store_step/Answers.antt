use Rattle.scheduler.proofs.Store.{may_store}
use Rattle.scheduler.proofs.store_step.Goals as goal

pub store-requires : goal.store-requires
store-requires c = may_store c.requires
