-- Whether the queue is whole is the test of the definition.
use Rattle.queues.proofs.Within.{store_way}
use Rattle.queues.proofs.store.Goals as goal

pub returns-then-is_whole : goal.returns-then-is_whole
returns-then-is_whole c =
    store_way c.args.t.now c.args.sizes.cores c.args.core.0 c.word-mark.ensures c.word-size.ensures
    c.is_whole.ensures (rw c.if-is_whole.true c.store_whole.ensures)

pub returns-else-is_whole : goal.returns-else-is_whole
returns-else-is_whole c =
    store_way c.args.t.now c.args.sizes.cores c.args.core.0 c.word-mark.ensures c.word-size.ensures
    c.is_whole.ensures (rw c.if-is_whole.false c.split.ensures)
