-- The outcome, the queue and the core are written.
use Rattle.std.proofs.Common.{◌≡◌, set}
use Rattle.rules.specs.Layout.{process_at, process_progress, due_go}
use Rattle.requests.proofs.Meets.{yield_joins, yield_does}
use Rattle.requests.proofs.yields.Goals as goal

pub joins-requires : goal.joins-requires
joins-requires c = yield_joins c.requires cc

pub returns : goal.returns
returns c =
    let p = c.args.p in
    let stored : c.set.new.t ≡ set c.args.t.now (process_at p.sizes.cores p.number process_progress) due_go = cc in
    yield_does c.requires stored cc
