-- The parts together are the packing.
use Rattle.std.proofs.Common.{◌≡◌, ◌∙◌}
use Rattle.set_up.specs.Filled.{in_batches}
use Rattle.set_up.proofs.Filling.{written, queues_fit, set_up_packs}
use Rattle.set_up.proofs.fill.Goals as goal

pub fill_queues-requires-clause-can_stand : goal.fill_queues-requires-clause-can_stand
fill_queues-requires-clause-can_stand c =
    let args = c.args in
    let sizes = args.sizes in
    rw (c.fill_channels.ensures, c.fill_processes.ensures, c.fill_header.ensures)
    (queues_fit sizes.cores sizes.processes sizes.channels args.pairs.now args.t.now c.requires)

pub returns : goal.returns
returns c =
    let args = c.args in
    let sizes = args.sizes in
    let e : c.fill_queues.new.t
    ≡ in_batches sizes.cores sizes.processes (written sizes.cores sizes.processes sizes.channels args.pairs.now args.t.now c.requires) =
    rw (c.fill_queues.ensures, c.fill_channels.ensures, c.fill_processes.ensures, c.fill_header.ensures) in
    e ∙ set_up_packs sizes.cores sizes.processes sizes.channels args.pairs.now args.t.now c.requires
