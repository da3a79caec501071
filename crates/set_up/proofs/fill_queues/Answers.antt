-- The next process finds what it needs: those before it stand in batches.
use Rattle.std.proofs.Common.{◌-◌, ◌≡◌, suc, subst, arith}
use Rattle.set_up.specs.Filled.{in_batches, CanStandAlone}
use Rattle.set_up.proofs.fill_queues.Goals as goal

pub stand_alone-requires-clause-can_stand : goal.stand_alone-requires-clause-can_stand
stand_alone-requires-clause-can_stand c =
    let p = c.loop-p.p in
    let k = c.args.sizes.cores in
    let next : suc (p - 1) ≡ p = omega arith in
    rw c.loop-p.invariant.1 (subst (CanStandAlone (in_batches k (p - 1) c.args.t.now) k) next (c.requires.can_stand (p - 1) (omega arith)))
