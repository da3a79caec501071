-- A guard that passes its tests leaves those of the next.
use Rattle.std.proofs.Common.{sym, ◌∙◌, get_or, take}
use Rattle.requests.proofs.Guards.{any_member, next_left}
use Rattle.requests.proofs.check_guards.Goals as goal

pub loop-i-preserved : goal.loop-i-preserved
loop-i-preserved c =
    let guards = c.args.guards.now in
    let i = c.loop-i.i in
    let new = sym (any_member (get_or guards i 0) (take i guards)) ∙ sym c.stands_among.ensures ∙ c.if-stands_among.false in
    c.loop-i.invariant ∙ next_left _ guards i c.loop-i-test.true c.in_ok-check_end.ensures new
