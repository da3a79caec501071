use Rattle.std.proofs.Common.{◌+◌, ◌-◌, ◌≡◌, ◌≤◌, length, arith}
use Rattle.records.proofs.AllZero.{all_zero}
use Rattle.records.proofs.zeros.Goals as goal

pub returns : goal.returns
returns c =
    let a = c.args in
    let part : a.from + a.count - a.from ≡ a.count = omega arith in
    let fits : a.from + a.count ≤ length a.t.now = omega arith in
    rw (← all_zero a.t.now a.from a.count (a.from + a.count - a.from)) c.are_zero.ensures
