use Rattle.std.proofs.Common.{◌≡◌, length, take}
use Rattle.script.proofs.number.numbers.Given as goal

abbrev pub invariant-loop-number : goal.invariant-loop-number
invariant-loop-number l = (l.count ≡ length l.yielded) × (take l.count l.out ≡ l.yielded)
