use Rattle.std.proofs.Common.{ℕ, ◌<◌}
use Rattle.script.specs.Text.{StandsAlone}
use Rattle.script.proofs.text.find.Given as goal

abbrev pub invariant-loop-at : goal.invariant-loop-at
invariant-loop-at l = (k : ℕ) → k < l.at → ¬ StandsAlone l.s l.b l.unless k
