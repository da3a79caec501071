-- What the code says becomes of a count, as a rule.
use Rattle.std.specs.Prelude.{ℕ, Result, Ok, Err}
use Rattle.rules.specs.Rule.{Rule, done, refuse}
use Rattle.answers.specs.Said.{because}
use Rattle.answers.specs.declared.Refusal.{Refusal}

abbrev pub changes : Result ℕ Refusal → Rule ℕ
changes (Ok n) = done n
changes (Err why) = refuse (because why)
