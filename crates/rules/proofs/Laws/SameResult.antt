-- Two results that meet a promise are equal.
use mathlib.Core.Path.{◌≡◌, sym, ◌∙◌}
use Rattle.rules.specs.Calls.{Result, Built}
use Rattle.rules.specs.Claims.{Meets, MeetsBuilt, SameResult}

met_once : (promised r r' : Result) → Meets promised r → Meets promised r' → r ≡ r'
met_once promised r r' m m' = λ i. record {
  number = (m.number ∙ sym m'.number) i;
  answer = (m.answer ∙ sym m'.answer) i;
  table = (m.table ∙ sym m'.table) i;
}

built_once : (promised r r' : Built) → MeetsBuilt promised r → MeetsBuilt promised r' → r ≡ r'
built_once promised r r' m m' = λ i. record { number = (m.number ∙ sym m'.number) i; table = (m.table ∙ sym m'.table) i }

pub same_result : SameResult
same_result = record {
  calls = λ t answer k ask r r'. met_once _ r r';
  set_up = λ k n m pairs t r r'. built_once _ r r';
}
