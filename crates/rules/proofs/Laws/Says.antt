-- What a call says: one of its answers where no refusal's case is given, otherwise the first refusal whose case is.
use Prim.Native.Nat.{ℕ}
use mathlib.Core.Path.{◌≡◌}
use mathlib.Core.Bool.{true, false}
use mathlib.Core.List.{List, [], ◌∷◌}
use mathlib.Core.Option.{Option, none, some}
use lib.Dec.{T}
use Rattle.rules.specs.Lists.{member}
use Rattle.rules.specs.Numbers.{Answer, Refusal, refusal_number, yes_with, no_because, number_of}
use Rattle.rules.specs.Rule.{Ran, accepted, refused}
use Rattle.rules.specs.Calls.{Ask, the_step, a_request}
use Rattle.rules.specs.Refusals.{Case, ◌when◌}

-- the first refusal whose case is given, if there is one
abbrev pub first_given : List Case → Option Refusal
first_given [] = none
first_given (why when true ∷ rest) = some why
first_given (why when false ∷ rest) = first_given rest

-- n is one of the answers, or a refusal's number where there is a refusal
abbrev pub SaysWhy : List ℕ → ℕ → Option Refusal → Type 0
SaysWhy answers n none = T (member n answers)
SaysWhy answers n (some why) = n ≡ refusal_number why

-- where it is the first of some cases, if one is given
abbrev pub Says : List ℕ → ℕ → List Case → Type 0
Says answers n cases = SaysWhy answers n (first_given cases)

-- the numbers of what each kind of call answers
abbrev pub answers_of : Ask → List ℕ
answers_of the_step = 2 ∷ 3 ∷ 4 ∷ 5 ∷ 6 ∷ 7 ∷ 8 ∷ []
answers_of (a_request r) = 1 ∷ []

-- the number of what a rule comes to
abbrev pub said : Ran Answer → ℕ
said (accepted a s) = number_of (yes_with a)
said (refused why) = number_of (no_because why)
