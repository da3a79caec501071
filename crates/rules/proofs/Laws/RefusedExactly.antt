-- Demand 1: a refusal comes exactly in its stated case.
use Prim.Native.Nat.{ℕ, ◌-◌, ◌<◌}
use native.Mathlib.Omega.{arith}
use mathlib.Core.Path.{◌≡◌, refl, sym, ap, ◌∙◌}
use mathlib.Core.Logic.{◌↔◌}
use mathlib.Core.Bool.{true, false}
use mathlib.Core.List.{List, [], ◌∷◌}
use mathlib.Core.Option.{Option, none, some}
use lib.Dec.{T, eqb, ltb, ltb→lt, leb→le, eqb→eq}
use lib.ListN.{get_or}
use Rattle.rules.specs.Lists.{all, member}
use Rattle.rules.specs.Numbers.{
  Refusal,
  SIZE,
  PAIRS,
  ROOM,
  NAME,
  SELF,
  ANSWER,
  DAMAGED,
  CORE,
  BUSY,
  AWAITED,
  GUARDS,
  CHANNEL,
  OTHER_END,
  TWICE,
  FAULT,
  refusal_number,
}
use Rattle.rules.specs.Calls.{Ask, the_step, a_request}
use Rattle.rules.specs.Refusals.{Case, ◌when◌, First, here, later}
use Rattle.rules.specs.Claims.{RefusedExactly}
use Rattle.rules.proofs.Tests.{or_cases, and_means}
use Rattle.rules.proofs.Laws.ListedNumber.{refusal_listed}
use Rattle.rules.proofs.Laws.Says.{first_given, SaysWhy, Says, answers_of}
use Rattle.rules.proofs.Laws.CallSays.{call_says, set_up_says}

-- the refusal that has a number
refusal_of : ℕ → Refusal
refusal_of n =
    get_or (SIZE ∷ PAIRS ∷ ROOM ∷ NAME ∷ SELF ∷ ANSWER ∷ DAMAGED ∷ CORE ∷ BUSY ∷ AWAITED ∷ GUARDS ∷ CHANNEL ∷ OTHER_END ∷ TWICE ∷ FAULT ∷ [])
    (n - 20) SIZE

-- no two have the same
of_number : (why : Refusal) → refusal_of (refusal_number why) ≡ why
unfolding refusal_of
of_number SIZE = refl
of_number PAIRS = refl
of_number ROOM = refl
of_number NAME = refl
of_number SELF = refl
of_number ANSWER = refl
of_number DAMAGED = refl
of_number CORE = refl
of_number BUSY = refl
of_number AWAITED = refl
of_number GUARDS = refl
of_number CHANNEL = refl
of_number OTHER_END = refl
of_number TWICE = refl
of_number FAULT = refl

-- the first given, as it is computed and as it is stated
pub first_means : (cases : List Case) (why : Refusal) → (first_given cases ≡ some why) ↔ First cases why
first_means cases why = (found cases, given)
  where
    found : (l : List Case) → first_given l ≡ some why → First l why
    found [] e = let z : ◌≡◌ {A = ℕ} 0 1 = cc in absurd (omega arith)
    found (w when true ∷ rest) e = let same : w ≡ why = cc in rw same here
    found (w when false ∷ rest) e = later (found rest e)

    given : {l : List Case} → First l why → first_given l ≡ some why
    given here = refl
    given (later f) = given f

-- one of some answers below 20 is below 20
below : (n : ℕ) (answers : List ℕ) → T (all (λ a. ltb a 20) answers) → T (member n answers) → n < 20
below n [] h m = absurd m
below n (a ∷ rest) h m =
    let h' = (and_means (ltb a 20) (all (λ a. ltb a 20) rest)).0 h in
    or_cases (eqb a n) (member n rest) m (λ e. omega (arith, ltb→lt a 20 h'.0, eqb→eq a n e)) (below n rest h'.1)

-- a number is a refusal's exactly where that is the refusal
exactly : (answers : List ℕ) (n : ℕ) (o : Option Refusal) (why : Refusal) → T (all (λ a. ltb a 20) answers) → SaysWhy answers n o
    → (n ≡ refusal_number why) ↔ (o ≡ some why)
exactly answers n none why small says = (
  (λ e. absurd (omega (arith, below n answers small says, leb→le 20 (refusal_number why) (refusal_listed why).1))),
  (λ e. let z : ◌≡◌ {A = ℕ} 0 1 = cc in absurd (omega arith)),
)
exactly answers n (some w) why small says = (
  (λ e. ap some (sym (of_number w) ∙ ap refusal_of (sym says ∙ e) ∙ of_number why)),
  (λ e. let same : w ≡ why = cc in cc),
)

-- and so exactly where its case is the first given
first_exactly : (answers : List ℕ) (n : ℕ) (cases : List Case) (why : Refusal) → T (all (λ a. ltb a 20) answers) → Says answers n cases
    → (n ≡ refusal_number why) ↔ First cases why
first_exactly answers n cases why small says =
    let means = first_means cases why in
    let exact = exactly answers n (first_given cases) why small says in
    ((λ e. means.0 (exact.0 e)), (λ f. exact.1 (means.1 f)))

-- answers are below 20
answers_small : (ask : Ask) → T (all (λ a. ltb a 20) (answers_of ask))
answers_small the_step = tt
answers_small (a_request r) = tt

-- A call or a set-up returns a refusal's number exactly where its case is the first given.
pub refused_exactly : RefusedExactly
refused_exactly = record {
  calls = λ t answer k ask why. first_exactly (answers_of ask) _ _ why (answers_small ask) (call_says t answer k ask);
  set_up = λ k n m pairs t why. first_exactly (0 ∷ []) _ _ why tt (set_up_says k n m pairs t);
}
