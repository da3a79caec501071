-- Demand 1: "A refusal writes nothing anywhere."
use Prim.Native.Nat.{ℕ, ◌≤◌}
use native.Mathlib.Omega.{arith}
use mathlib.Core.Path.{◌≡◌, refl}
use mathlib.Core.List.{List}
use mathlib.Core.Option.{Option, none, some}
use lib.Dec.{ltb→lt}
use lib.ListN.{length}
use Rattle.rules.specs.Numbers.{Answer, Refusal, yes_with, number_of, Lent}
use Rattle.rules.specs.State.{State}
use Rattle.rules.specs.Rule.{Ran, accepted, refused}
use Rattle.rules.specs.SetUp.{set_up_refusal, set_up_state}
use Rattle.rules.specs.Calls.{outcome_of, built, set_up_call}
use Rattle.rules.specs.Claims.{RefusalWritesNothing}
use Rattle.rules.proofs.Laws.Whole.{comes_to, called}
use Rattle.rules.proofs.Laws.ListedNumber.{answer_listed}

-- an outcome with a refusal's number leaves what was lent and the table
ran_untouched : (t : List ℕ) (answer : Lent) (x : Ran Answer) → 20 ≤ (outcome_of t answer x).number
    → ((outcome_of t answer x).answer ≡ answer) × ((outcome_of t answer x).table ≡ t)
ran_untouched t answer (accepted a s) h = absurd (omega (arith, ltb→lt (number_of (yes_with a)) 20 (answer_listed a).1))
ran_untouched t answer (refused why) h = (refl, refl)

-- and so does a set-up with a refusal's number
built_untouched : (t : List ℕ) (s : State) (o : Option Refusal) → 20 ≤ (built t s o).number → (built t s o).table ≡ t
built_untouched t s none h = absurd (omega arith)
built_untouched t s (some why) h = refl

-- A call or a set-up that returns a refusal's number leaves what was lent and the table as they were.
pub refusal_writes_nothing : RefusalWritesNothing
unfolding set_up_call
refusal_writes_nothing = record {
  calls = λ t answer k ask. rw called (ran_untouched t answer (comes_to t answer k ask));
  set_up = λ k n m pairs t. built_untouched t (set_up_state k n pairs) (set_up_refusal k n m pairs (length t));
}
