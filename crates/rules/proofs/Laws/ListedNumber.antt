-- Demand 1: each call, on any table and any arguments, returns one of the listed numbers.
use Prim.Native.Nat.{ℕ}
use mathlib.Core.List.{List}
use mathlib.Core.Option.{Option, none, some}
use lib.Dec.{T, ltb, leb}
use lib.ListN.{length}
use Rattle.rules.specs.Lists.{member}
use Rattle.rules.specs.Numbers.{
  Answer,
  BUILT,
  TAKEN,
  MOVED,
  SLEPT,
  IDLE,
  GO,
  SENT,
  GOT,
  CHOSE,
  Refusal,
  SIZE,
  PAIRS,
  ROOM,
  NAME,
  SELF,
  ANSWER,
  DAMAGED,
  CORE,
  BUSY,
  AWAITED,
  GUARDS,
  CHANNEL,
  OTHER_END,
  TWICE,
  FAULT,
  yes_with,
  no_because,
  number_of,
  Lent,
}
use Rattle.rules.specs.State.{State}
use Rattle.rules.specs.Rule.{Ran, accepted, refused}
use Rattle.rules.specs.SetUp.{set_up_refusal, set_up_state}
use Rattle.rules.specs.Calls.{outcome_of, built, set_up_call}
use Rattle.rules.specs.Claims.{listed, ListedNumber}
use Rattle.rules.proofs.Laws.Whole.{comes_to, called}

-- the number of an answer is listed and below 20
pub answer_listed : (a : Answer) → T (member (number_of (yes_with a)) listed) × T (ltb (number_of (yes_with a)) 20)
answer_listed BUILT = (tt, tt)
answer_listed (TAKEN p c) = (tt, tt)
answer_listed MOVED = (tt, tt)
answer_listed (SLEPT p) = (tt, tt)
answer_listed IDLE = (tt, tt)
answer_listed (GO p) = (tt, tt)
answer_listed (SENT p c) = (tt, tt)
answer_listed (GOT p c v) = (tt, tt)
answer_listed (CHOSE p c) = (tt, tt)

-- the number of a refusal is listed and from 20 up
pub refusal_listed : (why : Refusal) → T (member (number_of (no_because why)) listed) × T (leb 20 (number_of (no_because why)))
refusal_listed SIZE = (tt, tt)
refusal_listed PAIRS = (tt, tt)
refusal_listed ROOM = (tt, tt)
refusal_listed NAME = (tt, tt)
refusal_listed SELF = (tt, tt)
refusal_listed ANSWER = (tt, tt)
refusal_listed DAMAGED = (tt, tt)
refusal_listed CORE = (tt, tt)
refusal_listed BUSY = (tt, tt)
refusal_listed AWAITED = (tt, tt)
refusal_listed GUARDS = (tt, tt)
refusal_listed CHANNEL = (tt, tt)
refusal_listed OTHER_END = (tt, tt)
refusal_listed TWICE = (tt, tt)
refusal_listed FAULT = (tt, tt)

-- whatever a rule comes to, the number returned is listed
ran_listed : (t : List ℕ) (answer : Lent) (x : Ran Answer) → T (member (outcome_of t answer x).number listed)
ran_listed t answer (accepted a s) = (answer_listed a).0
ran_listed t answer (refused why) = (refusal_listed why).0

-- and whatever a set-up is refused for, so is the number that it returns
built_listed : (t : List ℕ) (s : State) (o : Option Refusal) → T (member (built t s o).number listed)
built_listed t s none = tt
built_listed t s (some why) = (refusal_listed why).0

-- Each call and each set-up returns one of the listed numbers.
pub listed_number : ListedNumber
unfolding set_up_call
listed_number = record {
  calls = λ t answer k ask. rw called (ran_listed t answer (comes_to t answer k ask));
  set_up = λ k n m pairs t. built_listed t (set_up_state k n pairs) (set_up_refusal k n m pairs (length t));
}
