-- Demand 1: each export returns one of the numbers that the header lists for it.
use Prim.Native.Nat.{ℕ}
use mathlib.Core.Bool.{Bool, true, false, ◌&&◌}
use mathlib.Core.List.{List, [], ◌∷◌, ◌++◌}
use lib.Dec.{T, eqb}
use Rattle.rules.specs.Lists.{member}
use Rattle.rules.specs.Numbers.{refusal_number, Lent}
use Rattle.rules.specs.State.{Progress, nothing, doing, due, Work, runs, free, State}
use Rattle.rules.specs.Items.{core_of, process_of}
use Rattle.rules.specs.Requests.{Request, send, receive, choose, yield, end}
use Rattle.rules.specs.Packing.{view}
use Rattle.rules.specs.Calls.{the_step, a_request, call}
use Rattle.rules.specs.Refusals.{
  Case,
  ◌when◌,
  pair_cases,
  set_up_cases,
  guard_cases,
  asked_cases,
  request_cases,
  Deed,
  stage_deeds,
  task_deeds,
  fault_cases,
  running_cases,
  step_cases,
  call_cases,
}
use Rattle.rules.specs.Claims.{OwnNumbers}
use Rattle.rules.proofs.Tests.{both, or_left, or_right, or_cases}
use Rattle.rules.proofs.Laws.Says.{Says, answers_of}
use Rattle.rules.proofs.Laws.CallSays.{call_says, set_up_says}

-- the number of each refusal is in the list, whether or not its case is given
abbrev among : List ℕ → List Case → Bool
among refusals [] = true
among refusals (why when b ∷ rest) = member (refusal_number why) refusals && among refusals rest

-- what is in the first of two lists is in the two joined
member_left : (n : ℕ) (l m : List ℕ) → T (member n l) → T (member n (l ++ m))
member_left n [] m h = absurd h
member_left n (x ∷ l) m h =
    or_cases (eqb x n) (member n l) h (or_left (eqb x n) (member n (l ++ m))) (λ g. or_right (eqb x n) (member n (l ++ m)) (member_left n l m g))

-- and so what is in the second
member_right : (n : ℕ) (l m : List ℕ) → T (member n m) → T (member n (l ++ m))
member_right n [] m h = h
member_right n (x ∷ l) m h = or_right (eqb x n) (member n (l ++ m)) (member_right n l m h)

-- a call whose refusals have numbers of a list says one of them or one of its answers
says_own : (answers refusals : List ℕ) (n : ℕ) (cases : List Case) → T (among refusals cases) → Says answers n cases → T (member n (answers ++ refusals))
says_own answers refusals n [] h says = member_left n answers refusals says
says_own answers refusals n (why when true ∷ rest) h says =
    rw says (member_right (refusal_number why) answers refusals (both (member (refusal_number why) refusals) (among refusals rest) h).0)
says_own answers refusals n (why when false ∷ rest) h says =
    says_own answers refusals n rest (both (member (refusal_number why) refusals) (among refusals rest) h).1 says

-- the refusals of set-up, channel by channel
pairs_own : (n : ℕ) (pairs : List ℕ) → T (among (20 ∷ 21 ∷ 22 ∷ 23 ∷ 24 ∷ []) (pair_cases n pairs))
pairs_own n [] = tt
pairs_own n (w ∷ []) = tt
pairs_own n (w ∷ (r ∷ rest)) = pairs_own n rest

-- of a choice, guard by guard
guards_own : (s : State) (p : ℕ) (earlier gs : List ℕ)
    → T (among (25 ∷ 26 ∷ 27 ∷ 28 ∷ 30 ∷ 31 ∷ 32 ∷ 33 ∷ []) (guard_cases s p earlier gs))
guards_own s p earlier [] = tt
guards_own s p earlier (c ∷ rest) = guards_own s p (c ∷ earlier) rest

-- of a step, deed by deed
faults_own : (s : State) (deeds : List Deed) → T (among (25 ∷ 26 ∷ 27 ∷ 29 ∷ 34 ∷ []) (fault_cases s deeds))
faults_own s [] = tt
faults_own s (d ∷ rest) = faults_own s rest

-- of the running process, by its progress
running_own : (s : State) (p : ℕ) (has : Progress) → T (among (25 ∷ 26 ∷ 27 ∷ 29 ∷ 34 ∷ []) (running_cases s p has))
running_own s p nothing = tt
running_own s p (doing x) = faults_own s (stage_deeds p x)
running_own s p (due o) = tt

-- whatever the core's work
step_own : (s : State) (w : Work) → T (among (25 ∷ 26 ∷ 27 ∷ 29 ∷ 34 ∷ []) (step_cases s w))
step_own s (runs p) = running_own s p (process_of s p).progress
step_own s (free t) = faults_own s (task_deeds t)

module _ (t : List ℕ) (answer : Lent) (k : ℕ) where
  -- a request that has some refusals more than every request
  request_own : (r : Request) (more : List ℕ) → ((s : State) (p : ℕ) → T (among (25 ∷ 26 ∷ 27 ∷ 28 ∷ more) (asked_cases s p r)))
      → T (member (call t answer k (a_request r)).number (1 ∷ 25 ∷ 26 ∷ 27 ∷ 28 ∷ more))
  request_own r more h =
      says_own (1 ∷ []) (25 ∷ 26 ∷ 27 ∷ 28 ∷ more) _ (call_cases t answer k (a_request r)) (by_work (core_of (view t) k).work)
      (call_says t answer k (a_request r))
    where
      by_work : (w : Work) → T (among (25 ∷ 26 ∷ 27 ∷ 28 ∷ more) (request_cases (view t) w r))
      by_work (runs p) = h (view t) p
      by_work (free x) = tt

-- Each export returns one of the numbers listed for it.
pub own_numbers : OwnNumbers
own_numbers = record {
  set_up =
      λ k n m pairs t.
      says_own (0 ∷ []) (20 ∷ 21 ∷ 22 ∷ 23 ∷ 24 ∷ []) _ (set_up_cases k n m pairs t) (pairs_own n pairs) (set_up_says k n m pairs t);
  send = λ t answer k c v. request_own t answer k (send c v) (31 ∷ 32 ∷ []) (λ s p. tt);
  receive = λ t answer k c. request_own t answer k (receive c) (31 ∷ 32 ∷ []) (λ s p. tt);
  choose = λ t answer k gs. request_own t answer k (choose gs) (30 ∷ 31 ∷ 32 ∷ 33 ∷ []) (λ s p. guards_own s p [] gs);
  yield = λ t answer k. request_own t answer k yield [] (λ s p. tt);
  end = λ t answer k. request_own t answer k end [] (λ s p. tt);
  step =
      λ t answer k.
      says_own (answers_of the_step) (25 ∷ 26 ∷ 27 ∷ 29 ∷ 34 ∷ []) (call t answer k the_step).number (call_cases t answer k the_step) (step_own (view t) (core_of (view t) k).work)
      (call_says t answer k the_step);
}
