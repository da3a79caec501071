-- What each call and each set-up says, on any table and any arguments.
use Rattle.std.specs.Prelude.{if◌then◌else◌}
use Prim.Native.Nat.{ℕ, ◌*◌, ◌<◌}
use mathlib.Core.Path.{◌≡◌, refl}
use mathlib.Core.Bool.{Bool, true, false, not, ◌&&◌, ◌||◌}
use mathlib.Core.List.{List, [], ◌∷◌}
use mathlib.Core.Option.{Option, none, some}
use lib.Dec.{T, eqb, ltb, ltb→lt}
use lib.ListN.{length}
use Rattle.rules.specs.Lists.{within}
use Rattle.rules.specs.Numbers.{Answer, Refusal, SIZE, PAIRS, ROOM, NAME, SELF, ANSWER, DAMAGED, CORE, Lent, well_lent}
use Rattle.rules.specs.State.{running, runs, State, users}
use Rattle.rules.specs.Items.{core_of, process_of}
use Rattle.rules.specs.Rule.{Ran, accepted, refused, run}
use Rattle.rules.specs.SetUp.{ends_of, proper_pairs, set_up_refusal, set_up_state}
use Rattle.rules.specs.Layout.{room}
use Rattle.rules.specs.Packing.{view}
use Rattle.rules.specs.Soundness.{fits, valid, sound}
use Rattle.rules.specs.Calls.{Result, refusal, Ask, the_step, a_request, rule_of, outcome_of, call, built, set_up_call}
use Rattle.rules.specs.Refusals.{Case, ◌when◌, pair_cases, set_up_cases, ask_cases, call_cases}
use Rattle.rules.proofs.Validity.Reflect.{reflected}
use Rattle.rules.proofs.Validity.Places.{runs_there, running_good, is_running}
use Rattle.rules.proofs.Laws.Whole.{sound_packs}
use Rattle.rules.proofs.Laws.Says.{first_given, SaysWhy, Says, answers_of, said}
use Rattle.rules.proofs.Laws.StepSays.{work_says}
use Rattle.rules.proofs.Laws.RequestSays.{requester_says}

-- an outcome has the number of what the rule came to
said_by : (t : List ℕ) (answer : Lent) (x : Ran Answer) → (outcome_of t answer x).number ≡ said x
said_by t answer (accepted a s) = refl
said_by t answer (refused why) = refl

module _ (s : State) (k : ℕ) (good : T (valid s)) (on : k < length s.cores) where
  -- the process that runs on a core has nothing in hand or a stage
  has_running : (p : ℕ) → (core_of s k).work ≡ runs p → T (fits running (process_of s p).progress)
  has_running p e = let h = runs_there k (reflected s good) on p e in rw (is_running h) at (running_good h).fitting

  -- whatever is asked
  ask_says : (ask : Ask) → Says (answers_of ask) (said (run (rule_of (users s) ask k) s)) (ask_cases s (core_of s k).work ask)
  ask_says the_step = work_says s k (core_of s k) (core_of s k).work has_running
  ask_says (a_request r) = requester_says s k r (core_of s k).work

module _ (t : List ℕ) (answer : Lent) (k : ℕ) (ask : Ask) where
  -- each call, on any table
  pub call_says : Says (answers_of ask) (call t answer k ask).number (call_cases t answer k ask)
  unfolding call
  call_says =
      by_tests (well_lent answer) (sound t) (ltb k (length s.cores))
      (λ good on. rw said_by (ask_says s k (sound_packs t good).good (ltb→lt k (length s.cores) on) ask))
    where
      s : State
      s = view t

      own : Result
      own = outcome_of t answer (run (rule_of (users s) ask k) s)

      later : List Case
      later = ask_cases s (core_of s k).work ask

      by_tests : (long is_sound there : Bool) → (T is_sound → T there → Says (answers_of ask) own.number later)
          → Says (answers_of ask)
          (if long then (if is_sound then (if there then own else refusal t answer CORE) else refusal t answer DAMAGED)
          else refusal t answer ANSWER).number
          (ANSWER when not long ∷ DAMAGED when not is_sound ∷ CORE when not there ∷ later)
      by_tests true true true says = says tt tt
      by_tests true true false says = refl
      by_tests true false there says = refl
      by_tests false is_sound there says = refl

-- what is refused of the pairs
pairs_refused : (n : ℕ) (pairs : List ℕ) → proper_pairs n (ends_of pairs) ≡ first_given (pair_cases n pairs)
pairs_refused n [] = refl
pairs_refused n (w ∷ []) = refl
pairs_refused n (w ∷ (r ∷ rest)) = by_tests (within 1 n w) (within 1 n r) (eqb w r) (pairs_refused n rest)
  where
    later : List Case
    later = pair_cases n rest

    by_tests : (a b c : Bool) {x : Option Refusal} → x ≡ first_given later
        → (if a && b then (if c then some SELF else x) else some NAME) ≡ first_given (NAME when (not a || not b) ∷ SELF when c ∷ later)
    by_tests true true true e = refl
    by_tests true true false e = e
    by_tests true false c e = refl
    by_tests false b c e = refl

module _ (k n m : ℕ) (pairs table : List ℕ) where
  -- what is refused of a set-up
  set_up_refused : set_up_refusal k n m pairs (length table) ≡ first_given (set_up_cases k n m pairs table)
  set_up_refused =
      by_tests (within 1 8 k) (within 1 256 n) (within 0 256 m) (eqb (length pairs) (2 * m)) (eqb (length table) (room k n m))
    where
      later : List Case
      later = pair_cases n pairs

      by_tests : (a b c d e : Bool)
          → (if a && b && c then (if d then (if e then proper_pairs n (ends_of pairs) else some ROOM) else some PAIRS) else some SIZE)
          ≡ first_given (SIZE when (not a || not b || not c) ∷ PAIRS when not d ∷ ROOM when not e ∷ later)
      by_tests true true true true true = pairs_refused n pairs
      by_tests true true true true false = refl
      by_tests true true true false e = refl
      by_tests true true false d e = refl
      by_tests true false c d e = refl
      by_tests false b c d e = refl

  -- each set-up
  pub set_up_says : Says (0 ∷ []) (set_up_call k n m pairs table).number (set_up_cases k n m pairs table)
  unfolding set_up_call
  set_up_says = rw (← set_up_refused) (by_refusal (set_up_refusal k n m pairs (length table)))
    where
      by_refusal : (o : Option Refusal) → SaysWhy (0 ∷ []) (built table (set_up_state k n pairs) o).number o
      by_refusal none = tt
      by_refusal (some why) = refl
