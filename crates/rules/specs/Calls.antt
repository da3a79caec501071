-- Each call of the library as a function of the table and its arguments: the number returned, what was lent for the answer and the table
-- afterwards, for every table and every argument. These are what the exports' contracts cite.
use Rattle.std.specs.Prelude.{ℕ, List, ltb, length, if◌then◌else◌}
use Rattle.std.proofs.Math.Option.{Option, none, some}
use Rattle.rules.specs.Numbers.{Answer, BUILT, Refusal, ANSWER, DAMAGED, CORE, yes_with, no_because, number_of, Lent, well_lent, written}
use Rattle.rules.specs.State.{State, Wiring, users}
use Rattle.rules.specs.Rule.{Rule, Ran, accepted, refused, run}
use Rattle.rules.specs.Requests.{Request, send, receive, choose, yield, end, request}
use Rattle.rules.specs.CoreStep.{step}
use Rattle.rules.specs.SetUp.{set_up_refusal, set_up_state}
use Rattle.rules.specs.Packing.{pack, view}
use Rattle.rules.specs.Soundness.{sound}

-- What a call gives back: the number, and what was lent for the answer and the table as it leaves them.
pub record Result : Type 0 where
  pub number : ℕ
  pub answer : Lent
  pub table : List ℕ

-- "A refusal writes nothing anywhere."
abbrev pub refusal : List ℕ → Lent → Refusal → Result
refusal t answer r = record { number = number_of (no_because r); answer = answer; table = t }

abbrev pub acceptance : Answer → State → Result
acceptance a s = record { number = number_of (yes_with a); answer = written a; table = pack s }

-- "There are three kinds of call: set-up; a request ..; a step"
pub data Ask : Type 0 where
  the_step : Ask
  a_request : Request → Ask

abbrev pub rule_of : Wiring → Ask → ℕ → Rule Answer
rule_of w the_step k = step k
rule_of w (a_request r) k = request w r k

abbrev pub outcome_of : List ℕ → Lent → Ran Answer → Result
outcome_of t answer (accepted a s) = acceptance a s
outcome_of t answer (refused r) = refusal t answer r

-- "Other calls 25, 26, 27, then" what the rule refuses: 28 or 29, 30, guard by guard 31, 32, 33, and 34 last.
unfoldable pub call : List ℕ → Lent → ℕ → Ask → Result
call t answer k ask =
    let s = view t in
    if well_lent answer
    then (if sound t
    then (if ltb k (length s.cores) then outcome_of t answer (run (rule_of (users s) ask k) s) else refusal t answer CORE)
    else refusal t answer DAMAGED)
    else refusal t answer ANSWER

-- The exports

-- fontarisca_step(table, answer, core)
abbrev pub step_call : List ℕ → Lent → ℕ → Result
step_call t answer k = call t answer k the_step

-- fontarisca_send(table, answer, core, channel, value)
abbrev pub send_call : List ℕ → Lent → ℕ → ℕ → ℕ → Result
send_call t answer k c v = call t answer k (a_request (send c v))

-- fontarisca_receive(table, answer, core, channel)
abbrev pub receive_call : List ℕ → Lent → ℕ → ℕ → Result
receive_call t answer k c = call t answer k (a_request (receive c))

-- fontarisca_choose(table, answer, core, guards)
abbrev pub choose_call : List ℕ → Lent → ℕ → List ℕ → Result
choose_call t answer k gs = call t answer k (a_request (choose gs))

-- fontarisca_yield(table, answer, core)
abbrev pub yield_call : List ℕ → Lent → ℕ → Result
yield_call t answer k = call t answer k (a_request yield)

-- fontarisca_end(table, answer, core)
abbrev pub end_call : List ℕ → Lent → ℕ → Result
end_call t answer k = call t answer k (a_request end)

-- "BUILT: set-up done (takes no answer slice)"
pub record Built : Type 0 where
  pub number : ℕ
  pub table : List ℕ

abbrev pub built : List ℕ → State → Option Refusal → Built
built t s none = record { number = number_of (yes_with BUILT); table = pack s }
built t s (some r) = record { number = number_of (no_because r); table = t }

-- fontarisca_set_up(k, n, m, pairs, table)
unfoldable pub set_up_call : ℕ → ℕ → ℕ → List ℕ → List ℕ → Built
set_up_call k n m pairs t = built t (set_up_state k n pairs) (set_up_refusal k n m pairs (length t))
