-- A call of each export for each number that it returns, in the order of the header; what each returned.
use Rattle.std.specs.Prelude.{ℕ, false, List, [], ◌∷◌, ◌++◌, map, replicate}
use Rattle.std.proofs.Math.Option.{some}
use Rattle.rules.specs.Numbers.{lends}
use Rattle.rules.specs.State.{running, queued, sending, receiving, look, park, wake, finish, Progress, nothing, doing, no_task, runs, free}
use Rattle.rules.specs.Items.{core, place, progress, alternation}
use Rattle.rules.specs.Requests.{Request, send, receive, choose, yield, end}
use Rattle.rules.specs.Layout.{room}
use Rattle.rules.specs.Packing.{pack}
use Rattle.rules.specs.Calls.{Result, Ask, the_step, a_request, call, set_up_call}
use Rattle.rules.specs.BenchSheet.{zeros}
use Rattle.rules.specs.Examples.Card.{Change, ◌of◌is◌, changed, a_core, alternating}
use Rattle.rules.specs.Examples.Bounds.{sized}

-- one core, process 1 that writes channel 1 and process 2 that reads it, both asleep, with these changes
abbrev pub table : List Change → List ℕ
table l = pack (changed (sized 1 2 1) l)

abbrev pub runs_with : ℕ → Progress → List Change
runs_with p x = core of 0 is a_core (runs p) [] 0 false [] ∷ place of p is running ∷ progress of p is x ∷ []

abbrev pub numbers : List Result → List ℕ
numbers l = map (λ (r : Result). r.number) l

-- ANSWER, DAMAGED, CORE
abbrev pub first_refusals : Ask → List Result
first_refusals a = call (table []) (lends []) 0 a ∷ call [] zeros 0 a ∷ call (table []) zeros 1 a ∷ []

-- what process p, with this in hand, gets on core 0
abbrev pub step_of : ℕ → Progress → Result
step_of p x = call (table (runs_with p x ++ (alternation of p is alternating false false false 1 ∷ []))) zeros 0 the_step

abbrev pub one_queued : List Change
one_queued = core of 0 is a_core (free no_task) (1 ∷ []) 1 false [] ∷ place of 1 is queued ∷ []

abbrev pub step_results : List ℕ
step_results =
    numbers
    (step_of 1 (doing (look sending 1)) ∷ step_of 1 (doing (park sending 1)) ∷ call (table []) zeros 0 the_step
    ∷ call (table one_queued) zeros 0 the_step ∷ step_of 1 (doing (wake sending 1 2)) ∷ step_of 2 (doing (wake receiving 1 1))
    ∷ step_of 2 (doing (finish (1 ∷ []) (some 1))) ∷ [])
    ++ numbers (first_refusals the_step ++ (step_of 1 nothing ∷ step_of 1 (doing (wake sending 1 1)) ∷ []))

-- what p, with nothing in hand, gets for a request
abbrev pub asks : ℕ → Request → Result
asks p r = call (table (runs_with p nothing)) zeros 0 (a_request r)

-- TAKEN, the first refusals, BUSY, and then others
abbrev pub request_results : ℕ → Request → List Result → List ℕ
request_results p r others = numbers (asks p r ∷ first_refusals (a_request r) ++ (call (table []) zeros 0 (a_request r) ∷ others))

abbrev pub send_results : List ℕ
send_results = request_results 1 (send 1 7) (asks 1 (send 2 7) ∷ asks 2 (send 1 7) ∷ [])

abbrev pub receive_results : List ℕ
receive_results = request_results 2 (receive 1) (asks 2 (receive 2) ∷ asks 1 (receive 1) ∷ [])

abbrev pub choose_results : List ℕ
choose_results =
    request_results 2 (choose (1 ∷ []))
    (asks 2 (choose []) ∷ asks 2 (choose (2 ∷ [])) ∷ asks 1 (choose (1 ∷ [])) ∷ asks 2 (choose (1 ∷ 1 ∷ [])) ∷ [])

abbrev pub yield_results : List ℕ
yield_results = request_results 1 yield []

abbrev pub end_results : List ℕ
end_results = request_results 1 end []

-- BUILT, SIZE, PAIRS, ROOM, NAME, SELF
abbrev pub set_up_of : ℕ → ℕ → List ℕ → ℕ → ℕ
set_up_of n m pairs size = (set_up_call 1 n m pairs (replicate size 7)).number

abbrev pub set_up_results : List ℕ
set_up_results =
    set_up_of 2 1 (1 ∷ 2 ∷ []) (room 1 2 1) ∷ set_up_of 0 1 (1 ∷ 2 ∷ []) (room 1 2 1) ∷ set_up_of 2 1 (1 ∷ []) (room 1 2 1)
    ∷ set_up_of 2 1 (1 ∷ 2 ∷ []) 0 ∷ set_up_of 2 1 (1 ∷ 3 ∷ []) (room 1 2 1) ∷ set_up_of 2 1 (2 ∷ 2 ∷ []) (room 1 2 1) ∷ []
