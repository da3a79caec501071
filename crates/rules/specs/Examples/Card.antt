-- The card of the examples, and how an example is said: what is given, what the call answers, which items change, which are touched.
use Rattle.std.specs.Prelude.{ℕ, Bool, true, false, List, [], ◌∷◌, ◌++◌}
use Rattle.rules.specs.Numbers.{Answer, MOVED, SLEPT, Refusal}
use Rattle.rules.specs.State.{Place, queued, asleep, ended, Stage, go, Progress, nothing, doing, due, Alternation, Process, Task, no_task, Work, runs, free, Core, ChannelWord, nobody, Channel, State, users, running}
use Rattle.rules.specs.Items.{Kind, core, place, data_word, progress, channel_word, Item, Val, no_alternation, put}
use Rattle.rules.specs.Rule.{Ran, accepted, refused, run}
use Rattle.rules.specs.Soundness.{valid}
use Rattle.rules.specs.Requests.{Request}
use Rattle.rules.specs.Calls.{Ask, the_step, a_request, rule_of}
use Rattle.rules.specs.Touched.{touched}

infix 70 ◌of◌is◌ ◌#◌
infix 3 ◌changing◌
infix 2 ◌given◌gives◌touching◌ ◌at◌given◌gives◌besides◌ ◌asks◌given◌gives◌besides◌
-- an item and its value: `place of 1 is running`
pub data Change : Type 0 where
  ◌of◌is◌ : (k : Kind) (n : ℕ) → Val k → Change

-- the state in which each of these items has that value
abbrev pub changed : State → List Change → State
changed s [] = s
changed s (k of n is v ∷ rest) = changed (put k n v s) rest

-- an item: `place # 1`
abbrev pub ◌#◌ : Kind → ℕ → Item
k # n = record { kind = k; number = n }

-- the word of a channel, as a change and as a touched item
abbrev pub holds : ℕ → ChannelWord → List Change
holds c w = channel_word of c is w ∷ []

abbrev pub word : ℕ → List Item
word c = channel_word # c ∷ []

abbrev pub a_core : Work → List ℕ → ℕ → Bool → List (List ℕ) → Core
a_core w l n m b = record { work = w; active = l; dispatch = n; mark = m; run_queue = b }

abbrev pub a_process : Place → ℕ → Progress → Process
a_process x v y = record { place = x; data_word = v; alternation = no_alternation; progress = y }

abbrev pub a_channel : ℕ → ℕ → ℕ → Channel
a_channel w r n = record { ends = record { writer = w; reader = r }; word = nobody; transfers = n }

-- flags enabling, not-ready, waiting, and the count
abbrev pub alternating : Bool → Bool → Bool → ℕ → Alternation
alternating e n w c = record { enabling = e; not_ready = n; waiting = w; count = c }

-- core 0 as it stands in most examples: 4 is in its active queue, 5 alone in a batch
abbrev pub core_with : Work → Core
core_with w = a_core w (4 ∷ []) 3 true ((5 ∷ []) ∷ [])

-- q is woken by core 0, which goes on with its work; p is through with its request
abbrev pub woken : Work → ℕ → List Change
woken w q = place of q is queued ∷ core of 0 is a_core w (4 ∷ q ∷ []) 3 true ((5 ∷ []) ∷ []) ∷ []

abbrev pub through : ℕ → List Change
through p = progress of p is nothing ∷ []

-- Two cores that run nothing, six processes, two channels: 1 writes the first, 3 the second, 2 reads both. 1, 2 and 3 sleep, 6 has ended.
abbrev pub card : State
card =
    record {
      cores = core_with (free no_task) ∷ a_core (free no_task) [] 0 false [] ∷ [];
      processes =
          a_process asleep 11 (due go) ∷ a_process asleep 22 (due go) ∷ a_process asleep 33 (due go)
          ∷ a_process queued 44 (due go) ∷ a_process queued 55 (due go) ∷ a_process ended 66 nothing ∷ [];
      channels = a_channel 1 2 7 ∷ a_channel 3 2 9 ∷ [];
    }

-- What a call comes to: an answer and the items that it changes, or a refusal.
pub data Outcome : Type 0 where
  ◌changing◌ : Answer → List Change → Outcome
  refused_for : Refusal → Outcome

-- MOVED, and p goes on at a stage
abbrev pub goes_on : ℕ → Stage → List Change → Outcome
goes_on p x l = MOVED changing (l ++ (progress of p is doing x ∷ []))

-- SLEPT: p sleeps with what is to come when it is next taken, and core 0 has a task
abbrev pub falls_asleep : ℕ → Progress → Task → List Change → Outcome
falls_asleep p y t l = SLEPT p changing (l ++ (progress of p is y ∷ place of p is asleep ∷ core of 0 is core_with (free t) ∷ []))

-- on the card with these changes, what core `on` is asked comes to the outcome; the call's whole list of touched items
pub record Example : Type 0 where
  pub given : List Change
  pub on : ℕ
  pub ask : Ask
  pub outcome : Outcome
  pub items : List Item

-- core 0 makes a step
abbrev pub ◌given◌gives◌touching◌ : Core → List Change → Outcome → List Item → Example
c given l gives o touching items = record { given = core of 0 is c ∷ l; on = 0; ask = the_step; outcome = o; items = items }

-- p runs on core 0
abbrev pub runs_with : ℕ → Progress → List Change
runs_with p x = core of 0 is core_with (runs p) ∷ place of p is running ∷ progress of p is x ∷ []

-- what each accepted call of p, and each step of its, touches there: record, progress, data and place, and the places in the queues
abbrev pub own : ℕ → List Item
own p = core # 0 ∷ progress # p ∷ data_word # p ∷ place # p ∷ []

abbrev pub in_queues : List Item
in_queues = place # 4 ∷ place # 5 ∷ []

-- p makes the step of its stage
abbrev pub ◌at◌given◌gives◌besides◌ : ℕ → Stage → List Change → Outcome → List Item → Example
p at x given l gives o besides items =
    record { given = runs_with p (doing x) ++ l; on = 0; ask = the_step; outcome = o; items = own p ++ in_queues ++ items }

-- p makes a request
abbrev pub ◌asks◌given◌gives◌besides◌ : ℕ → Request → List Change → Outcome → List Item → Example
p asks r given l gives o besides items =
    record { given = runs_with p nothing ++ l; on = 0; ask = a_request r; outcome = o; items = own p ++ items }

-- That an example holds: its state is valid, the rule comes to what is said, and everything that isn't said to change is as it was; and
-- the list of touched items is just that one.
pub record Seen : Type 0 where
  pub fit : Bool
  pub ran : Ran Answer
  pub items : List Item

abbrev pub comes_to : State → Outcome → Ran Answer
comes_to s (a changing l) = accepted a (changed s l)
comes_to s (refused_for why) = refused why

abbrev pub seen : Example → Seen
seen e =
    let s = changed card e.given in
    record { fit = valid s; ran = run (rule_of (users s) e.ask e.on) s; items = touched s e.on e.ask }

abbrev pub said : Example → Seen
said e = let s = changed card e.given in record { fit = true; ran = comes_to s e.outcome; items = e.items }
