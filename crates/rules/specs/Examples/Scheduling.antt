-- Steps of a core with nothing running and no task, and of one that awaits a request.
use Rattle.std.specs.Prelude.{ℕ, Bool, true, false, List, [], ◌∷◌, ◌++◌}
use Rattle.rules.specs.Numbers.{MOVED, IDLE, GO, SENT, GOT, CHOSE, AWAITED}
use Rattle.rules.specs.State.{running, queued, asleep, receiving, park, sent, got, chose, Progress, nothing, doing, due, no_task, runs, free, Core}
use Rattle.rules.specs.Items.{core, place, data_word, progress, Item}
use Rattle.rules.specs.Calls.{the_step}
use Rattle.rules.specs.Examples.Card.{Change, ◌of◌is◌, ◌#◌, a_core, through, in_queues, Example, ◌changing◌, refused_for, ◌given◌gives◌touching◌, runs_with, own}

-- core 0 with nothing running and no task, and 5 alone in a batch
abbrev pub idle : List ℕ → ℕ → Bool → Core
idle active dispatch mark = a_core (free no_task) active dispatch mark ((5 ∷ []) ∷ [])

-- p is queued too, with this to come
abbrev pub comes : ℕ → Progress → List Change
comes p x = place of p is queued ∷ progress of p is x ∷ []

-- p runs, and these are left; what a take of p touches
abbrev pub takes : ℕ → List ℕ → ℕ → Bool → List Change
takes p active dispatch mark = core of 0 is a_core (runs p) active dispatch mark ((5 ∷ []) ∷ []) ∷ place of p is running ∷ []

abbrev pub taken : ℕ → List Item
taken p = progress # p ∷ data_word # p ∷ []

-- the core with other queues
abbrev pub queues : List ℕ → ℕ → Bool → List (List ℕ) → List Change
queues active dispatch mark batches = core of 0 is a_core (free no_task) active dispatch mark batches ∷ []

abbrev pub scheduled : List Example
scheduled =
    -- take: GO, SENT, GOT, CHOSE, and a request that goes on
    (idle (4 ∷ []) 3 true given [] gives GO 4 changing (takes 4 [] 2 true ++ through 4) touching (core # 0 ∷ in_queues ++ taken 4))
    ∷ (idle (1 ∷ 4 ∷ []) 32 false given comes 1 (due (sent 1)) gives SENT 1 1 changing (takes 1 (4 ∷ []) 31 false ++ through 1)
    touching (core # 0 ∷ place # 1 ∷ in_queues ++ taken 1))
    ∷ (idle (2 ∷ 4 ∷ []) 1 true given comes 2 (due (got 2)) gives GOT 2 2 22 changing (takes 2 (4 ∷ []) 0 true ++ through 2)
    touching (core # 0 ∷ place # 2 ∷ in_queues ++ taken 2))
    ∷ (idle (2 ∷ 4 ∷ []) 1 true given comes 2 (due (chose 1)) gives CHOSE 2 1 changing (takes 2 (4 ∷ []) 0 true ++ through 2)
    touching (core # 0 ∷ place # 2 ∷ in_queues ++ taken 2))
    ∷ (idle (2 ∷ 4 ∷ []) 1 true given comes 2 (doing (park receiving 1)) gives MOVED changing takes 2 (4 ∷ []) 0 true
    touching (core # 0 ∷ place # 2 ∷ in_queues ++ taken 2))
    -- store: one process, marked, split
    ∷ (idle (4 ∷ []) 0 false given [] gives MOVED changing queues [] 0 false ((5 ∷ []) ∷ (4 ∷ []) ∷ []) touching (core # 0 ∷ in_queues))
    ∷ (idle (2 ∷ 4 ∷ []) 0 true given comes 2 (due (got 1)) gives MOVED changing queues [] 0 true ((5 ∷ []) ∷ (2 ∷ 4 ∷ []) ∷ [])
    touching (core # 0 ∷ place # 2 ∷ in_queues))
    ∷ (idle (2 ∷ 4 ∷ []) 0 false given comes 2 (due (got 1)) gives MOVED changing queues [] 0 false ((5 ∷ []) ∷ (2 ∷ []) ∷ (4 ∷ []) ∷ [])
    touching (core # 0 ∷ place # 2 ∷ in_queues))
    -- load: of one, of two
    ∷ (a_core (free no_task) [] 3 false ((5 ∷ []) ∷ (4 ∷ []) ∷ []) given [] gives MOVED changing queues (5 ∷ []) 4 true ((4 ∷ []) ∷ [])
    touching (core # 0 ∷ place # 5 ∷ place # 4 ∷ []))
    ∷ (a_core (free no_task) [] 0 true ((4 ∷ 5 ∷ []) ∷ []) given [] gives MOVED changing queues (4 ∷ 5 ∷ []) 8 false []
    touching (core # 0 ∷ in_queues))
    -- both queues empty
    ∷ (a_core (free no_task) [] 7 true [] given (place of 4 is asleep ∷ place of 5 is asleep ∷ []) gives IDLE changing [] touching (core # 0 ∷ []))
    -- "AWAITED: a step, but the running process has nothing in hand"
    ∷ record { given = runs_with 1 nothing; on = 0; ask = the_step; outcome = refused_for AWAITED; items = own 1 }
    ∷ []
