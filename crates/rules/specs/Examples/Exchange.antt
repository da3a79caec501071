-- Steps of send and receive, in each of their cases.
use Rattle.std.specs.Prelude.{ℕ, List, [], ◌∷◌, ◌++◌}
use Rattle.rules.specs.Numbers.{SENT, GOT, FAULT}
use Rattle.rules.specs.State.{sending, receiving, look, park, copy, clear, wake, sent, got, due, no_task, trigger, runs, nobody, plain, choosing}
use Rattle.rules.specs.Items.{place, data_word, transfers}
use Rattle.rules.specs.Examples.Card.{Change, ◌of◌is◌, ◌#◌, holds, word, woken, through, Example, ◌changing◌, refused_for, goes_on, falls_asleep, ◌at◌given◌gives◌besides◌}

-- p has the data v, and there were n transfers on channel c
abbrev pub copied : ℕ → ℕ → ℕ → ℕ → List Change
copied p v c n = data_word of p is v ∷ transfers of c is n ∷ []

-- Process 1 sends on channel 1, process 2 receives on channel 2.
abbrev pub exchange : List Example
exchange =
    -- look: nobody, choosing, plain
    (1 at look sending 1 given [] gives goes_on 1 (park sending 1) [] besides word 1)
    ∷ (1 at look sending 1 given holds 1 (choosing 2) gives goes_on 1 (park sending 1) [] besides word 1)
    ∷ (1 at look sending 1 given holds 1 (plain 3) gives goes_on 1 (copy sending 1 3) [] besides word 1)
    ∷ (2 at look receiving 2 given [] gives goes_on 2 (park receiving 2) [] besides word 2)
    ∷ (2 at look receiving 2 given holds 2 (choosing 1) gives goes_on 2 (park receiving 2) [] besides word 2)
    ∷ (2 at look receiving 2 given holds 2 (plain 3) gives goes_on 2 (copy receiving 2 3) [] besides word 2)
    -- park: nobody, choosing, plain
    ∷ (1 at park sending 1 given [] gives falls_asleep 1 (due (sent 1)) no_task (holds 1 (plain 1)) besides word 1)
    ∷ (1 at park sending 1 given holds 1 (choosing 2) gives falls_asleep 1 (due (sent 1)) (trigger 2) (holds 1 (plain 1)) besides word 1)
    ∷ (1 at park sending 1 given holds 1 (plain 2) gives goes_on 1 (copy sending 1 2) (holds 1 (plain 1)) besides word 1)
    ∷ (2 at park receiving 2 given [] gives falls_asleep 2 (due (got 2)) no_task (holds 2 (plain 2)) besides word 2)
    ∷ (2 at park receiving 2 given holds 2 (choosing 1) gives falls_asleep 2 (due (got 2)) (trigger 1) (holds 2 (plain 2)) besides word 2)
    ∷ (2 at park receiving 2 given holds 2 (plain 3) gives goes_on 2 (copy receiving 2 3) (holds 2 (plain 2)) besides word 2)
    -- copy, also where the partner isn't the channel's other end
    ∷ (1 at copy sending 1 2 given [] gives goes_on 1 (clear sending 1 2) (copied 2 11 1 8) besides (transfers # 1 ∷ data_word # 2 ∷ []))
    ∷ (1 at copy sending 1 3 given [] gives goes_on 1 (clear sending 1 3) (copied 3 11 1 8) besides (transfers # 1 ∷ data_word # 3 ∷ []))
    ∷ (2 at copy receiving 2 3 given [] gives goes_on 2 (clear receiving 2 3) (copied 2 33 2 10) besides (transfers # 2 ∷ data_word # 3 ∷ []))
    ∷ (2 at copy receiving 2 1 given (transfers of 2 is 4294967295 ∷ []) gives goes_on 2 (clear receiving 2 1) (copied 2 11 2 0) besides (transfers # 2 ∷ data_word # 1 ∷ []))
    -- clear
    ∷ (1 at clear sending 1 2 given holds 1 (plain 1) gives goes_on 1 (wake sending 1 2) (holds 1 nobody) besides word 1)
    ∷ (2 at clear receiving 2 3 given holds 2 (choosing 1) gives goes_on 2 (wake receiving 2 3) (holds 2 nobody) besides word 2)
    -- wake
    ∷ (1 at wake sending 1 2 given [] gives SENT 1 1 changing (woken (runs 1) 2 ++ through 1) besides (place # 2 ∷ []))
    ∷ (2 at wake receiving 2 3 given [] gives GOT 2 2 22 changing (woken (runs 2) 3 ++ through 2) besides (place # 3 ∷ []))
    -- "FAULT .. where a step would wake a process that isn't asleep": running, queued, ended
    ∷ (1 at wake sending 1 1 given [] gives refused_for FAULT besides (place # 1 ∷ []))
    ∷ (2 at wake receiving 2 4 given [] gives refused_for FAULT besides (place # 4 ∷ []))
    ∷ (1 at wake sending 1 6 given [] gives refused_for FAULT besides (place # 6 ∷ []))
    ∷ []
