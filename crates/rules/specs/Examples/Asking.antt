-- Requests, accepted and refused, and what set-up builds.
use Rattle.std.specs.Prelude.{true, false, List, [], ◌∷◌, ◌++◌, map, replicate}
use Rattle.rules.specs.Numbers.{TAKEN, BUSY, GUARDS, CHANNEL, OTHER_END, TWICE}
use Rattle.rules.specs.State.{queued, ended, sending, receiving, look, wake, enable_look, go, doing, due, no_task, free, State}
use Rattle.rules.specs.Items.{core, place, data_word, alternation, progress}
use Rattle.rules.specs.Requests.{Request, send, receive, choose, yield, end}
use Rattle.rules.specs.Calls.{Ask, the_step, a_request}
use Rattle.rules.specs.Examples.Card.{◌of◌is◌, ◌#◌, a_core, a_process, a_channel, alternating, core_with, in_queues, Example, ◌changing◌, refused_for, runs_with, own, ◌asks◌given◌gives◌besides◌}

abbrev pub asked : List Example
asked =
    (1 asks send 1 77 given [] gives TAKEN 1 1 changing (data_word of 1 is 77 ∷ progress of 1 is doing (look sending 1) ∷ []) besides in_queues)
    ∷ (2 asks receive 2 given [] gives TAKEN 2 2 changing (progress of 2 is doing (look receiving 2) ∷ []) besides in_queues)
    ∷ (2 asks choose (2 ∷ 1 ∷ []) given (alternation of 2 is alternating false false true 5 ∷ [])
    gives TAKEN 2 0 changing (alternation of 2 is alternating true true false 1 ∷ progress of 2 is doing (enable_look (2 ∷ 1 ∷ []) 1) ∷ [])
    besides (in_queues ++ (alternation # 2 ∷ [])))
    ∷ (1 asks yield given []
    gives TAKEN 1 0 changing (progress of 1 is due go ∷ place of 1 is queued
    ∷ core of 0 is a_core (free no_task) (4 ∷ 1 ∷ []) 3 true ((5 ∷ []) ∷ []) ∷ [])
    besides in_queues)
    ∷ (1 asks end given [] gives TAKEN 1 0 changing (place of 1 is ended ∷ core of 0 is core_with (free no_task) ∷ []) besides in_queues)
    -- "GUARDS: no guards, or more than 8"
    ∷ (2 asks choose [] given [] gives refused_for GUARDS besides [])
    ∷ (2 asks choose (1 ∷ 1 ∷ 1 ∷ 1 ∷ 1 ∷ 1 ∷ 1 ∷ 1 ∷ 1 ∷ []) given [] gives refused_for GUARDS besides [])
    -- "CHANNEL: a channel not in 1 to M"
    ∷ (1 asks send 0 77 given [] gives refused_for CHANNEL besides [])
    ∷ (1 asks send 3 77 given [] gives refused_for CHANNEL besides [])
    ∷ (2 asks receive 0 given [] gives refused_for CHANNEL besides [])
    ∷ (2 asks receive 3 given [] gives refused_for CHANNEL besides [])
    ∷ (2 asks choose (1 ∷ 3 ∷ 1 ∷ []) given [] gives refused_for CHANNEL besides [])
    -- "OTHER_END: sender isn't the writer, receiver or chooser isn't the reader"
    ∷ (1 asks send 2 77 given [] gives refused_for OTHER_END besides [])
    ∷ (2 asks send 1 77 given [] gives refused_for OTHER_END besides [])
    ∷ (1 asks receive 1 given [] gives refused_for OTHER_END besides [])
    ∷ (1 asks choose (1 ∷ 3 ∷ []) given [] gives refused_for OTHER_END besides [])
    -- "TWICE: a guard repeats an earlier one"
    ∷ (2 asks choose (1 ∷ 2 ∷ 1 ∷ 3 ∷ []) given [] gives refused_for TWICE besides [])
    ∷ []

-- every request
abbrev pub requests : List Request
requests = send 1 77 ∷ receive 1 ∷ choose (1 ∷ []) ∷ yield ∷ end ∷ []

-- "BUSY: a request, but nothing runs on this core, or the running process still has a request in hand"
abbrev pub on_free_core : Request → Example
on_free_core r = record { given = []; on = 1; ask = a_request r; outcome = refused_for BUSY; items = core # 1 ∷ [] }

abbrev pub with_request_in_hand : Request → Example
with_request_in_hand r =
    record { given = runs_with 2 (doing (wake receiving 1 1)); on = 0; ask = a_request r; outcome = refused_for BUSY; items = own 2 }

abbrev pub busy : List Example
busy = map on_free_core requests ++ map with_request_in_hand requests

-- every kind of call but a set-up
abbrev pub asks : List Ask
asks = the_step ∷ map a_request requests

-- "process p is alone in a batch on core (p-1) mod K, in order of p; all else 0 or none; GO is the outcome to report"
abbrev pub built : State
built =
    record {
      cores =
          a_core (free no_task) [] 0 false ((1 ∷ []) ∷ (4 ∷ []) ∷ []) ∷ a_core (free no_task) [] 0 false ((2 ∷ []) ∷ (5 ∷ []) ∷ [])
          ∷ a_core (free no_task) [] 0 false ((3 ∷ []) ∷ []) ∷ [];
      processes = replicate 5 (a_process queued 0 (due go));
      channels = a_channel 1 2 0 ∷ a_channel 5 3 0 ∷ [];
    }
