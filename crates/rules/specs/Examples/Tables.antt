-- Tables by hand, word for word: the one of docs/PACKING.md, and one that holds every kind of progress, task and place.
use Rattle.std.specs.Prelude.{ℕ, true, false}
use mathlib.Core.List.{List, [], ◌∷◌, flat_map}
use Rattle.std.proofs.Math.Option.{some}
use Rattle.rules.specs.State.{running, queued, asleep, ended, sending, receiving, look, park, copy, clear, wake, enable_look, raise, place_name, ready_from_look, ready_from_place, wait, disable, lower, finish, go, sent, got, chose, nothing, doing, due, no_task, trigger, wake_up, runs, free, plain, choosing, State}
use Rattle.rules.specs.Items.{alternation, channel_word}
use Rattle.rules.specs.Examples.Card.{◌of◌is◌, changed, a_core, a_process, a_channel, alternating}

-- docs/PACKING.md, "A table by hand": header, core 0, processes 1 and 2, channel 1
abbrev pub hand_table : List (List ℕ)
hand_table =
    (1 ∷ 2 ∷ 1 ∷ 0 ∷ 0 ∷ 0 ∷ 0 ∷ 0 ∷ [])
    ∷ (0 ∷ 0 ∷ 0 ∷ 0 ∷ 0 ∷ 0 ∷ 3 ∷ 1 ∷ 2 ∷ 2 ∷ 0 ∷ 0 ∷ 0 ∷ 0 ∷ 0 ∷ 0 ∷ [])
    ∷ (3 ∷ 77 ∷ 0 ∷ 0 ∷ 0 ∷ 0 ∷ 21 ∷ 1 ∷ 0 ∷ 0 ∷ 0 ∷ 0 ∷ 0 ∷ 0 ∷ 0 ∷ 0 ∷ 0 ∷ 0 ∷ 0 ∷ 0 ∷ 0 ∷ 0 ∷ 0 ∷ 0 ∷ [])
    ∷ (2 ∷ 0 ∷ 0 ∷ 0 ∷ 0 ∷ 0 ∷ 20 ∷ 0 ∷ 0 ∷ 0 ∷ 0 ∷ 0 ∷ 0 ∷ 0 ∷ 0 ∷ 0 ∷ 0 ∷ 0 ∷ 0 ∷ 0 ∷ 0 ∷ 2 ∷ 1 ∷ 0 ∷ [])
    ∷ (1 ∷ 2 ∷ 2 ∷ 0 ∷ [])
    ∷ []

-- Process p has the progress that is numbered p - 1; 1 runs, 2 to 8 are queued, 25 has ended.
abbrev pub every_kind : State
every_kind =
    changed
    (record {
      cores =
          a_core (runs 1) (2 ∷ 3 ∷ []) 5 true ((4 ∷ 5 ∷ 6 ∷ []) ∷ (7 ∷ []) ∷ [])
          ∷ a_core (free (trigger 12)) [] 32 false []
          ∷ a_core (free (wake_up 13)) [] 0 false []
          ∷ a_core (free no_task) [] 0 false ((8 ∷ []) ∷ [])
          ∷ [];
      processes =
          a_process running 101 nothing
          ∷ a_process queued 102 (doing (look sending 1))
          ∷ a_process queued 103 (doing (park sending 2))
          ∷ a_process queued 104 (doing (copy sending 3 9))
          ∷ a_process queued 105 (doing (clear sending 4 10))
          ∷ a_process queued 106 (doing (wake sending 5 11))
          ∷ a_process queued 107 (doing (look receiving 1))
          ∷ a_process queued 108 (doing (park receiving 2))
          ∷ a_process asleep 109 (doing (copy receiving 3 4))
          ∷ a_process asleep 110 (doing (clear receiving 4 5))
          ∷ a_process asleep 111 (doing (wake receiving 5 6))
          ∷ a_process asleep 112 (doing (enable_look (6 ∷ []) 1))
          ∷ a_process asleep 113 (doing (raise (7 ∷ []) 1))
          ∷ a_process asleep 114 (doing (place_name (8 ∷ []) 1))
          ∷ a_process asleep 115 (doing (ready_from_look (9 ∷ []) 1))
          ∷ a_process asleep 116 (doing (ready_from_place (10 ∷ []) 1))
          ∷ a_process asleep 117 (doing (wait (11 ∷ [])))
          ∷ a_process asleep 118 (doing (disable (23 ∷ 12 ∷ 17 ∷ 18 ∷ 19 ∷ 20 ∷ 21 ∷ 22 ∷ []) 8 (some 3)))
          ∷ a_process asleep 119 (doing (lower (13 ∷ []) 1 (some 1)))
          ∷ a_process asleep 120 (doing (finish (14 ∷ []) (some 1)))
          ∷ a_process asleep 121 (due go)
          ∷ a_process asleep 122 (due (sent 15))
          ∷ a_process asleep 123 (due (got 15))
          ∷ a_process asleep 4294967295 (due (chose 16))
          ∷ a_process ended 125 nothing
          ∷ [];
      channels =
          a_channel 2 7 4294967295 ∷ a_channel 3 8 0 ∷ a_channel 4 9 5 ∷ a_channel 5 10 0 ∷ a_channel 6 11 0
          ∷ a_channel 1 12 0 ∷ a_channel 1 13 0 ∷ a_channel 1 14 0 ∷ a_channel 1 15 0 ∷ a_channel 1 16 0
          ∷ a_channel 1 17 0 ∷ a_channel 1 18 0 ∷ a_channel 1 19 0 ∷ a_channel 1 20 0 ∷ a_channel 22 23 0 ∷ a_channel 22 24 0
          ∷ a_channel 1 18 0 ∷ a_channel 1 18 0 ∷ a_channel 1 18 0 ∷ a_channel 1 18 0 ∷ a_channel 1 18 0 ∷ a_channel 1 18 0 ∷ a_channel 1 18 0
          ∷ [];
    })
    (alternation of 12 is alternating true false false 1 ∷ alternation of 13 is alternating false true false 2
    ∷ alternation of 14 is alternating false false true 9
    ∷ channel_word of 1 is plain 7 ∷ channel_word of 6 is choosing 12 ∷ channel_word of 12 is choosing 18 ∷ [])

-- Header; cores 0 to 3; processes 1 to 25: place, data, flags, count, progress, channel, partner, number of guards, index, first ready,
-- guards, next, last, size, next head; channels 1 to 23.
abbrev pub every_kind_table : List (List ℕ)
every_kind_table =
    (4 ∷ 25 ∷ 23 ∷ 0 ∷ 0 ∷ 0 ∷ 0 ∷ 0 ∷ [])
    ∷ (1 ∷ 0 ∷ 0 ∷ 2 ∷ 3 ∷ 2 ∷ 5 ∷ 1 ∷ 4 ∷ 7 ∷ 0 ∷ 0 ∷ 0 ∷ 0 ∷ 0 ∷ 0 ∷ [])
    ∷ (0 ∷ 1 ∷ 12 ∷ 0 ∷ 0 ∷ 0 ∷ 32 ∷ 0 ∷ 0 ∷ 0 ∷ 0 ∷ 0 ∷ 0 ∷ 0 ∷ 0 ∷ 0 ∷ [])
    ∷ (0 ∷ 2 ∷ 13 ∷ 0 ∷ 0 ∷ 0 ∷ 0 ∷ 0 ∷ 0 ∷ 0 ∷ 0 ∷ 0 ∷ 0 ∷ 0 ∷ 0 ∷ 0 ∷ [])
    ∷ (0 ∷ 0 ∷ 0 ∷ 0 ∷ 0 ∷ 0 ∷ 0 ∷ 0 ∷ 8 ∷ 8 ∷ 0 ∷ 0 ∷ 0 ∷ 0 ∷ 0 ∷ 0 ∷ [])
    ∷ (1 ∷ 101 ∷ 0 ∷ 0 ∷ 0 ∷ 0 ∷ 0 ∷ 0 ∷ 0 ∷ 0 ∷ 0 ∷ 0 ∷ 0 ∷ 0 ∷ 0 ∷ 0 ∷ 0 ∷ 0 ∷ 0 ∷ 0 ∷ 0 ∷ 0 ∷ 0 ∷ 0 ∷ [])
    ∷ (2 ∷ 102 ∷ 0 ∷ 0 ∷ 0 ∷ 0 ∷ 1 ∷ 1 ∷ 0 ∷ 0 ∷ 0 ∷ 0 ∷ 0 ∷ 0 ∷ 0 ∷ 0 ∷ 0 ∷ 0 ∷ 0 ∷ 0 ∷ 3 ∷ 0 ∷ 0 ∷ 0 ∷ [])
    ∷ (2 ∷ 103 ∷ 0 ∷ 0 ∷ 0 ∷ 0 ∷ 2 ∷ 2 ∷ 0 ∷ 0 ∷ 0 ∷ 0 ∷ 0 ∷ 0 ∷ 0 ∷ 0 ∷ 0 ∷ 0 ∷ 0 ∷ 0 ∷ 0 ∷ 0 ∷ 0 ∷ 0 ∷ [])
    ∷ (2 ∷ 104 ∷ 0 ∷ 0 ∷ 0 ∷ 0 ∷ 3 ∷ 3 ∷ 9 ∷ 0 ∷ 0 ∷ 0 ∷ 0 ∷ 0 ∷ 0 ∷ 0 ∷ 0 ∷ 0 ∷ 0 ∷ 0 ∷ 5 ∷ 6 ∷ 3 ∷ 7 ∷ [])
    ∷ (2 ∷ 105 ∷ 0 ∷ 0 ∷ 0 ∷ 0 ∷ 4 ∷ 4 ∷ 10 ∷ 0 ∷ 0 ∷ 0 ∷ 0 ∷ 0 ∷ 0 ∷ 0 ∷ 0 ∷ 0 ∷ 0 ∷ 0 ∷ 6 ∷ 0 ∷ 0 ∷ 0 ∷ [])
    ∷ (2 ∷ 106 ∷ 0 ∷ 0 ∷ 0 ∷ 0 ∷ 5 ∷ 5 ∷ 11 ∷ 0 ∷ 0 ∷ 0 ∷ 0 ∷ 0 ∷ 0 ∷ 0 ∷ 0 ∷ 0 ∷ 0 ∷ 0 ∷ 0 ∷ 0 ∷ 0 ∷ 0 ∷ [])
    ∷ (2 ∷ 107 ∷ 0 ∷ 0 ∷ 0 ∷ 0 ∷ 6 ∷ 1 ∷ 0 ∷ 0 ∷ 0 ∷ 0 ∷ 0 ∷ 0 ∷ 0 ∷ 0 ∷ 0 ∷ 0 ∷ 0 ∷ 0 ∷ 0 ∷ 7 ∷ 1 ∷ 0 ∷ [])
    ∷ (2 ∷ 108 ∷ 0 ∷ 0 ∷ 0 ∷ 0 ∷ 7 ∷ 2 ∷ 0 ∷ 0 ∷ 0 ∷ 0 ∷ 0 ∷ 0 ∷ 0 ∷ 0 ∷ 0 ∷ 0 ∷ 0 ∷ 0 ∷ 0 ∷ 8 ∷ 1 ∷ 0 ∷ [])
    ∷ (3 ∷ 109 ∷ 0 ∷ 0 ∷ 0 ∷ 0 ∷ 8 ∷ 3 ∷ 4 ∷ 0 ∷ 0 ∷ 0 ∷ 0 ∷ 0 ∷ 0 ∷ 0 ∷ 0 ∷ 0 ∷ 0 ∷ 0 ∷ 0 ∷ 0 ∷ 0 ∷ 0 ∷ [])
    ∷ (3 ∷ 110 ∷ 0 ∷ 0 ∷ 0 ∷ 0 ∷ 9 ∷ 4 ∷ 5 ∷ 0 ∷ 0 ∷ 0 ∷ 0 ∷ 0 ∷ 0 ∷ 0 ∷ 0 ∷ 0 ∷ 0 ∷ 0 ∷ 0 ∷ 0 ∷ 0 ∷ 0 ∷ [])
    ∷ (3 ∷ 111 ∷ 0 ∷ 0 ∷ 0 ∷ 0 ∷ 10 ∷ 5 ∷ 6 ∷ 0 ∷ 0 ∷ 0 ∷ 0 ∷ 0 ∷ 0 ∷ 0 ∷ 0 ∷ 0 ∷ 0 ∷ 0 ∷ 0 ∷ 0 ∷ 0 ∷ 0 ∷ [])
    ∷ (3 ∷ 112 ∷ 1 ∷ 0 ∷ 0 ∷ 1 ∷ 11 ∷ 0 ∷ 0 ∷ 1 ∷ 1 ∷ 0 ∷ 6 ∷ 0 ∷ 0 ∷ 0 ∷ 0 ∷ 0 ∷ 0 ∷ 0 ∷ 0 ∷ 0 ∷ 0 ∷ 0 ∷ [])
    ∷ (3 ∷ 113 ∷ 0 ∷ 1 ∷ 0 ∷ 2 ∷ 12 ∷ 0 ∷ 0 ∷ 1 ∷ 1 ∷ 0 ∷ 7 ∷ 0 ∷ 0 ∷ 0 ∷ 0 ∷ 0 ∷ 0 ∷ 0 ∷ 0 ∷ 0 ∷ 0 ∷ 0 ∷ [])
    ∷ (3 ∷ 114 ∷ 0 ∷ 0 ∷ 1 ∷ 9 ∷ 13 ∷ 0 ∷ 0 ∷ 1 ∷ 1 ∷ 0 ∷ 8 ∷ 0 ∷ 0 ∷ 0 ∷ 0 ∷ 0 ∷ 0 ∷ 0 ∷ 0 ∷ 0 ∷ 0 ∷ 0 ∷ [])
    ∷ (3 ∷ 115 ∷ 0 ∷ 0 ∷ 0 ∷ 0 ∷ 14 ∷ 0 ∷ 0 ∷ 1 ∷ 1 ∷ 0 ∷ 9 ∷ 0 ∷ 0 ∷ 0 ∷ 0 ∷ 0 ∷ 0 ∷ 0 ∷ 0 ∷ 0 ∷ 0 ∷ 0 ∷ [])
    ∷ (3 ∷ 116 ∷ 0 ∷ 0 ∷ 0 ∷ 0 ∷ 15 ∷ 0 ∷ 0 ∷ 1 ∷ 1 ∷ 0 ∷ 10 ∷ 0 ∷ 0 ∷ 0 ∷ 0 ∷ 0 ∷ 0 ∷ 0 ∷ 0 ∷ 0 ∷ 0 ∷ 0 ∷ [])
    ∷ (3 ∷ 117 ∷ 0 ∷ 0 ∷ 0 ∷ 0 ∷ 16 ∷ 0 ∷ 0 ∷ 1 ∷ 0 ∷ 0 ∷ 11 ∷ 0 ∷ 0 ∷ 0 ∷ 0 ∷ 0 ∷ 0 ∷ 0 ∷ 0 ∷ 0 ∷ 0 ∷ 0 ∷ [])
    ∷ (3 ∷ 118 ∷ 0 ∷ 0 ∷ 0 ∷ 0 ∷ 17 ∷ 0 ∷ 0 ∷ 8 ∷ 8 ∷ 3 ∷ 23 ∷ 12 ∷ 17 ∷ 18 ∷ 19 ∷ 20 ∷ 21 ∷ 22 ∷ 0 ∷ 0 ∷ 0 ∷ 0 ∷ [])
    ∷ (3 ∷ 119 ∷ 0 ∷ 0 ∷ 0 ∷ 0 ∷ 18 ∷ 0 ∷ 0 ∷ 1 ∷ 1 ∷ 1 ∷ 13 ∷ 0 ∷ 0 ∷ 0 ∷ 0 ∷ 0 ∷ 0 ∷ 0 ∷ 0 ∷ 0 ∷ 0 ∷ 0 ∷ [])
    ∷ (3 ∷ 120 ∷ 0 ∷ 0 ∷ 0 ∷ 0 ∷ 19 ∷ 0 ∷ 0 ∷ 1 ∷ 0 ∷ 1 ∷ 14 ∷ 0 ∷ 0 ∷ 0 ∷ 0 ∷ 0 ∷ 0 ∷ 0 ∷ 0 ∷ 0 ∷ 0 ∷ 0 ∷ [])
    ∷ (3 ∷ 121 ∷ 0 ∷ 0 ∷ 0 ∷ 0 ∷ 20 ∷ 0 ∷ 0 ∷ 0 ∷ 0 ∷ 0 ∷ 0 ∷ 0 ∷ 0 ∷ 0 ∷ 0 ∷ 0 ∷ 0 ∷ 0 ∷ 0 ∷ 0 ∷ 0 ∷ 0 ∷ [])
    ∷ (3 ∷ 122 ∷ 0 ∷ 0 ∷ 0 ∷ 0 ∷ 21 ∷ 15 ∷ 0 ∷ 0 ∷ 0 ∷ 0 ∷ 0 ∷ 0 ∷ 0 ∷ 0 ∷ 0 ∷ 0 ∷ 0 ∷ 0 ∷ 0 ∷ 0 ∷ 0 ∷ 0 ∷ [])
    ∷ (3 ∷ 123 ∷ 0 ∷ 0 ∷ 0 ∷ 0 ∷ 22 ∷ 15 ∷ 0 ∷ 0 ∷ 0 ∷ 0 ∷ 0 ∷ 0 ∷ 0 ∷ 0 ∷ 0 ∷ 0 ∷ 0 ∷ 0 ∷ 0 ∷ 0 ∷ 0 ∷ 0 ∷ [])
    ∷ (3 ∷ 4294967295 ∷ 0 ∷ 0 ∷ 0 ∷ 0 ∷ 23 ∷ 16 ∷ 0 ∷ 0 ∷ 0 ∷ 0 ∷ 0 ∷ 0 ∷ 0 ∷ 0 ∷ 0 ∷ 0 ∷ 0 ∷ 0 ∷ 0 ∷ 0 ∷ 0 ∷ 0 ∷ [])
    ∷ (4 ∷ 125 ∷ 0 ∷ 0 ∷ 0 ∷ 0 ∷ 0 ∷ 0 ∷ 0 ∷ 0 ∷ 0 ∷ 0 ∷ 0 ∷ 0 ∷ 0 ∷ 0 ∷ 0 ∷ 0 ∷ 0 ∷ 0 ∷ 0 ∷ 0 ∷ 0 ∷ 0 ∷ [])
    ∷ (2 ∷ 7 ∷ 14 ∷ 4294967295 ∷ [])
    ∷ (3 ∷ 8 ∷ 0 ∷ 0 ∷ [])
    ∷ (4 ∷ 9 ∷ 0 ∷ 5 ∷ [])
    ∷ (5 ∷ 10 ∷ 0 ∷ 0 ∷ [])
    ∷ (6 ∷ 11 ∷ 0 ∷ 0 ∷ [])
    ∷ (1 ∷ 12 ∷ 25 ∷ 0 ∷ [])
    ∷ (1 ∷ 13 ∷ 0 ∷ 0 ∷ [])
    ∷ (1 ∷ 14 ∷ 0 ∷ 0 ∷ [])
    ∷ (1 ∷ 15 ∷ 0 ∷ 0 ∷ [])
    ∷ (1 ∷ 16 ∷ 0 ∷ 0 ∷ [])
    ∷ (1 ∷ 17 ∷ 0 ∷ 0 ∷ [])
    ∷ (1 ∷ 18 ∷ 37 ∷ 0 ∷ [])
    ∷ (1 ∷ 19 ∷ 0 ∷ 0 ∷ [])
    ∷ (1 ∷ 20 ∷ 0 ∷ 0 ∷ [])
    ∷ (22 ∷ 23 ∷ 0 ∷ 0 ∷ [])
    ∷ (22 ∷ 24 ∷ 0 ∷ 0 ∷ [])
    ∷ (1 ∷ 18 ∷ 0 ∷ 0 ∷ [])
    ∷ (1 ∷ 18 ∷ 0 ∷ 0 ∷ [])
    ∷ (1 ∷ 18 ∷ 0 ∷ 0 ∷ [])
    ∷ (1 ∷ 18 ∷ 0 ∷ 0 ∷ [])
    ∷ (1 ∷ 18 ∷ 0 ∷ 0 ∷ [])
    ∷ (1 ∷ 18 ∷ 0 ∷ 0 ∷ [])
    ∷ (1 ∷ 18 ∷ 0 ∷ 0 ∷ [])
    ∷ []

abbrev pub words_of_rows : List (List ℕ) → List ℕ
words_of_rows rows = flat_map (λ row. row) rows
