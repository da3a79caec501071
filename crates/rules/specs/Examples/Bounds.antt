-- What makes a state valid: for each condition a state that just meets it, beside one that breaks it and no other.
use Rattle.std.specs.Prelude.{ℕ, Bool, true, false, List, [], ◌∷◌, ◌++◌, replicate}
use Rattle.std.proofs.Math.Option.{none, some}
use Rattle.rules.specs.Lists.{from}
use Rattle.rules.specs.State.{running, queued, asleep, ended, sending, receiving, look, park, copy, clear, wake, enable_look, raise, place_name, ready_from_look, ready_from_place, wait, disable, lower, finish, go, sent, got, chose, Progress, nothing, doing, due, no_task, trigger, wake_up, runs, free, plain, choosing, State}
use Rattle.rules.specs.Items.{core, place, data_word, alternation, progress, channel_word, transfers}
use Rattle.rules.specs.Soundness.{valid}
use Rattle.rules.specs.Examples.Card.{Change, ◌of◌is◌, changed, a_core, a_process, a_channel, alternating, core_with, card, runs_with}

infix 1 ◌but_not◌
pub record Bound : Type 0 where
  pub inside : State
  pub outside : State

-- the card with these changes is valid, with those it isn't
abbrev pub ◌but_not◌ : List Change → List Change → Bound
l but_not m = record { inside = changed card l; outside = changed card m }

-- what process 1 or 2 has in hand
abbrev pub one : Progress → List Change
one x = progress of 1 is x ∷ []

abbrev pub two : Progress → List Change
two x = progress of 2 is x ∷ []

-- k cores that do nothing, n sleeping processes, channels from 1 to 2
abbrev pub sized : ℕ → ℕ → ℕ → State
sized k n m =
    record {
      cores = replicate k (a_core (free no_task) [] 0 false []);
      processes = replicate n (a_process asleep 0 (due go));
      channels = replicate m (a_channel 1 2 0);
    }

-- process 2 reads nine channels, and chooses
abbrev pub chooses_over : List ℕ → State
chooses_over gs = changed (sized 1 2 9) (progress of 2 is doing (wait gs) ∷ [])

-- a channel of two processes, from a to b
abbrev pub wired : ℕ → ℕ → State
wired a b = record { cores = (sized 1 2 0).cores; processes = (sized 1 2 0).processes; channels = a_channel a b 0 ∷ [] }

-- "K 1 to 8, N 1 to 256, M 0 to 256, 1 to 8 guards"; "writer and reader of a channel differ"
abbrev pub size_bounds : List Bound
size_bounds =
    record { inside = sized 1 2 0; outside = sized 0 2 0 }
    ∷ record { inside = sized 8 2 0; outside = sized 9 2 0 }
    ∷ record { inside = sized 1 1 0; outside = sized 1 0 0 }
    ∷ record { inside = sized 1 256 0; outside = sized 1 257 0 }
    ∷ record { inside = sized 1 2 256; outside = sized 1 2 257 }
    ∷ record { inside = chooses_over (1 ∷ []); outside = chooses_over [] }
    ∷ record { inside = chooses_over (from 1 8); outside = chooses_over (from 1 9) }
    ∷ record { inside = wired 1 2; outside = wired 0 2 }
    ∷ record { inside = wired 2 1; outside = wired 3 1 }
    ∷ record { inside = wired 2 1; outside = wired 2 0 }
    ∷ record { inside = wired 1 2; outside = wired 1 3 }
    ∷ record { inside = wired 1 2; outside = wired 2 2 }
    ∷ []

-- "every number is in its range"
abbrev pub number_bounds : List Bound
number_bounds =
    ((data_word of 1 is 4294967295 ∷ []) but_not (data_word of 1 is 4294967296 ∷ []))
    ∷ ((transfers of 1 is 4294967295 ∷ []) but_not (transfers of 1 is 4294967296 ∷ []))
    ∷ ((alternation of 1 is alternating false false false 9 ∷ []) but_not (alternation of 1 is alternating false false false 10 ∷ []))
    ∷ ((core of 1 is a_core (free no_task) [] 32 false [] ∷ []) but_not (core of 1 is a_core (free no_task) [] 33 false [] ∷ []))
    ∷ ((core of 0 is core_with (free (trigger 1)) ∷ []) but_not (core of 0 is core_with (free (trigger 0)) ∷ []))
    ∷ ((core of 0 is core_with (free (trigger 6)) ∷ []) but_not (core of 0 is core_with (free (trigger 7)) ∷ []))
    ∷ ((core of 0 is core_with (free (wake_up 1)) ∷ []) but_not (core of 0 is core_with (free (wake_up 0)) ∷ []))
    ∷ ((core of 0 is core_with (free (wake_up 6)) ∷ []) but_not (core of 0 is core_with (free (wake_up 7)) ∷ []))
    ∷ ([] but_not (core of 0 is core_with (runs 7) ∷ []))
    ∷ ([] but_not (core of 1 is a_core (free no_task) (7 ∷ []) 0 false [] ∷ []))
    ∷ ([] but_not (core of 1 is a_core (free no_task) [] 0 false ((0 ∷ []) ∷ []) ∷ []))
    ∷ ((channel_word of 1 is plain 1 ∷ []) but_not (channel_word of 1 is plain 0 ∷ []))
    ∷ ((channel_word of 1 is plain 6 ∷ []) but_not (channel_word of 1 is plain 7 ∷ []))
    ∷ ((channel_word of 1 is choosing 1 ∷ []) but_not (channel_word of 1 is choosing 0 ∷ []))
    ∷ ((channel_word of 1 is choosing 6 ∷ []) but_not (channel_word of 1 is choosing 7 ∷ []))
    ∷ []

-- "each channel in a progress is one whose proper end that process is, guards are distinct, guard index and first ready guard (or none)
-- lie in their list"
abbrev pub progress_bounds : List Bound
progress_bounds =
    (one (doing (look sending 1)) but_not one (doing (look sending 0)))
    ∷ (two (doing (look receiving 2)) but_not two (doing (look receiving 3)))
    ∷ (one (doing (park sending 1)) but_not one (doing (park sending 2)))
    ∷ (two (doing (park receiving 1)) but_not one (doing (park receiving 1)))
    ∷ (one (doing (copy sending 1 1)) but_not one (doing (copy sending 1 0)))
    ∷ (two (doing (copy receiving 1 6)) but_not two (doing (copy sending 1 6)))
    ∷ (one (doing (clear sending 1 6)) but_not one (doing (clear sending 1 7)))
    ∷ (two (doing (clear receiving 2 1)) but_not two (doing (clear receiving 0 1)))
    ∷ (one (doing (wake sending 1 1)) but_not one (doing (wake sending 1 0)))
    ∷ (two (doing (wake receiving 2 6)) but_not two (doing (wake receiving 3 6)))
    ∷ (two (doing (enable_look (1 ∷ 2 ∷ []) 1)) but_not two (doing (enable_look (1 ∷ 2 ∷ []) 0)))
    ∷ (two (doing (raise (2 ∷ 1 ∷ []) 2)) but_not two (doing (raise (2 ∷ 1 ∷ []) 3)))
    ∷ (two (doing (place_name (1 ∷ []) 1)) but_not two (doing (place_name (1 ∷ 1 ∷ []) 1)))
    ∷ (two (doing (ready_from_look (2 ∷ []) 1)) but_not two (doing (ready_from_look (3 ∷ []) 1)))
    ∷ (two (doing (ready_from_place (2 ∷ []) 1)) but_not one (doing (ready_from_place (1 ∷ []) 1)))
    ∷ (two (doing (wait (1 ∷ 2 ∷ []))) but_not two (doing (wait (1 ∷ 2 ∷ 1 ∷ []))))
    ∷ (two (doing (disable (1 ∷ 2 ∷ []) 2 none)) but_not two (doing (disable (1 ∷ 2 ∷ []) 3 none)))
    ∷ (two (doing (disable (1 ∷ 2 ∷ []) 2 (some 1))) but_not two (doing (disable (1 ∷ 2 ∷ []) 2 (some 0))))
    ∷ (two (doing (disable (1 ∷ 2 ∷ []) 1 none)) but_not two (doing (disable (1 ∷ 0 ∷ []) 1 none)))
    ∷ (two (doing (lower (1 ∷ 2 ∷ []) 1 (some 2))) but_not two (doing (lower (1 ∷ 2 ∷ []) 0 (some 2))))
    ∷ (two (doing (lower (1 ∷ 2 ∷ []) 2 (some 2))) but_not two (doing (lower (1 ∷ 2 ∷ []) 2 (some 3))))
    ∷ (two (doing (finish (1 ∷ 2 ∷ []) (some 2))) but_not two (doing (finish (1 ∷ 2 ∷ []) (some 3))))
    ∷ (two (doing (finish (1 ∷ 2 ∷ []) none)) but_not two (doing (finish [] none)))
    ∷ (one (due (sent 1)) but_not one (due (sent 2)))
    ∷ (two (due (got 1)) but_not one (due (got 1)))
    ∷ (two (due (chose 2)) but_not one (due (chose 1)))
    ∷ []

-- core 1 runs process 1
abbrev pub one_on_core_1 : List Change
one_on_core_1 = core of 1 is a_core (runs 1) [] 0 false [] ∷ []

-- "each process is in exactly one place: running on one core, once in one queue, asleep, or ended. A running process has nothing in hand
-- or a stage; a queued or sleeping one has a stage or an outcome; an ended one has nothing in hand." "non-empty batches"
abbrev pub place_bounds : List Bound
place_bounds =
    (runs_with 1 nothing but_not runs_with 1 (due go))
    ∷ (runs_with 1 (doing (look sending 1)) but_not (runs_with 1 nothing ++ one_on_core_1))
    ∷ ([] but_not (place of 1 is running ∷ progress of 1 is nothing ∷ []))
    ∷ ([] but_not one_on_core_1)
    ∷ ([] but_not (place of 1 is queued ∷ []))
    ∷ ([] but_not (place of 4 is asleep ∷ []))
    ∷ ([] but_not (place of 4 is ended ∷ progress of 4 is nothing ∷ []))
    ∷ ([] but_not (core of 1 is a_core (runs 6) [] 0 false [] ∷ []))
    ∷ ([] but_not (core of 1 is a_core (free no_task) (4 ∷ []) 0 false [] ∷ []))
    ∷ ([] but_not (core of 1 is a_core (free no_task) [] 0 false ((5 ∷ []) ∷ []) ∷ []))
    ∷ ([] but_not (core of 0 is a_core (free no_task) (4 ∷ 4 ∷ []) 3 true ((5 ∷ []) ∷ []) ∷ []))
    ∷ ([] but_not (core of 1 is a_core (runs 4) [] 0 false [] ∷ []))
    ∷ ([] but_not (runs_with 4 nothing))
    ∷ ((progress of 4 is due go ∷ []) but_not (progress of 4 is nothing ∷ []))
    ∷ ((place of 1 is queued ∷ core of 1 is a_core (free no_task) (1 ∷ []) 0 false [] ∷ one (doing (look sending 1))) but_not one nothing)
    ∷ ((place of 1 is ended ∷ one nothing) but_not (place of 1 is ended ∷ one (doing (look sending 1))))
    ∷ ([] but_not (place of 1 is ended ∷ one (due go)))
    ∷ ([] but_not (core of 1 is a_core (free no_task) [] 0 false ([] ∷ []) ∷ []))
    ∷ []

abbrev pub tested : Bound → List Bool
tested b = valid b.inside ∷ valid b.outside ∷ []
