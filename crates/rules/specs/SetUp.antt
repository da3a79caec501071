-- Document 01, "Set-up": the state that it builds, and when it is refused.
use Rattle.std.specs.Prelude.{ℕ, ◌*◌, ◌-◌, ◌%◌, Bool, false, ◌&&◌, List, [], ◌∷◌, map, eqb, length, if◌then◌else◌}
use Rattle.std.proofs.Math.Option.{Option, none, some}
use Rattle.rules.specs.Lists.{within, tabulate, from}
use Rattle.rules.specs.Numbers.{Refusal, SIZE, PAIRS, ROOM, NAME, SELF}
use Rattle.rules.specs.State.{queued, go, due, Process, free, no_task, Core, Ends, nobody, Channel, State}
use Rattle.rules.specs.Items.{no_alternation}
use Rattle.rules.specs.Layout.{room}

-- "K 1 to 8, N 1 to 256, M 0 to 256"
abbrev pub sizes : ℕ → ℕ → ℕ → Bool
sizes k n m = within 1 8 k && within 1 256 n && within 0 256 m

-- the list of (writer, reader): writer of channel 1, reader of channel 1, writer of channel 2, ..
abbrev pub ends_of : List ℕ → List Ends
ends_of [] = []
ends_of (w ∷ []) = []
ends_of (w ∷ (r ∷ rest)) = record { writer = w; reader = r } ∷ ends_of rest

-- "then channel by channel 23, 24"
abbrev pub proper_pairs : ℕ → List Ends → Option Refusal
proper_pairs n [] = none
proper_pairs n (e ∷ rest) =
    if within 1 n e.writer && within 1 n e.reader
    then (if eqb e.writer e.reader then some SELF else proper_pairs n rest)
    else some NAME

-- "Order: set-up 20, 21, 22, then channel by channel 23, 24." The table is given by its length: what it held doesn't matter.
abbrev pub set_up_refusal : ℕ → ℕ → ℕ → List ℕ → ℕ → Option Refusal
set_up_refusal k n m pairs size =
    if sizes k n m
    then (if eqb (length pairs) (2 * m)
    then (if eqb size (room k n m) then proper_pairs n (ends_of pairs) else some ROOM)
    else some PAIRS)
    else some SIZE

-- "process p is alone in a batch on core (p-1) mod K, in order of p"
abbrev pub its_batches : ℕ → ℕ → List ℕ → List (List ℕ)
its_batches k j [] = []
its_batches k j (p ∷ rest) = if eqb ((p - 1) % k) j then ((p ∷ []) ∷ its_batches k j rest) else its_batches k j rest

-- "all else 0 or none; GO is the outcome to report, the same outcome as after a yield"
abbrev pub new_core : ℕ → ℕ → ℕ → Core
new_core k n j = record { work = free no_task; active = []; dispatch = 0; mark = false; run_queue = its_batches k j (from 1 n) }

abbrev pub new_process : ℕ → Process
new_process p = record { place = queued; data_word = 0; alternation = no_alternation; progress = due go }

abbrev pub new_channel : Ends → Channel
new_channel e = record { ends = e; word = nobody; transfers = 0 }

abbrev pub set_up_state : ℕ → ℕ → List ℕ → State
set_up_state k n pairs =
    record { cores = tabulate (new_core k n) 0 k; processes = tabulate new_process 1 n; channels = map new_channel (ends_of pairs) }
