-- What the steps of send and receive write, for each end of a channel.
use Rattle.std.specs.Prelude.{ℕ, ◌+◌, ◌%◌, List, slice_index, slice_set}
use Rattle.rules.specs.State.{Way, sending, receiving}
use Rattle.rules.specs.Layout.{process_at, channel_at, process_data, channel_transfers, due_sent, due_got}

-- the number of the outcome: SENT or GOT
abbrev pub due_of : Way → ℕ
due_of sending = due_sent
due_of receiving = due_got

-- a sender p writes its data word into the partner q's, a receiver takes the partner's into its own
abbrev pub copied : Way → List ℕ → ℕ → ℕ → ℕ → List ℕ
copied sending t cores p q = slice_set t (process_at cores q process_data) (slice_index t (process_at cores p process_data))
copied receiving t cores p q = slice_set t (process_at cores p process_data) (slice_index t (process_at cores q process_data))

-- channel c has counted one transfer more, modulo two to the 32
abbrev pub counted : List ℕ → ℕ → ℕ → ℕ → List ℕ
counted t cores processes c =
    let count = channel_at cores processes c channel_transfers in
    slice_set t count ((slice_index t count + 1) % 4294967296)
