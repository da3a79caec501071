use Rattle.std.specs.Prelude.{ℕ, ◌+◌, ◌-◌, ◌*◌, ◌==◌, if◌then◌else◌, List, length, slice_index}
use Rattle.std.specs.List.{list_any}
use Rattle.layout.specs.declared.TheConstants.{HEADER_SIZE, CORE_STRIDE, PROCESS_STRIDE, CHANNEL_STRIDE, HEADER_CORES, HEADER_PROCESSES, HEADER_CHANNELS}
use Rattle.script.specs.Numbers.{numbers_of}

-- how many words a table of these sizes has
abbrev pub room_of : ℕ → ℕ → ℕ → ℕ
room_of cores processes channels =
    HEADER_SIZE + CORE_STRIDE * cores + PROCESS_STRIDE * processes + CHANNEL_STRIDE * channels

-- how many words a table has by its header
abbrev pub length_by_header : List ℕ → ℕ
length_by_header t = room_of (slice_index t HEADER_CORES) (slice_index t HEADER_PROCESSES) (slice_index t HEADER_CHANNELS)

-- the length that numbers say, of a text with a minus sign or without one
abbrev pub length_of : List ℕ → List ℕ → ℕ
length_of text numbers =
    let room = room_of (slice_index numbers 0) (slice_index numbers 1) (slice_index numbers 2) in
    if length numbers == 0 then 0 else
    if list_any (λ b. b == 45) text then room - slice_index numbers 3 else room + slice_index numbers 3

-- the length that a text says
abbrev pub length_said : List ℕ → ℕ
length_said text = length_of text (numbers_of text)
