-- docs/PACKING.md, "Progress, with the words that mean something": those of a process's words from channel to next that its progress uses.
use Rattle.std.specs.Prelude.{ℕ, List, [], ◌∷◌, length}
use Rattle.rules.specs.Lists.{from}
use Rattle.rules.specs.State.{Progress}
use Rattle.rules.specs.Layout.{process_channel, process_partner, process_guards, process_index, process_first_ready, process_first_guard}
use Rattle.rules.specs.Packing.{Carried, bare, channel_only, channel_partner, guards_only, guards_index, guards_index_ready, guards_ready, packed_as}

-- "guards": how many there are, and a word for each
abbrev pub guards_used : List ℕ → List ℕ
guards_used gs = process_guards ∷ from process_first_guard (length gs)

abbrev pub used_by : Carried → List ℕ
used_by bare = []
used_by (channel_only c) = process_channel ∷ []
used_by (channel_partner c q) = process_channel ∷ process_partner ∷ []
used_by (guards_only gs) = guards_used gs
used_by (guards_index gs i) = process_index ∷ guards_used gs
used_by (guards_index_ready gs i r) = process_index ∷ process_first_ready ∷ guards_used gs
used_by (guards_ready gs r) = process_first_ready ∷ guards_used gs

abbrev pub used_words : Progress → List ℕ
used_words x = used_by (packed_as x).1
