-- The numbers that the check's definition has for what was met of a process.
use Rattle.std.specs.Prelude.{ℕ, List, map}
use Rattle.processes.specs.declared.Met.{Met}
use Rattle.processes.specs.declared.Met.TheVariants.{Unmet, Running, Queued, Head}

abbrev pub met_number : Met → ℕ
met_number Unmet = 0
met_number Running = 1
met_number Queued = 2
met_number Head = 3

abbrev pub met_numbers : List Met → List ℕ
met_numbers met = map met_number met
