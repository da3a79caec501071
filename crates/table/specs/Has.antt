-- The table reaches to the end of the words of a core, of a process, of a channel, among as many cores and processes. (Said in clauses and
-- held by no type: it is of a record and the slice that the host lends, which a type that held it would have to hold.)
use Rattle.std.specs.Prelude.{ℕ, ◌≤◌, ◌≡◌, List, length}
use Rattle.rules.specs.Layout.{core_stride, process_stride, channel_stride, core_at, process_at, channel_at, room}
use Rattle.table.specs.declared.Sizes.{Sizes}
use Rattle.table.specs.declared.Process.{Process}

-- core k
pub record HasCore (t : List ℕ) (k : ℕ) : Type 0 where
  pub reaches : core_at k core_stride ≤ length t

-- process p
pub record HasProcess (t : List ℕ) (cores p : ℕ) : Type 0 where
  pub from_one : 1 ≤ p
  pub reaches : process_at cores p process_stride ≤ length t

-- channel c
pub record HasChannel (t : List ℕ) (cores processes c : ℕ) : Type 0 where
  pub from_one : 1 ≤ c
  pub reaches : channel_at cores processes c channel_stride ≤ length t

-- the table is one of these sizes
abbrev pub IsOfSizes : List ℕ → Sizes → Type 0
IsOfSizes t sizes = length t ≡ room sizes.cores sizes.processes sizes.channels

-- the table is one of the process's sizes, and the process is one of it
pub record IsProcessOf (t : List ℕ) (p : Process) : Type 0 where
  pub sized : IsOfSizes t p.sizes
  pub from_one : 1 ≤ p.number
  pub inside : p.number ≤ p.sizes.processes
