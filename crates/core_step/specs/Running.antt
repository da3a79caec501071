-- A core on which a process runs, or none does, on a sound table.
use Rattle.std.specs.Prelude.{ℕ, ◌≡◌, List, get_or}
use Rattle.std.proofs.Math.Option.{Option}
use Rattle.rules.specs.State.{Way, Stage, look, park, copy, clear, wake, enable_look, raise, place_name, ready_from_look, ready_from_place, wait, disable, lower, finish, runs}
use Rattle.rules.specs.Items.{core_of}
use Rattle.rules.specs.Layout.{core_at, core_runs}
use Rattle.rules.specs.Packing.{view}
use Rattle.layout.specs.declared.progress.Exchange.{Exchange}
use Rattle.layout.specs.declared.progress.Exchange.TheVariants.{Look, Park, Copy, Clear, Wake}
use Rattle.layout.specs.declared.progress.Choice.{Choice}
use Rattle.layout.specs.declared.progress.Choice.TheVariants.{EnableLook, Raise, PlaceName, ReadyFromLook, ReadyFromPlace, Wait, Disable, Lower, Finish}
use Rattle.guards.specs.Read.{guards_at, index_at, ready_at}
use Rattle.table.specs.Has.{HasCore, HasProcess}
use Rattle.parts.specs.Does.{Card}

-- process p runs on core k
pub record Running (t : List ℕ) (cores processes k p : ℕ) : Type 0 where
  pub card : Card t cores processes k
  pub work : (core_of (view t) k).work ≡ runs p
  pub process : HasProcess t cores p

-- the stage of send or receive that the code calls so, at channel c, with partner q
abbrev pub exchanged : Way → Exchange → (c q : ℕ) → Stage
exchanged w Look c q = look w c
exchanged w Park c q = park w c
exchanged w Copy c q = copy w c q
exchanged w Clear c q = clear w c q
exchanged w Wake c q = wake w c q

-- the stage of choose that the code calls so, with these guards, at the index i, with the first ready guard r
abbrev pub chosen : Choice → List ℕ → ℕ → Option ℕ → Stage
chosen EnableLook gs i r = enable_look gs i
chosen Raise gs i r = raise gs i
chosen PlaceName gs i r = place_name gs i
chosen ReadyFromLook gs i r = ready_from_look gs i
chosen ReadyFromPlace gs i r = ready_from_place gs i
chosen Wait gs i r = wait gs
chosen Disable gs i r = disable gs i r
chosen Lower gs i r = lower gs i r
chosen Finish gs i r = finish gs r

-- of process p, as its words say
abbrev pub chosen_by : List ℕ → (cores p : ℕ) → Choice → Stage
chosen_by t cores p x = chosen x (guards_at t cores p) (index_at t cores p) (ready_at t cores p)

-- nothing runs on core k
pub record Idle (t : List ℕ) (cores processes k : ℕ) : Type 0 where
  pub card : Card t cores processes k
  pub core : HasCore t k
  pub nobody : get_or t (core_at k core_runs) 0 ≡ 0
