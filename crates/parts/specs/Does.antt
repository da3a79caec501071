-- What the code of a step promises: on a sound table it does what its rule says, no more and no less.
use Rattle.std.specs.Prelude.{ℕ, ◌<◌, ◌≡◌, List, T}
use Rattle.rules.specs.Numbers.{Answer, Said, yes_with, no_because}
use Rattle.rules.specs.State.{Stage, doing, runs}
use Rattle.rules.specs.Items.{core_of, process_of}
use Rattle.rules.specs.Rule.{Rule, Ran, accepted, refused, run}
use Rattle.rules.specs.Packing.{pack, view, k_of, n_of}
use Rattle.rules.specs.Soundness.{sound}

-- what is said, x, and the table u are what a rule came to, from the table t
abbrev pub Comes : Ran Answer → List ℕ → Said → List ℕ → Type 0
Comes (accepted a s) t x u = (x ≡ yes_with a) × (u ≡ pack s)
Comes (refused why) t x u = (x ≡ no_because why) × (u ≡ t)

abbrev pub Does : Rule Answer → List ℕ → Said → List ℕ → Type 0
Does rule t x u = Comes (run rule (view t)) t x u

-- a sound table of as many cores and processes, and a core of it
pub record Card (t : List ℕ) (cores processes k : ℕ) : Type 0 where
  pub is_sound : T (sound t)
  pub all_cores : cores ≡ k_of t
  pub all_processes : processes ≡ n_of t
  pub inside : k < cores

-- on core k the process p runs, and is at the stage x of its request
pub record At (t : List ℕ) (cores processes k p : ℕ) (x : Stage) : Type 0 where
  pub card : Card t cores processes k
  pub runs : (core_of (view t) k).work ≡ runs p
  pub stage : (process_of (view t) p).progress ≡ doing x
