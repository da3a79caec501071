-- To wake a process, as its rule says.
use Rattle.std.specs.Prelude.{◌≡◌, ℕ, ◌≤◌, List, Result, Ok, Err}
use Rattle.rules.specs.Numbers.{FAULT}
use Rattle.rules.specs.Packing.{pack, view}
use Rattle.rules.specs.Rule.{Ran, accepted, refused, run}
use Rattle.rules.specs.Steps.{wakes}
use Rattle.answers.specs.declared.Refusal.{Refusal}
use Rattle.answers.specs.declared.Refusal.TheVariants.{Fault}
use Rattle.parts.specs.Does.{Card}

-- core k and process q of a sound table
pub record CanWake (t : List ℕ) (cores processes k q : ℕ) : Type 0 where
  pub card : Card t cores processes k
  pub from_one : 1 ≤ q
  pub inside : q ≤ processes

-- what the rule came to: it is accepted, or it is a fault and the table stays
abbrev pub Woken : Ran (Unit {0}) → List ℕ → Result (Unit {0}) Refusal → List ℕ → Type 0
Woken (accepted x s) t r u = (r ≡ Ok tt) × (u ≡ pack s)
Woken (refused why) t r u = (r ≡ Err Fault) × ((why ≡ FAULT) × (u ≡ t))

-- core k wakes q, if it can, and then u is the table
pub record Wakes (t : List ℕ) (k q : ℕ) (r : Result (Unit {0}) Refusal) (u : List ℕ) : Type 0 where
  pub by_rule : Woken (run (wakes k q) (view t)) t r u
