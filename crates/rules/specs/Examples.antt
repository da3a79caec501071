-- Examples, computed: every stage, task, request and step of a core in each of its cases, with its whole list of touched items; what makes
-- a state valid, from both sides; tables by hand.
pub mod Card
pub mod Exchange
pub mod Choosing
pub mod Scheduling
pub mod Asking
pub mod Bounds
pub mod Tables
pub mod Reached
use Rattle.std.specs.Prelude.{◌≡◌, true, false, List, [], ◌∷◌, map}
use Rattle.rules.specs.SetUp.{set_up_state}
use Rattle.rules.specs.Packing.{pack}
use Rattle.rules.specs.Calls.{Ask}
use Rattle.rules.specs.Touched.{touched}
use Rattle.rules.specs.BenchSheet.{after, pair, one_parks}
use Rattle.rules.specs.Examples.Card.{card, Example, seen, said}
use Rattle.rules.specs.Examples.Exchange.{exchange}
use Rattle.rules.specs.Examples.Choosing.{enabled, disabled, tasks}
use Rattle.rules.specs.Examples.Scheduling.{scheduled}
use Rattle.rules.specs.Examples.Asking.{asked, busy, asks, built}
use Rattle.rules.specs.Examples.Bounds.{Bound, size_bounds, number_bounds, progress_bounds, place_bounds, tested}
use Rattle.rules.specs.Examples.Tables.{hand_table, every_kind, every_kind_table, words_of_rows}

abbrev pub Hold : List Example → Type 0
Hold l = map seen l ≡ map said l

abbrev pub Bounded : List Bound → Type 0
Bounded l = map tested l ≡ map (λ (b : Bound). true ∷ false ∷ []) l

pub record Examples : Type 0 where
  pub of_exchange : Hold exchange
  pub of_enabling : Hold enabled
  pub of_disabling : Hold disabled
  pub of_tasks : Hold tasks
  pub of_scheduling : Hold scheduled
  pub of_requests : Hold asked
  pub of_busy : Hold busy
  pub of_set_up : set_up_state 3 5 (1 ∷ 2 ∷ 5 ∷ 3 ∷ []) ≡ built
  -- "A call naming a core that doesn't exist touches nothing."
  pub without_core : map (touched card 2) asks ≡ map (λ (a : Ask). []) asks
  pub of_sizes : Bounded size_bounds
  pub of_numbers : Bounded number_bounds
  pub of_progress : Bounded progress_bounds
  pub of_places : Bounded place_bounds
  pub table_by_hand : after (pair 1) one_parks ≡ words_of_rows hand_table
  pub table_of_every_kind : pack every_kind ≡ words_of_rows every_kind_table
