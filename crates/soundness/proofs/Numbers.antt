-- What was met, and the numbers that the check's definition has for it.
use Rattle.std.proofs.Common.{ℕ, ◌<◌, ◌≡◌, sym, ap, ◌∙◌, Bool, List, length, get_or, set}
use Rattle.std.proofs.lemmas.List.{map-set, get_or-map}
use Rattle.processes.specs.declared.Met.{Met}
use Rattle.processes.specs.Met.{met_number, met_numbers}
use Rattle.fitting.specs.Twin.{process_fits}

module _ (met : List Met) where
  pub numbers_set : (p : ℕ) (how : Met) → met_numbers (set met p how) ≡ set (met_numbers met) p (met_number how)
  numbers_set p how = map-set met_number met p how

  -- r is what the test of process p answered
  pub by_number : (t : List ℕ) (K N M p : ℕ) (other : Met) (r : Bool) → p < length met
      → r ≡ process_fits t K N M p (met_number (get_or met p other)) → process_fits t K N M p (get_or (met_numbers met) p 0) ≡ r
  by_number t K N M p other r inside e = ap (process_fits t K N M p) (get_or-map met_number met p other 0 inside) ∙ sym e
