-- The words of a part of a table are all 0 where they are one by one.
use Rattle.std.proofs.Common.{ℕ, suc, zero, ◌+◌, ◌<◌, ◌≤◌, ◌≡◌, refl, Bool, true, false, ◌&&◌, List, length, get_or, drop, take, arith}
use Rattle.std.specs.List.{fold}
use Rattle.std.proofs.Math.Seq.{drop-cons}
use Rattle.fitting.specs.Twin.{zeros}
use lib.Dec.{eqb}

module _ (t : List ℕ) where
  -- with what was found of the words before
  found : (all : Bool) (n at : ℕ) → at + n ≤ length t → fold (λ all w. all && eqb w 0) all (take n (drop at t)) ≡ (all && zeros t at n)
  found true zero at fits = refl
  found false zero at fits = refl
  found true (suc n) at fits = let here : at < length t = omega arith in rw (drop-cons t at 0 here) (found (eqb (get_or t at 0) 0) n (suc at) (omega arith))
  found false (suc n) at fits = let here : at < length t = omega arith in rw (drop-cons t at 0 here) (found false n (suc at) (omega arith))

  pub all_zero : (at n k : ℕ) → k ≡ n → at + n ≤ length t → fold (λ all w. all && eqb w 0) true (take k (drop at t)) ≡ zeros t at n
  all_zero at n k e fits = rw e (found true n at fits)
