-- The guards of a progress one by one, as the code looks at them.
use Rattle.std.proofs.Common.{ℕ, suc, zero, ◌+◌, ◌-◌, ◌<◌, ◌≤◌, ◌≡◌, refl, ap, ◌∙◌, Bool, true, false, ◌||◌, List, length, drop, take, arith}
use Rattle.std.specs.List.{list_any}
use Rattle.std.proofs.Math.Seq.{drop-cons}
use native.Mathlib.Numerals.{add-one}
use lib.Dec.{eqb}
use Rattle.rules.specs.Layout.{channel_reader}
use Rattle.fitting.specs.Twin.{word, end_fits, stands_among, guards_fit}
use Rattle.processes.proofs.Runs.{goes_on, stops}

stands : (t : List ℕ) (x n a : ℕ) → a + n ≤ length t → list_any (λ y. eqb y x) (take n (drop a t)) ≡ stands_among t x a n
stands t x zero a fits = refl
stands t x (suc n) a fits =
    let here : a < length t = omega arith in
    rw (drop-cons t a 0 here) (ap (λ b. eqb (word t a) x || b) (stands t x n (suc a) (omega arith)))

-- One guard more: it stands again behind, or the guards behind it decide.
module _ (t : List ℕ) (K N M p a end : ℕ) (more : a < end) (fits : end ≤ length t) (own : end_fits t K N M p channel_reader (word t a) ≡ true) where
  abbrev guards : ℕ → ℕ → Bool
  guards = guards_fit t K N M p

  -- whether it stands among those behind it
  abbrev again : Bool
  again = list_any (λ y. eqb y (word t a)) (take (end - (a + 1)) (drop (a + 1) t))

  again_is : again ≡ stands_among t (word t a) (suc a) (end - (a + 1))
  again_is = stands t (word t a) (end - (a + 1)) (a + 1) (omega arith) ∙ ap (λ i. stands_among t (word t a) i (end - (a + 1))) (add-one a)

  pub twice : again ≡ true → guards a (end - a) ≡ false
  twice e = stops guards a end false more (rw (own, ← again_is, e))

  pub once : again ≡ false → guards a (end - a) ≡ guards (a + 1) (end - (a + 1))
  once e = goes_on guards a end more (rw (own, ← again_is, e))
