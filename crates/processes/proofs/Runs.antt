-- A definition that goes through the places from a on, n of them, as a loop goes through them up to an end.
use Prim.Native.Nat.{ℕ, suc, ◌+◌, ◌-◌, ◌<◌, ◌≤◌}
use mathlib.Core.Path.{◌≡◌, sym, ap, ◌∙◌}
use mathlib.Core.Bool.{Bool}
use native.Mathlib.Omega.{arith}
use native.Mathlib.Numerals.{add-one}

module _ (f : ℕ → ℕ → Bool) (a end : ℕ) where
  one_more : a < end → end - a ≡ suc (end - (a + 1))
  one_more h = omega arith

  -- the place a lets the rest decide
  pub goes_on : a < end → f a (suc (end - (a + 1))) ≡ f (suc a) (end - (a + 1)) → f a (end - a) ≡ f (a + 1) (end - (a + 1))
  goes_on h step = ap (f a) (one_more h) ∙ step ∙ ap (λ i. f i (end - (a + 1))) (sym (add-one a))

  -- the place a decides
  pub stops : (v : Bool) → a < end → f a (suc (end - (a + 1))) ≡ v → f a (end - a) ≡ v
  stops v h step = ap (f a) (one_more h) ∙ step

  -- no place is left
  pub over : end ≤ a → f a (end - a) ≡ f a 0
  over h = ap (f a) (omega arith)
