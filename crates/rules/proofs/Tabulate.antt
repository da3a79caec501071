-- Lists that are built number by number.
use Prim.Native.Nat.{ℕ, zero, suc, ◌+◌, ◌≤◌, ◌<◌}
use mathlib.Core.Path.{◌≡◌, refl, ap, ◌∙◌}
use mathlib.Core.List.{List}
use native.Mathlib.Omega.{arith}
use lib.ListN.{length, get_or}
use lib.Seq.{ext_get_or}
use Rattle.rules.specs.Lists.{nth, tabulate}

module _ {A : Type 0} (f : ℕ → A) where
  -- a list of n members is n long
  pub length_tabulate : (a n : ℕ) → length (tabulate f a n) ≡ n
  length_tabulate a zero = refl
  length_tabulate a (suc n) = ap suc (length_tabulate (suc a) n)

  -- the i-th member
  pub tabulate_at : (a n : ℕ) (d : A) (i : ℕ) → i < n → get_or (tabulate f a n) i d ≡ f (a + i)
  tabulate_at a zero d i b = absurd (omega arith)
  tabulate_at a (suc n) d zero b = ap f (omega arith)
  tabulate_at a (suc n) d (suc i) b = tabulate_at (suc a) n d i (omega arith) ∙ ap f (omega arith)

  -- a list is built again from its members
  pub tabulate_back : (a n : ℕ) (d : A) (l : List A) → n ≡ length l → ((i : ℕ) → i < length l → f (a + i) ≡ get_or l i d)
      → tabulate f a n ≡ l
  tabulate_back a n d l size e =
      ext_get_or d (tabulate f a n) l (length_tabulate a n ∙ size)
      (λ i b. let c : i < n = omega (arith, length_tabulate a n) in tabulate_at a n d i c ∙ e i (omega arith))

  -- the same for members that are counted from 1
  pub tabulate_nth : (n : ℕ) (d : A) (l : List A) → n ≡ length l → ((i : ℕ) → 1 ≤ i → i ≤ length l → f i ≡ nth l i d)
      → tabulate f 1 n ≡ l
  tabulate_nth n d l size e = tabulate_back 1 n d l size (λ i b. let z : 1 + i ≡ suc i = omega arith in ap f z ∙ e (suc i) (omega arith) b)
