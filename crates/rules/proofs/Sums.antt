-- Sums over a list: of one replaced, of two joined, how one sum bounds or determines another; and a list of distinct numbers of
-- 1 to N, which is at most N long.
use Prim.Native.Nat.{ℕ, zero, suc, ◌+◌, ◌-◌, ◌≤◌, ◌<◌}
use mathlib.Core.Path.{◌≡◌, refl, sym, ap}
use mathlib.Core.Bool.{Bool, true, false}
use mathlib.Core.List.{List, [], ◌∷◌, ◌++◌, map}
use native.Mathlib.Omega.{arith}
use lib.Dec.{eqb, leb}
use lib.ListN.{length, get_or, set}
use borrow.Author.Tests.{leb-true, leb-false, eq-eqb, ne_eqb}
use Rattle.rules.specs.Lists.{total, from, bit, times}
use Rattle.rules.proofs.Tabulate.{length_tabulate, tabulate_at}

module _ {A : Type 0} (f : A → ℕ) where
  -- one of the list replaced: the new sum and the old one differ as the two do
  pub total_set : (l : List A) (k : ℕ) (v d : A) → k < length l → total f (set l k v) + f (get_or l k d) ≡ total f l + f v
  total_set [] k v d h = omega arith
  total_set (x ∷ xs) zero v d h = omega arith
  total_set (x ∷ xs) (suc k) v d h = omega (arith, total_set xs k v d (omega arith))

  -- the sum over two lists joined
  pub total_append : (l m : List A) → total f (l ++ m) ≡ total f l + total f m
  total_append [] m = omega arith
  total_append (x ∷ xs) m = omega (arith, total_append xs m)

module _ {A : Type 0} where
  -- a sum of numbers that are nowhere greater is no greater
  pub total_le : (f g : A → ℕ) (d : A) (l : List A) → ((i : ℕ) → i < length l → f (get_or l i d) ≤ g (get_or l i d))
      → total f l ≤ total g l
  total_le f g d [] le = omega arith
  total_le f g d (x ∷ xs) le = omega (arith, le 0 (omega arith), total_le f g d xs (λ i b. le (suc i) (omega arith)))

  -- a term is no greater than the sum
  pub term_le_total : (f : A → ℕ) (l : List A) (d : A) (i : ℕ) → i < length l → f (get_or l i d) ≤ total f l
  term_le_total f [] d i b = absurd (omega arith)
  term_le_total f (x ∷ xs) d zero b = omega arith
  term_le_total f (x ∷ xs) d (suc i) b = omega (arith, term_le_total f xs d i (omega arith))

  -- a sum that isn't 0 has a term that isn't
  pub positive_term : (f : A → ℕ) (l : List A) (d : A) → 1 ≤ total f l → (i : ℕ) × (i < length l) × (1 ≤ f (get_or l i d))
  positive_term f [] d h = absurd (omega arith)
  positive_term f (x ∷ xs) d h = cases (leb 1 (f x)) refl (positive_term f xs d)
    where
      cases : (t : Bool) → leb 1 (f x) ≡ t → (1 ≤ total f xs → (i : ℕ) × (i < length xs) × (1 ≤ f (get_or xs i d)))
          → (i : ℕ) × (i < length (x ∷ xs)) × (1 ≤ f (get_or (x ∷ xs) i d))
      cases true q rest = (0, omega arith, leb-true 1 (f x) q)
      cases false q rest = let r = rest (omega (arith, leb-false 1 (f x) q)) in (suc r.0, omega arith, r.2)

  -- the sum of two numbers for each
  pub total_add : (f g : A → ℕ) (l : List A) → total (λ a. f a + g a) l ≡ total f l + total g l
  total_add f g [] = refl
  total_add f g (x ∷ xs) = omega (arith, total_add f g xs)

  -- the sum of 1 for each
  pub total_one : (l : List A) → total (λ a. 1) l ≡ length l
  total_one [] = refl
  total_one (x ∷ xs) = omega (arith, total_one xs)

  -- where f adds up to 0, so does g, which is 0 wherever f is
  pub total_zero : (f g : A → ℕ) → ((a : A) → f a ≡ 0 → g a ≡ 0) → (l : List A) → total f l ≡ 0 → total g l ≡ 0
  total_zero f g follow [] e = refl
  total_zero f g follow (x ∷ xs) e = omega (arith, follow x (omega arith), total_zero f g follow xs (omega arith))

  -- where f adds up to 1 at most, g, which is 0 wherever f is, adds up to what it is at the place where f isn't 0
  pub total_only : (f g : A → ℕ) → ((a : A) → f a ≡ 0 → g a ≡ 0) → (l : List A) → total f l ≤ 1
      → (d : A) (i : ℕ) → i < length l → 1 ≤ f (get_or l i d) → total g l ≡ g (get_or l i d)
  total_only f g follow [] e d i b h = absurd (omega arith)
  total_only f g follow (x ∷ xs) e d zero b h = omega (arith, total_zero f g follow xs (omega arith))
  total_only f g follow (x ∷ xs) e d (suc i) b h =
      omega (
        arith,
        term_le_total f xs d i (omega arith),
        follow x (omega (arith, term_le_total f xs d i (omega arith))),
        total_only f g follow xs (omega arith) d i (omega arith) h,
      )

  -- and only that is left where the one at that place is replaced
  pub total_alone : (f g : A → ℕ) (l : List A) (k : ℕ) (a d : A) → ((x : A) → f x ≡ 0 → g x ≡ 0) → k < length l
      → total f l ≤ 1 → 1 ≤ f (get_or l k d) → total g (set l k a) ≡ g a
  total_alone f g l k a d follow h once here = omega (arith, total_set g l k a d h, total_only f g follow l once d k h here)

  -- a sum over a list that was made from another
  pub total_map : {B : Type 0} (f : B → ℕ) (g : A → B) (l : List A) → total f (map g l) ≡ total (λ a. f (g a)) l
  total_map f g [] = refl
  total_map f g (x ∷ xs) = ap (λ (n : ℕ). f (g x) + n) (total_map f g xs)

-- How often a number stands in a list

-- a number counts once where it is looked for
pub counts_once : (p : ℕ) → bit (eqb p p) ≡ 1
counts_once p = rw (eq-eqb p p refl)

-- and another doesn't
pub counts_not : (q p : ℕ) → (p ≡ q → ⊥) → bit (eqb q p) ≡ 0
counts_not q p h = rw (ne_eqb q p (λ e. h (sym e)))

-- once more where it is the first
pub head_stands : (x : ℕ) (xs : List ℕ) → times x (x ∷ xs) ≡ 1 + times x xs
head_stands x xs = ap (λ (n : ℕ). n + times x xs) (counts_once x)

-- as often as in both parts
pub times_append : (p : ℕ) (l m : List ℕ) → times p (l ++ m) ≡ times p l + times p m
times_append p l m = total_append (λ x. bit (eqb x p)) l m

-- A list of distinct numbers of 1 to n

-- its numbers are of 1 to n, and none stands twice
pub record Among (n : ℕ) (l : List ℕ) : Type 0 where
  pub range : (p : ℕ) → 1 ≤ times p l → (1 ≤ p) × (p ≤ n)
  pub once : (p : ℕ) → times p l ≤ 1

-- the numbers of a list of 1 to n, counted number by number, are at least the list's length
counted : (n : ℕ) (l : List ℕ) → ((p : ℕ) → 1 ≤ times p l → (1 ≤ p) × (p ≤ n)) → length l ≤ total (λ p. times p l) (from 1 n)
counted n [] range = omega arith
counted n (x ∷ xs) range =
    let r : (1 ≤ x) × (x ≤ n) = range x (omega (arith, head_stands x xs)) in
    let e : get_or (from 1 n) (x - 1) 0 ≡ x = omega (arith, tabulate_at (λ j. j) 1 n 0 (x - 1) (omega arith)) in
    let one : bit (eqb x (get_or (from 1 n) (x - 1) 0)) ≡ 1 = ap bit (eq-eqb x _ (sym e)) in
    omega (
      arith,
      term_le_total (λ p. bit (eqb x p)) (from 1 n) 0 (x - 1) (omega (arith, length_tabulate (λ j. j) 1 n)),
      counted n xs (λ p b. range p (omega arith)),
      total_add (λ p. bit (eqb x p)) (λ p. times p xs) (from 1 n),
    )

-- A list of distinct numbers of 1 to n is at most n long.
pub among_length : (n : ℕ) (l : List ℕ) → Among n l → length l ≤ n
among_length n l a =
    let le : total (λ p. times p l) (from 1 n) ≤ total (λ p. 1) (from 1 n) = total_le _ _ 0 (from 1 n) (λ i b. a.once _) in
    omega (arith, counted n l a.range, total_one (from 1 n), length_tabulate (λ j. j) 1 n)
