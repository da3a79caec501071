-- The few functions on lists and tests that the definitions share. Numbers, lists and tests are the library's own.
-- Here and below, `abbrev` and `pub` say nothing of what is defined: the prover always reads an `abbrev` as what it stands for, and other
-- files may cite what is `pub`.
use Rattle.std.specs.Prelude.{ℕ, zero, suc, ◌+◌, Bool, true, false, if◌then◌else◌, ◌&&◌, ◌||◌, List, [], ◌∷◌, eqb, leb, get_or, set}

-- n is one of low, .. high
abbrev pub within : ℕ → ℕ → ℕ → Bool
within low high n = leb low n && leb n high

module _ {A : Type 0} where
  -- the n-th of a list, counted from 1; d where there is none
  abbrev pub nth : List A → ℕ → A → A
  nth l zero d = d
  nth l (suc i) d = get_or l i d

  -- the list with another n-th, counted from 1; the same list where there is none
  abbrev pub set_nth : List A → ℕ → A → List A
  set_nth l zero a = l
  set_nth l (suc i) a = set l i a

  -- a test that holds of each
  abbrev pub all : (A → Bool) → List A → Bool
  all f [] = true
  all f (x ∷ xs) = f x && all f xs

  -- the sum of a number for each
  abbrev pub total : (A → ℕ) → List A → ℕ
  total f [] = 0
  total f (x ∷ xs) = f x + total f xs

  -- n of them, from f a on: f a, f (a + 1), ..
  abbrev pub tabulate : (ℕ → A) → ℕ → ℕ → List A
  tabulate f a zero = []
  tabulate f a (suc n) = f a ∷ tabulate f (suc a) n

-- a, a + 1, .. (n of them)
abbrev pub from : ℕ → ℕ → List ℕ
from a n = tabulate (λ i. i) a n

-- n is in the list
abbrev pub member : ℕ → List ℕ → Bool
member n [] = false
member n (x ∷ xs) = eqb x n || member n xs

-- no number stands twice
abbrev pub distinct : List ℕ → Bool
distinct [] = true
distinct (x ∷ xs) = (if member x xs then false else true) && distinct xs

-- 1 where a test holds, otherwise 0
abbrev pub bit : Bool → ℕ
bit true = 1
bit false = 0

-- how often n stands in the list
abbrev pub times : ℕ → List ℕ → ℕ
times n l = total (λ x. bit (eqb x n)) l

-- the first and the last number of a list; 0 where it is empty
abbrev pub first : List ℕ → ℕ
first [] = 0
first (x ∷ xs) = x

abbrev pub last : List ℕ → ℕ
last [] = 0
last (x ∷ []) = x
last (x ∷ (y ∷ ys)) = last (y ∷ ys)

-- what follows n in the list; 0 where nothing does
abbrev pub follows : ℕ → List ℕ → ℕ
follows n [] = 0
follows n (x ∷ xs) = if eqb x n then first xs else follows n xs

-- two lists of words are the same
abbrev pub same_words : List ℕ → List ℕ → Bool
same_words [] [] = true
same_words [] (y ∷ ys) = false
same_words (x ∷ xs) [] = false
same_words (x ∷ xs) (y ∷ ys) = eqb x y && same_words xs ys
