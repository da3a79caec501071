-- Tests as facts: conjunctions, comparisons, tests of each of a list, and what holds in both cases of a test.
use Rattle.std.specs.Prelude.{if◌then◌else◌}
use Prim.Native.Nat.{ℕ, zero, suc, ◌+◌, ◌≤◌, ◌<◌}
use native.Mathlib.Omega.{arith}
use native.Mathlib.Decide.{ℕ_discrete}
use mathlib.Core.Path.{◌≡◌, refl, sym, ap, ◌∙◌, subst}
use mathlib.Core.Logic.{◌↔◌}
use mathlib.Core.Bool.{Bool, true, false, ◌&&◌, ◌||◌}
use mathlib.Core.List.{List, [], ◌∷◌, ◌++◌}
use lib.Dec.{T, eqb, leb, leb→le, le→leb, eqb→eq, eqb_refl}
use lib.ListN.{length, get_or, set}
use borrow.Author.Tests.{eqb-true, eqb-false, eq-eqb, ne_eqb}
use Rattle.rules.specs.Lists.{nth, within, all, tabulate, from, bit, times, same_words}

-- a conjunction holds where both halves do
pub and_means : (a b : Bool) → T (a && b) ↔ (T a × T b)
and_means true b = ((λ h. (tt, h)), (λ h. h.1))
and_means false b = ((λ h. absurd h), (λ h. h.0))

-- both tests hold
pub both : (a b : Bool) → T (a && b) → T a × T b
both a b = (and_means a b).0

-- two tests that hold, as one
pub together : (a b : Bool) → T a → T b → T (a && b)
together a b h g = (and_means a b).1 (h, g)

-- each of three tests holds
pub three : (a b c : Bool) → T (a && b && c) → T a × T b × T c
three a b c h = let t = both (a && b) c h in let u = both a b t.0 in (u.0, u.1, t.1)

-- each of four
pub four : (a b c d : Bool) → T (a && b && c && d) → T a × T b × T c × T d
four a b c d h = let t = both (a && b && c) d h in let u = three a b c t.0 in (u.0, u.1, u.2, t.1)

-- each of five
pub five : (a b c d e : Bool) → T (a && b && c && d && e) → T a × T b × T c × T d × T e
five a b c d e h = let t = both (a && b && c && d) e h in let u = four a b c d t.0 in (u.0, u.1, u.2, u.3, t.1)

-- the test of an order is the order
pub leb_means : (m n : ℕ) → T (leb m n) ↔ (m ≤ n)
leb_means m n = (leb→le m n, le→leb m n)

-- the test of an equation is the equation
pub eqb_means : (m n : ℕ) → T (eqb m n) ↔ (m ≡ n)
eqb_means m n = (eqb→eq m n, λ e. subst (λ (x : ℕ). T (eqb m x)) e (eqb_refl m))

-- a negated test
pub unless_means : (b : Bool) → T (if b then false else true) ↔ (T b → ⊥)
unless_means true = ((λ h _. h), (λ h. h tt))
unless_means false = ((λ _ h. h), (λ _. tt))

-- a disjunction holds where its first half does
pub or_left : (a b : Bool) → T a → T (a || b)
or_left true b h = tt
or_left false b h = absurd h

-- where its second half does
pub or_right : (a b : Bool) → T b → T (a || b)
or_right true b h = tt
or_right false b h = h

-- and only there
pub or_cases : {C : Type 0} (a b : Bool) → T (a || b) → (T a → C) → (T b → C) → C
or_cases true b h f g = f tt
or_cases false b h f g = g h

-- a test as the facts that it stands for
pub ruleset tests = (and_means, leb_means, eqb_means)

-- a number between two others
pub within_means : (low high n : ℕ) → T (within low high n) → (low ≤ n) × (n ≤ high)
within_means low high n h = simp tests at h

-- a number from 1 on isn't 0
pub not_zero : (n : ℕ) → 1 ≤ n → eqb n 0 ≡ false
not_zero n l = ne_eqb n 0 (omega arith)

-- two numbers that a test finds different
pub differ_means : (a b : ℕ) → T (if eqb a b then false else true) → a ≡ b → ⊥
differ_means a b h e = (unless_means (eqb a b)).0 h ((eqb_means a b).1 e)

-- what holds in both cases of a test
pub by_test : {A : Type 0} (b : Bool) {x y z : A} → (b ≡ true → x ≡ z) → (b ≡ false → y ≡ z) → (if b then x else y) ≡ z
by_test true yes' no' = yes' refl
by_test false yes' no' = no' refl

-- two tests for equality that hold together
pub same_test : (a b c d : ℕ) → (a ≡ b → c ≡ d) → (c ≡ d → a ≡ b) → eqb a b ≡ eqb c d
same_test a b c d there back = cases (eqb a b) refl
  where
    cases : (x : Bool) → eqb a b ≡ x → x ≡ eqb c d
    cases true e = sym (eq-eqb c d (there (eqb-true a b e)))
    cases false e = sym (ne_eqb c d (λ q. eqb-false a b e (back q)))

-- a test for equality fails where two numbers differ
pub apart : (a b v x : ℕ) → (a ≡ b → ⊥) → (if eqb a b then v else x) ≡ x
apart a b v x ne = rw (ne_eqb a b ne)

-- a value for j and others elsewhere are those of W if each is
pub here_or_there : (j i x y : ℕ) (W : ℕ → ℕ) → (i ≡ j → x ≡ W j) → ((i ≡ j → ⊥) → y ≡ W i) → (if eqb i j then x else y) ≡ W i
here_or_there j i x y W here others =
    by_test (eqb i j) (λ q. here (eqb-true i j q) ∙ ap W (sym (eqb-true i j q))) (λ q. others (eqb-false i j q))

module _ {A : Type 0} (f : A → Bool) where
  -- what holds of each holds of the one at a place
  pub all_at : (l : List A) (d : A) → T (all f l) → (i : ℕ) → i < length l → T (f (get_or l i d))
  all_at [] d h i b = absurd (omega arith)
  all_at (x ∷ xs) d h zero b = (both (f x) (all f xs) h).0
  all_at (x ∷ xs) d h (suc i) b = all_at xs d (both (f x) (all f xs) h).1 i (omega arith)

  -- counted from 1
  pub all_nth : (l : List A) (n : ℕ) (d : A) → T (all f l) → T (within 1 (length l) n) → T (f (nth l n d))
  all_nth l zero d h b = absurd (omega (arith, simp tests at b))
  all_nth l (suc i) d h b = all_at l d h i (omega (arith, simp tests at b))

  -- it goes on holding of each where one is replaced by one of which it holds
  pub all_set : (l : List A) (i : ℕ) (a : A) → T (all f l) → T (f a) → T (all f (set l i a))
  all_set [] i a h t = tt
  all_set (x ∷ xs) zero a h t = simp and_means (t, (simp and_means at h).1)
  all_set (x ∷ xs) (suc i) a h t = let h' : T (f x) × T (all f xs) = simp and_means at h in simp and_means (h'.0, all_set xs i a h'.1 t)

  -- of each of two lists joined
  pub all_append : (l m : List A) → T (all f l) → T (all f m) → T (all f (l ++ m))
  all_append [] m h t = t
  all_append (x ∷ xs) m h t = let h' : T (f x) × T (all f xs) = simp and_means at h in simp and_means (h'.0, all_append xs m h'.1 t)

  -- of each of a list of one
  pub all_one : (x : A) → T (f x) → T (all f (x ∷ []))
  all_one x h = together (f x) true h tt

-- what holds of each of a, a + 1, .. (n of them)
pub all_from : (f : ℕ → Bool) (a n : ℕ) → T (all f (from a n)) → (i : ℕ) → a ≤ i → i < a + n → T (f i)
all_from f a zero h i low high = absurd (omega arith)
all_from f a (suc n) h i low high = go (λ rest. all_from f (suc a) n rest i) (ℕ_discrete a i)
  where
    go : (T (all f (from (suc a) n)) → suc a ≤ i → i < suc a + n → T (f i)) → Dec (a ≡ i) → T (f i)
    go later (yes e) = subst (λ (x : ℕ). T (f x)) e (simp and_means at h).0
    go later (no ne) = later (simp and_means at h).1 (omega arith) (omega arith)

-- a test that holds of f a, f (a + 1), .. (n of them) holds of each of their list
pub tabulate_all : {A : Type 0} (f : A → Bool) (g : ℕ → A) (a n : ℕ) → ((i : ℕ) → a ≤ i → i < a + n → T (f (g i))) → T (all f (tabulate g a n))
tabulate_all f g a zero h = tt
tabulate_all f g a (suc n) h =
    (and_means (f (g a)) _).1
    (h a (omega arith) (omega arith), tabulate_all f g (suc a) n (λ i low high. h i (omega arith) (omega arith)))

-- a test that holds of each holds of a number that stands in the list
pub all_times : (f : ℕ → Bool) (l : List ℕ) → T (all f l) → (p : ℕ) → 1 ≤ times p l → T (f p)
all_times f [] h p b = absurd (omega arith)
all_times f (x ∷ xs) h p b = cases (eqb x p) refl (all_times f xs (both (f x) (all f xs) h).1 p)
  where
    cases : (t : Bool) → eqb x p ≡ t → (1 ≤ times p xs → T (f p)) → T (f p)
    cases true q rest = subst (λ (n : ℕ). T (f n)) (eqb-true x p q) (both (f x) (all f xs) h).0
    cases false q rest = rest (omega (arith, ap bit q))

-- lists that a test finds the same are equal
pub same_words_means : (l m : List ℕ) → T (same_words l m) → l ≡ m
same_words_means [] [] h = refl
same_words_means [] (y ∷ ys) h = absurd h
same_words_means (x ∷ xs) [] h = absurd h
same_words_means (x ∷ xs) (y ∷ ys) h =
    let t = both (eqb x y) (same_words xs ys) h in
    let a : x ≡ y = eqb→eq x y t.0 in
    let b : xs ≡ ys = same_words_means xs ys t.1 in cc

-- a list is the same as itself
pub same_words_refl : (l : List ℕ) → T (same_words l l)
same_words_refl [] = tt
same_words_refl (x ∷ xs) = together (eqb x x) (same_words xs xs) (eqb_refl x) (same_words_refl xs)
