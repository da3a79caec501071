-- Queues as lists: what follows a number, and what a batch's head keeps.
use Rattle.std.specs.Prelude.{if◌then◌else◌}
use Prim.Native.Nat.{ℕ, ◌≤◌}
use mathlib.Core.Path.{◌≡◌, refl, sym, ap, ◌∙◌}
use mathlib.Core.List.{List, [], ◌∷◌, ◌++◌}
use native.Mathlib.Omega.{arith}
use lib.Dec.{eqb}
use borrow.Author.Tests.{eq-eqb, ne_eqb}
use Rattle.rules.specs.Lists.{total, bit, times, first, last, follows}
use Rattle.rules.specs.Packing.{heads, if_head}
use Rattle.rules.proofs.Tests.{by_test}
use Rattle.rules.proofs.Sums.{total_zero, total_map, head_stands}

-- the last of a list stands there
pub times_last : (l : List ℕ) → 1 ≤ last l → 1 ≤ times (last l) l
times_last [] h = absurd (omega arith)
times_last (x ∷ []) h = omega (arith, head_stands x [])
times_last (x ∷ (y ∷ l)) h = omega (arith, times_last (y ∷ l) h)

-- What follows a number

-- nothing follows a number that isn't there
pub follows_none : (p : ℕ) (l : List ℕ) → times p l ≡ 0 → follows p l ≡ 0
follows_none p [] h = refl
follows_none p (x ∷ l) h =
    by_test (eqb x p) (λ e. absurd (omega (arith, ap bit e))) (λ e. follows_none p l (omega (arith, ap bit e)))

-- nor one that is alone
pub follows_single : (p q : ℕ) → follows p (q ∷ []) ≡ 0
follows_single p q = by_test (eqb q p) (λ e. refl) (λ e. refl)

-- behind all but the first nothing changes if the first is taken off
pub follows_rest : (p x : ℕ) (l : List ℕ) → (p ≡ x → ⊥) → follows p (x ∷ l) ≡ follows p l
follows_rest p x l ne = rw (ne_eqb x p (λ e. ne (sym e)))

-- behind the first it is the first of the others
pub follows_first : (p : ℕ) (l : List ℕ) → follows p (p ∷ l) ≡ first l
follows_first p l = rw (eq-eqb p p refl)

-- behind all but the last nothing changes if one more is put at the end
pub follows_more : (p q : ℕ) (l : List ℕ) → (p ≡ last l → ⊥) → follows p (l ++ (q ∷ [])) ≡ follows p l
follows_more p q [] ne = follows_single p q
follows_more p q (x ∷ []) ne = rw (ne_eqb x p (λ e. ne (sym e))) (follows_single p q)
follows_more p q (x ∷ (y ∷ l)) ne = ap (λ n. if eqb x p then y else n) (follows_more p q (y ∷ l) ne)

-- behind the last it is that one, if the last stands there once
pub follows_last : (q : ℕ) (l : List ℕ) → 1 ≤ last l → times (last l) l ≤ 1 → follows (last l) (l ++ (q ∷ [])) ≡ q
follows_last q [] h once = absurd (omega arith)
follows_last q (x ∷ []) h once = rw (eq-eqb x x refl)
follows_last q (x ∷ (y ∷ l)) h once =
    let before : x ≡ last (y ∷ l) → ⊥ = λ e. omega (arith, ap bit (eq-eqb x (last (y ∷ l)) e), times_last (y ∷ l) h) in
    rw (ne_eqb x (last (y ∷ l)) before) (follows_last q (y ∷ l) h (omega arith))

-- the last of two lists is that of the second
pub last_append : (l : List ℕ) (x : ℕ) (m : List ℕ) → last (l ++ (x ∷ m)) ≡ last (x ∷ m)
last_append [] x m = refl
last_append (y ∷ []) x m = refl
last_append (y ∷ (z ∷ l)) x m = last_append (z ∷ l) x m

-- Heads

-- the heads of two lists of batches
pub heads_append : (l m : List (List ℕ)) → heads (l ++ m) ≡ heads l ++ heads m
heads_append [] m = refl
heads_append (x ∷ l) m = ap (λ (h : List ℕ). first x ∷ h) (heads_append l m)

-- what a head keeps of its batch, and another process of it, which is nothing
pub if_head_first : (f : List ℕ → ℕ) (p : ℕ) (l : List ℕ) → if_head f p (p ∷ l) ≡ f (p ∷ l)
if_head_first f p l = rw (eq-eqb p p refl)

pub if_head_other : (f : List ℕ → ℕ) (p x : ℕ) (l : List ℕ) → (p ≡ x → ⊥) → if_head f p (x ∷ l) ≡ 0
if_head_other f p x l ne = rw (ne_eqb x p (λ e. ne (sym e)))

-- a head keeps nothing of a batch where it doesn't stand
pub if_head_none : (f : List ℕ → ℕ) (p : ℕ) (l : List ℕ) → 1 ≤ p → times p l ≡ 0 → if_head f p l ≡ 0
if_head_none f p [] low h = rw (ne_eqb 0 p (λ e. omega arith))
if_head_none f p (x ∷ l) low h = by_test (eqb x p) (λ e. absurd (omega (arith, ap bit e))) (λ e. refl)

-- nor of one that it doesn't head
pub if_not_head : (f : List ℕ → ℕ) (p : ℕ) (l : List ℕ) → bit (eqb (first l) p) ≡ 0 → if_head f p l ≡ 0
if_not_head f p l h = by_test (eqb (first l) p) (λ e. absurd (omega (arith, ap bit e))) (λ e. refl)

-- and so of none where it heads none
pub heads_none : (f : List ℕ → ℕ) (p : ℕ) (batches : List (List ℕ)) → times p (heads batches) ≡ 0 → total (if_head f p) batches ≡ 0
heads_none f p batches h =
    total_zero (λ l. bit (eqb (first l) p)) (if_head f p) (if_not_head f p) batches (sym (total_map (λ x. bit (eqb x p)) first batches) ∙ h)

-- a process is no more often a head than it stands in batches
pub times_heads : (p : ℕ) (batches : List (List ℕ)) → 1 ≤ p → times p (heads batches) ≤ total (times p) batches
times_heads p [] low = omega arith
times_heads p ([] ∷ batches) low = rw (ne_eqb 0 p (λ e. omega arith)) (omega (arith, times_heads p batches low))
times_heads p ((x ∷ l) ∷ batches) low = omega (arith, times_heads p batches low)

-- a process that stands in no batch has no link there: none follows, none of a batch as its head, and no head behind it
pub no_next : (p : ℕ) (batches : List (List ℕ)) → total (times p) batches ≡ 0 → total (follows p) batches ≡ 0
no_next p batches h = total_zero (times p) (follows p) (follows_none p) batches h

pub no_head : (f : List ℕ → ℕ) (p : ℕ) (batches : List (List ℕ)) → 1 ≤ p → total (times p) batches ≡ 0
    → total (if_head f p) batches ≡ 0
no_head f p batches low h = total_zero (times p) (if_head f p) (λ l e. if_head_none f p l low e) batches h

pub no_next_head : (p : ℕ) (batches : List (List ℕ)) → 1 ≤ p → total (times p) batches ≡ 0 → follows p (heads batches) ≡ 0
no_next_head p batches low h = follows_none p (heads batches) (omega (arith, times_heads p batches low))
