-- Walks that are exact, and what was met on the way: a number for each process, 0 where it wasn't met.
use Rattle.std.specs.Prelude.{if◌then◌else◌}
use Prim.Native.Nat.{ℕ, ◌+◌, ◌*◌, ◌≤◌, ◌<◌}
use mathlib.Core.Path.{◌≡◌, refl, sym, ap, ◌∙◌, subst}
use mathlib.Core.Bool.{Bool, true, false}
use mathlib.Core.List.{List}
use native.Mathlib.Omega.{arith}
use lib.Dec.{T, eqb, leb, eqb→eq}
use lib.ListN.{length, get_or, set, length-set}
use lib.Seq.{get_or-set_same, get_or-set_other}
use borrow.Author.Tests.{eqb-true, eqb-false, leb-true, leb-false, eq-eqb, ne_eqb}
use Rattle.rules.specs.Lists.{within, bit}
use Rattle.rules.proofs.Tests.{both, together, within_means}
use Rattle.fitting.proofs.Tests.{equal_holds, within_holds}
use Rattle.fitting.specs.Twin.{fresh, Walk, flaw, well, and_then}

-- Exact walks

-- The walk finds no flaw exactly where P holds, and then what was met has the property Q.
abbrev pub Exact : Type 0 → (List ℕ → Type 0) → Walk → Type 0
Exact P Q flaw = P → ⊥
Exact P Q (well met) = P × Q met

module _ (P : Type 0) (Q : List ℕ → Type 0) where
  -- a test that P asks for, then a walk
  pub exact_if : (t : Bool) (w : Walk) → (P → T t) → (T t → Exact P Q w) → Exact P Q (if t then w else flaw)
  exact_if true w need rest = rest tt
  exact_if false w need rest = need

  -- a walk, then another
  pub exact_then : (P' : Type 0) (Q' : List ℕ → Type 0) (w : Walk) (f : List ℕ → Walk) → Exact P' Q' w → (P → P')
      → ((met : List ℕ) → P' → Q' met → Exact P Q (f met)) → Exact P Q (and_then w f)
  exact_then P' Q' flaw f e part rest = λ h. e (part h)
  exact_then P' Q' (well met) f e part rest = rest met e.0 e.1

  -- a walk that is exact for something else that says the same
  pub exact_as : (P' : Type 0) (Q' : List ℕ → Type 0) (w : Walk) → (P' → P) → (P → P') → ((met : List ℕ) → Q' met → Q met)
      → Exact P' Q' w → Exact P Q w
  exact_as P' Q' flaw to back met e = λ h. e (back h)
  exact_as P' Q' (well m) to back met e = (to e.0, met m e.1)

-- What was met

-- the numbers of what was met are those of c
pub record Met (N : ℕ) (c : ℕ → ℕ) (met : List ℕ) : Type 0 where
  pub room : N < length met
  pub each : (q : ℕ) → 1 ≤ q → q ≤ N → get_or met q 0 ≡ c q

-- other numbers that are the same
pub met_as : (N : ℕ) (c c' : ℕ → ℕ) (met : List ℕ) → ((q : ℕ) → c q ≡ c' q) → Met N c met → Met N c' met
met_as N c c' met same agrees = record { room = agrees.room; each = λ q l b. agrees.each q l b ∙ same q }

-- what stands m times is a process that isn't counted by c, and stands once
abbrev pub Apart : ℕ → (ℕ → ℕ) → (ℕ → ℕ) → Type 0
Apart N c m = (q : ℕ) → 1 ≤ m q → (1 ≤ q) × (q ≤ N) × (c q ≡ 0) × (m q ≤ 1)

-- c' counts what c counts and what stands m times
abbrev pub Grown : (ℕ → ℕ) → (ℕ → ℕ) → (ℕ → ℕ) → Type 0
Grown c m c' = (q : ℕ) → (c' q ≡ 0 → c q + m q ≡ 0) × (c q + m q ≡ 0 → c' q ≡ 0)

module _ (N : ℕ) (c m c' m' : ℕ → ℕ) where
  -- the first part of what is apart
  pub apart_first : Apart N c (λ q. m q + m' q) → Apart N c m
  apart_first a q h = let r = a q (omega arith) in (r.0, r.1, r.2, omega arith)

  -- the second part, once the first is counted
  pub apart_second : Grown c m c' → Apart N c (λ q. m q + m' q) → Apart N c' m'
  apart_second g a q h = let r = a q (omega arith) in (r.0, r.1, (g q).1 (omega arith), omega arith)

  -- both parts together
  pub apart_both : Grown c m c' → Apart N c m → Apart N c' m' → Apart N c (λ q. m q + m' q)
  apart_both g a b q h = cases (leb 1 (m' q)) refl
    where
      cases : (t : Bool) → leb 1 (m' q) ≡ t → (1 ≤ q) × (q ≤ N) × (c q ≡ 0) × (m q + m' q ≤ 1)
      cases true e = let r = b q (leb-true 1 (m' q) e) in let z = (g q).0 r.2 in (r.0, r.1, omega arith, omega arith)
      cases false e = let l = leb-false 1 (m' q) e in let r = a q (omega arith) in (r.0, r.1, r.2, omega arith)

module _ (N : ℕ) (c : ℕ → ℕ) (met : List ℕ) (agrees : Met N c met) where
  -- who is fresh is a process that isn't counted
  pub fresh_means : (p : ℕ) → T (fresh N met p) → (1 ≤ p) × (p ≤ N) × (c p ≡ 0)
  fresh_means p h =
      let t = both (within 1 N p) (eqb (get_or met p 0) 0) h in
      let r = within_means 1 N p t.0 in
      (r.0, r.1, sym (agrees.each p r.0 r.1) ∙ eqb→eq (get_or met p 0) 0 t.1)

  -- and such a process is fresh
  pub means_fresh : (p : ℕ) → 1 ≤ p → p ≤ N → c p ≡ 0 → T (fresh N met p)
  means_fresh p l b z =
      together (within 1 N p) (eqb (get_or met p 0) 0) (within_holds 1 N p l b) (equal_holds (get_or met p 0) 0 (agrees.each p l b ∙ z))

  -- another number for one process
  pub met_set : (c' : ℕ → ℕ) (p v : ℕ) → 1 ≤ p → p ≤ N → c' p ≡ v → ((q : ℕ) → (p ≡ q → ⊥) → c' q ≡ c q) → Met N c' (set met p v)
  met_set c' p v l b here other =
      record { room = omega (arith, agrees.room, length-set met p v); each = λ q l' b'. cases q l' b' (eqb p q) refl }
    where
      cases : (q : ℕ) → 1 ≤ q → q ≤ N → (t : Bool) → eqb p q ≡ t → get_or (set met p v) q 0 ≡ c' q
      cases q l' b' true e =
          let same : p ≡ q = eqb-true p q e in
          subst (λ (r : ℕ). get_or (set met p v) r 0 ≡ c' r) same (get_or-set_same met p v 0 (omega (arith, agrees.room)) ∙ sym here)
      cases q l' b' false e =
          let ne : p ≡ q → ⊥ = eqb-false p q e in
          get_or-set_other met p q v 0 (λ x. ne (sym x)) ∙ agrees.each q l' b' ∙ sym (other q ne)

-- 1 for p, otherwise 0
abbrev pub one_more : ℕ → ℕ → ℕ
one_more p q = bit (eqb p q)

-- it is 1 at p
pub one_here : (p : ℕ) → one_more p p ≡ 1
one_here p = ap bit (eq-eqb p p refl)

-- and 0 elsewhere
pub one_elsewhere : (p q : ℕ) → (p ≡ q → ⊥) → one_more p q ≡ 0
one_elsewhere p q ne = ap bit (ne_eqb p q ne)

-- a process that isn't counted, alone
pub apart_one : (N : ℕ) (c : ℕ → ℕ) (p : ℕ) → (1 ≤ p) × (p ≤ N) × (c p ≡ 0) → Apart N c (one_more p)
apart_one N c p r q h = cases (eqb p q) refl
  where
    cases : (t : Bool) → eqb p q ≡ t → (1 ≤ q) × (q ≤ N) × (c q ≡ 0) × (one_more p q ≤ 1)
    cases true e =
        let same : p ≡ q = eqb-true p q e in
        let none : c q ≡ 0 = ap c (sym same) ∙ r.2 in (omega arith, omega arith, none, omega (arith, ap bit e))
    cases false e = absurd (omega (arith, ap bit e))

-- what is met once such a process has the number v
pub met_one : (N : ℕ) (c : ℕ → ℕ) (met : List ℕ) → Met N c met → (v p : ℕ) → (1 ≤ p) × (p ≤ N) × (c p ≡ 0)
    → Met N (λ q. c q + v * one_more p q) (set met p v)
met_one N c met agrees v p r =
    met_set N c met agrees (λ q. c q + v * one_more p q) p v r.0 r.1 (rw (one_here p) (omega (arith, r.2)))
    (λ q ne. rw (one_elsewhere p q ne) (omega arith))
