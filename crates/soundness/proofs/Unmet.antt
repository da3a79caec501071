-- How many of the processes 1 to n were not met: what falls with each process that a chain meets.
use Prim.Native.Nat.{ℕ, zero, suc, ◌+◌, ◌≤◌, ◌<◌}
use mathlib.Core.Path.{◌≡◌, refl, sym, subst}
use mathlib.Core.Bool.{Bool, true, false}
use mathlib.Core.List.{List}
use mathlib.Core.Logic.{⊎_elim}
use native.Mathlib.Omega.{arith}
use lib.Dec.{eqb}
use lib.ListN.{length, get_or, set}
use lib.Seq.{get_or-set_same, get_or-set_other}
use borrow.Author.Tests.{eqb-true, eqb-false}
use Rattle.rules.specs.Lists.{bit}
use Rattle.std.proofs.lemmas.Bool.{cases_Bool}

-- whether p was not met, as a number
abbrev pub one : List ℕ → ℕ → ℕ
one met p = bit (eqb (get_or met p 0) 0)

abbrev pub unmet : ℕ → List ℕ → ℕ
unmet zero met = 0
unmet (suc n) met = one met (suc n) + unmet n met

bit_le : (b : Bool) → bit b ≤ 1
bit_le true = omega arith
bit_le false = omega arith

pub unmet_le : (n : ℕ) (met : List ℕ) → unmet n met ≤ n
unmet_le zero met = omega arith
unmet_le (suc n) met = omega (arith, unmet_le n met, bit_le (eqb (get_or met (suc n) 0) 0))

module _ (met : List ℕ) (p v : ℕ) where
  -- another place
  elsewhere : (q : ℕ) → (q ≡ p → ⊥) → one (set met p v) q ≡ one met q
  elsewhere q h = rw (get_or-set_other met p q v 0 h)

  above : (n : ℕ) → n < p → unmet n (set met p v) ≡ unmet n met
  above zero h = refl
  above (suc n) h =
      let here = elsewhere (suc n) (λ e. omega arith) in
      let rest = above n (omega arith) in
      omega arith

module _ (met : List ℕ) (p v : ℕ) (inside : p < length met) (mark : eqb v 0 ≡ false) where
  met_now : one (set met p v) p ≡ 0
  met_now = rw (get_or-set_same met p v 0 inside, mark)

  here : (q : ℕ) → p ≡ q → one (set met p v) q ≡ 0
  here q e = subst (λ i. one (set met p v) i ≡ 0) e met_now

  -- a mark makes nobody unmet
  pub unmet_marked : (n : ℕ) → unmet n (set met p v) ≤ unmet n met
  unmet_marked zero = omega arith
  unmet_marked (suc n) =
      ⊎_elim
      (λ e. let q = eqb-true p (suc n) e in omega (arith, here (suc n) q, above met p v n (omega arith)))
      (λ e. omega (arith, elsewhere met p v (suc n) (λ q. eqb-false p (suc n) e (sym q)), unmet_marked n))
      (cases_Bool (eqb p (suc n)))

  -- and meeting one makes one less
  pub unmet_met : (n : ℕ) → 1 ≤ p → p ≤ n → get_or met p 0 ≡ 0 → unmet n (set met p v) < unmet n met
  unmet_met zero l h e = omega arith
  unmet_met (suc n) l h e =
      ⊎_elim
      (λ d.
      let q = eqb-true p (suc n) d in
      let before : one met (suc n) ≡ 1 = subst (λ i. one met i ≡ 1) q (rw e) in
      omega (arith, here (suc n) q, above met p v n (omega arith)))
      (λ d.
      let other : (suc n ≡ p → ⊥) = λ q. eqb-false p (suc n) d (sym q) in
      omega (arith, elsewhere met p v (suc n) other, unmet_met n l (omega arith) e))
      (cases_Bool (eqb p (suc n)))
