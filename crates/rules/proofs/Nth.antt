-- Lists counted from 1: what another n-th changes.
use Rattle.std.specs.Prelude.{if◌then◌else◌}
use Prim.Native.Nat.{ℕ, zero, suc, ◌≤◌}
use native.Mathlib.Omega.{arith}
use mathlib.Core.Path.{◌≡◌, refl, sym, ap, subst}
use mathlib.Core.Bool.{Bool, true, false, ◌&&◌}
use mathlib.Core.List.{List, map}
use lib.Dec.{T, eqb}
use lib.ListN.{length, length-set}
use lib.Seq.{set_out, get_or-set_same, get_or-set_other, map-set_same}
use borrow.Author.Tests.{eqb-true, eqb-false}
use Rattle.rules.specs.Lists.{nth, set_nth, within, all}
use Rattle.rules.proofs.Tests.{tests, within_means, all_set}

module _ {A : Type 0} where
  -- there are as many as before
  pub length_set_nth : (l : List A) (n : ℕ) (a : A) → length (set_nth l n a) ≡ length l
  length_set_nth l zero a = refl
  length_set_nth l (suc i) a = length-set l i a

  -- the n-th is the new one
  pub nth_set_same : (l : List A) (n : ℕ) (a d : A) → 1 ≤ n → n ≤ length l → nth (set_nth l n a) n d ≡ a
  nth_set_same l zero a d low high = absurd (omega arith)
  nth_set_same l (suc i) a d low high = get_or-set_same l i a d (omega arith)

  -- the others are as before
  pub nth_set_other : (l : List A) (n m : ℕ) (a d : A) → (m ≡ n → ⊥) → nth (set_nth l n a) m d ≡ nth l m d
  nth_set_other l zero m a d ne = refl
  nth_set_other l (suc i) zero a d ne = refl
  nth_set_other l (suc i) (suc j) a d ne = get_or-set_other l i j a d (λ e. ne (ap suc e))

  -- where there is no n-th, all is as before
  set_nth_out : (l : List A) (n : ℕ) (a : A) → (1 ≤ n → n ≤ length l → ⊥) → set_nth l n a ≡ l
  set_nth_out l zero a h = refl
  set_nth_out l (suc i) a h = let none : ¬ (suc i ≤ length l) = h (omega arith) in set_out l i a (omega arith)

  -- what holds of each goes on holding, if it holds of the new one
  pub all_set_nth : (f : A → Bool) (l : List A) (n : ℕ) (a : A) → T (all f l) → T (f a) → T (all f (set_nth l n a))
  all_set_nth f l zero a h t = h
  all_set_nth f l (suc i) a h t = all_set f l i a h t

  module _ {B : Type 0} (f : A → B) (l : List A) where
    -- what f reads of each is as before, if it is so of the n-th
    pub map_set_nth : (n : ℕ) (a d : A) → f a ≡ f (nth l n d) → map f (set_nth l n a) ≡ map f l
    map_set_nth zero a d h = refl
    map_set_nth (suc i) a d h = map-set_same f l i a d h

    -- what f reads of the m-th: of the new one where m is n and there is an n-th, otherwise what it read before
    pub nth_set : (n m : ℕ) (a d : A) → f (nth (set_nth l n a) m d) ≡ (if eqb n m && within 1 (length l) n then f a else f (nth l m d))
    nth_set n m a d = go (eqb n m) (within 1 (length l) n) refl refl
      where
        go : (b c : Bool) → eqb n m ≡ b → within 1 (length l) n ≡ c → f (nth (set_nth l n a) m d) ≡ (if b && c then f a else f (nth l m d))
        go true true e h = let b = within_means 1 (length l) n (rw h tt) in rw (← eqb-true n m e) (ap f (nth_set_same l n a d b.0 b.1))
        go true false e h = ap (λ r. f (nth r m d)) (set_nth_out l n a (λ low high. subst T h (simp tests (low, high))))
        go false c e h = ap f (nth_set_other l n m a d (λ g. eqb-false n m e (sym g)))
