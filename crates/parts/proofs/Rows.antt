-- Values written one after the other.
use Prim.Native.Nat.{ℕ, suc, ◌+◌, ◌≤◌}
use mathlib.Core.Path.{◌≡◌, refl, ap, ◌∙◌}
use mathlib.Core.List.{List, [], ◌∷◌}
use native.Mathlib.Omega.{arith}
use lib.Dec.{T}
use lib.ListN.{length, set}
use lib.Seq.{sets}
use borrow.Author.Tests.{lt-ltb}
use Rattle.packing.proofs.Focus.{writes, below}

-- from the place j on
abbrev pub in_row : ℕ → List ℕ → List (ℕ × ℕ)
in_row j [] = []
in_row j (v ∷ vs) = (j, v) ∷ in_row (suc j) vs

pub writes_in_row : (vs : List ℕ) (j : ℕ) (at : ℕ → ℕ) (t : List ℕ) → ((j : ℕ) → at (suc j) ≡ suc (at j))
    → writes (in_row j vs) at t ≡ sets t (at j) vs
writes_in_row [] j at t next = refl
writes_in_row (v ∷ vs) j at t next = writes_in_row vs (suc j) at (set t (at j) v) next ∙ ap (λ (i : ℕ). sets (set t (at j) v) i vs) (next j)

pub in_row_below : (vs : List ℕ) (j n : ℕ) → j + length vs ≤ n → T (below n (λ i. i) (in_row j vs))
in_row_below [] j n h = tt
in_row_below (v ∷ vs) j n h = rw (lt-ltb j n (omega arith)) (in_row_below vs (suc j) n (omega arith))
