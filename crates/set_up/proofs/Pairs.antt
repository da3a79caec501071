-- The list of (writer, reader), pair by pair, and the first flaw in it.
use Prim.Native.Nat.{ℕ, zero, suc, ◌+◌, ◌*◌, ◌<◌}
use mathlib.Core.Path.{◌≡◌, refl}
use mathlib.Core.List.{List, [], ◌∷◌}
use native.Mathlib.Omega.{arith}
use lib.ListN.{length, get_or}
use Rattle.rules.specs.State.{Ends}
use Rattle.rules.specs.SetUp.{ends_of}

-- the i-th pair, counted from 0
abbrev pair_at : List ℕ → ℕ → Ends
pair_at l i = record { writer = get_or l (2 * i) 0; reader = get_or l (2 * i + 1) 0 }

-- the i-th of the ends
pub ends_at : (l : List ℕ) (i : ℕ) (d : Ends) → 2 * i + 1 < length l → get_or (ends_of l) i d ≡ pair_at l i
ends_at [] i d h = absurd (omega arith)
ends_at (w ∷ []) i d h = absurd (omega arith)
ends_at (w ∷ (r ∷ rest)) zero d h = refl
ends_at (w ∷ (r ∷ rest)) (suc i) d h =
    let first : 2 * suc i ≡ suc (suc (2 * i)) = omega arith in
    let second : suc (suc (2 * i)) + 1 ≡ suc (suc (2 * i + 1)) = omega arith in
    rw (first, second) (ends_at rest i d (omega arith))
