-- Writes that are made number by number: one more.
use Prim.Native.Nat.{ℕ, zero, suc, ◌+◌, ◌-◌, ◌≤◌}
use mathlib.Core.Path.{◌≡◌, ap, ◌∙◌}
use mathlib.Core.List.{List}
use native.Mathlib.Omega.{arith}
use Rattle.set_up.specs.Filled.{in_turn, alone, in_batches}

-- of more than n, that of a + n is made last
last_turn : (f : ℕ → List ℕ → List ℕ) (a n : ℕ) (t : List ℕ) → in_turn f a (suc n) t ≡ f (a + n) (in_turn f a n t)
last_turn f a zero t = let same : a ≡ a + 0 = omega arith in ap (λ (i : ℕ). f i t) same
last_turn f a (suc n) t =
    let same : suc a + n ≡ a + suc n = omega arith in
    last_turn f (suc a) n (f a t) ∙ ap (λ (i : ℕ). f i (in_turn f (suc a) n (f a t))) same

-- of those up to n, that of n
pub one_turn : (f : ℕ → List ℕ → List ℕ) (n : ℕ) (t : List ℕ) → 1 ≤ n → in_turn f 1 n t ≡ f n (in_turn f 1 (n - 1) t)
one_turn f zero t low = absurd (omega arith)
one_turn f (suc n) t low =
    let same : suc n - 1 ≡ n = omega arith in
    let next : 1 + n ≡ suc n = omega arith in
    rw same (last_turn f 1 n t ∙ ap (λ (i : ℕ). f i (in_turn f 1 n t)) next)

-- and to stand in batches, that of n
pub one_batch : (k n : ℕ) (t : List ℕ) → 1 ≤ n → in_batches k n t ≡ alone k n (in_batches k (n - 1) t)
one_batch k zero t low = absurd (omega arith)
one_batch k (suc n) t low = let same : suc n - 1 ≡ n = omega arith in rw same
