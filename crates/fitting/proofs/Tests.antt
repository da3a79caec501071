-- Tests that hold because of what they say: the way back from the facts.
use Prim.Native.Nat.{ℕ, zero, suc, ◌+◌, ◌≤◌, ◌<◌}
use mathlib.Core.Path.{◌≡◌, refl, sym, ap, ◌∙◌, subst}
use mathlib.Core.Bool.{Bool, true, false, ◌&&◌}
use mathlib.Core.List.{List, [], ◌∷◌}
use native.Mathlib.Omega.{arith}
use native.Mathlib.Nat.{add-zero}
use lib.Dec.{T, eqb, leb, eqb→eq, leb→le, le→leb, eqb_refl}
use lib.ListN.{length, get_or, replicate}
use Rattle.rules.specs.Lists.{within, all, tabulate, from, bit, times}
use Rattle.rules.proofs.Tests.{both, five, together}
use Rattle.rules.proofs.Sums.{head_stands}
use Rattle.fitting.specs.Twin.{word, zeros}

-- equal numbers
pub equal_holds : (a b : ℕ) → a ≡ b → T (eqb a b)
equal_holds a b e = subst (λ (n : ℕ). T (eqb a n)) e (eqb_refl a)

-- a number between two others
pub within_holds : (low high n : ℕ) → low ≤ n → n ≤ high → T (within low high n)
within_holds low high n l b = together (leb low n) (leb n high) (le→leb low n l) (le→leb n high b)

-- three tests
pub all_three : (a b c : Bool) → T a → T b → T c → T (a && b && c)
all_three a b c x y z = together (a && b) c (together a b x y) z

-- four tests
pub all_four : (a b c d : Bool) → T a → T b → T c → T d → T (a && b && c && d)
all_four a b c d x y z u = together (a && b && c) d (all_three a b c x y z) u

-- five tests
pub all_five : (a b c d e : Bool) → T a → T b → T c → T d → T e → T (a && b && c && d && e)
all_five a b c d e x y z u v = together (a && b && c && d) e (all_four a b c d x y z u) v

-- six tests
pub all_six : (a b c d e f : Bool) → T a → T b → T c → T d → T e → T f → T (a && b && c && d && e && f)
all_six a b c d e f x y z u v w = together (a && b && c && d && e) f (all_five a b c d e x y z u v) w

-- each of six tests holds
pub six : (a b c d e f : Bool) → T (a && b && c && d && e && f) → T a × T b × T c × T d × T e × T f
six a b c d e f h =
    let t = both (a && b && c && d && e) f h in
    let u = five a b c d e t.0 in
    (u.0, u.1, u.2, u.3, u.4, t.1)

-- a test with another that is true
pub and_true : (a : Bool) → (a && true) ≡ a
and_true true = refl
and_true false = refl

-- words that a test finds 0
pub zeros_mean : (t : List ℕ) (a n : ℕ) → T (zeros t a n) → (i : ℕ) → i < n → word t (a + i) ≡ 0
zeros_mean t a zero h i b = absurd (omega arith)
zeros_mean t a (suc n) h zero b = rw add-zero (eqb→eq (word t a) 0 (both (eqb (word t a) 0) (zeros t (suc a) n) h).0)
zeros_mean t a (suc n) h (suc i) b =
    ap (word t) (omega arith) ∙ zeros_mean t (suc a) n (both (eqb (word t a) 0) (zeros t (suc a) n) h).1 i (omega arith)

-- words that are 0
pub zeros_hold : (t : List ℕ) (a n : ℕ) → ((i : ℕ) → i < n → word t (a + i) ≡ 0) → T (zeros t a n)
zeros_hold t a zero e = tt
zeros_hold t a (suc n) e =
    together (eqb (word t a) 0) (zeros t (suc a) n) (equal_holds (word t a) 0 (ap (word t) (sym (add-zero a)) ∙ e 0 (omega arith)))
    (zeros_hold t (suc a) n (λ i b. ap (word t) (omega arith) ∙ e (suc i) (omega arith)))

-- a block of zeros
pub zero_block : (f : ℕ → ℕ) (a n : ℕ) → ((i : ℕ) → i < n → f (a + i) ≡ 0) → replicate n 0 ≡ tabulate f a n
zero_block f a zero e = refl
zero_block f a (suc n) e =
    let here : f a ≡ 0 = ap f (sym (add-zero a)) ∙ e 0 (omega arith) in
    let behind : replicate n 0 ≡ tabulate f (suc a) n = zero_block f (suc a) n (λ i b. ap f (omega arith) ∙ e (suc i) (omega arith)) in cc

-- a number that is 0 or 1 is that of a test
pub bit_means : (n : ℕ) → T (leb n 1) → bit (eqb n 1) ≡ n
bit_means zero h = refl
bit_means (suc zero) h = refl
bit_means (suc (suc n)) h = absurd (omega (arith, leb→le (suc (suc n)) 1 h))

-- and the number of a test is 0 or 1
pub bit_holds : (t : Bool) (n : ℕ) → bit t ≡ n → T (leb n 1)
bit_holds true n e = le→leb n 1 (omega arith)
bit_holds false n e = le→leb n 1 (omega arith)

-- a test with another that may be put differently where the first holds
pub and_as : (a b b' : Bool) → (T a → b ≡ b') → (a && b) ≡ (a && b')
and_as true b b' e = e tt
and_as false b b' e = refl

-- a test that holds of a, a + 1, .. (n of them)
pub from_holds : (f : ℕ → Bool) (a n : ℕ) → ((i : ℕ) → a ≤ i → i < a + n → T (f i)) → T (all f (from a n))
from_holds f a zero h = tt
from_holds f a (suc n) h =
    together (f a) (all f (from (suc a) n)) (h a (omega arith) (omega arith)) (from_holds f (suc a) n (λ i l b. h i (omega arith) (omega arith)))

-- a test that holds of each member of a list
pub all_holds : {A : Type 0} (f : A → Bool) (l : List A) (d : A) → ((i : ℕ) → i < length l → T (f (get_or l i d))) → T (all f l)
all_holds f [] d h = tt
all_holds f (x ∷ xs) d h = together (f x) (all f xs) (h 0 (omega arith)) (all_holds f xs d (λ i b. h (suc i) (omega arith)))

-- the same for numbers that stand in a list
pub times_holds : (f : ℕ → Bool) (l : List ℕ) → ((p : ℕ) → 1 ≤ times p l → T (f p)) → T (all f l)
times_holds f [] h = tt
times_holds f (x ∷ xs) h = together (f x) (all f xs) (h x (omega (arith, head_stands x xs))) (times_holds f xs (λ p b. h p (omega arith)))

-- a test whose number is not 0 holds
pub bit_positive : (t : Bool) → 1 ≤ bit t → T t
bit_positive true b = tt
bit_positive false b = absurd (omega arith)
