use Rattle.std.proofs.Common.{◌≡◌, ℕ, ◌+◌, ◌*◌, ◌%◌, ◌^◌, List, [], ◌∷◌, fold, refl, sym, ◌∙◌, ap}
use Rattle.std.proofs.Math.Nat.{mod-add-mod}
use Rattle.std.proofs.lemmas.Nat.{mul-mod_first}
use Rattle.script.specs.Numbers.{decimal_value}

-- one more digit, modulo m
pub digit-mod : (m a c : ℕ) → (a % m * 10 + c) % m ≡ (a * 10 + c) % m
digit-mod m a c =
    sym (mod-add-mod (a % m * 10) m c) ∙ ap (λ n. (n + c) % m) (mul-mod_first a 10 m) ∙ mod-add-mod (a * 10) m c

-- a number that is kept modulo m with each digit is the whole number modulo m
pub fold-mod : (m a : ℕ) (digits : List ℕ) → fold (λ n d. (n * 10 + d % 16) % m) (a % m) digits ≡ fold (λ n d. n * 10 + d % 16) a digits % m
fold-mod m a [] = refl
fold-mod m a (d ∷ digits) =
    ap (λ n. fold (λ n d. (n * 10 + d % 16) % m) n digits) (digit-mod m a (d % 16)) ∙ fold-mod m (a * 10 + d % 16) digits

-- the same, of the fold's result
pub decimal_value-fold : (digits : List ℕ) (n : ℕ) → n ≡ fold (λ n d. (n * 10 + d % 16) % 2 ^ 32) 0 digits → n ≡ decimal_value digits % 2 ^ 32
decimal_value-fold digits n e = e ∙ fold-mod (2 ^ 32) 0 digits
