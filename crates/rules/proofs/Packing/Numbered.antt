-- The progress of each number, by its place in the list of them.
use Rattle.std.specs.Prelude.{if◌then◌else◌}
use Prim.Native.Nat.{ℕ, zero, suc, ◌+◌}
use mathlib.Core.Path.{◌≡◌, refl, sym, ap, ◌∙◌}
use mathlib.Core.Bool.{Bool}
use mathlib.Core.List.{List, [], ◌∷◌, map}
use mathlib.Core.Option.{Option}
use native.Mathlib.Omega.{arith}
use native.Mathlib.Nat.{zero-add}
use lib.ListN.{length, get_or}
use borrow.Author.Tests.{eq-eqb, ne_eqb}
use Rattle.rules.specs.Lists.{from}
use Rattle.rules.specs.State.{Progress, nothing}
use Rattle.rules.specs.Packing.{packed_as, numbered, progress_list, progress_numbered}

-- where a list's numbers go up from a by ones, the one numbered a + n stands at place n
by_place : {A : Type 0} (number : A → ℕ) (l : List A) (d : A) (a n : ℕ) → map number l ≡ from a (length l)
    → numbered number l d (a + n) ≡ get_or l n d
by_place number [] d a n e = refl
by_place number (x ∷ l) d a zero e =
    let here : number x ≡ a = cc in
    ap (λ (b : Bool). if b then x else numbered number l d (a + 0)) (eq-eqb (number x) (a + 0) (omega arith))
by_place number (x ∷ l) d a (suc n) e =
    let here : number x ≡ a = cc in
    let behind : map number l ≡ from (suc a) (length l) = cc in
    let next : a + suc n ≡ suc a + n = omega arith in
    ap (λ (b : Bool). if b then x else numbered number l d (a + suc n)) (ne_eqb (number x) (a + suc n) (λ q. omega arith))
    ∙ ap (numbered number l d) next ∙ by_place number l d (suc a) n behind

pub progress_by_place : (n c q : ℕ) (gs : List ℕ) (i : ℕ) (r : Option ℕ)
    → progress_numbered n c q gs i r ≡ get_or (progress_list c q gs i r) n nothing
unfolding progress_numbered
progress_by_place n c q gs i r =
    let number : Progress → ℕ = λ x. (packed_as x).0 in
    ap (numbered number (progress_list c q gs i r) nothing) (sym (zero-add n)) ∙ by_place number (progress_list c q gs i r) nothing 0 n refl
