-- A list of guards, gone through guard by guard.
use Rattle.std.specs.List.{list_any}
use Rattle.std.proofs.lemmas.List.Folds.{list_any-append}
use Rattle.std.proofs.Math.Bool.{or_comm, or-false}
use Rattle.std.specs.Prelude.{⊤, Result, Ok, Err, if◌then◌else◌}
use Prim.Native.Nat.{ℕ, suc, ◌+◌, ◌<◌}
use mathlib.Core.Path.{◌≡◌, refl, sym, ap, ◌∙◌}
use mathlib.Core.Bool.{Bool, true, false, ◌||◌}
use mathlib.Core.List.{List, [], ◌∷◌, ◌++◌}
use native.Mathlib.Numerals.{add-one}
use lib.Dec.{eqb}
use lib.ListN.{length, get_or, take, drop}
use lib.Seq.{take-suc, drop-cons}
use Rattle.rules.specs.Lists.{member}
use Rattle.rules.specs.Numbers.{CHANNEL, OTHER_END, TWICE, Answer}
use Rattle.rules.specs.State.{receiving, State, Wiring, is_channel, may_use}
use Rattle.rules.specs.Rule.{Rule, run, ◌>>◌}
use Rattle.rules.specs.Requests.{unless, proper_guards}
use Rattle.answers.specs.declared.Refusal.{Refusal}
use Rattle.answers.specs.declared.Refusal.TheVariants.{Twice}
use Rattle.requests.specs.Asked.{end_checked, after, check_guards}
use Rattle.requests.proofs.ChannelEnds.{Settled, end_asked}

-- Who stands in a list

-- std's test of a list is the rules'
pub any_member : (x : ℕ) (l : List ℕ) → list_any (λ y. eqb y x) l ≡ member x l
any_member x [] = refl
any_member x (y ∷ l) = ap (λ (b : Bool). eqb y x || b) (any_member x l)

-- a number put last stands there as one put first does
member_last : (x y : ℕ) (l : List ℕ) → member x (l ++ (y ∷ [])) ≡ member x (y ∷ l)
member_last x y l =
    sym (any_member x (l ++ (y ∷ []))) ∙ list_any-append (λ z. eqb z x) l (y ∷ [])
    ∙ rw (any_member x l, or_comm (member x l) (eqb y x || false), or-false (eqb y x))

-- The code

module _ (end : ℕ → Result ⊤ Refusal) where
  -- only who stands among the earlier guards matters
  same_earlier : (a b guards : List ℕ) → ((x : ℕ) → member x a ≡ member x b) → check_guards end a guards ≡ check_guards end b guards
  same_earlier a b [] same = refl
  same_earlier a b (c ∷ rest) same =
      rw (same c) (ap (λ (r : Result ⊤ Refusal). after (end c) (if member c b then Err Twice else r))
      (same_earlier (c ∷ a) (c ∷ b) rest (λ x. ap (λ (m : Bool). eqb c x || m) (same x))))

  module _ (guards : List ℕ) (i : ℕ) where
    -- what is still to be tested before guard i
    abbrev pub left : Result ⊤ Refusal
    left = check_guards end (take i guards) (drop i guards)

    -- guard i, whose end is proper, repeats no earlier one
    pub next_left : i < length guards → {done : ⊤} → Ok done ≡ end (get_or guards i 0) → member (get_or guards i 0) (take i guards) ≡ false
        → left ≡ check_guards end (take (i + 1) guards) (drop (i + 1) guards)
    next_left inside good new =
        rw (add-one, take-suc guards i 0, drop-cons guards i 0, ← good, new)
        (same_earlier (get_or guards i 0 ∷ take i guards) (take i guards ++ (get_or guards i 0 ∷ [])) (drop (suc i) guards)
        (λ x. sym (member_last x (get_or guards i 0) (take i guards))))

-- the same tests of ends come to the same
pub same_ends : (f g : ℕ → Result ⊤ Refusal) (guards : List ℕ) → ((c : ℕ) → f c ≡ g c) → check_guards f [] guards ≡ check_guards g [] guards
same_ends f g guards same = λ i. check_guards (λ c. same c i) [] guards

-- The rules

module _ (s : State) (q : Rule Answer) where
  guard_tests : (known own earlier : Bool) (r : Result ⊤ Refusal) (rest : Rule (Unit {0})) → Settled r (run (rest >> q) s) (run q s)
      → Settled (after (end_checked known own) (if earlier then Err Twice else r))
      (run (((unless known CHANNEL >> unless own OTHER_END) >> (unless (if earlier then false else true) TWICE >> rest)) >> q) s) (run q s)
  guard_tests true true true r rest h = refl
  guard_tests true true false r rest h = h
  guard_tests true false earlier r rest h = refl
  guard_tests false own earlier r rest h = refl

  pub guards_settled : (w : Wiring) (p : ℕ) (earlier guards : List ℕ)
      → Settled (check_guards (end_asked w receiving p) earlier guards) (run (proper_guards w p earlier guards >> q) s) (run q s)
  guards_settled w p earlier [] = refl
  guards_settled w p earlier (c ∷ rest) =
      guard_tests (is_channel w c) (may_use w receiving p c) (member c earlier) _ (proper_guards w p (c ∷ earlier) rest)
      (guards_settled w p (c ∷ earlier) rest)
