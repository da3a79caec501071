-- A table that isn't refused first has its header.
use Rattle.std.proofs.Common.{ℕ, ◌≤◌, ◌≡◌, Bool, true, false, List, length, T, ltb, refl, ◌∙◌, arith}
use Rattle.std.proofs.Math.Option.{Option, none, some}
use Rattle.rules.specs.Numbers.{Refusal, ANSWER, DAMAGED, Lent, well_lent}
use Rattle.rules.specs.Layout.{header_size}
use Rattle.rules.specs.Packing.{k_of}
use Rattle.rules.specs.Soundness.{sound}
use Rattle.parts.proofs.Card.{length_is}
use Rattle.fontarisca.specs.First.{first_refusal}

pub sound_header : (t : List ℕ) → sound t ≡ true → header_size ≤ length t
sound_header t e = let sure : T (sound t) = rw e tt in let l = length_is t sure in omega arith

pub allowed_header : (t : List ℕ) (answer : Lent) (k : ℕ) → none ≡ first_refusal t answer k → header_size ≤ length t
allowed_header t answer k e = by_tests (well_lent answer) (sound t) refl refl
  where
    never : {A : Type 0} (why : Refusal) → none ≡ some why → A
    never why e = absurd (let z : ◌≡◌ {A = ℕ} 0 1 = cc in omega arith)

    by_tests : (lent is_sound : Bool) → well_lent answer ≡ lent → sound t ≡ is_sound → header_size ≤ length t
    by_tests true true f g = sound_header t g
    by_tests true false f g = never DAMAGED (e ∙ rw (f, g))
    by_tests false is_sound f g = never ANSWER (e ∙ rw f)
