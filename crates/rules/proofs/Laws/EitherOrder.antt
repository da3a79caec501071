-- Demand 3: two calls on different cores whose touched items have nothing in common give the same two answers and the same table in
-- either order.
use Prim.Native.Nat.{ℕ}
use mathlib.Core.Path.{◌≡◌, refl}
use mathlib.Core.Bool.{true}
use mathlib.Core.List.{List}
use lib.Dec.{T}
use Rattle.rules.specs.Numbers.{Answer}
use Rattle.rules.specs.State.{State, wiring}
use Rattle.rules.specs.Rule.{Ran, run}
use Rattle.rules.specs.Packing.{view}
use Rattle.rules.specs.Calls.{Result}
use Rattle.rules.specs.Claims.{sends_word, Call, perform, Commute, EitherOrder}
use Rattle.rules.proofs.Laws.Frame.{Within, EitherWay, both_accepted, first_refused, second_refused, both_refused, either_way}
use Rattle.rules.proofs.Laws.Within.{IsTouched, within_touched}
use Rattle.rules.proofs.Laws.Whole.{whole, whole_by, Packs, sound_packs, on_packing}
use Rattle.rules.proofs.Laws.StaysSound.{leaves_packing}

-- the whole rule of a call keeps to the items that the call touches
whole_within : (c : Call) (s : State) → Within (IsTouched s c.core c.ask) (whole true c (wiring s)) s
whole_within c s =
    whole_by c (wiring s) (λ r. Within (IsTouched s c.core c.ask) r s) (λ why. tt) (within_touched s c.core c.ask)

-- two results have one number and one answer
abbrev SameAnswer : Result → Result → Type 0
SameAnswer r r' = (r.number ≡ r'.number) × (r.answer ≡ r'.answer)

-- c and d commute, if each gives the same answer first and after the other, and the last tables are the same
commute_by : {t : List ℕ} (c d : Call) {c_first d_first d_after c_after : Result}
    → perform c t ≡ c_first → perform d t ≡ d_first → perform d c_first.table ≡ d_after → perform c d_first.table ≡ c_after
    → SameAnswer c_first c_after → SameAnswer d_after d_first → d_after.table ≡ c_after.table → Commute t c d
commute_by c d e f g h same_c same_d same_table =
    record { number_of_c = cc; answer_of_c = cc; number_of_d = cc; answer_of_d = cc; table = cc }

-- where the whole rules of c and d come to the same in either order, c and d commute
carried : (c d : Call) {t : List ℕ} {s : State} {x y : Ran Answer} → T (sends_word c.ask) → T (sends_word d.ask) → Packs t s
    → run (whole true c (wiring s)) s ≡ x → run (whole true d (wiring s)) s ≡ y → EitherWay (whole true c) (whole true d) s x y
    → Commute t c d
carried c d c_sends d_sends own e f (both_accepted end _ _ g h) =
    commute_by c d (on_packing c own e) (on_packing d own f) (on_packing d (leaves_packing c c_sends own e) g)
    (on_packing c (leaves_packing d d_sends own f) h) (refl, refl) (refl, refl) refl
carried c d c_sends d_sends own e f (first_refused _ h) =
    let d_first = on_packing d own f in
    commute_by c d (on_packing c own e) d_first d_first (on_packing c (leaves_packing d d_sends own f) h) (refl, refl) (refl, refl) refl
carried c d c_sends d_sends own e f (second_refused _ g) =
    let c_first = on_packing c own e in
    commute_by c d c_first (on_packing d own f) (on_packing d (leaves_packing c c_sends own e) g) c_first (refl, refl) (refl, refl) refl
carried c d c_sends d_sends own e f both_refused =
    let c_first = on_packing c own e in
    let d_first = on_packing d own f in
    commute_by c d c_first d_first d_first c_first (refl, refl) (refl, refl) refl

-- Two calls on different cores whose touched items have nothing in common come to the same in either order.
pub either_order : EitherOrder
either_order t c d c_sends d_sends sounds _ apart =
    let s = view t in
    carried c d c_sends d_sends (sound_packs t sounds) refl refl
    (either_way (whole true c) (whole true d) (IsTouched s c.core c.ask) (IsTouched s d.core d.ask) s
    (λ kind n. apart (record { kind = kind; number = n })) (whole_within c s) (whole_within d s))
