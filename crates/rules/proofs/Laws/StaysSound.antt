-- "Every accepted call on a sound table leaves it sound."
use Prim.Native.Nat.{ℕ}
use native.Mathlib.Omega.{arith}
use mathlib.Core.Path.{◌≡◌, refl}
use mathlib.Core.Bool.{true}
use mathlib.Core.List.{List}
use mathlib.Core.Option.{Option, none, some}
use lib.Dec.{T, leb→le}
use lib.ListN.{length}
use Rattle.rules.specs.Numbers.{Answer, Refusal, no_because, number_of, Lent}
use Rattle.rules.specs.State.{State, wiring}
use Rattle.rules.specs.Rule.{Ran, accepted, refused, run}
use Rattle.rules.specs.Packing.{pack}
use Rattle.rules.specs.SetUp.{set_up_refusal, set_up_state}
use Rattle.rules.specs.Soundness.{valid, sound}
use Rattle.rules.specs.Calls.{outcome_of, built, set_up_call}
use Rattle.rules.specs.Claims.{sends_word, StaysSound, Call}
use Rattle.rules.proofs.Packing.Means.{sound_means}
use Rattle.rules.proofs.Validity.StaysValid.{stays_valid}
use Rattle.rules.proofs.Validity.SetUp.{set_up_valid}
use Rattle.rules.proofs.Laws.Whole.{whole, whole_by, Packs, packs_sound, sound_packs, on_packing}
use Rattle.rules.proofs.Laws.ListedNumber.{refusal_listed}

-- a call that is accepted leaves the packing of a valid state
pub leaves_packing : (c : Call) {t : List ℕ} {s : State} {a : Answer} {s' : State} → T (sends_word c.ask) → Packs t s
    → run (whole true c (wiring s)) s ≡ accepted a s' → Packs (pack s') s'
leaves_packing c {s = s} {a = a} {s' = s'} small h =
    whole_by c (wiring s) (λ r. run r s ≡ accepted a s' → Packs (pack s') s')
    (λ why e. let z : ◌≡◌ {A = ℕ} 0 1 = cc in absurd (omega arith))
    (λ there e. record { good = stays_valid s c.core c.ask a s' small h.good there e; packed = refl })

-- an outcome on a sound table leaves it sound, if what is accepted does
ran_sound : (t : List ℕ) (answer : Lent) (x : Ran Answer) → T (sound t) → ((a : Answer) (s : State) → x ≡ accepted a s → T (sound (pack s)))
    → T (sound (outcome_of t answer x).table)
ran_sound t answer (accepted a s) h keeps = keeps a s refl
ran_sound t answer (refused why) h keeps = h

-- a set-up with number 0 leaves a sound table, if what is built where nothing is refused is valid
built_sound : (t : List ℕ) (s : State) (o : Option Refusal) → (o ≡ none → T (valid s)) → (built t s o).number ≡ 0 → T (sound (built t s o).table)
built_sound t s none keeps h = (sound_means (pack s)).1 (s, keeps refl, refl)
built_sound t s (some why) keeps h = absurd (omega (arith, leb→le 20 (number_of (no_because why)) (refusal_listed why).1))

-- Every call on a sound table leaves it sound, and an accepted set-up leaves a sound table.
pub stays_sound : StaysSound
unfolding set_up_call
stays_sound = record {
  calls =
      λ t answer k ask small h.
      let c : Call = record { core = k; ask = ask; answer = answer } in
      let own = sound_packs t h in
      rw (on_packing c own refl) (ran_sound t answer _ h (λ a s e. packs_sound (leaves_packing c small own e)));
  set_up =
      λ k n m pairs t.
      built_sound t (set_up_state k n pairs) (set_up_refusal k n m pairs (length t)) (set_up_valid k n m pairs (length t));
}
