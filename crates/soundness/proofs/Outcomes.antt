-- What a call tells of a walk.
use Prim.Native.Nat.{ℕ}
use mathlib.Core.Path.{◌≡◌, sym, ap, ◌∙◌}
use mathlib.Core.Bool.{Bool, true, false}
use mathlib.Core.List.{List}
use Rattle.fitting.specs.Twin.{Walk, flaw, well}
use Rattle.soundness.specs.Parts.{outcome}

pub all_well : (r : Bool) (met : List ℕ) (w : Walk) → r ≡ true → outcome r met ≡ w → well met ≡ w
all_well r met w n e = sym (ap (λ b. outcome b met) n) ∙ e

pub not_well : (r : Bool) (met : List ℕ) (w : Walk) → r ≡ false → outcome r met ≡ w → flaw ≡ w
not_well r met w n e = sym (ap (λ b. outcome b met) n) ∙ e
