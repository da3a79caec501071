-- A flag, by its number.
use mathlib.Core.Path.{◌≡◌, refl}
use mathlib.Core.Bool.{Bool, true, false}
use native.Mathlib.Omega.{arith}
use Rattle.rules.specs.Lists.{bit}

-- a flag of number 0 is clear, and any other is set
pub clear_flag : (b : Bool) → bit b ≡ 0 → b ≡ false
clear_flag true e = absurd (omega arith)
clear_flag false e = refl

pub set_flag : (b : Bool) → (bit b ≡ 0 → ⊥) → b ≡ true
set_flag true there = refl
set_flag false there = absurd (there refl)

-- a flag that isn't of number 1 is clear
pub unset_flag : (b : Bool) → (bit b ≡ 1 → ⊥) → b ≡ false
unset_flag true calm = absurd (calm refl)
unset_flag false calm = refl
