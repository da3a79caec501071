use Rattle.std.specs.Prelude.{◌≡◌, ◌≢◌, ℕ, ◌+◌, ◌<◌, List, [], length, Option, MatchOption, Some, slice_get, take, drop}
use Rattle.std.specs.Borrow.{Bor}
use Rattle.script.specs.declared.text.Parts.{Parts}

-- b stands at this place, with no `unless` right after it
pub record StandsAlone (s : List ℕ) (b unless at : ℕ) : Type 0 where
  pub here : slice_get s at ≡ Some b
  pub after : slice_get s (at + 1) ≢ Some unless

-- the first place where it does
pub record IsFirst (s : List ℕ) (b unless at : ℕ) : Type 0 where
  pub found : StandsAlone s b unless at
  pub before : (k : ℕ) → k < at → ¬ StandsAlone s b unless k

-- what is left of a text that is given in parts, and what its parts end at
abbrev pub parts_rest : Parts → List ℕ
parts_rest p = p.rest.now

abbrev pub parts_separator : Parts → ℕ
parts_separator p = p.separator

abbrev pub parts_unless : Parts → ℕ
parts_unless p = p.unless

-- a text begins with this part, up to the first separator, and this is left after it
pub record IsPart (s : List ℕ) (separator unless : ℕ) (part rest : List ℕ) : Type 0 where
  pub front : part ≡ take (length part) s
  pub left : rest ≡ drop (length part + 1) s
  pub ends : length part < length s → StandsAlone s separator unless (length part)
  pub first : (k : ℕ) → k < length part → ¬ StandsAlone s separator unless k

-- the next part comes, or nothing is left
abbrev pub GivesPart : Parts → Option (Bor (List ℕ)) → Parts → Type 0
GivesPart old r new =
    MatchOption r (parts_rest old ≡ []) (λ part. IsPart (parts_rest old) old.separator old.unless part.now (parts_rest new))
    × (new.separator ≡ old.separator) × (new.unless ≡ old.unless)
