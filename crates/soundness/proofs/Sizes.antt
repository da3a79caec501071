-- What a header that fits leaves to check.
use Prim.Native.Nat.{ℕ, ◌<◌}
use mathlib.Core.Path.{◌≡◌, sym, ◌∙◌}
use mathlib.Core.Bool.{true, false}
use mathlib.Core.List.{List}
use lib.ListN.{get_or}
use Rattle.rules.specs.Packing.{k_of, n_of, m_of}
use Rattle.rules.specs.Soundness.{sound}
use Rattle.fitting.specs.Twin.{header_fits, table_fits}
use Rattle.fitting.proofs.FitsIsSound.{fits_is_sound}
use Rattle.soundness.specs.Parts.{parts_fit}

-- of a table of 32-bit words
module _ (t : List ℕ) (narrow : (i : ℕ) → get_or t i 0 < 4294967296) where
  pub header_left : header_fits t ≡ true → parts_fit t (k_of t) (n_of t) (m_of t) ≡ sound t
  unfolding table_fits parts_fit
  header_left e = let left : table_fits t ≡ parts_fit t (k_of t) (n_of t) (m_of t) = rw e in sym left ∙ fits_is_sound t narrow

  pub header_flaw : header_fits t ≡ false → false ≡ sound t
  unfolding table_fits
  header_flaw e = let flaw : table_fits t ≡ false = rw e in sym flaw ∙ fits_is_sound t narrow
