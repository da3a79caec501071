-- The check is exact: it finds a table to fit exactly where it is sound.
use Prim.Native.Nat.{ℕ, ◌<◌}
use mathlib.Core.Path.{◌≡◌, refl}
use mathlib.Core.Bool.{Bool, true, false}
use mathlib.Core.List.{List}
use lib.Dec.{T}
use lib.ListN.{get_or}
use Rattle.rules.specs.Packing.{pack, view}
use Rattle.rules.specs.Lists.{same_words}
use Rattle.rules.specs.Soundness.{valid, sound}
use Rattle.rules.proofs.Tests.{both, same_words_means}
use Rattle.rules.proofs.Packing.Regions.{held_once}
use Rattle.rules.proofs.Packing.Blocks.{dims, words_of, pack_holds}
use Rattle.rules.proofs.Packing.Means.{sound_means}
use Rattle.fitting.proofs.Fitting.{table_exact}
use Rattle.fitting.proofs.FitsValid.{fits_valid}
use Rattle.fitting.proofs.FitsHolds.{fits_holds}
use Rattle.fitting.proofs.SoundFits.{sound_fits}
use Rattle.fitting.specs.Twin.{table_fits}

-- tests that say the same are equal
same_test : (a b : Bool) → (T a → T b) → (T b → T a) → a ≡ b
same_test true true to back = refl
same_test true false to back = absurd (to tt)
same_test false true to back = absurd (back tt)
same_test false false to back = refl

module _ (t : List ℕ) (words : (i : ℕ) → get_or t i 0 < 4294967296) where
  -- a table that fits is sound
  fits_sound : T (table_fits t) → T (sound t)
  fits_sound h =
      let f = (table_exact t words).0 h in
      let s = view t in
      let same = held_once (dims s) (words_of s) (words_of s) t (pack s) (fits_holds t words f) (pack_holds s)
      (record { header = λ f b. refl; core = λ k f b c. refl; process = λ p f l b c. refl; channel = λ c f l b d. refl }) in
      (sound_means t).1 (s, fits_valid t words f, same)

  -- a sound table fits
  sound_fits_table : T (sound t) → T (table_fits t)
  unfolding sound
  sound_fits_table h =
      let r = both (valid (view t)) (same_words (pack (view t)) t) h in
      (table_exact t words).1 (sound_fits t r.0 (same_words_means (pack (view t)) t r.1))

  -- The check finds a table to fit exactly where it is sound.
  pub fits_is_sound : table_fits t ≡ sound t
  fits_is_sound = same_test (table_fits t) (sound t) fits_sound sound_fits_table
