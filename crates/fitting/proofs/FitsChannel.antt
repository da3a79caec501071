-- A channel of a table fits exactly where the channel that is read out of it is valid, and its words are read out whatever they are.
use Rattle.std.specs.Prelude.{if◌then◌else◌}
use Prim.Native.Nat.{ℕ, zero, suc, ◌/◌, ◌%◌, ◌<◌}
use mathlib.Core.Path.{◌≡◌, refl, sym}
use mathlib.Core.Bool.{Bool, true, false, ◌||◌}
use mathlib.Core.List.{List}
use native.Mathlib.Omega.{arith}
use lib.Dec.{eqb}
use lib.ListN.{get_or}
use borrow.Author.Tests.{eqb-true, eqb-false, lt-ltb}
use Rattle.rules.specs.Layout.{channel_stride, channel_holder, channel_transfers}
use Rattle.rules.specs.Lists.{within}
use Rattle.rules.specs.State.{nobody, plain, choosing, Wiring}
use Rattle.rules.specs.Packing.{word_number, word_numbered, k_of, n_of, word_of_channel, channel_words, view_channel}
use Rattle.rules.specs.Soundness.{valid_word, valid_channel}
use Rattle.fitting.proofs.Tests.{and_true}
use Rattle.fitting.specs.Twin.{channel_fits}

-- the number of a channel word that was read out of a number
word_number_back : (n : ℕ) → word_number (word_numbered n) ≡ n
word_number_back n = cases (eqb n 0) (eqb (n % 2) 0) refl refl
  where
    cases : (none even : Bool) → eqb n 0 ≡ none → eqb (n % 2) 0 ≡ even
        → word_number (if none then nobody else if even then plain (n / 2) else choosing (n / 2)) ≡ n
    cases true even e f = sym (eqb-true n 0 e)
    cases false true e f = omega (arith, eqb-true (n % 2) 0 f)
    cases false false e f = omega (arith, eqb-false (n % 2) 0 f)

-- The words of a channel that is read out of a table are those of the table.
pub channel_words_back : (t : List ℕ) (c f : ℕ) → f < channel_stride → get_or (channel_words (view_channel t c)) f 0 ≡ word_of_channel t c f
unfolding channel_words view_channel
channel_words_back t c zero b = refl
channel_words_back t c (suc zero) b = refl
channel_words_back t c (suc (suc zero)) b = word_number_back (word_of_channel t c channel_holder)
channel_words_back t c (suc (suc (suc zero))) b = refl
channel_words_back t c (suc (suc (suc (suc f)))) b = absurd (omega arith)

-- a channel word is valid where it is nobody's or a process's
valid_word_is : (w : Wiring) (n : ℕ) → valid_word w (word_numbered n) ≡ (eqb n 0 || within 1 w.N (n / 2))
valid_word_is w n = cases (eqb n 0) (eqb (n % 2) 0)
  where
    cases : (none even : Bool)
        → valid_word w (if none then nobody else if even then plain (n / 2) else choosing (n / 2)) ≡ (none || within 1 w.N (n / 2))
    cases true even = refl
    cases false true = refl
    cases false false = refl

-- A channel fits exactly where it is valid.
pub channel_fits_is : (t : List ℕ) (w : Wiring) → w.N ≡ n_of t → (c : ℕ) → word_of_channel t c channel_transfers < 4294967296
    → valid_channel w (view_channel t c) ≡ channel_fits t (k_of t) (n_of t) c
unfolding valid_channel view_channel
channel_fits_is t w e c b = rw (lt-ltb (word_of_channel t c channel_transfers) 4294967296 b, and_true, valid_word_is, e)
