-- A channel is read back from its words.
use Rattle.std.specs.Prelude.{if◌then◌else◌}
use Prim.Native.Nat.{ℕ, ◌+◌, ◌*◌, ◌/◌, ◌%◌, ◌≤◌, ◌<◌}
use mathlib.Core.Path.{◌≡◌, refl, ap, ◌∙◌}
use mathlib.Core.Bool.{Bool, true, false}
use native.Mathlib.Omega.{arith}
use lib.Dec.{T, eqb, lit<}
use lib.ListN.{length, get_or}
use borrow.Author.Tests.{eq-eqb, ne_eqb}
use Rattle.rules.specs.State.{ChannelWord, nobody, plain, choosing, State, Wiring, wiring}
use Rattle.rules.specs.Items.{channel_of}
use Rattle.rules.specs.Layout.{channel_stride, channel_writer, channel_reader, channel_holder, channel_transfers}
use Rattle.rules.specs.Packing.{word_number, word_numbered, channel_words, pack, word_of_channel, view_channel}
use Rattle.rules.specs.Soundness.{valid_word}
use Rattle.rules.proofs.Tests.{within_means, not_zero}
use Rattle.rules.proofs.Packing.Reflect.{Valid}
use Rattle.rules.proofs.Packing.Reading.{channel_word_of_pack}

-- a number that isn't 0, as a channel word: its half, plain where it is even
word_from_number : (n : ℕ) (even : Bool) → 1 ≤ n → eqb (n % 2) 0 ≡ even
    → word_numbered n ≡ (if even then plain (n / 2) else choosing (n / 2))
word_from_number n even l e =
    ap (λ (t : Bool). if t then nobody else if eqb (n % 2) 0 then plain (n / 2) else choosing (n / 2)) (not_zero n l)
    ∙ ap (λ (t : Bool). if t then plain (n / 2) else choosing (n / 2)) e

-- a channel word is read back from its number
pub word_back : (w : Wiring) (x : ChannelWord) → T (valid_word w x) → word_numbered (word_number x) ≡ x
word_back w nobody h = refl
word_back w (plain q) h =
    let r = within_means 1 w.N q h in
    let half : 2 * q / 2 ≡ q = omega arith in
    word_from_number (2 * q) true (omega arith) (eq-eqb (2 * q % 2) 0 (omega arith)) ∙ ap plain half
word_back w (choosing q) h =
    let half : (2 * q + 1) / 2 ≡ q = omega arith in
    word_from_number (2 * q + 1) false (omega arith) (ne_eqb ((2 * q + 1) % 2) 0 (omega arith)) ∙ ap choosing half

-- A channel is read back from the packing of a valid state.
pub view_channel_back : (s : State) → Valid s → (c : ℕ) → 1 ≤ c → c ≤ length s.channels → view_channel (pack s) c ≡ channel_of s c
unfolding view_channel channel_words
view_channel_back s v c l b =
    let x = channel_of s c in
    let at : (f : ℕ) → f < channel_stride → word_of_channel (pack s) c f ≡ get_or (channel_words x) f 0 = λ f. channel_word_of_pack s c f l b in
    let writer = at channel_writer (lit< tt) in
    let reader = at channel_reader (lit< tt) in
    let word = ap word_numbered (at channel_holder (lit< tt)) ∙ word_back (wiring s) x.word (v.channels c l b).word in
    let transfers = at channel_transfers (lit< tt) in
    λ i. record { ends = record { writer = writer i; reader = reader i }; word = word i; transfers = transfers i }
