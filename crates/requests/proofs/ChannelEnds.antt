-- A channel's end: the code's test is that of the rules.
use Rattle.std.specs.Prelude.{⊤, Result, Ok, Err}
use Prim.Native.Nat.{ℕ, zero, suc, ◌≤◌}
use mathlib.Core.Path.{◌≡◌, refl, sym, ap, ◌∙◌, subst}
use mathlib.Core.Bool.{Bool, true, false}
use mathlib.Core.List.{List}
use lib.Dec.{T, eqb, lit<}
use lib.ListN.{length, length-map, get_or-map}
use Rattle.rules.specs.Lists.{within}
use Rattle.rules.specs.Numbers.{Answer, Said, no_because, CHANNEL, OTHER_END}
use Rattle.rules.specs.State.{Way, sending, receiving, Channel, State, Wiring, at_end, end_of, is_channel, may_use, users}
use Rattle.rules.specs.Items.{no_channel, channel_of}
use Rattle.rules.specs.Rule.{Rule, Ran, refused, run, ◌>>◌}
use Rattle.rules.specs.Requests.{unless, proper_end}
use Rattle.rules.specs.Layout.{channel_at, channel_writer, channel_reader}
use Rattle.rules.specs.Packing.{view, word_at, m_of}
use Rattle.rules.proofs.Tests.{within_means}
use Rattle.answers.specs.Said.{because}
use Rattle.answers.specs.declared.Refusal.{Refusal}
use Rattle.table.specs.declared.Sizes.{Sizes}
use Rattle.parts.specs.Does.{Card, Comes}
use Rattle.parts.proofs.Card.{m_is}
use Rattle.parts.proofs.Packs.{card_packs, channel_read}
use Rattle.requests.specs.Asked.{end_checked, check_end}

-- What a test leaves of what a rule comes to, x: a refusal, or y where it is passed.
abbrev pub Settled : Result ⊤ Refusal → Ran Answer → Ran Answer → Type 0
Settled (Ok done) x y = x ≡ y
Settled (Err why) x y = x ≡ refused (because why)

module _ (t : List ℕ) (r : Result ⊤ Refusal) (x y : Ran Answer) (h : Settled r x y) where
  pub passes : {done : ⊤} → Ok done ≡ r → (a : Said) (u : List ℕ) → Comes y t a u → Comes x t a u
  passes {done} e a u =
      let same : x ≡ y = subst (λ (r : Result ⊤ Refusal). Settled r x y) (sym e) h in
      subst (λ (z : Ran Answer). Comes z t a u) (sym same)

  pub stops : {why : Refusal} → Err why ≡ r → {a : Said} → a ≡ no_because (because why) → Comes x t a t
  stops {why} e {a} e' =
      let refusal : x ≡ refused (because why) = subst (λ (r : Result ⊤ Refusal). Settled r x y) (sym e) h in
      rw refusal (e', refl)

-- The rules

module _ (s : State) (q : Rule Answer) where
  -- the end of a channel
  end_tests : (known own : Bool)
      → Settled (end_checked known own) (run ((unless known CHANNEL >> unless own OTHER_END) >> q) s) (run q s)
  end_tests true true = refl
  end_tests true false = refl
  end_tests false own = refl

-- the test of an end by the rules
abbrev pub end_asked : Wiring → Way → ℕ → ℕ → Result ⊤ Refusal
end_asked w way p c = end_checked (is_channel w c) (may_use w way p c)

pub end_settled : (s : State) (q : Rule Answer) (w : Wiring) (way : Way) (p c : ℕ)
    → Settled (end_asked w way p c) (run (proper_end w way p c >> q) s) (run q s)
end_settled s q w way p c = end_tests s q (is_channel w c) (may_use w way p c)

-- The table

-- the word of a channel's end
abbrev pub end_word : Way → ℕ
end_word sending = channel_writer
end_word receiving = channel_reader

module _ (t : List ℕ) (sizes : Sizes) (k : ℕ) (card : Card t sizes.cores sizes.processes k) (all_channels : sizes.channels ≡ m_of t) where
  pub channels_are : sizes.channels ≡ length (view t).channels
  channels_are = all_channels ∙ m_is t card.is_sound

  -- an end of a channel of the state
  end_viewed : (way : Way) (c : ℕ) → end_of (users (view t)) way c ≡ at_end way (channel_of (view t) c).ends
  end_viewed way zero = refl
  end_viewed way (suc i) = ap (at_end way) (get_or-map (λ (x : Channel). x.ends) (view t).channels i no_channel)

  end_read : (way : Way) (c : ℕ) → 1 ≤ c → c ≤ length (view t).channels
      → word_at t (channel_at sizes.cores sizes.processes c (end_word way)) ≡ end_of (users (view t)) way c
  end_read way c low high =
      at_way way ∙ sym (end_viewed way c)
    where
      at_way : (way : Way) → word_at t (channel_at sizes.cores sizes.processes c (end_word way)) ≡ at_end way (channel_of (view t) c).ends
      at_way sending = channel_read (card_packs card) c (low, high) channel_writer (lit< tt)
      at_way receiving = channel_read (card_packs card) c (low, high) channel_reader (lit< tt)

  -- the code's test of a channel's end is the rules'
  pub end_same : (way : Way) (p c : ℕ) → check_end t sizes p (end_word way) c ≡ end_asked (users (view t)) way p c
  end_same way p c =
      ap (λ (m : ℕ). end_checked (within 1 m c) (eqb (word_at t (channel_at sizes.cores sizes.processes c (end_word way))) p)) same_number
      ∙ cases (is_channel (users (view t)) c) refl
    where
      same_number : sizes.channels ≡ length (users (view t)).ends
      same_number = channels_are ∙ sym (length-map (view t).channels (λ (x : Channel). x.ends))

      cases : (known : Bool) → is_channel (users (view t)) c ≡ known
          → end_checked known (eqb (word_at t (channel_at sizes.cores sizes.processes c (end_word way))) p)
          ≡ end_checked known (may_use (users (view t)) way p c)
      cases false e = refl
      cases true e =
          let range = within_means 1 (length (users (view t)).ends) c (subst T (sym e) tt) in
          ap (λ (n : ℕ). end_checked true (eqb n p)) (end_read way c range.0 (rw length-map at range.1))
