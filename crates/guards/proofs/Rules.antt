-- What a rule comes to that reads a count or a channel word, by the number in the table.
use Rattle.std.specs.Prelude.{if◌then◌else◌}
use Prim.Native.Nat.{ℕ, ◌≤◌}
use mathlib.Core.Path.{◌≡◌, refl, ap, ◌∙◌, subst}
use mathlib.Core.List.{List}
use mathlib.Core.Option.{Option, none, some}
use native.Mathlib.Omega.{arith}
use lib.Dec.{T, eqb, lit<}
use lib.ListN.{length}
use Rattle.rules.specs.Numbers.{Answer, Said}
use Rattle.rules.specs.State.{ChannelWord, nobody, plain, choosing, State, Wiring}
use Rattle.rules.specs.Rule.{Rule, run, ◌>>=◌}
use Rattle.rules.specs.Choice.{guard, keep_first, first_ready}
use Rattle.rules.specs.Items.{process_of}
use Rattle.rules.specs.Layout.{process_count}
use Rattle.rules.specs.Packing.{word_number, ready_number}
use Rattle.rules.specs.Soundness.{ready_in_list, valid_word}
use Rattle.rules.proofs.Tests.{within_means, not_zero}
use Rattle.parts.specs.Does.{Comes}
use Rattle.parts.proofs.Packs.{Packs, IsProcess, process_read}
use Rattle.guards.specs.Read.{count_at}

-- a valid channel word of number 0 is nobody's
pub word_nobody : (w : Wiring) (x : ChannelWord) → T (valid_word w x) → word_number x ≡ 0 → x ≡ nobody
word_nobody w nobody h e = refl
word_nobody w (plain q) h e = let range = within_means 1 w.N q h in absurd (omega arith)
word_nobody w (choosing q) h e = absurd (omega arith)

-- a first ready guard that is there lies in its list
pub ready_range : (gs : List ℕ) (r : Option ℕ) → T (ready_in_list gs r) → (ready_number r ≡ 0 → ⊥)
    → (1 ≤ ready_number r) × (ready_number r ≤ length gs)
ready_range gs none h there = absurd (there refl)
ready_range gs (some i) h there = within_means 1 (length gs) i h

-- the number of the first that is kept
pub kept_number : (gs : List ℕ) (r : Option ℕ) (i : ℕ) → T (ready_in_list gs r)
    → (if eqb (ready_number r) 0 then i else ready_number r) ≡ ready_number (keep_first r i)
kept_number gs none i h = refl
kept_number gs (some j) i h = rw (not_zero j (within_means 1 (length gs) j h).0)

-- What a rule makes of the count in the table it makes of the count of process p.
pub by_count : {t : List ℕ} {cores processes : ℕ} {s : State} → Packs t cores processes s → (p : ℕ) → IsProcess s p
    → (rule : ℕ → Rule ℕ) (f : ℕ → Rule Answer) (to : Rule ℕ) → to ≡ rule (count_at t cores p) → (r : Said) (u : List ℕ)
    → Comes (run (to >>= f) s) t r u → Comes (run (rule (process_of s p).alternation.count >>= f) s) t r u
by_count {t} {s = s} packs p is rule f to made r u =
    subst (λ (x : Rule ℕ). Comes (run (x >>= f) s) t r u) (made ∙ ap rule (process_read packs p is process_count (lit< tt)))

module _ (s : State) (t : List ℕ) (f : ℕ → Rule Answer) (r : Said) (u : List ℕ) where
  -- one guard is ready
  pub first_on : (gs : List ℕ) (x : Option ℕ) → (ready_number x ≡ 0 → ⊥) → Comes (run (f (guard gs (ready_number x))) s) t r u
      → Comes (run (first_ready gs x >>= f) s) t r u
  first_on gs none there h = absurd (there refl)
  first_on gs (some i) there h = h
