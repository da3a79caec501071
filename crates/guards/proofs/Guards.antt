-- A table in which a process is at a stage of a choice: its words, its guards, and what it packs after the process goes on.
use Rattle.std.specs.Prelude.{if◌then◌else◌}
use Prim.Native.Nat.{ℕ, zero, suc, ◌+◌, ◌-◌, ◌≤◌, ◌<◌}
use mathlib.Core.Path.{◌≡◌, refl, sym, ap, ◌∙◌}
use mathlib.Core.Bool.{Bool, true, false}
use mathlib.Core.List.{List, [], ◌∷◌}
use mathlib.Core.Option.{Option}
use native.Mathlib.Omega.{arith}
use native.Mathlib.Nat.{zero-add}
use lib.Dec.{T, ltb, lit<}
use lib.ListN.{length, get_or, set}
use Rattle.rules.specs.Lists.{within, all, distinct}
use Rattle.rules.specs.State.{receiving, Stage, doing, Process, Alternation, ChannelWord, State, wiring}
use Rattle.rules.specs.Items.{process_of, no_process, put, alternation, progress, channel_word}
use Rattle.rules.specs.Choice.{guard}
use Rattle.rules.specs.Layout.{process_at, channel_at, process_enabling, process_count, process_progress, process_guards, process_index}
use Rattle.rules.specs.Layout.{process_first_ready, process_first_guard, progress_size, guard_places, channel_holder}
use Rattle.rules.specs.Packing.{ready_number, padded, of_choice, progress_words, pack, view, word_number}
use Rattle.rules.specs.Soundness.{own_end, own_guards}
use Rattle.packing.proofs.Focus.{writes, below}
use Rattle.rules.proofs.Packing.Blocks.{second_part}
use Rattle.rules.proofs.Tests.{three, all_at}
use Rattle.rules.proofs.Tabulate.{tabulate_at}
use Rattle.rules.proofs.Packing.Reading.{alternation_words}
use Rattle.rules.proofs.Nth.{nth_set_same}
use Rattle.packing.proofs.ReadLaws.{padded_listed}
use Rattle.parts.specs.Does.{At}
use Rattle.parts.proofs.Card.{own_end_range, runs_range}
use Rattle.parts.proofs.Packs.{Packs, IsProcess, IsChannel, card_packs, still_process, progress_kept, process_read, progress_read, word_written}
use Rattle.parts.proofs.Packs.{alternation_written, progress_written}
use Rattle.guards.specs.Read.{word_of, guard_place, stage_table, next_table}

-- the number of a process's word among those of its progress, and among those of its alternation state
abbrev pub in_progress : ℕ → ℕ
in_progress f = f - process_progress

abbrev pub in_alternation : ℕ → ℕ
in_alternation f = f - process_enabling

-- how many the latter are
abbrev alternation_size : ℕ
alternation_size = in_alternation process_progress

-- The table packs s, and process p is at a stage of a choice with this number, these guards, this index and first ready guard.
pub record Chooses (t : List ℕ) (cores processes : ℕ) (s : State) (p n : ℕ) (gs : List ℕ) (i : ℕ) (r : Option ℕ) : Type 0 where
  pub packs : Packs t cores processes s
  pub among : IsProcess s p
  pub words : progress_words (process_of s p).progress ≡ of_choice n gs i r

-- so it is where a process runs at such a stage
pub at_chooses : {t : List ℕ} {cores processes k p : ℕ} {x : Stage} → At t cores processes k p x → (n : ℕ) (gs : List ℕ) (i : ℕ) (r : Option ℕ)
    → progress_words (doing x) ≡ of_choice n gs i r → Chooses t cores processes (view t) p n gs i r
at_chooses {t} {cores} {processes} {k} {p} {x} at n gs i r words =
    record {
      packs = card_packs at.card;
      among = runs_range t cores processes k p x at;
      words = ap progress_words at.stage ∙ words;
    }

-- a guard of one's own is a channel
pub guard_range : (s : State) (p : ℕ) (gs : List ℕ) → T (own_guards (wiring s) p gs) → (i : ℕ) → 1 ≤ i → i ≤ length gs
    → IsChannel s (guard gs i)
guard_range s p gs own zero low high = absurd (omega arith)
guard_range s p gs own (suc i) low high =
    let t = three (within 1 8 (length gs)) (all (own_end (wiring s) receiving p) gs) (distinct gs) own in
    own_end_range s receiving p (get_or gs i 0) (all_at (own_end (wiring s) receiving p) gs 0 t.1 i (omega arith))

module _ {t : List ℕ} {cores processes : ℕ} {s : State} {p n : ℕ} {gs : List ℕ} {i : ℕ} {r : Option ℕ}
    (h : Chooses t cores processes s p n gs i r) where
  -- the words of its progress
  reads : (f : ℕ) → f < progress_size → word_of t cores p (process_progress + f) ≡ get_or (of_choice n gs i r) f 0
  reads f b = progress_read h.packs p h.among f b ∙ ap (λ (l : List ℕ). get_or l f 0) h.words

  pub length_reads : word_of t cores p process_guards ≡ length gs
  length_reads = reads (in_progress process_guards) (lit< tt)

  pub index_reads : word_of t cores p process_index ≡ i
  index_reads = reads (in_progress process_index) (lit< tt)

  pub ready_reads : word_of t cores p process_first_ready ≡ ready_number r
  ready_reads = reads (in_progress process_first_ready) (lit< tt)

  pub guard_reads : (j : ℕ) → 1 ≤ j → j ≤ guard_places → word_of t cores p (guard_place j) ≡ guard gs j
  guard_reads zero low high = absurd (omega arith)
  guard_reads (suc j) low high =
      let before = in_progress process_first_guard in
      let e : guard_place (suc j) ≡ process_progress + (before + j) = omega arith in
      ap (word_of t cores p) e ∙ reads (before + j) (omega arith)
      ∙ second_part (n ∷ 0 ∷ 0 ∷ length gs ∷ i ∷ ready_number r ∷ []) (padded guard_places gs) before j refl
      ∙ ap (λ (l : List ℕ). get_or l j 0) (padded_listed guard_places gs)
      ∙ tabulate_at (λ f. get_or gs f 0) 0 guard_places 0 j (omega arith) ∙ ap (λ (f : ℕ). get_or gs f 0) (zero-add j)

  -- its count
  pub count_is : word_of t cores p process_count ≡ (process_of s p).alternation.count
  count_is = process_read h.packs p h.among process_count (lit< tt)

  -- it is at another stage with the same guards
  stage_packs : (x : Stage) (n' i' : ℕ) (r' : Option ℕ) (ws : List (ℕ × ℕ)) → T (below progress_size (λ j. j) ws)
      → writes ws (λ j. j) (of_choice n gs i r) ≡ of_choice n' gs i' r' → progress_words (doing x) ≡ of_choice n' gs i' r'
      → Packs (writes ws (λ j. process_at cores p (process_progress + j)) t) cores processes (put progress p (doing x) s)
  stage_packs x n' i' r' ws b turned words =
      progress_written h.packs p h.among (doing x) ws b
      (ap (writes ws (λ j. j)) h.words ∙ turned ∙ sym words)

  -- at the same guard
  pub same_guard : (x : Stage) (n' : ℕ) → progress_words (doing x) ≡ of_choice n' gs i r
      → set t (process_at cores p process_progress) n' ≡ pack (put progress p (doing x) s)
  same_guard x n' words = (stage_packs x n' i r ((in_progress process_progress, n') ∷ []) tt refl words).is_pack

  -- at another guard
  pub other_guard : (x : Stage) (n' i' : ℕ) → progress_words (doing x) ≡ of_choice n' gs i' r
      → Packs (stage_table t cores p i' n') cores processes (put progress p (doing x) s)
  other_guard x n' i' words = stage_packs x n' i' r ((in_progress process_index, i') ∷ (in_progress process_progress, n') ∷ []) tt refl words

  -- at the next guard, or after the last one
  pub next_packs : (x y : Stage) (again after : ℕ) → progress_words (doing x) ≡ of_choice again gs (i + 1) r
      → progress_words (doing y) ≡ of_choice after gs 0 r
      → next_table t cores p again after ≡ pack (put progress p (doing (if ltb i (length gs) then x else y)) s)
  unfolding next_table
  next_packs x y again after more last = rw (index_reads, length_reads) (cases (ltb i (length gs)))
    where
      cases : (b : Bool) → (if b then stage_table t cores p (i + 1) again else stage_table t cores p 0 after)
          ≡ pack (put progress p (doing (if b then x else y)) s)
      cases true = (other_guard x again (i + 1) more).is_pack
      cases false = (other_guard y after 0 last).is_pack

  -- Changes of other items leave it there.
  pub alternation_chooses : (v : Alternation) (ws : List (ℕ × ℕ)) → T (below alternation_size (λ j. j) ws)
      → writes ws (λ j. j) (alternation_words (process_of s p).alternation) ≡ alternation_words v
      → Chooses (writes ws (λ j. process_at cores p (process_enabling + j)) t) cores processes (put alternation p v s) p n gs i r
  alternation_chooses v ws b turned =
      record {
        packs = alternation_written h.packs p h.among v ws b turned;
        among = still_process s p p _ h.among;
        words = ap progress_words (progress_kept alternation tt p v s p) ∙ h.words;
      }

  -- Another first ready guard is kept.
  pub ready_chooses : (x : Stage) (a : ℕ) (r' : Option ℕ) → a ≡ ready_number r' → progress_words (doing x) ≡ of_choice n gs i r'
      → Chooses (set t (process_at cores p process_first_ready) a) cores processes (put progress p (doing x) s) p n gs i r'
  ready_chooses x a r' e words =
      record {
        packs = stage_packs x n i r' ((in_progress process_first_ready, a) ∷ []) tt (rw e) words;
        among = still_process s p p _ h.among;
        words = ap (λ (y : Process). progress_words y.progress) (nth_set_same s.processes p _ no_process h.among.0 h.among.1) ∙ words;
      }

  pub word_chooses : (c : ℕ) → IsChannel s c → (w : ChannelWord)
      → Chooses (set t (channel_at cores processes c channel_holder) (word_number w)) cores processes (put channel_word c w s) p n gs i r
  word_chooses c is w = record { packs = word_written h.packs c is w; among = h.among; words = h.words }
