-- What a table packs after the writes of a request.
use Prim.Native.Nat.{ℕ, zero, suc, ◌+◌, ◌-◌, ◌≤◌}
use mathlib.Core.Path.{◌≡◌, refl, ap, ◌∙◌, subst}
use mathlib.Core.List.{List, [], ◌∷◌, ◌++◌}
use native.Mathlib.Omega.{arith}
use lib.ListN.{length, set}
use lib.Seq.{sets}
use Rattle.rules.specs.State.{Way, sending, receiving, look, enable_look, nothing, doing, due, go, State}
use Rattle.rules.specs.Items.{process_of, put, alternation, progress}
use Rattle.rules.specs.Layout.{process_at, process_enabling, process_not_ready, process_waiting, process_count, process_progress, process_channel, process_guards, process_index, process_first_guard, progress_size, guard_places, at_send_look, at_enable_look, due_go}
use Rattle.rules.specs.Packing.{padded, progress_words}
use Rattle.rules.specs.Requests.{choice_begun}
use Rattle.packing.proofs.Focus.{writes}
use Rattle.layout.specs.Numbers.{of_way}
use Rattle.parts.proofs.Rows.{in_row, writes_in_row, in_row_below}
use Rattle.parts.proofs.Packs.{Packs, IsProcess, alternation_written, progress_written}
use Rattle.requests.specs.Asked.{look_table, begun_table, enabling_table}

-- behind a list's first word, and behind its first part
sets_behind : (x : ℕ) (l : List ℕ) (j : ℕ) (vs : List ℕ) → sets (x ∷ l) (suc j) vs ≡ x ∷ sets l j vs
sets_behind x l j [] = refl
sets_behind x l j (v ∷ vs) = sets_behind x (set l j v) (suc j) vs

sets_after : (a l vs : List ℕ) → sets (a ++ l) (length a) vs ≡ a ++ sets l 0 vs
sets_after [] l vs = refl
sets_after (x ∷ a) l vs = sets_behind x (a ++ l) (length a) vs ∙ ap (λ (m : List ℕ). x ∷ m) (sets_after a l vs)

-- written over zeros
sets_padded : (n : ℕ) (vs : List ℕ) → length vs ≤ n → sets (padded n []) 0 vs ≡ padded n vs
sets_padded n [] h = refl
sets_padded zero (v ∷ vs) h = absurd (omega arith)
sets_padded (suc n) (v ∷ vs) h = sets_behind v (padded n []) 0 vs ∙ ap (λ (l : List ℕ). v ∷ l) (sets_padded n vs (omega arith))

-- the place of a word among those of an alternation state, and of a progress
abbrev of_alternation : ℕ → ℕ
of_alternation f = f - process_enabling

abbrev of_progress : ℕ → ℕ
of_progress f = f - process_progress

module _ {t : List ℕ} {cores processes : ℕ} {s : State} (packs : Packs t cores processes s) (p : ℕ) (is : IsProcess s p) where
  -- process p begins a choice
  pub begun : Packs (begun_table t cores p) cores processes (put alternation p choice_begun s)
  begun =
      alternation_written packs p is choice_begun
      ((of_alternation process_enabling, 1) ∷ (of_alternation process_not_ready, 1) ∷ (of_alternation process_waiting, 0)
      ∷ (of_alternation process_count, 1) ∷ [])
      tt refl

  module _ (idle : (process_of s p).progress ≡ nothing) where
    -- with nothing in hand before, it is at the look of a request
    pub looks : (way : Way) (c : ℕ)
        → Packs (look_table t cores p (of_way way at_send_look) c) cores processes (put progress p (doing (look way c)) s)
    unfolding progress_words
    looks way c = progress_written packs p is (doing (look way c)) (ws way) tt (rw idle (turned way))
      where
        ws : Way → List (ℕ × ℕ)
        ws way = (of_progress process_progress, of_way way at_send_look) ∷ (of_progress process_channel, c) ∷ []

        turned : (way : Way) → writes (ws way) (λ j. j) (progress_words nothing) ≡ progress_words (doing (look way c))
        turned sending = refl
        turned receiving = refl

    -- it has GO due
    pub goes : Packs (set t (process_at cores p process_progress) due_go) cores processes (put progress p (due go) s)
    unfolding progress_words
    goes = progress_written packs p is (due go) ((of_progress process_progress, due_go) ∷ []) tt (rw idle)

    -- it is at the enabling look of the first of its guards
    pub enables : (guards : List ℕ) → length guards ≤ guard_places
        → Packs (enabling_table t cores p guards) cores processes (put progress p (doing (enable_look guards 1)) s)
    unfolding progress_words
    enables guards few =
        subst (λ (u : List ℕ). Packs u cores processes (put progress p (doing (enable_look guards 1)) s))
        (writes_in_row guards first (λ j. process_at cores p (process_progress + j)) _ (λ j. omega arith))
        (progress_written packs p is (doing (enable_look guards 1)) ws (in_row_below guards first progress_size (omega arith)) (rw idle turned))
      where
        first : ℕ
        first = of_progress process_first_guard

        ws : List (ℕ × ℕ)
        ws =
            (of_progress process_progress, at_enable_look) ∷ (of_progress process_guards, length guards) ∷ (of_progress process_index, 1)
            ∷ in_row first guards

        before_guards : List ℕ
        before_guards = at_enable_look ∷ 0 ∷ 0 ∷ length guards ∷ 1 ∷ 0 ∷ []

        turned : writes ws (λ j. j) (progress_words nothing) ≡ progress_words (doing (enable_look guards 1))
        turned =
            writes_in_row guards first (λ j. j) _ (λ j. refl)
            ∙ sets_after before_guards (padded guard_places []) guards
            ∙ ap (λ (l : List ℕ). before_guards ++ l) (sets_padded guard_places guards few)
