-- What the steps of enabling come to: by a word that the code reads, the words that it writes then.
use Prim.Native.Nat.{ℕ, ◌+◌, ◌≤◌, ◌<◌, ◌^◌}
use mathlib.Core.Path.{◌≡◌, refl, sym, ap, ◌∙◌, subst}
use mathlib.Core.Bool.{false}
use mathlib.Core.List.{List, [], ◌∷◌}
use mathlib.Core.Option.{none}
use lib.ListN.{get_or, set}
use Rattle.rules.specs.Numbers.{Answer, Refusal, Said, MOVED, yes_with, no_because}
use Rattle.rules.specs.State.{enable_look, raise, place_name, ready_from_look, ready_from_place, wait, doing, Alternation, ChannelWord, nobody}
use Rattle.rules.specs.State.{plain, choosing, State}
use Rattle.rules.specs.Items.{process_of, channel_of, put, alternation, progress}
use Rattle.rules.specs.Rule.{Rule, done, refuse, run, becomes, ◌>>◌}
use Rattle.rules.specs.Steps.{next}
use Rattle.rules.specs.Choice.{guard, counting, flags, enable_next, after_enable_look, enable_look_step, name_placed, place_name_step, raise_step}
use Rattle.rules.specs.Choice.{ready_from_look_step, ready_from_place_step, lowered, raised}
use Rattle.rules.specs.Layout.{process_at, channel_at, at_enable_look, at_place_name, at_raise, at_ready_from_look, at_ready_from_place}
use Rattle.rules.specs.Layout.{at_wait, channel_holder, process_count, process_not_ready, process_progress}
use Rattle.rules.specs.Packing.{of_choice, progress_words, pack, view, word_number}
use Rattle.parts.specs.Does.{At, Comes, Does}
use Rattle.parts.proofs.Card.{facts}
use Rattle.guards.specs.Read.{count_at, counted_table, guard_word_at, AtGuard, next_table, ready_table}
use Rattle.guards.proofs.Guards.{in_alternation, Chooses, count_is, same_guard, next_packs, alternation_chooses, word_chooses}
use Rattle.guards.proofs.Rules.{by_count}
use Rattle.guards.proofs.Stands.{Stands, enabling_stands, guard_among, guard_is, has_guard, word_is, free_word, number_small}

-- From a guard that is enabled the choice goes to the next.
enabled_packs : {t : List ℕ} {cores processes : ℕ} {s : State} {p n : ℕ} {gs : List ℕ} {i : ℕ} → Chooses t cores processes s p n gs i none
    → next_table t cores p at_enable_look at_wait ≡ pack (put progress p (doing (enable_next gs i)) s)
unfolding progress_words
enabled_packs {gs = gs} {i} h = next_packs h (enable_look gs (i + 1)) (wait gs) at_enable_look at_wait refl refl

module _ {t : List ℕ} {cores processes k p : ℕ} {gs : List ℕ} {i : ℕ} where
  -- Look

  module _ (at : At t cores processes k p (enable_look gs i)) where
    look_stands : Stands t cores processes k p at_enable_look gs i none
    unfolding progress_words
    look_stands = enabling_stands at refl refl

    pub look_guard : AtGuard t cores processes p
    look_guard = has_guard look_stands

    -- the word is nobody's
    pub look_free : {r : Said} {u : List ℕ} → get_or t (guard_word_at t cores processes p) 0 ≡ 0 → r ≡ yes_with MOVED
        → u ≡ set t (process_at cores p process_progress) at_raise → Does (enable_look_step p gs i) t r u
    unfolding progress_words
    look_free e a b = (a, b ∙ same_guard look_stands.chooses (after_enable_look gs i (channel_of (view t) (guard gs i)).word) at_raise words)
      where
        words : progress_words (doing (after_enable_look gs i (channel_of (view t) (guard gs i)).word)) ≡ of_choice at_raise gs i none
        words = rw (free_word look_stands e)

    -- it is somebody's
    pub look_held : {r : Said} {u : List ℕ} → (get_or t (guard_word_at t cores processes p) 0 ≡ 0 → ⊥) → r ≡ yes_with MOVED
        → u ≡ set t (process_at cores p process_progress) at_ready_from_look → Does (enable_look_step p gs i) t r u
    unfolding progress_words
    look_held ne a b = (
      a,
      b ∙ same_guard look_stands.chooses (after_enable_look gs i (channel_of (view t) (guard gs i)).word) 14
          (words (channel_of (view t) (guard gs i)).word (λ e. ne (word_is look_stands ∙ e))),
    )
      where
        words : (w : ChannelWord) → (word_number w ≡ 0 → ⊥) → progress_words (doing (after_enable_look gs i w)) ≡ of_choice at_ready_from_look gs i none
        words nobody some = absurd (some refl)
        words (plain q) some = refl
        words (choosing q) some = refl

  -- Raise

  module _ (at : At t cores processes k p (raise gs i)) where
    raise_stands : Stands t cores processes k p at_raise gs i none
    unfolding progress_words
    raise_stands = enabling_stands at refl refl

    pub raise_small : count_at t cores p ≤ 9
    raise_small =
        let among = raise_stands.chooses.among in
        rw (count_is raise_stands.chooses) ((facts t at.card.is_sound).processes p among.0 among.1).count

    -- what follows the count
    abbrev raising : ℕ → Rule Answer
    raising n = becomes alternation p (counting n (process_of (view t) p).alternation) >> next p (place_name gs i)

    pub raise_fault : {why : Refusal} {r : Said} {u : List ℕ} → refuse why ≡ raised (count_at t cores p) → r ≡ no_because why → u ≡ t
        → Does (raise_step p gs i) t r u
    raise_fault {why} {r} {u} made a b = by_count raise_stands.chooses.packs p raise_stands.chooses.among raised raising (refuse why) made r u (a, b)

    pub raise_done : {n : ℕ} {r : Said} {u : List ℕ} → done n ≡ raised (count_at t cores p) → r ≡ yes_with MOVED
        → u ≡ set (counted_table t cores p n) (process_at cores p process_progress) at_place_name → Does (raise_step p gs i) t r u
    unfolding progress_words
    raise_done {n} {r} {u} made a b =
        by_count raise_stands.chooses.packs p raise_stands.chooses.among raised raising (done n) made r u (
          a,
          b ∙ same_guard (alternation_chooses raise_stands.chooses (counting n (process_of (view t) p).alternation)
              ((in_alternation process_count, n) ∷ []) tt refl) (place_name gs i) at_place_name refl,
        )

  -- Place

  module _ (at : At t cores processes k p (place_name gs i)) where
    place_stands : Stands t cores processes k p at_place_name gs i none
    unfolding progress_words
    place_stands = enabling_stands at refl refl

    pub place_guard : AtGuard t cores processes p
    place_guard = has_guard place_stands

    pub place_small : p < 2 ^ 31
    place_small = number_small place_stands

    -- the word is nobody's
    pub place_free : {r : Said} {u : List ℕ} → get_or t (guard_word_at t cores processes p) 0 ≡ 0 → r ≡ yes_with MOVED
        → u ≡ next_table (set t (guard_word_at t cores processes p) (word_number (choosing p))) cores p at_enable_look at_wait
        → Does (place_name_step p gs i) t r u
    place_free {r} {u} e a b =
        subst (λ (w : ChannelWord). Comes (run (name_placed p gs i w) (view t)) t r u) (sym (free_word place_stands e)) (
          a,
          b
              ∙ ap (λ (c : ℕ). next_table (set t (channel_at cores processes c channel_holder) (word_number (choosing p))) cores p at_enable_look at_wait)
              (guard_is place_stands)
              ∙ enabled_packs (word_chooses place_stands.chooses (guard gs i) (guard_among place_stands) (choosing p)),
        )

    -- it is somebody's
    pub place_held : {r : Said} {u : List ℕ} → (get_or t (guard_word_at t cores processes p) 0 ≡ 0 → ⊥) → r ≡ yes_with MOVED
        → u ≡ set t (process_at cores p process_progress) at_ready_from_place → Does (place_name_step p gs i) t r u
    unfolding progress_words
    place_held {r} {u} ne a b = cases (channel_of (view t) (guard gs i)).word (λ e. ne (word_is place_stands ∙ e))
      where
        ready : u ≡ pack (put progress p (doing (ready_from_place gs i)) (view t))
        ready = b ∙ same_guard place_stands.chooses (ready_from_place gs i) at_ready_from_place refl

        cases : (w : ChannelWord) → (word_number w ≡ 0 → ⊥) → Comes (run (name_placed p gs i w) (view t)) t r u
        cases nobody some = absurd (some refl)
        cases (plain q) some = (a, ready)
        cases (choosing q) some = (a, ready)

  -- Ready

  module _ (at : At t cores processes k p (ready_from_look gs i)) where
    ready_look_stands : Stands t cores processes k p at_ready_from_look gs i none
    unfolding progress_words
    ready_look_stands = enabling_stands at refl refl

    pub ready_look_done : {r : Said} {u : List ℕ} → r ≡ yes_with MOVED
        → u ≡ ready_table t cores p → Does (ready_from_look_step p gs i) t r u
    ready_look_done a b =
        let alt = (process_of (view t) p).alternation in (
          a,
          b ∙ enabled_packs (alternation_chooses ready_look_stands.chooses (flags alt.enabling false alt.waiting alt)
              ((in_alternation process_not_ready, 0) ∷ []) tt refl),
        )

  module _ (at : At t cores processes k p (ready_from_place gs i)) where
    ready_place_stands : Stands t cores processes k p at_ready_from_place gs i none
    unfolding progress_words
    ready_place_stands = enabling_stands at refl refl

    -- its alternation state with another count, and ready
    abbrev readied : ℕ → Alternation
    readied n = let alt = (process_of (view t) p).alternation in flags alt.enabling false alt.waiting (counting n alt)

    -- what follows the count
    abbrev readying : ℕ → Rule Answer
    readying n = becomes alternation p (readied n) >> next p (enable_next gs i)

    pub ready_place_fault : {why : Refusal} {r : Said} {u : List ℕ} → refuse why ≡ lowered (count_at t cores p) → r ≡ no_because why → u ≡ t
        → Does (ready_from_place_step p gs i) t r u
    ready_place_fault {why} {r} {u} made a b =
        by_count ready_place_stands.chooses.packs p ready_place_stands.chooses.among lowered readying (refuse why) made r u (a, b)

    pub ready_place_done : {n : ℕ} {r : Said} {u : List ℕ} → done n ≡ lowered (count_at t cores p) → r ≡ yes_with MOVED
        → u ≡ ready_table (counted_table t cores p n) cores p → Does (ready_from_place_step p gs i) t r u
    ready_place_done {n} {r} {u} made a b =
        by_count ready_place_stands.chooses.packs p ready_place_stands.chooses.among lowered readying (done n) made r u (
          a,
          b ∙ enabled_packs (alternation_chooses ready_place_stands.chooses (readied n)
              ((in_alternation process_count, n) ∷ (in_alternation process_not_ready, 0) ∷ []) tt refl),
        )
