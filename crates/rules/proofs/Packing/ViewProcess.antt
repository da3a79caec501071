-- A process is read back from its words.
use Rattle.std.specs.Prelude.{if◌then◌else◌}
use Prim.Native.Nat.{ℕ, zero, suc, ◌+◌, ◌-◌, ◌≤◌, ◌<◌}
use mathlib.Core.Path.{◌≡◌, refl, sym, ap, ◌∙◌}
use mathlib.Core.Bool.{Bool}
use mathlib.Core.List.{List, [], ◌∷◌}
use mathlib.Core.Option.{Option, none, some}
use native.Mathlib.Omega.{arith}
use lib.Dec.{T, lit<}
use lib.ListN.{length, get_or, take, drop, length-drop}
use lib.Seq.{get_or-drop}
use Rattle.rules.specs.Lists.{within, all, tabulate, distinct}
use Rattle.rules.specs.State.{
  Place,
  running,
  queued,
  asleep,
  ended,
  sending,
  receiving,
  look,
  park,
  copy,
  clear,
  wake,
  enable_look,
  raise,
  place_name,
  ready_from_look,
  ready_from_place,
  wait,
  disable,
  lower,
  finish,
  go,
  sent,
  got,
  chose,
  Progress,
  nothing,
  doing,
  due,
  State,
  Wiring,
  wiring,
}
use Rattle.rules.specs.Items.{process_of}
use Rattle.rules.specs.Layout.{process_place, process_data, process_enabling, process_not_ready, process_waiting, process_count, process_progress, process_channel, process_partner, process_guards, process_index, process_first_ready, process_first_guard, progress_size, guard_places, at_enable_look, at_raise, at_place_name, at_ready_from_look, at_ready_from_place, at_wait, at_disable, at_lower, at_finish}
use Rattle.rules.specs.Packing.{
  place_number,
  ready_number,
  padded,
  of_choice,
  progress_words,
  pack,
  word_of_process,
  place_numbered,
  ready_numbered,
  progress_numbered,
  view_process,
}
use Rattle.rules.specs.Soundness.{own_end, own_guards, in_list, ready_in_list, valid_enabling, valid_disabling, valid_progress}
use Rattle.rules.proofs.Packing.Blocks.{length_progress_words}
use Rattle.rules.proofs.Tabulate.{tabulate_back}
use Rattle.rules.proofs.Tests.{both, three, within_means, not_zero}
use Rattle.rules.proofs.Packing.Reflect.{Valid}
use Rattle.rules.proofs.Packing.Reading.{bit_back, state_words, state_word, progress_word}

-- a place is read back from its number
place_back : (x : Place) → place_numbered (place_number x) ≡ x
place_back running = refl
place_back queued = refl
place_back asleep = refl
place_back ended = refl

-- a list is read back from its padding
padded_back : (n : ℕ) (l : List ℕ) → length l ≤ n → take (length l) (padded n l) ≡ l
padded_back zero [] b = refl
padded_back (suc n) [] b = refl
padded_back zero (x ∷ xs) b = absurd (omega arith)
padded_back (suc n) (x ∷ xs) b = ap (λ (l : List ℕ). x ∷ l) (padded_back n xs (omega arith))

-- a first ready guard is read back from its number
ready_back : (gs : List ℕ) (r : Option ℕ) → T (ready_in_list gs r) → ready_numbered (ready_number r) ≡ r
ready_back gs none h = refl
ready_back gs (some i) h = ap (λ (t : Bool). if t then none else some i) (not_zero i (within_means 1 (length gs) i h).0)

-- the progress of a progress's words: number, channel, partner, number of guards, index, first ready guard, guards
abbrev progress_of_words : List ℕ → Progress
progress_of_words l =
    let w : ℕ → ℕ = λ f. get_or l (f - process_progress) 0 in
    let guards = take (w process_guards) (drop (process_first_guard - process_progress) l) in
    progress_numbered (w process_progress) (w process_channel) (w process_partner) guards (w process_index) (ready_numbered (w process_first_ready))

module _ (w : Wiring) (p : ℕ) where
  -- the words of a choice, as those of a progress: its guards and its first ready guard are read back
  choice_back : (number : ℕ) (gs : List ℕ) (i : ℕ) (r : Option ℕ) → T (own_guards w p gs) → T (ready_in_list gs r)
      → progress_of_words (of_choice number gs i r) ≡ progress_numbered number 0 0 gs i r
  choice_back number gs i r h g =
      let t = three (within 1 8 (length gs)) (all (own_end w receiving p) gs) (distinct gs) h in
      let guards : take (length gs) (padded guard_places gs) ≡ gs = padded_back guard_places gs (within_means 1 8 (length gs) t.0).1 in
      let ready : ready_numbered (ready_number r) ≡ r = ready_back gs r g in
      cc

  -- the same for a stage with a guard index before the wait
  enabling_back : (number : ℕ) (gs : List ℕ) (i : ℕ) → T (valid_enabling w p gs i)
      → progress_of_words (of_choice number gs i none) ≡ progress_numbered number 0 0 gs i none
  enabling_back number gs i h = choice_back number gs i none (both (own_guards w p gs) (in_list gs i) h).0 tt

  -- and after it
  disabling_back : (number : ℕ) (gs : List ℕ) (i : ℕ) (r : Option ℕ) → T (valid_disabling w p gs i r)
      → progress_of_words (of_choice number gs i r) ≡ progress_numbered number 0 0 gs i r
  disabling_back number gs i r h =
      let t = three (own_guards w p gs) (in_list gs i) (ready_in_list gs r) h in choice_back number gs i r t.0 t.2

  -- a valid progress is read back from its words
  progress_back : (x : Progress) → T (valid_progress w p x) → progress_of_words (progress_words x) ≡ x
  unfolding progress_words progress_numbered
  progress_back nothing h = refl
  progress_back (doing (look sending c)) h = refl
  progress_back (doing (park sending c)) h = refl
  progress_back (doing (copy sending c q)) h = refl
  progress_back (doing (clear sending c q)) h = refl
  progress_back (doing (wake sending c q)) h = refl
  progress_back (doing (look receiving c)) h = refl
  progress_back (doing (park receiving c)) h = refl
  progress_back (doing (copy receiving c q)) h = refl
  progress_back (doing (clear receiving c q)) h = refl
  progress_back (doing (wake receiving c q)) h = refl
  progress_back (doing (enable_look gs i)) h = enabling_back at_enable_look gs i h
  progress_back (doing (raise gs i)) h = enabling_back at_raise gs i h
  progress_back (doing (place_name gs i)) h = enabling_back at_place_name gs i h
  progress_back (doing (ready_from_look gs i)) h = enabling_back at_ready_from_look gs i h
  progress_back (doing (ready_from_place gs i)) h = enabling_back at_ready_from_place gs i h
  progress_back (doing (wait gs)) h = choice_back at_wait gs 0 none h tt
  progress_back (doing (disable gs i r)) h = disabling_back at_disable gs i r h
  progress_back (doing (lower gs i r)) h = disabling_back at_lower gs i r h
  progress_back (doing (finish gs r)) h = let t = both (own_guards w p gs) (ready_in_list gs r) h in choice_back at_finish gs 0 r t.0 t.1
  progress_back (due go) h = refl
  progress_back (due (sent c)) h = refl
  progress_back (due (got c)) h = refl
  progress_back (due (chose c)) h = refl

module _ (s : State) (v : Valid s) (p : ℕ) (l : 1 ≤ p) (b : p ≤ length s.processes) where
  -- how many words of a progress stand before its guards
  abbrev before : ℕ
  before = process_first_guard - process_progress

  -- the words of a process where its guards stand
  guard_words : tabulate (word_of_process (pack s) p) process_first_guard guard_places ≡ drop before (progress_words (process_of s p).progress)
  guard_words = tabulate_back (word_of_process (pack s) p) process_first_guard guard_places 0 (drop before words) (sym size) each
    where
      words : List ℕ
      words = progress_words (process_of s p).progress

      size : length (drop before words) ≡ guard_places
      size = simp length-drop (omega (arith, length_progress_words (process_of s p).progress))

      each : (i : ℕ) → i < length (drop before words) → word_of_process (pack s) p (process_first_guard + i) ≡ get_or (drop before words) i 0
      each i c =
          let e : process_first_guard + i ≡ process_progress + (before + i) = omega arith in
          ap (word_of_process (pack s) p) e ∙ progress_word s p l b (before + i) (omega (arith, size)) ∙ sym (get_or-drop before words i 0)

  -- its progress is read back
  progress_read : let w = word_of_process (pack s) p in
      let guards = take (w process_guards) (tabulate w process_first_guard guard_places) in
      progress_numbered (w process_progress) (w process_channel) (w process_partner) guards (w process_index) (ready_numbered (w process_first_ready))
      ≡ (process_of s p).progress
  progress_read =
      let x = (process_of s p).progress in
      let at : (f : ℕ) → f < progress_size → word_of_process (pack s) p (process_progress + f) ≡ get_or (progress_words x) f 0 = progress_word s p l b in
      let back = progress_back (wiring s) p x (v.processes p l b).in_hand in
      cc (
        at 0 (lit< tt),
        at (process_channel - process_progress) (lit< tt),
        at (process_partner - process_progress) (lit< tt),
        at (process_guards - process_progress) (lit< tt),
        at (process_index - process_progress) (lit< tt),
        at (process_first_ready - process_progress) (lit< tt),
        guard_words,
        back,
      )

  -- A process is read back from the packing of a valid state.
  pub view_process_back : view_process (pack s) p ≡ process_of s p
  unfolding view_process
  view_process_back =
      let r = process_of s p in
      let w : ℕ → ℕ = word_of_process (pack s) p in
      let at : (f : ℕ) → f < process_progress → w f ≡ get_or (state_words r) f 0 = state_word s p l b in
      let place = ap place_numbered (at process_place (lit< tt)) ∙ place_back r.place in
      let data_word = at process_data (lit< tt) in
      let enabling = bit_back (w process_enabling) r.alternation.enabling (at process_enabling (lit< tt)) in
      let not_ready = bit_back (w process_not_ready) r.alternation.not_ready (at process_not_ready (lit< tt)) in
      let waiting = bit_back (w process_waiting) r.alternation.waiting (at process_waiting (lit< tt)) in
      let count = at process_count (lit< tt) in
      λ i. record {
        place = place i;
        data_word = data_word i;
        alternation = record { enabling = enabling i; not_ready = not_ready i; waiting = waiting i; count = count i };
        progress = progress_read i;
      }
