-- Which words of a progress mean something, by its number: for each number, the words of the progress that is read out,
-- when it is valid and which places it fits.
use Rattle.std.specs.Prelude.{if◌then◌else◌}
use Prim.Native.Nat.{ℕ, zero, suc, ◌+◌, ◌≤◌, ◌<◌}
use mathlib.Core.Path.{◌≡◌, refl, sym, subst}
use mathlib.Core.Bool.{Bool, true, ◌&&◌, ◌||◌}
use mathlib.Core.List.{List, [], ◌∷◌}
use mathlib.Core.Option.{Option, none}
use native.Mathlib.Omega.{arith}
use native.Mathlib.Nat.{add-zero, zero-add}
use lib.Dec.{T, leb, leb→le}
use lib.ListN.{length, get_or}
use borrow.Author.Tests.{ne_eqb, le-leb, lt-leb}
use Rattle.rules.specs.Layout.{at_nothing, at_send_look, at_send_park, at_send_copy, at_send_clear, at_send_wake, at_receive_look, at_receive_park, at_receive_copy, at_receive_clear, at_receive_wake, at_enable_look, at_raise, at_place_name, at_ready_from_look, at_ready_from_place, at_wait, at_disable, at_lower, at_finish, due_go, due_sent, due_got, due_chose}
use Rattle.rules.specs.Lists.{within}
use Rattle.rules.specs.State.{
  Place,
  running,
  queued,
  asleep,
  ended,
  sending,
  receiving,
  Stage,
  look,
  park,
  copy,
  clear,
  wake,
  enable_look,
  raise,
  place_name,
  ready_from_look,
  ready_from_place,
  wait,
  disable,
  lower,
  finish,
  Outcome,
  go,
  sent,
  got,
  chose,
  Progress,
  nothing,
  doing,
  due,
  Wiring,
}
use Rattle.rules.specs.Packing.{place_number, request_words, progress_words, progress_list, progress_numbered}
use Rattle.rules.specs.Soundness.{is_process, own_end, own_guards, in_list, ready_in_list, valid_progress, fits}
use Rattle.rules.proofs.Tests.{within_means}
use Rattle.rules.proofs.Packing.Numbered.{progress_by_place}
use Rattle.fitting.proofs.Tests.{and_true}
use Rattle.fitting.specs.Twin.{is_sender, is_receiver, has_partner, has_guards, has_index, has_ready, place_fits}

-- a stage fits running, queued and sleeping processes
fits_doing : (n : ℕ) → at_send_look ≤ n → n ≤ at_finish → (x : Stage) (y : Place) → fits y (doing x) ≡ place_fits (place_number y) n
fits_doing n l b x running = sym (le-leb n at_finish b)
fits_doing n l b x queued = sym (le-leb at_send_look n l)
fits_doing n l b x asleep = sym (le-leb at_send_look n l)
fits_doing n l b x ended = sym (ne_eqb n at_nothing (λ e. omega arith))

-- an outcome fits queued and sleeping processes
fits_due : (n : ℕ) → due_go ≤ n → (x : Outcome) (y : Place) → fits y (due x) ≡ place_fits (place_number y) n
fits_due n l x running = sym (lt-leb n at_finish l)
fits_due n l x queued = sym (le-leb at_send_look n (omega arith))
fits_due n l x asleep = sym (le-leb at_send_look n (omega arith))
fits_due n l x ended = sym (ne_eqb n at_nothing (λ e. omega arith))

-- nothing in hand fits running and ended processes
fits_nothing : (y : Place) → fits y nothing ≡ place_fits (place_number y) at_nothing
fits_nothing running = refl
fits_nothing queued = refl
fits_nothing asleep = refl
fits_nothing ended = refl

module _ (w : Wiring) (p c q : ℕ) (gs : List ℕ) (i : ℕ) (r : Option ℕ) where
  -- the words of a progress of the number n: what means nothing is 0
  abbrev pub shape_words : ℕ → List ℕ
  shape_words n =
      request_words n (if is_sender n || is_receiver n then c else 0) (if has_partner n then q else 0) (if has_guards n then gs else [])
      (if has_index n then i else 0) (if has_ready n then r else none)

  -- what of it has to be valid
  abbrev pub shape_valid : ℕ → Bool
  shape_valid n =
      (if is_sender n then own_end w sending p c else if is_receiver n then own_end w receiving p c else true)
      && (if has_partner n then is_process w q else true) && (if has_guards n then own_guards w p gs else true)
      && (if has_index n then in_list gs i else true) && (if has_ready n then ready_in_list gs r else true)

  -- a progress with the number n
  pub record Shape (n : ℕ) (x : Progress) : Type 0 where
    pub words : progress_words x ≡ shape_words n
    pub valid : valid_progress w p x ≡ shape_valid n
    pub places : (y : Place) → fits y x ≡ place_fits (place_number y) n

  -- each of a list, numbered from a on, has the shape of its number
  data ShapesFrom : ℕ → List Progress → Type 0 where
    end : {a : ℕ} → ShapesFrom a []
    row : {a : ℕ} {x : Progress} {xs : List Progress} → Shape a x → ShapesFrom (suc a) xs → ShapesFrom a (x ∷ xs)

  -- what is read at a number: one of the list, in its shape, or nothing
  shape_at : {a : ℕ} {l : List Progress} → ShapesFrom a l → (n : ℕ)
      → (n < length l → Shape (a + n) (get_or l n nothing)) × (length l ≤ n → get_or l n nothing ≡ nothing)
  shape_at end n = (λ b. absurd (omega arith), λ b. refl)
  shape_at (row h rest) zero = (λ b. rw add-zero h, λ b. absurd (omega arith))
  shape_at {a} (row {xs = xs} h rest) (suc n) =
      let e : suc a + n ≡ a + suc n = omega arith in
      let r = shape_at rest n in
      (λ b. subst (λ (m : ℕ). Shape m (get_or xs n nothing)) e (r.0 (omega arith)), λ b. r.1 (omega arith))

  -- a stage with its number
  stage : (n : ℕ) → T (within at_send_look at_finish n) → (x : Stage) → progress_words (doing x) ≡ shape_words n → valid_progress w p (doing x) ≡ shape_valid n
      → Shape n (doing x)
  stage n b x e v = let r = within_means at_send_look at_finish n b in record { words = e; valid = v; places = fits_doing n r.0 r.1 x }

  -- an outcome with its number
  outcome : (n : ℕ) → T (leb due_go n) → (x : Outcome) → progress_words (due x) ≡ shape_words n → valid_progress w p (due x) ≡ shape_valid n
      → Shape n (due x)
  outcome n b x e v = record { words = e; valid = v; places = fits_due n (leb→le due_go n b) x }

  -- The progress of each number has its shape, and what is no number of one is read as nothing.
  pub shape_of : (n : ℕ) → (n ≤ due_chose → Shape n (progress_numbered n c q gs i r)) × (suc due_chose ≤ n → progress_numbered n c q gs i r ≡ nothing)
  unfolding progress_words
  shape_of n =
      let found = shape_at (row (record { words = refl; valid = refl; places = fits_nothing })
      (row (stage at_send_look tt (look sending c) refl (simp and_true))
      (row (stage at_send_park tt (park sending c) refl (simp and_true))
      (row (stage at_send_copy tt (copy sending c q) refl (simp and_true))
      (row (stage at_send_clear tt (clear sending c q) refl (simp and_true))
      (row (stage at_send_wake tt (wake sending c q) refl (simp and_true))
      (row (stage at_receive_look tt (look receiving c) refl (simp and_true))
      (row (stage at_receive_park tt (park receiving c) refl (simp and_true))
      (row (stage at_receive_copy tt (copy receiving c q) refl (simp and_true))
      (row (stage at_receive_clear tt (clear receiving c q) refl (simp and_true))
      (row (stage at_receive_wake tt (wake receiving c q) refl (simp and_true))
      (row (stage at_enable_look tt (enable_look gs i) refl (simp and_true))
      (row (stage at_raise tt (raise gs i) refl (simp and_true))
      (row (stage at_place_name tt (place_name gs i) refl (simp and_true))
      (row (stage at_ready_from_look tt (ready_from_look gs i) refl (simp and_true))
      (row (stage at_ready_from_place tt (ready_from_place gs i) refl (simp and_true))
      (row (stage at_wait tt (wait gs) refl (simp and_true))
      (row (stage at_disable tt (disable gs i r) refl refl)
      (row (stage at_lower tt (lower gs i r) refl refl)
      (row (stage at_finish tt (finish gs r) refl (simp and_true))
      (row (outcome due_go tt go refl (simp and_true))
      (row (outcome due_sent tt (sent c) refl (simp and_true))
      (row (outcome due_got tt (got c) refl (simp and_true))
      (row (outcome due_chose tt (chose c) refl (simp and_true))
      end)))))))))))))))))))))))) n in
      rw (progress_by_place n c q gs i r)
      (λ b. subst (λ (m : ℕ). Shape m (get_or (progress_list c q gs i r) n nothing)) (zero-add n) (found.0 (omega arith)), found.1)
