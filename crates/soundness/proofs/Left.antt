-- What the check's definition still asks at a place of the code's loops, and how each step of the code changes it.
use Rattle.std.specs.Prelude.{if◌then◌else◌}
use Prim.Native.Nat.{ℕ, suc, ◌+◌, ◌-◌, ◌≤◌, ◌<◌}
use mathlib.Core.Path.{◌≡◌, refl, sym, ap, ◌∙◌}
use mathlib.Core.Bool.{Bool, true, false}
use mathlib.Core.List.{List}
use mathlib.Core.Logic.{◌⊎◌, inl, inr, ⊎_elim}
use native.Mathlib.Omega.{arith}
use native.Mathlib.Numerals.{add-one}
use lib.Dec.{eqb, leb}
use lib.ListN.{length, set, replicate, length-set}
use borrow.Author.Tests.{eq-eqb, ne_eqb, eqb-false, le-leb, leb-true}
use Rattle.rules.specs.Lists.{within, bit}
use Rattle.rules.specs.Layout.{core_at, process_at, room, core_runs, core_first, core_last, core_first_head, core_last_head, process_next}
use Rattle.fitting.specs.Twin.{
  word,
  core_fits,
  fresh,
  Walk,
  flaw,
  well,
  and_then,
  meet_running,
  chain_walk,
  batch_walk,
  core_walk,
  cores_walk,
  rest_fits,
}
use Rattle.soundness.specs.Parts.{first_of, ends_at, stand_at, next_head, next_fits, queue_ends, marked, outcome, core_enters, parts_fit}
use Rattle.std.proofs.lemmas.Bool.{cases_Bool, and_parts, and_right}
use Rattle.soundness.proofs.Unmet.{unmet, unmet_le, unmet_marked}
use Rattle.soundness.proofs.Walks.{no_flaw, chain_end, chain_stale, chain_step, batch_end, batch_out, batch_step}

module _ (met : List ℕ) (queue N : ℕ) where
  pub marked_long : length (marked met queue) ≡ length met
  marked_long = ⊎_elim (λ e. rw e) (λ e. rw e (length-set met queue 3)) (cases_Bool (eqb queue 0))

  pub marked_unmet : queue < length met → unmet N (marked met queue) ≤ unmet N met
  marked_unmet inside = ⊎_elim (λ e. rw e (omega arith)) (λ e. rw e (unmet_marked met queue 3 inside refl N)) (cases_Bool (eqb queue 0))

either : (b : Bool) (w v : Walk) (after : List ℕ) → (if b then w else v) ≡ well after → (w ≡ well after) ⊎ (v ≡ well after)
either true w v after e = inl e
either false w v after e = inr e

same_long : (met after : List ℕ) → well met ≡ well after → length after ≡ length met
same_long met after e = let same : after ≡ met = cc in ap length same

-- entering a core keeps the length
pub entered_long : (t : List ℕ) (N k : ℕ) (met after : List ℕ) → well after ≡ core_enters t N k met → length after ≡ length met
entered_long t N k met after e =
    let p = word t (core_at k core_runs) in
    let no : flaw ≡ well after → length after ≡ length met = λ f. absurd (no_flaw after f) in
    ⊎_elim
    (λ runs. ⊎_elim
    (same_long met after)
    (λ some. ⊎_elim (λ w. same_long (set met p 1) after w ∙ length-set met p 1) no (either (fresh N met p) (well (set met p 1)) flaw after some))
    (either (eqb p 0) (well met) (if fresh N met p then well (set met p 1) else flaw) after runs))
    no
    (either (core_fits t N k) (meet_running t N k met) flaw after (sym e))

-- What falls from queue to queue: how many are unmet, and one more while the active queue is not done.
pub queue_falls : (t : List ℕ) (k queue next p p₀ size before now after : ℕ) → (next ≡ 0 → ⊥) → p ≡ 0
    → (size ≡ 0 → p ≡ p₀) → p₀ ≡ first_of t k queue → size + now ≤ before → after ≤ now → after + bit (eqb next 0) < before + bit (eqb queue 0)
queue_falls t k queue next p p₀ size before now after some e first q l m =
    let another : bit (eqb next 0) ≡ 0 = ap bit (ne_eqb next 0 some) in
    ⊎_elim
    (λ active. let this : bit (eqb queue 0) ≡ 1 = ap bit active in omega arith)
    (λ batch.
    let head : first_of t k queue ≡ queue = rw batch in
    let one : size ≡ 0 → ⊥ = λ z. eqb-false queue 0 batch (sym head ∙ sym q ∙ sym (first z) ∙ e) in
    omega arith)
    (cases_Bool (eqb queue 0))

module _ (t : List ℕ) (K N M : ℕ) where
  -- from core k on
  unfoldable pub cores_left : ℕ → List ℕ → Bool
  cores_left k met = rest_fits t K N M (cores_walk t K N k (K - k) met)

  -- after a core's queues
  abbrev after_core : ℕ → Walk → Bool
  after_core k w = rest_fits t K N M (and_then w (λ met. cores_walk t K N (k + 1) (K - (k + 1)) met))

  abbrev after_queue : ℕ → ℕ → Walk → Bool
  after_queue k queue w = after_core k (and_then w (λ met. batch_walk t K N k N (marked met queue) (next_head t K k queue) queue))

  -- from process p of a queue on
  unfoldable pub queue_left : ℕ → List ℕ → ℕ → ℕ → ℕ → ℕ → Bool
  queue_left k met queue p last size = after_queue k queue (chain_walk t K N (ends_at K k queue) N met p last size)

  -- The loops' invariants: before core k; before a queue of core k; before process p of a queue that began with p₀ and met₀.
  pub record AtCore (k : ℕ) (met : List ℕ) : Type 0 where
    pub long : length met ≡ 257
    pub left : parts_fit t K N M ≡ cores_left k met

  pub record AtQueue (k : ℕ) (met : List ℕ) (queue : ℕ) : Type 0 where
    pub in_range : queue ≤ N
    pub long : length met ≡ 257
    pub left : parts_fit t K N M ≡ queue_left k met queue (first_of t k queue) 0 0

  pub record AtProcess (k queue : ℕ) (met₀ : List ℕ) (p₀ : ℕ) (met : List ℕ) (p last size : ℕ) : Type 0 where
    pub first : size ≡ 0 → p ≡ p₀
    pub counted : size + unmet N met ≤ unmet N met₀
    pub long : length met ≡ 257
    pub left : parts_fit t K N M ≡ queue_left k met queue p last size

  pub no_core_met : parts_fit t K N M ≡ cores_left 0 (replicate 257 0)
  unfolding parts_fit cores_left
  no_core_met = let all : K - 0 ≡ K = omega arith in rw all

  pub no_core_left : (k : ℕ) (met : List ℕ) → k ≡ K → cores_left k met ≡ rest_fits t K N M (well met)
  unfolding cores_left
  no_core_left k met e = let none : K - k ≡ 0 = omega arith in rw none

  module _ (k : ℕ) where
    one_core : (met : List ℕ) → k < K → cores_left k met ≡ after_core k (core_walk t K N k met)
    unfolding cores_left
    one_core met h = let more : K - k ≡ suc (K - (k + 1)) = omega arith in rw (more, add-one k)

    -- the active queue, then the batches
    abbrev core_queues : List ℕ → Walk
    core_queues met =
        and_then (chain_walk t K N (core_at k core_last) N met (word t (core_at k core_first)) 0 0) (λ met. batch_walk t K N k N met (word t (core_at k core_first_head)) 0)

    core_by_parts : (met : List ℕ) → core_walk t K N k met ≡ and_then (core_enters t N k met) core_queues
    core_by_parts met = ⊎_elim (λ e. rw e) (λ e. rw e) (cases_Bool (core_fits t N k))

    enters : (met : List ℕ) (w : Walk) → k < K → w ≡ core_enters t N k met → cores_left k met ≡ after_core k (and_then w core_queues)
    enters met w h e = one_core met h ∙ ap (after_core k) (core_by_parts met) ∙ ap (λ w. after_core k (and_then w core_queues)) (sym e)

    pub core_entered : (met after : List ℕ) → k < K → well after ≡ core_enters t N k met → cores_left k met ≡ queue_left k after 0 (first_of t k 0) 0 0
    unfolding queue_left
    core_entered met after h e = enters met (well after) h e

    pub core_refused : (met : List ℕ) → k < K → flaw ≡ core_enters t N k met → cores_left k met ≡ false
    core_refused met h e = enters met flaw h e

    followed : (head prev : ℕ) → (head ≡ 0 → ⊥) → next_fits t N k prev head ≡ true → leb head N ≡ true
    followed head prev h fits = rw (ne_eqb head 0 h) at fits

    -- the batches from head on: one more, none more, or a flaw
    batch_begins : (met : List ℕ) (head prev : ℕ) → N < length met → (head ≡ 0 → ⊥) → next_fits t N k prev head ≡ true
        → after_core k (batch_walk t K N k N met head prev) ≡ queue_left k met head (first_of t k head) 0 0
    unfolding queue_left
    batch_begins met head prev room h fits =
        let some = ne_eqb head 0 h in
        let inside : within 1 N head ≡ true = rw (le-leb 1 head (omega arith)) (followed head prev h fits) in
        ap (after_core k) (batch_step t K N k N met head prev room (unmet_le N met) some inside) ∙ rw some

    batches_end : (met : List ℕ) (head prev : ℕ) → head ≡ 0 → next_fits t N k prev head ≡ true
        → after_core k (batch_walk t K N k N met head prev) ≡ cores_left (k + 1) met
    unfolding cores_left
    batches_end met head prev h fits =
        let none = eq-eqb head 0 h in
        let this : eqb (word t (core_at k core_last_head)) prev ≡ true = rw none at fits in
        ap (after_core k) (batch_end t K N k N met head prev none) ∙ ap (λ b. after_core k (outcome b met)) this

    batches_flaw : (met : List ℕ) (head prev : ℕ) → next_fits t N k prev head ≡ false → after_core k (batch_walk t K N k N met head prev) ≡ false
    batches_flaw met head prev fits =
        ⊎_elim
        (λ none.
        let other : eqb (word t (core_at k core_last_head)) prev ≡ false = rw none at fits in
        ap (after_core k) (batch_end t K N k N met head prev none) ∙ ap (λ b. after_core k (outcome b met)) other)
        (λ some.
        let out : leb head N ≡ false = rw some at fits in
        ap (after_core k) (batch_out t K N k N met head prev some (and_right (leb 1 head) _ out)))
        (cases_Bool (eqb head 0))

    module _ (met : List ℕ) (queue p last size : ℕ) where
      pub met_next : N < length met → (p ≡ 0 → ⊥) → fresh N met p ≡ true
          → queue_left k met queue p last size ≡ queue_left k (set met p 2) queue (word t (process_at K p process_next)) p (size + 1)
      unfolding queue_left
      met_next room h f = ap (after_queue k queue) (chain_step t K N (ends_at K k queue) N met p last size room (unmet_le N met) (ne_eqb p 0 h) f)

      pub met_before : (p ≡ 0 → ⊥) → fresh N met p ≡ false → queue_left k met queue p last size ≡ false
      unfolding queue_left
      met_before h f = ap (after_queue k queue) (chain_stale t K N (ends_at K k queue) N met p last size (ne_eqb p 0 h) f)

      at_end : p ≡ 0 → queue_left k met queue p last size ≡ after_queue k queue (outcome (stand_at t (ends_at K k queue) last size) met)
      unfolding queue_left
      at_end e = ap (after_queue k queue) (chain_end t K N (ends_at K k queue) N met p last size (eq-eqb p 0 e))

      -- the queue ends well: its batches go on
      ends_well : p ≡ 0 → queue_ends t K N k queue last size ≡ true
          → queue_left k met queue p last size ≡ after_core k (batch_walk t K N k N (marked met queue) (next_head t K k queue) queue)
      ends_well e ends =
          at_end e ∙ ap (λ b. after_queue k queue (outcome b met)) (and_parts (stand_at t (ends_at K k queue) last size) _ ends).0

      next_well : queue_ends t K N k queue last size ≡ true → next_fits t N k queue (next_head t K k queue) ≡ true
      next_well ends = (and_parts (stand_at t (ends_at K k queue) last size) _ ends).1

      pub next_inside : queue_ends t K N k queue last size ≡ true → (next_head t K k queue ≡ 0 → ⊥) → next_head t K k queue ≤ N
      next_inside ends some = leb-true _ N (followed (next_head t K k queue) queue some (next_well ends))

      pub last_queue : p ≡ 0 → queue_ends t K N k queue last size ≡ true → next_head t K k queue ≡ 0
          → queue_left k met queue p last size ≡ cores_left (k + 1) (marked met queue)
      last_queue e ends none = ends_well e ends ∙ batches_end (marked met queue) (next_head t K k queue) queue none (next_well ends)

      pub next_queue : N < length met → p ≡ 0 → queue_ends t K N k queue last size ≡ true → (next_head t K k queue ≡ 0 → ⊥)
          → queue_left k met queue p last size
          ≡ queue_left k (marked met queue) (next_head t K k queue) (first_of t k (next_head t K k queue)) 0 0
      next_queue room e ends some =
          ends_well e ends
          ∙ batch_begins (marked met queue) (next_head t K k queue) queue (rw (marked_long met queue N) room) some (next_well ends)

      pub ends_badly : p ≡ 0 → queue_ends t K N k queue last size ≡ false → queue_left k met queue p last size ≡ false
      ends_badly e ends =
          ⊎_elim
          (λ s.
          at_end e
          ∙ ap (λ b. after_queue k queue (outcome b met)) s
          ∙ batches_flaw (marked met queue) (next_head t K k queue) queue (rw s at ends))
          (λ s. at_end e ∙ ap (λ b. after_queue k queue (outcome b met)) s)
          (cases_Bool (stand_at t (ends_at K k queue) last size))
