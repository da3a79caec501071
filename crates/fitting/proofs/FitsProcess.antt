-- The words of a process fit exactly where they are those of a valid process, and what was met of it exactly where it stands in its place.
use Prim.Native.Nat.{ℕ, zero, suc, ◌+◌, ◌-◌, ◌*◌, ◌≤◌, ◌<◌}
use mathlib.Core.Path.{◌≡◌, refl, ap, ◌∙◌, subst}
use mathlib.Core.Bool.{Bool, ◌&&◌}
use mathlib.Core.List.{List}
use mathlib.Core.Logic.{◌↔◌}
use native.Mathlib.Omega.{arith}
use native.Mathlib.Nat.{add-zero}
use lib.Dec.{T, eqb, leb, leb→le, le→leb}
use borrow.Author.Tests.{ne_eqb}
use Rattle.rules.specs.Lists.{within, tabulate}
use Rattle.rules.specs.State.{Place, running, queued, asleep, ended, wiring}
use Rattle.rules.specs.Layout.{process_stride, process_at, process_place, process_enabling, process_not_ready, process_waiting, process_count, process_progress, process_next, process_last, process_spare, progress_size, links_size, place_running, place_queued, place_asleep, place_ended, at_send_look}
use Rattle.rules.specs.Packing.{place_number, progress_words, k_of, n_of, m_of, word_of_process, place_numbered, view_process, view}
use Rattle.rules.specs.Soundness.{valid_progress, fits, stands}
use Rattle.rules.proofs.Tests.{both, four, five, together, within_means}
use Rattle.rules.proofs.Packing.Reading.{state_words}
use Rattle.fitting.proofs.Tests.{bit_means, bit_holds, zeros_mean, zeros_hold, all_four, all_five}
use Rattle.fitting.proofs.FitsProgress.{progress_exact, places_are}
use Rattle.fitting.specs.Twin.{word, zeros, flags_fit, place_fits, meeting_fits, progress_fits, process_fits}

-- a number that fits is that of a place
place_known : (place n : ℕ) → T (place_fits place n) → place_number (place_numbered place) ≡ place
place_known zero n h = absurd h
place_known (suc zero) n h = refl
place_known (suc (suc zero)) n h = refl
place_known (suc (suc (suc zero))) n h = refl
place_known (suc (suc (suc (suc zero)))) n h = refl
place_known (suc (suc (suc (suc (suc m))))) n h =
    let place : ℕ = suc (suc (suc (suc (suc m)))) in
    let g : T (within place_queued place_asleep place && leb at_send_look n) = rw (ne_eqb place place_running (λ e. omega arith), ne_eqb place place_ended (λ e. omega arith)) at h in
    absurd (omega (arith, within_means place_queued place_asleep place (both (within place_queued place_asleep place) (leb at_send_look n) g).0))

-- what of a process its own words say: it is that of a valid process
pub record FlatProcess (t : List ℕ) (p : ℕ) : Type 0 where
  pub count : (view_process t p).alternation.count ≤ 9
  pub progress : T (valid_progress (wiring (view t)) p (view_process t p).progress)
  pub places : T (fits (view_process t p).place (view_process t p).progress)
  pub state : state_words (view_process t p) ≡ tabulate (word_of_process t p) 0 process_progress
  pub words : progress_words (view_process t p).progress ≡ tabulate (word_of_process t p) process_progress progress_size
  pub unused : (f : ℕ) → f < process_stride - process_spare → word t (process_at (k_of t) p process_spare + f) ≡ 0

module _ (t : List ℕ) (p m : ℕ) where
  -- the words of the process
  abbrev w : ℕ → ℕ
  w = word_of_process t p

  -- the tests of its unused words, its flags and count, its place, what was met of it, its progress
  abbrev unused : Bool
  unused = zeros t (process_at (k_of t) p process_spare) (process_stride - process_spare)

  abbrev flags : Bool
  flags = flags_fit t (k_of t) p

  abbrev place_test : Bool
  place_test = place_fits (w process_place) (w process_progress)

  abbrev meeting : Bool
  meeting = meeting_fits t (k_of t) p (w process_place) m

  abbrev progress : Bool
  progress = progress_fits t (k_of t) (n_of t) (m_of t) p

  -- The words of a process fit exactly where they are those of a valid one, and what was met fits.
  pub process_exact : T (process_fits t (k_of t) (n_of t) (m_of t) p m) ↔ (FlatProcess t p × T meeting)
  unfolding view_process
  process_exact = (to, back)
    where
      to : T (process_fits t (k_of t) (n_of t) (m_of t) p m) → FlatProcess t p × T meeting
      to h =
          let u = four flags place_test meeting progress h in
          let v = five (leb (w process_enabling) 1) (leb (w process_not_ready) 1) (leb (w process_waiting) 1) (leb (w process_count) 9) unused u.0 in
          let x = (progress_exact t p).0 u.3 in
          let place : place_number (place_numbered (w process_place)) ≡ w process_place = place_known (w process_place) (w process_progress) u.1 in (
            record {
              count = leb→le (w process_count) 9 v.3;
              progress = x.0;
              places = rw (places_are t p u.3, place) u.1;
              state = cc (place, bit_means (w process_enabling) v.0, bit_means (w process_not_ready) v.1, bit_means (w process_waiting) v.2);
              words = x.1;
              unused = zeros_mean t (process_at (k_of t) p process_spare) (process_stride - process_spare) v.4;
            },
            u.2,
          )

      back : FlatProcess t p × T meeting → T (process_fits t (k_of t) (n_of t) (m_of t) p m)
      back h =
          let x = (progress_exact t p).1 (h.0.progress, h.0.words) in
          let state = h.0.state in
          let place : place_number (place_numbered (w process_place)) ≡ w process_place = cc in
          let good : T place_test = rw (places_are t p x, place) at h.0.places in
          let own : T flags =
          all_five (leb (w process_enabling) 1) (leb (w process_not_ready) 1) (leb (w process_waiting) 1) (leb (w process_count) 9) unused
          (bit_holds (eqb (w process_enabling) 1) (w process_enabling) (cc)) (bit_holds (eqb (w process_not_ready) 1) (w process_not_ready) (cc))
          (bit_holds (eqb (w process_waiting) 1) (w process_waiting) (cc)) (le→leb (w process_count) 9 h.0.count)
          (zeros_hold t (process_at (k_of t) p process_spare) (process_stride - process_spare) h.0.unused) in
          all_four flags place_test meeting progress own good h.1 x

-- Meeting

-- who is in no queue has no links, and who heads no batch none of a batch's
pub record NoLinks (t : List ℕ) (K p queues heads : ℕ) : Type 0 where
  pub next : queues ≡ 0 → word t (process_at K p process_next) ≡ 0
  pub batch : heads ≡ 0 → (f : ℕ) → f < links_size - 1 → word t (process_at K p process_last + f) ≡ 0

-- where a process stands, as a test of its place's number: nowhere, on a core, in a queue
record PlaceTests (y : Place) : Type 0 where
  nowhere : stands 0 0 y ≡ leb place_asleep (place_number y)
  on_core : stands 1 0 y ≡ eqb (place_number y) place_running
  in_queue : stands 0 1 y ≡ eqb (place_number y) place_queued

-- the place of each number
place_tests : (y : Place) → PlaceTests y
place_tests running = record { nowhere = refl; on_core = refl; in_queue = refl }
place_tests queued = record { nowhere = refl; on_core = refl; in_queue = refl }
place_tests asleep = record { nowhere = refl; on_core = refl; in_queue = refl }
place_tests ended = record { nowhere = refl; on_core = refl; in_queue = refl }

module _ (t : List ℕ) (K p : ℕ) where
  -- who has no links at all
  no_links : T (zeros t (process_at K p process_next) links_size) ↔ NoLinks t K p 0 0
  no_links = (
    λ h. let z = zeros_mean t (process_at K p process_next) links_size h in
        record { next = λ e. rw add-zero at (z 0 (omega arith)); batch = λ e f b. ap (word t) (omega arith) ∙ z (suc f) (omega arith) },
    λ h. zeros_hold t (process_at K p process_next) links_size (cases h),
  )
    where
      cases : NoLinks t K p 0 0 → (i : ℕ) → i < links_size → word t (process_at K p process_next + i) ≡ 0
      cases h zero b = rw add-zero (h.next refl)
      cases h (suc i) b = ap (word t) (omega arith) ∙ h.batch refl i (omega arith)

  -- who is in a queue and heads no batch
  no_batch_links : T (zeros t (process_at K p process_last) (links_size - 1)) ↔ NoLinks t K p 1 0
  no_batch_links = (
    λ h. record { next = λ e. absurd (omega arith); batch = λ e. zeros_mean t (process_at K p process_last) (links_size - 1) h },
    λ h. zeros_hold t (process_at K p process_last) (links_size - 1) (h.batch refl),
  )

  -- a test and another that says the same as a fact
  both_exact : (a a' b : Bool) (C : Type 0) → a' ≡ a → T b ↔ C → T (a && b) ↔ (T a' × C)
  both_exact a a' b C e r =
      (λ h. let u = both a b h in (rw e u.0, r.0 u.1), λ h. together a b (subst T e h.0) (r.1 h.1))

  -- What was met fits exactly where the process stands in its place and has no links that it should not have.
  pub meeting_exact : (cores queues heads : ℕ) (y : Place) → cores + queues ≤ 1 → heads ≤ queues
      → T (meeting_fits t K p (place_number y) (cores + 2 * queues + heads)) ↔ (T (stands cores queues y) × NoLinks t K p queues heads)
  meeting_exact zero zero zero y b c = both_exact (leb place_asleep (place_number y)) (stands 0 0 y) _ _ (place_tests y).nowhere no_links
  meeting_exact (suc zero) zero zero y b c = both_exact (eqb (place_number y) place_running) (stands 1 0 y) _ _ (place_tests y).on_core no_links
  meeting_exact zero (suc zero) zero y b c = both_exact (eqb (place_number y) place_queued) (stands 0 1 y) _ _ (place_tests y).in_queue no_batch_links
  meeting_exact zero (suc zero) (suc zero) y b c =
      let e = (place_tests y).in_queue in
      (λ h. (rw e h, record { next = λ e. absurd (omega arith); batch = λ e. absurd (omega arith) }), λ h. rw e at h.0)
  meeting_exact zero zero (suc heads) y b c = absurd (omega arith)
  meeting_exact zero (suc zero) (suc (suc heads)) y b c = absurd (omega arith)
  meeting_exact zero (suc (suc queues)) heads y b c = absurd (omega arith)
  meeting_exact (suc zero) zero (suc heads) y b c = absurd (omega arith)
  meeting_exact (suc zero) (suc queues) heads y b c = absurd (omega arith)
  meeting_exact (suc (suc cores)) queues heads y b c = absurd (omega arith)
