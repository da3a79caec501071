-- The state that is read out of a table that fits is valid.
use Prim.Native.Nat.{ℕ, zero, suc, ◌+◌, ◌≤◌, ◌<◌}
use mathlib.Core.Path.{◌≡◌, refl, sym, ap, ◌∙◌, subst}
use mathlib.Core.Bool.{Bool, true, false}
use mathlib.Core.List.{List, [], ◌∷◌, map}
use native.Mathlib.Omega.{arith}
use lib.Dec.{T, leb, le→leb, lt→ltb, eqb}
use lib.ListN.{length, get_or}
use borrow.Author.Tests.{leb-true, leb-false, eq-eqb}
use Rattle.rules.specs.Layout.{process_place}
use Rattle.rules.specs.Lists.{all, total, from, times, first, bit}
use Rattle.rules.specs.State.{Core, Channel, queues_of, Wiring, wiring}
use Rattle.rules.specs.Items.{core_of, no_core, no_channel}
use Rattle.rules.specs.SetUp.{sizes}
use Rattle.rules.specs.Packing.{heads, place_number, k_of, n_of, m_of, word_of_process, view_core, view_process, view}
use Rattle.rules.specs.Soundness.{
  word32,
  is_process,
  valid_progress,
  fits,
  on_cores,
  in_queues,
  stands,
  valid_process,
  valid_work,
  not_empty,
  valid_core,
  valid_channel,
  valid,
}
use Rattle.rules.proofs.Sums.{term_le_total, total_map}
use Rattle.fitting.proofs.Tests.{within_holds, all_four, all_five, from_holds, all_holds, times_holds}
use Rattle.fitting.proofs.Walks.{Linked, next_of, batch_of, Batch}
use Rattle.fitting.proofs.CoreWalks.{CoreFits, chain_first, heads_of, heads_are, heads_stand}
use Rattle.fitting.proofs.Views.{cores_of_view, processes_of_view, channels_of_view, core_of_view, process_of_view, channel_of_view}
use Rattle.fitting.proofs.FitsCore.{FlatCore, core_fits_means}
use Rattle.fitting.proofs.FitsProcess.{NoLinks, meeting_exact}
use Rattle.fitting.proofs.Fitting.{processes_limits, Fitting}
use Rattle.fitting.proofs.Links.{heads_in, heads_le, standing_is, load_is}

-- a linked list that begins with a process is not empty
linked_some : (link : ℕ → ℕ) (p : ℕ) (l : List ℕ) → Linked link p l → 1 ≤ p → T (not_empty l)
linked_some link p [] h b = absurd (omega arith)
linked_some link p (x ∷ xs) h b = tt

-- a member of a list of lists that begin with these numbers
member_back : (f : ℕ → List ℕ) → ((h : ℕ) → first (f h) ≡ h) → (l : List ℕ) (i : ℕ) → i < length (map f l)
    → get_or (map f l) i [] ≡ f (first (get_or (map f l) i []))
member_back f e [] i b = absurd (omega arith)
member_back f e (x ∷ xs) zero b = ap f (sym (e x))
member_back f e (x ∷ xs) (suc i) b = member_back f e xs i (omega arith)

-- the first of a member is one of the heads
first_among : (l : List (List ℕ)) (i : ℕ) → i < length l → 1 ≤ times (first (get_or l i [])) (heads l)
first_among l i b =
    let h = first (get_or l i []) in
    omega (arith, total_map (λ x. bit (eqb x h)) first l, term_le_total (λ x. bit (eqb (first x) h)) l [] i b, ap bit (eq-eqb h h refl))

-- a batch of the run queue is that of its head
pub batch_is : (t : List ℕ) → 1 ≤ n_of t → (k i : ℕ) → i < length (view_core t k).run_queue
    → get_or (view_core t k).run_queue i [] ≡ batch_of t (first (get_or (view_core t k).run_queue i []))
unfolding view_core
batch_is t some k i b = member_back (batch_of t) (λ h. chain_first (next_of t) (n_of t) h some) (heads_of t k) i b

-- so the batch that a process heads is read out from that process on
pub batch_from : (t : List ℕ) → 1 ≤ n_of t → (k : ℕ) → k < k_of t → (i : ℕ) → i < length (core_of (view t) k).run_queue → (p : ℕ)
    → first (get_or (core_of (view t) k).run_queue i []) ≡ p → get_or (core_of (view t) k).run_queue i [] ≡ batch_of t p
batch_from t some k b i c p e =
    subst (λ (x : Core). i < length x.run_queue → first (get_or x.run_queue i []) ≡ p → get_or x.run_queue i [] ≡ batch_of t p)
    (sym (core_of_view t k b)) (λ d f. batch_is t some k i d ∙ ap (batch_of t) f) c e

module _ (t : List ℕ) (some : 1 ≤ n_of t) (cores : (k : ℕ) → k < k_of t → CoreFits t k) where
  -- the head of a batch of the run queue is one
  pub batch_fits : (k i : ℕ) → k < k_of t → i < length (view_core t k).run_queue
      → Batch t (first (get_or (view_core t k).run_queue i []))
  batch_fits k i b c =
      let l = (view_core t k).run_queue in
      let h = first (get_or l i []) in
      (cores k b).batches.each h (omega (arith, first_among l i c, ap (times h) (heads_are t some k)))

  -- no process heads more batches than it stands in queues
  pub heads_below : (q : ℕ) → heads_in (view t) q ≤ in_queues (view t) q
  heads_below q =
      heads_le (view t) q (λ k b. let c : k < k_of t = subst (λ (n : ℕ). k < n) (cores_of_view t) b in
      rw (core_of_view t k c) (omega (arith, heads_stand t some k (cores k c) q)))

module _ (t : List ℕ) (words : (i : ℕ) → get_or t i 0 < 4294967296) (h : Fitting t) where
  -- the state's wiring
  abbrev w : Wiring
  w = wiring (view t)

  -- there is a process
  some : 1 ≤ n_of t
  some = (processes_limits t h.header).0

  -- who stands somewhere is a process
  standing_range : (q : ℕ) → 1 ≤ on_cores (view t) q + in_queues (view t) q → (1 ≤ q) × (q ≤ n_of t)
  standing_range q b = let r = h.apart q (rw standing_is b) in (r.0, r.1)

  -- and stands there once
  pub standing_once : (q : ℕ) → on_cores (view t) q + in_queues (view t) q ≤ 1
  standing_once q = cases (leb 1 (on_cores (view t) q + in_queues (view t) q)) refl
    where
      cases : (b : Bool) → leb 1 (on_cores (view t) q + in_queues (view t) q) ≡ b → on_cores (view t) q + in_queues (view t) q ≤ 1
      cases true e =
          let b : 1 ≤ on_cores (view t) q + in_queues (view t) q = leb-true 1 (on_cores (view t) q + in_queues (view t) q) e in
          omega (arith, h.apart q (rw standing_is b), standing_is (view t) q)
      cases false e = omega (arith, leb-false 1 (on_cores (view t) q + in_queues (view t) q) e)

  -- who stands in a queue is a process
  process_here : (q : ℕ) → 1 ≤ in_queues (view t) q → T (is_process w q)
  process_here q b = let r = standing_range q (omega arith) in rw processes_of_view (within_holds 1 (n_of t) q r.0 r.1)

  -- who stands in a queue of a core stands in a queue
  in_queue : (k : ℕ) → k < k_of t → (i : ℕ) → i < length (queues_of (view_core t k)) → (q : ℕ)
      → 1 ≤ times q (get_or (queues_of (view_core t k)) i []) → 1 ≤ in_queues (view t) q
  unfolding in_queues
  in_queue k b i e q m =
      let c : k < length (view t).cores = subst (λ (n : ℕ). k < n) (sym (cores_of_view t)) b in
      let core : core_of (view t) k ≡ view_core t k = core_of_view t k b in
      omega (
        arith,
        term_le_total (times q) (queues_of (view_core t k)) [] i e,
        term_le_total (λ (c : Core). total (times q) (queues_of c)) (view t).cores no_core k c,
        ap (λ (c : Core). total (times q) (queues_of c)) core,
      )

  -- the words of a core that belong to no queue
  pub flat_core : (k : ℕ) → k < k_of t → FlatCore w t k
  flat_core k b = core_fits_means w t k (rw processes_of_view (h.cores k b).flat)

  -- a core is valid
  core_valid : (k : ℕ) → k < k_of t → T (valid_core w (view_core t k))
  unfolding valid_core view_core
  core_valid k b =
      let c = view_core t k in
      let f = flat_core k b in
      all_four (valid_work w c.work) (leb c.dispatch 32) (all not_empty c.run_queue) (all (all (is_process w)) (queues_of c))
      f.work.0 (le→leb c.dispatch 32 f.dispatch) (all_holds not_empty c.run_queue [] batch_some)
      (all_holds (all (is_process w)) (queues_of c) []
      (λ i e. times_holds (is_process w) (get_or (queues_of c) i []) (λ q m. process_here q (in_queue k b i e q m))))
    where
      batch_some : (i : ℕ) → i < length (view_core t k).run_queue → T (not_empty (get_or (view_core t k).run_queue i []))
      batch_some i e =
          let x = batch_fits t some h.cores k i b e in
          subst (λ (l : List ℕ). T (not_empty l)) (sym (batch_is t some k i e))
          (linked_some (next_of t) _ (batch_of t _) x.queue.linked x.low)

  -- where a process stands, and that it has no links that it should not have
  pub stands_linked : (p : ℕ) → 1 ≤ p → p ≤ n_of t
      → T (stands (on_cores (view t) p) (in_queues (view t) p) (view_process t p).place)
      × NoLinks t (k_of t) p (in_queues (view t) p) (heads_in (view t) p)
  unfolding view_process
  stands_linked p l b =
      let y = (view_process t p).place in
      let state = (h.processes p l b).state in
      let place : word_of_process t p process_place ≡ place_number y = cc in
      (meeting_exact t (k_of t) p (on_cores (view t) p) (in_queues (view t) p) (heads_in (view t) p) y (standing_once p)
      (heads_below t some h.cores p)).0 (rw (place, load_is) at (h.meetings p l b))

  -- a data word is a word of the table
  data_small : (p : ℕ) → (view_process t p).data_word < 4294967296
  unfolding view_process
  data_small p = words _

  -- a process is valid
  process_valid : (p : ℕ) → 1 ≤ p → p ≤ n_of t → T (valid_process (view t) p)
  unfolding valid_process
  process_valid p l b =
      let r = view_process t p in
      let f = h.processes p l b in
      rw (process_of_view t p l b)
      (all_five (word32 r.data_word) (leb r.alternation.count 9) (valid_progress w p r.progress) (fits r.place r.progress)
      (stands (on_cores (view t) p) (in_queues (view t) p) r.place)
      (lt→ltb r.data_word 4294967296 (data_small p)) (le→leb r.alternation.count 9 f.count) f.progress f.places
      (stands_linked p l b).0)

  -- The state is valid.
  pub fits_valid : T (valid (view t))
  unfolding valid
  fits_valid =
      all_four (sizes (length (view t).cores) (length (view t).processes) (length (view t).channels)) (all (valid_core w) (view t).cores)
      (all (valid_process (view t)) (from 1 (length (view t).processes))) (all (valid_channel w) (view t).channels)
      (rw (cores_of_view, processes_of_view, channels_of_view) h.header.sizes)
      (all_holds (valid_core w) (view t).cores no_core (λ k b.
      let c : k < k_of t = subst (λ (n : ℕ). k < n) (cores_of_view t) b in rw (core_of_view t k c) (core_valid k c)))
      (from_holds (valid_process (view t)) 1 (length (view t).processes) (λ p l b. process_valid p l (omega (arith, processes_of_view t))))
      (all_holds (valid_channel w) (view t).channels no_channel (λ i b.
      let c : suc i ≤ m_of t = subst (λ (n : ℕ). i < n) (channels_of_view t) b in
      subst (λ (x : Channel). T (valid_channel w x)) (sym (channel_of_view t (suc i) (omega arith) c)) (h.channels (suc i) (omega arith) c)))
