-- The queues of a valid state as chains: each process stands in at most one queue and at most once, so the sums of the packing are
-- what follows a process in its queue, and what is linked behind a queue's first process is the queue.
use Rattle.std.specs.Prelude.{if◌then◌else◌}
use Prim.Native.Nat.{ℕ, zero, suc, ◌≤◌, ◌<◌}
use mathlib.Core.Path.{◌≡◌, refl, ap, ◌∙◌}
use mathlib.Core.Bool.{Bool, true, false, ◌&&◌}
use mathlib.Core.List.{List, [], ◌∷◌}
use native.Mathlib.Omega.{arith}
use lib.Dec.{T, eqb, leb, eqb→eq}
use lib.ListN.{length, get_or}
use borrow.Author.Tests.{leb-true, leb-false, eq-eqb, ne_eqb}
use Rattle.rules.specs.Lists.{total, times, bit, first, follows}
use Rattle.rules.specs.State.{Place, running, queued, asleep, ended, Core, queues_of, State}
use Rattle.rules.specs.Items.{core_of, process_of, no_core}
use Rattle.rules.specs.Packing.{heads, next_link, if_head, head_link, batch_link, chain}
use Rattle.rules.specs.Soundness.{in_queues, stands, not_empty}
use Rattle.rules.proofs.Tests.{both}
use Rattle.rules.proofs.Packing.Reflect.{Valid}
use Rattle.rules.proofs.QueueLists.{follows_none, follows_first, if_not_head, heads_none}
use Rattle.rules.proofs.Sums.{total_le, term_le_total, positive_term, total_zero, total_only, total_map, counts_once, Among, among_length, head_stands}

-- One list

-- a number that stands behind the first of a list of distinct numbers is another
stands_behind : (n x : ℕ) (xs : List ℕ) → Among n (x ∷ xs) → (p : ℕ) → 1 ≤ times p xs → eqb x p ≡ false
stands_behind n x xs a p b =
    ne_eqb x p (λ e. omega (arith, a.once x, head_stands x xs, ap (λ (y : ℕ). times y xs) e))

-- what stands behind the first of a list of distinct numbers is such a list
among_tail : (n x : ℕ) (xs : List ℕ) → Among n (x ∷ xs) → Among n xs
among_tail n x xs a = record { range = λ p b. a.range p (omega arith); once = λ p. omega (arith, a.once p) }

-- The chain of links from a list's first number on is the list, if each number is linked to what follows it.
chain_to : (m n : ℕ) (link : ℕ → ℕ) (l : List ℕ) → Among m l → length l ≤ n → ((p : ℕ) → 1 ≤ times p l → link p ≡ follows p l)
    → chain link n (first l) ≡ l
chain_to m zero link [] a b e = refl
chain_to m (suc n) link [] a b e = refl
chain_to m zero link (x ∷ xs) a b e = absurd (omega arith)
chain_to m (suc n) link (zero ∷ xs) a b e = absurd (omega (arith, a.range 0 (omega (arith, head_stands 0 xs))))
chain_to m (suc n) link (suc x ∷ xs) a b e =
    ap (λ (l : List ℕ). suc x ∷ l)
    (ap (chain link n) (e (suc x) (omega (arith, head_stands (suc x) xs)) ∙ follows_first (suc x) xs)
    ∙ chain_to m n link xs (among_tail m (suc x) xs a) (omega arith) behind)
  where
    behind : (p : ℕ) → 1 ≤ times p xs → link p ≡ follows p xs
    behind p h =
        e p (omega arith)
        ∙ ap (λ (t : Bool). if t then first xs else follows p xs) (stands_behind m (suc x) xs a p h)

-- the same with no more than n links, where the numbers are of 1 to n
pub chain_back : (n : ℕ) (link : ℕ → ℕ) (l : List ℕ) → Among n l → ((p : ℕ) → 1 ≤ times p l → link p ≡ follows p l)
    → chain link n (first l) ≡ l
chain_back n link l a e = chain_to n n link l a (among_length n l a) e

-- The queues of a state

-- two tests of numbers, of which the second says at most 1
at_most_one : (a b x y : ℕ) → y ≤ 1 → T (eqb a x && eqb b y) → b ≤ 1
at_most_one a b x y l h = omega (arith, eqb→eq b y (both (eqb a x) (eqb b y) h).1)

-- a process that is in its place stands in the queues at most once
pub stands_once : (cores queues : ℕ) (x : Place) → T (stands cores queues x) → queues ≤ 1
stands_once cores queues running h = at_most_one cores queues 1 0 (omega arith) h
stands_once cores queues queued h = at_most_one cores queues 0 1 (omega arith) h
stands_once cores queues asleep h = at_most_one cores queues 0 0 (omega arith) h
stands_once cores queues ended h = at_most_one cores queues 0 0 (omega arith) h

-- queue i of core k: the active queue, then the batches of the run queue
abbrev pub queue_of : State → ℕ → ℕ → List ℕ
queue_of s k i = get_or (queues_of (core_of s k)) i []

-- a batch's head stands in the batch
head_in_batch : (p : ℕ) (l : List ℕ) → T (not_empty l) → bit (eqb (first l) p) ≤ times p l
head_in_batch p [] h = absurd h
head_in_batch p (x ∷ xs) h = omega arith

module _ (s : State) (v : Valid s) where
  -- what stands in a queue is a process
  pub queued_range : (p : ℕ) → 1 ≤ in_queues s p → (1 ≤ p) × (p ≤ length s.processes)
  unfolding in_queues
  queued_range p h =
      let c = positive_term (λ (c : Core). total (times p) (queues_of c)) s.cores no_core h in
      let q = positive_term (times p) (queues_of (core_of s c.0)) [] c.2 in
      (v.cores c.0 c.1).members q.0 q.1 p q.2

  -- no number stands in the queues twice
  pub queued_once : (p : ℕ) → in_queues s p ≤ 1
  queued_once p = cases (leb 1 (in_queues s p)) refl
    where
      cases : (t : Bool) → leb 1 (in_queues s p) ≡ t → in_queues s p ≤ 1
      cases true q =
          let r = queued_range p (leb-true 1 (in_queues s p) q) in
          stands_once _ (in_queues s p) (process_of s p).place (v.processes p r.0 r.1).standing
      cases false q = omega (arith, leb-false 1 (in_queues s p) q)

  module _ (k : ℕ) (b : k < length s.cores) where
    -- how often a number stands in the queues of a core
    in_core : (p : ℕ) → total (times p) (queues_of (core_of s k)) ≤ in_queues s p
    unfolding in_queues
    in_core p = term_le_total (λ (c : Core). total (times p) (queues_of c)) s.cores no_core k b

    -- a queue is a list of distinct processes
    pub queue_among : (i : ℕ) → i < length (queues_of (core_of s k)) → Among (length s.processes) (queue_of s k i)
    queue_among i c =
        record {
          range = (v.cores k b).members i c;
          once = λ p. omega (arith, term_le_total (times p) (queues_of (core_of s k)) [] i c, in_core p, queued_once p);
        }

    -- a process is linked to what follows it in its queue
    pub next_follows : (i : ℕ) → i < length (queues_of (core_of s k)) → (p : ℕ) → 1 ≤ times p (queue_of s k i)
        → next_link s p ≡ follows p (queue_of s k i)
    unfolding next_link in_queues
    next_follows i c p h =
        let l = queues_of (core_of s k) in
        let one : 1 ≤ total (times p) l = omega (arith, term_le_total (times p) l [] i c) in
        total_only (λ (x : Core). total (times p) (queues_of x)) (λ (x : Core). total (follows p) (queues_of x))
        (λ x. total_zero (times p) (follows p) (follows_none p) (queues_of x)) s.cores (queued_once p) no_core k b one
        ∙ total_only (times p) (follows p) (follows_none p) l (omega (arith, in_core p, queued_once p)) [] i c h

    -- a head stands in the queues of its core
    pub heads_in_core : (p : ℕ) → times p (heads (core_of s k).run_queue) ≤ total (times p) (queues_of (core_of s k))
    heads_in_core p =
        let l = (core_of s k).run_queue in
        omega (
          arith,
          total_map (λ x. bit (eqb x p)) first l,
          total_le (λ x. bit (eqb (first x) p)) (times p) [] l (λ i c. head_in_batch p (get_or l i []) ((v.cores k b).batches i c)),
        )

    -- the heads of a core's batches are distinct processes
    pub heads_among : Among (length s.processes) (heads (core_of s k).run_queue)
    heads_among =
        record {
          range = λ p h. queued_range p (omega (arith, heads_in_core p, in_core p));
          once = λ p. omega (arith, heads_in_core p, in_core p, queued_once p);
        }

  -- a batch's head is a process
  pub head_range : (k : ℕ) (b : k < length s.cores) (i : ℕ) → i < length (core_of s k).run_queue
      → let p = first (get_or (core_of s k).run_queue i []) in (1 ≤ p) × (p ≤ length s.processes)
  head_range k b i c =
      let l = (core_of s k).run_queue in
      let p = first (get_or l i []) in
      (v.cores k b).members (suc i) (omega arith) p
      (omega (arith, counts_once p, head_in_batch p (get_or l i []) ((v.cores k b).batches i c)))

  -- no process heads two batches
  pub heads_once : (p : ℕ) → total (λ (c : Core). times p (heads c.run_queue)) s.cores ≤ 1
  unfolding in_queues
  heads_once p =
      let le = total_le (λ (c : Core). times p (heads c.run_queue)) (λ c. total (times p) (queues_of c)) no_core s.cores (λ j c. heads_in_core j c p) in
      omega (arith, queued_once p)

  -- a head is linked to the head of the batch that follows
  pub batch_follows : (k : ℕ) → k < length s.cores → (p : ℕ) → 1 ≤ times p (heads (core_of s k).run_queue)
      → batch_link s p ≡ follows p (heads (core_of s k).run_queue)
  unfolding batch_link
  batch_follows k b p h =
      let heads_of : Core → List ℕ = λ c. heads c.run_queue in
      total_only (λ c. times p (heads_of c)) (λ c. follows p (heads_of c)) (λ c. follows_none p (heads_of c)) s.cores (heads_once p) no_core k b h

  -- and keeps the numbers of its batch
  pub head_keeps : (f : List ℕ → ℕ) (k : ℕ) → k < length s.cores → (i : ℕ) → i < length (core_of s k).run_queue
      → let batch = get_or (core_of s k).run_queue i [] in head_link f s (first batch) ≡ f batch
  unfolding head_link
  head_keeps f k b i c =
      let l = (core_of s k).run_queue in
      let p = first (get_or l i []) in
      let heads_it : List ℕ → ℕ = λ batch. bit (eqb (first batch) p) in
      let here : 1 ≤ heads_it (get_or l i []) = omega (arith, counts_once p) in
      let same : times p (heads l) ≡ total heads_it l = total_map (λ x. bit (eqb x p)) first l in
      let once : times p (heads l) ≤ 1 = omega (arith, term_le_total (λ (c : Core). times p (heads c.run_queue)) s.cores no_core k b, heads_once p) in
      total_only (λ (c : Core). times p (heads c.run_queue)) (λ c. total (if_head f p) c.run_queue) (λ c. heads_none f p c.run_queue) s.cores
      (heads_once p) no_core k b (omega (arith, term_le_total heads_it l [] i c))
      ∙ total_only heads_it (if_head f p) (if_not_head f p) l (omega arith) [] i c here
      ∙ rw (eq-eqb p p refl)
