-- The links of a table and the links of a state: a linked list is the chain of its links, and where the sums of the packing are not 0
-- they are what a list says.
use Rattle.std.specs.Prelude.{if◌then◌else◌}
use Prim.Native.Nat.{ℕ, zero, suc, ◌+◌, ◌*◌, ◌≤◌, ◌<◌}
use mathlib.Core.Path.{◌≡◌, refl, sym, ap, ◌∙◌, subst}
use mathlib.Core.Bool.{Bool, true, false}
use mathlib.Core.List.{List, [], ◌∷◌}
use native.Mathlib.Omega.{arith}
use lib.Dec.{eqb, eqb→eq}
use lib.ListN.{length, get_or}
use borrow.Author.Tests.{eqb-true, eq-eqb}
use Rattle.rules.specs.Lists.{total, bit, times, first, last, follows}
use Rattle.rules.specs.State.{Core, queues_of, State}
use Rattle.rules.specs.Items.{core_of, no_core}
use Rattle.rules.specs.Packing.{heads, next_link, if_head, head_link, batch_link, chain}
use Rattle.rules.specs.Soundness.{runs_it, on_cores, in_queues}
use Rattle.rules.proofs.Sums.{total_le, term_le_total, positive_term, total_add, total_zero, total_only, total_map, Among, among_length}
use Rattle.rules.proofs.QueueLists.{follows_none}
use Rattle.rules.proofs.Packing.Chains.{chain_back}
use Rattle.fitting.proofs.Tests.{bit_positive}
use Rattle.fitting.proofs.Walks.{Linked, last_from}
use Rattle.fitting.proofs.CoreWalks.{standing, load}

-- Lists and chains

-- the first of a linked list is where the links begin
linked_first : (link : ℕ → ℕ) (p : ℕ) (l : List ℕ) → Linked link p l → first l ≡ p
linked_first link p [] h = sym h
linked_first link p (x ∷ xs) h = sym h.0

-- what follows a number in a linked list is its link
pub linked_follows : (link : ℕ → ℕ) (h : ℕ) (l : List ℕ) → Linked link h l → (p : ℕ) → 1 ≤ times p l → follows p l ≡ link p
linked_follows link h [] e p b = absurd (omega arith)
linked_follows link h (x ∷ xs) e p b = cases (eqb x p) refl (linked_follows link (link x) xs e.1 p)
  where
    cases : (t : Bool) → eqb x p ≡ t → (1 ≤ times p xs → follows p xs ≡ link p) → (if t then first xs else follows p xs) ≡ link p
    cases true q rest = linked_first link (link x) xs e.1 ∙ ap link (eqb-true x p q)
    cases false q rest = rest (omega (arith, ap bit q))

-- a chain that ends before its bound is linked
chain_linked : (link : ℕ → ℕ) (n p : ℕ) → length (chain link n p) < n → Linked link p (chain link n p)
chain_linked link zero p b = absurd (omega arith)
chain_linked link (suc n) zero b = refl
chain_linked link (suc n) (suc p) b = (refl, chain_linked link n (link (suc p)) (omega arith))

-- a list of distinct numbers in which the links are what follows is linked
pub linked_back : (n : ℕ) (link : ℕ → ℕ) (l : List ℕ) → Among n l → ((p : ℕ) → 1 ≤ times p l → link p ≡ follows p l) → Linked link (first l) l
linked_back n link l a e =
    let more : Among (suc n) l = record { range = λ p b. let r = a.range p b in (r.0, omega arith); once = a.once } in
    let back : chain link (suc n) (first l) ≡ l = chain_back (suc n) link l more e in
    subst (λ (m : List ℕ). Linked link (first l) m) back (chain_linked link (suc n) (first l) (rw back (omega (arith, among_length n l a))))

-- the last of a list, counted on from 0
pub last_from_zero : (l : List ℕ) → last_from 0 l ≡ last l
last_from_zero [] = refl
last_from_zero (x ∷ xs) = behind x xs
  where
    behind : (x : ℕ) (xs : List ℕ) → last_from x xs ≡ last (x ∷ xs)
    behind x [] = refl
    behind x (y ∷ ys) = behind y ys

-- Sums

-- who is one of the heads is the first of a batch
pub head_found : (l : List (List ℕ)) (p : ℕ) → 1 ≤ times p (heads l) → (i : ℕ) × (i < length l) × (first (get_or l i []) ≡ p)
head_found l p b =
    let r = positive_term (λ x. bit (eqb (first x) p)) l [] (omega (arith, total_map (λ x. bit (eqb x p)) first l)) in
    let x = first (get_or l r.0 []) in
    (r.0, r.1, eqb→eq x p (bit_positive (eqb x p) r.2))

-- how many batches a process heads
unfoldable pub heads_in : State → ℕ → ℕ
heads_in s p = total (λ (c : Core). times p (heads c.run_queue)) s.cores

module _ (s : State) (p : ℕ) where
  -- where a process stands is on cores and in queues
  pub standing_is : total (standing p) s.cores ≡ on_cores s p + in_queues s p
  unfolding on_cores in_queues
  standing_is = total_add _ _ s.cores

  -- the number of what was met
  pub load_is : total (load p) s.cores ≡ on_cores s p + 2 * in_queues s p + heads_in s p
  unfolding on_cores in_queues heads_in
  load_is = each s.cores
    where
      each : (l : List Core) → total (load p) l
          ≡ total (λ (c : Core). runs_it p c.work) l + 2 * total (λ (c : Core). total (times p) (queues_of c)) l
          + total (λ (c : Core). times p (heads c.run_queue)) l
      each [] = refl
      each (c ∷ cs) = omega (arith, each cs)

  -- where no process heads more batches of a core than it stands in its queues, it heads no more than it stands in all queues
  pub heads_le : ((k : ℕ) → k < length s.cores → times p (heads (core_of s k).run_queue) ≤ total (times p) (queues_of (core_of s k)))
      → heads_in s p ≤ in_queues s p
  unfolding heads_in in_queues
  heads_le = total_le (λ (c : Core). times p (heads c.run_queue)) (λ (c : Core). total (times p) (queues_of c)) no_core s.cores

  -- who is in no queue is linked to nobody
  pub no_next : in_queues s p ≡ 0 → next_link s p ≡ 0
  unfolding in_queues next_link
  no_next = total_zero _ _ (λ (c : Core). total_zero (times p) (follows p) (follows_none p) (queues_of c)) s.cores

  -- 1 for a batch that p heads
  abbrev headed : List ℕ → ℕ
  headed batch = bit (eqb (first batch) p)

  -- who heads no batch keeps nothing of one
  not_head : (f : List ℕ → ℕ) (batch : List ℕ) → headed batch ≡ 0 → if_head f p batch ≡ 0
  not_head f batch e = cases (eqb (first batch) p) refl
    where
      cases : (t : Bool) → eqb (first batch) p ≡ t → (if t then f batch else 0) ≡ 0
      cases true q = absurd (omega (arith, ap bit q))
      cases false q = refl

  -- nor of any batches
  no_head : (f : List ℕ → ℕ) (batches : List (List ℕ)) → times p (heads batches) ≡ 0 → total (if_head f p) batches ≡ 0
  no_head f batches e = total_zero headed (if_head f p) (not_head f) batches (omega (arith, total_map (λ x. bit (eqb x p)) first batches))

  -- nor of those of a state
  pub no_head_link : (f : List ℕ → ℕ) → heads_in s p ≡ 0 → head_link f s p ≡ 0
  unfolding heads_in head_link
  no_head_link f = total_zero _ _ (λ (c : Core). no_head f c.run_queue) s.cores

  -- and is linked to no other head
  pub no_batch_link : heads_in s p ≡ 0 → batch_link s p ≡ 0
  unfolding heads_in batch_link
  no_batch_link = total_zero _ _ (λ (c : Core). follows_none p (heads c.run_queue)) s.cores

  -- the head of a batch keeps what is asked of the batch
  pub head_keeps : (f : List ℕ → ℕ) → heads_in s p ≤ 1 → (k : ℕ) → k < length s.cores
      → (i : ℕ) → i < length (core_of s k).run_queue → first (get_or (core_of s k).run_queue i []) ≡ p
      → head_link f s p ≡ f (get_or (core_of s k).run_queue i [])
  unfolding heads_in head_link
  head_keeps f one k b i c e =
      let l = (core_of s k).run_queue in
      let here : headed (get_or l i []) ≡ 1 = ap bit (eq-eqb (first (get_or l i [])) p e) in
      let all_heads : times p (heads l) ≡ total headed l = total_map (λ x. bit (eqb x p)) first l in
      let headed_on : Core → ℕ = λ c. times p (heads c.run_queue) in
      let below = term_le_total headed_on s.cores no_core k b in
      total_only headed_on (λ (c : Core). total (if_head f p) c.run_queue) (λ (c : Core). no_head f c.run_queue) s.cores one no_core k b
      (omega (arith, term_le_total headed l [] i c))
      ∙ total_only headed (if_head f p) (not_head f) l (omega arith) [] i c (omega arith)
      ∙ ap (λ (t : Bool). if t then f (get_or l i []) else 0) (eq-eqb (first (get_or l i [])) p e)
