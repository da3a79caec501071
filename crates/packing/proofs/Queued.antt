-- Which states have their queues in order: valid ones, and those that come from such a state by a change of an item or of a queue.
use Prim.Native.Nat.{ℕ, ◌+◌, ◌≤◌, ◌<◌}
use mathlib.Core.Path.{◌≡◌, refl, sym, ap, subst, subst₂}
use mathlib.Core.Bool.{Bool, true, false, ◌&&◌}
use mathlib.Core.List.{List, [], ◌∷◌, ◌++◌}
use native.Mathlib.Omega.{arith}
use lib.Dec.{T, eqb, leb, le→leb}
use lib.ListN.{length, get_or, set, length-set}
use lib.Seq.{get_or-set_same, get_or-set_other}
use borrow.Author.Tests.{eqb-true, eqb-false}
use Rattle.rules.specs.Lists.{within, all, total, from, bit, times}
use Rattle.rules.specs.State.{Core, queues_of, State, wiring}
use Rattle.rules.specs.Items.{Region, cores, processes, channels, Record, record_of, with_record, Kind, core, region, Val, with_field, no_core, core_of, put}
use Rattle.rules.specs.SetUp.{sizes}
use Rattle.rules.specs.Soundness.{in_queues, valid_process, valid_work, not_empty, valid_core, valid_channel, valid}
use Rattle.packing.specs.Queues.{with_queues, Queued}
use Rattle.rules.proofs.Tests.{both, together, all_at, all_append, all_one}
use Rattle.rules.proofs.Packing.Reflect.{valid_means}
use Rattle.rules.proofs.Packing.Chains.{queued_once}
use Rattle.rules.proofs.Packing.Regions.{Dims}
use Rattle.packing.proofs.States.{dims_record}
use Rattle.rules.proofs.Sums.{total_set, total_append, times_append}
use Rattle.packing.proofs.Links.{times_in}
use Rattle.packing.proofs.Standing.{active_among, batches_among}

-- Valid states

-- A valid state has its queues in order.
pub valid_queued : (s : State) → T (valid s) → Queued s
unfolding valid valid_core valid_process
valid_queued s h =
    record {
      members = λ k inside. (both (all_but_members (core_of s k)) _ (at_core k inside)).1;
      batches = λ k inside.
          let c = core_of s k in
          (both (valid_work (wiring s) c.work && leb c.dispatch 32) _
          (both (all_but_members c) (all (all (within 1 (length s.processes))) (queues_of c)) (at_core k inside)).0).1;
      once = λ p low high. queued_once s (valid_means s h) p;
    }
  where
    size_tests : Bool
    size_tests = sizes (length s.cores) (length s.processes) (length s.channels)

    core_tests : Bool
    core_tests = all (valid_core (wiring s)) s.cores

    process_tests : Bool
    process_tests = all (valid_process s) (from 1 (length s.processes))

    no_channels : T (size_tests && core_tests && process_tests)
    no_channels = (both (size_tests && core_tests && process_tests) (all (valid_channel (wiring s)) s.channels) h).0

    all_but_members : Core → Bool
    all_but_members c = valid_work (wiring s) c.work && leb c.dispatch 32 && all not_empty c.run_queue

    at_core : (k : ℕ) → k < length s.cores → T (valid_core (wiring s) (core_of s k))
    at_core k inside =
        all_at (valid_core (wiring s)) s.cores no_core
        (both size_tests core_tests (both (size_tests && core_tests) process_tests no_channels).0).1 k inside

-- Other items

-- the order of the queues is a matter of the cores and the number of processes
queued_same : (s s' : State) → s.cores ≡ s'.cores → length s.processes ≡ length s'.processes → Queued s → Queued s'
unfolding in_queues
queued_same s s' e e' h =
    record {
      members =
          subst₂ (λ (l : List Core) (n : ℕ). (k : ℕ) → k < length l → T (all (all (within 1 n)) (queues_of (get_or l k no_core)))) e e'
          h.members;
      batches = subst (λ (l : List Core). (k : ℕ) → k < length l → T (all not_empty (get_or l k no_core).run_queue)) e h.batches;
      once = subst₂ (λ (l : List Core) (n : ℕ). (p : ℕ) → 1 ≤ p → p ≤ n → total (times_in p) l ≤ 1) e e' h.once;
    }

-- any region but that of the cores
abbrev no_cores : Region → Bool
no_cores cores = false
no_cores processes = true
no_cores channels = true

-- Every record but a core's leaves the queues in order.
queued_record : (g : Region) (n : ℕ) (r : Record g) (s : State) → T (no_cores g) → Queued s → Queued (with_record g n r s)
queued_record cores n r s other h = absurd other
queued_record processes n r s other h = queued_same s _ refl (ap (λ (d : Dims). d.N) (sym (dims_record processes n r s))) h
queued_record channels n r s other h = queued_same s _ refl refl h

-- So does every item but a core.
pub queued_put : (x : Kind) (i : ℕ) (v : Val x) (s : State) → T (no_cores (region x)) → Queued s → Queued (put x i v s)
queued_put x i v s other h = queued_record (region x) i (with_field x v (record_of (region x) s i)) s other h

-- Queues

module _ (s : State) (k : ℕ) (inside : k < length s.cores) (h : Queued s) where
  -- another core leaves the queues in order if its own are, and no process stands in them that stands elsewhere
  pub queued_core : (c : Core) → T (all (all (within 1 (length s.processes))) (queues_of c)) → T (all not_empty c.run_queue)
      → ((p : ℕ) → 1 ≤ p → p ≤ length s.processes → in_queues s p + times_in p c ≤ 1 + times_in p (core_of s k))
      → Queued (put core k c s)
  unfolding in_queues
  queued_core c members batches once =
      record {
        members = λ i b.
            each (λ x. T (all (all (within 1 (length s.processes))) (queues_of x))) i (bound i b) members (h.members i (bound i b));
        batches = λ i b. each (λ x. T (all not_empty x.run_queue)) i (bound i b) batches (h.batches i (bound i b));
        once = λ p low high. omega (arith, total_set (times_in p) s.cores k c no_core inside, once p low high);
      }
    where
      bound : (i : ℕ) → i < length (set s.cores k c) → i < length s.cores
      bound i b = rw length-set at b

      each : (P : Core → Type 0) (i : ℕ) → i < length s.cores → P c → P (core_of s i) → P (get_or (set s.cores k c) i no_core)
      each P i b new old = cases (eqb i k) refl
        where
          cases : (x : Bool) → eqb i k ≡ x → P (get_or (set s.cores k c) i no_core)
          cases true e = rw (eqb-true i k e) (rw (get_or-set_same s.cores k c no_core inside) new)
          cases false e = rw (get_or-set_other s.cores k i c no_core (eqb-false i k e)) old

  -- so it does if no process stands there more often than before
  queued_fewer : (c : Core) → T (all (all (within 1 (length s.processes))) (queues_of c)) → T (all not_empty c.run_queue)
      → ((p : ℕ) → times_in p c ≤ times_in p (core_of s k)) → Queued (put core k c s)
  queued_fewer c members batches fewer = queued_core c members batches (λ p low high. omega (arith, fewer p, h.once p low high))

  -- a core with the same queues
  pub queued_same_queues : (c : Core) → (core_of s k).active ≡ c.active → (core_of s k).run_queue ≡ c.run_queue → Queued (put core k c s)
  queued_same_queues c e e' =
      queued_fewer c (subst₂ (λ a r. T (all (all (within 1 (length s.processes))) (a ∷ r))) e e' (h.members k inside))
      (rw e' at (h.batches k inside)) (λ p. omega (arith, ap (times p) e, ap (total (times p)) e'))

  -- the five changes of queues: push
  pub queued_push : (q : ℕ) → 1 ≤ q → q ≤ length s.processes → in_queues s q ≡ 0
      → Queued (put core k (with_queues ((core_of s k).active ++ (q ∷ [])) (core_of s k).run_queue (core_of s k)) s)
  queued_push q low high none =
      queued_core _
      (together (all (within 1 n) (l ++ (q ∷ []))) _
      (all_append (within 1 n) l (q ∷ []) (active_among s k inside h) (all_one (within 1 n) q in_range)) (batches_among s k inside h))
      (h.batches k inside) (λ p low' high'. omega (arith, times_append p l (q ∷ []), once p low' high' (eqb q p) refl))
    where
      n : ℕ
      n = length s.processes

      l : List ℕ
      l = (core_of s k).active

      in_range : T (within 1 n q)
      in_range = together (leb 1 q) (leb q n) (le→leb 1 q low) (le→leb q n high)

      once : (p : ℕ) → 1 ≤ p → p ≤ n → (x : Bool) → eqb q p ≡ x → in_queues s p + bit x ≤ 1
      once p low' high' true e = omega (arith, ap (in_queues s) (eqb-true q p e), none)
      once p low' high' false e = omega (arith, h.once p low' high')

  -- take
  pub queued_take : (p : ℕ) (rest : List ℕ) → (core_of s k).active ≡ p ∷ rest
      → Queued (put core k (with_queues rest (core_of s k).run_queue (core_of s k)) s)
  queued_take p rest e =
      queued_fewer _
      (together (all (within 1 n) rest) _ (both (within 1 n p) _ (rw e at (active_among s k inside h))).1 (batches_among s k inside h))
      (h.batches k inside) (λ i. omega (arith, ap (times i) e))
    where
      n : ℕ
      n = length s.processes

  -- the active queue becomes new batches, by a store or a split
  queued_stored : (new : List (List ℕ)) → T (all (all (within 1 (length s.processes))) new) → T (all not_empty new)
      → ((i : ℕ) → total (times i) new ≡ times i (core_of s k).active)
      → Queued (put core k (with_queues [] ((core_of s k).run_queue ++ new) (core_of s k)) s)
  queued_stored new among full same =
      queued_fewer _ (all_append (all (within 1 (length s.processes))) r new (batches_among s k inside h) among)
      (all_append not_empty r new (h.batches k inside) full) (λ i. omega (arith, total_append (times i) r new, same i))
    where
      r : List (List ℕ)
      r = (core_of s k).run_queue

  -- store
  pub queued_store : (p : ℕ) (rest : List ℕ) → (core_of s k).active ≡ p ∷ rest
      → Queued (put core k (with_queues [] ((core_of s k).run_queue ++ ((p ∷ rest) ∷ [])) (core_of s k)) s)
  queued_store p rest e =
      queued_stored ((p ∷ rest) ∷ []) (all_one (all (within 1 (length s.processes))) (p ∷ rest) (rw e at (active_among s k inside h))) tt
      (λ i. omega (arith, ap (times i) e))

  -- split
  pub queued_split : (p q : ℕ) (rest : List ℕ) → (core_of s k).active ≡ p ∷ (q ∷ rest)
      → Queued (put core k (with_queues [] ((core_of s k).run_queue ++ ((p ∷ []) ∷ ((q ∷ rest) ∷ []))) (core_of s k)) s)
  queued_split p q rest e =
      queued_stored ((p ∷ []) ∷ ((q ∷ rest) ∷ []))
      (together (all (within 1 n) (p ∷ [])) _ (all_one (within 1 n) p (both (within 1 n p) (all (within 1 n) (q ∷ rest)) among).0)
      (all_one (all (within 1 n)) (q ∷ rest) (both (within 1 n p) (all (within 1 n) (q ∷ rest)) among).1))
      tt (λ i. omega (arith, ap (times i) e))
    where
      n : ℕ
      n = length s.processes

      among : T (all (within 1 n) (p ∷ (q ∷ rest)))
      among = rw e at (active_among s k inside h)

  -- load
  pub queued_load : (batch : List ℕ) (rest : List (List ℕ)) → (core_of s k).run_queue ≡ batch ∷ rest
      → Queued (put core k (with_queues batch rest (core_of s k)) s)
  queued_load batch rest e =
      queued_fewer _ (rw e at (batches_among s k inside h)) (both (not_empty batch) _ (rw e at (h.batches k inside))).1
      (λ i. omega (arith, ap (total (times i)) e))
