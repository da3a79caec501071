-- What the order of the queues says of one core's queues.
use Rattle.std.specs.Prelude.{if◌then◌else◌}
use Prim.Native.Nat.{ℕ, ◌+◌, ◌≤◌, ◌<◌}
use mathlib.Core.Path.{◌≡◌, refl, ap, ◌∙◌}
use mathlib.Core.List.{List, [], ◌∷◌, ◌++◌}
use native.Mathlib.Omega.{arith}
use native.Mathlib.Nat.{le_trans}
use lib.Dec.{T, eqb}
use lib.ListN.{length}
use borrow.Author.Tests.{ne_eqb}
use Rattle.rules.specs.Lists.{within, all, total, times, first, last}
use Rattle.rules.specs.State.{State}
use Rattle.rules.specs.Items.{core_of, no_core}
use Rattle.rules.specs.Packing.{heads}
use Rattle.rules.specs.Soundness.{not_empty, in_queues}
use Rattle.packing.specs.Queues.{Queued}
use Rattle.rules.proofs.Tests.{both, together, within_means}
use Rattle.rules.proofs.Sums.{term_le_total, head_stands}
use Rattle.rules.proofs.QueueLists.{times_last, times_heads}
use Rattle.packing.proofs.Links.{times_in, Stands}

-- one of 1 to n
abbrev pub Among : ℕ → ℕ → Type 0
Among n p = (1 ≤ p) × (p ≤ n)

-- the first and the last of a list of such numbers are such
pub first_among : (n x : ℕ) (l : List ℕ) → T (all (within 1 n) (x ∷ l)) → Among n x
first_among n x l h = within_means 1 n x (both (within 1 n x) (all (within 1 n) l) h).0

last_among : (n x : ℕ) (l : List ℕ) → T (all (within 1 n) (x ∷ l)) → Among n (last (x ∷ l))
last_among n x [] h = first_among n x [] h
last_among n x (y ∷ l) h = last_among n y l (both (within 1 n x) (all (within 1 n) (y ∷ l)) h).1

pub last_bound : (n : ℕ) (l : List ℕ) → T (all (within 1 n) l) → last l ≤ n
last_bound n [] h = omega arith
last_bound n (x ∷ l) h = (last_among n x l h).1

-- so are the heads of batches that are not empty
heads_among : (n : ℕ) (batches : List (List ℕ)) → T (all (all (within 1 n)) batches) → T (all not_empty batches)
    → T (all (within 1 n) (heads batches))
heads_among n [] h g = tt
heads_among n ([] ∷ batches) h g = absurd g
heads_among n ((x ∷ l) ∷ batches) h g =
    together (within 1 n x) (all (within 1 n) (heads batches))
    (both (within 1 n x) (all (within 1 n) l) (both (all (within 1 n) (x ∷ l)) (all (all (within 1 n)) batches) h).0).0
    (heads_among n batches (both (all (within 1 n) (x ∷ l)) (all (all (within 1 n)) batches) h).1 g)

-- what is first when another is put at the end: that one where there was none, which the last shows
pub first_more : (n p : ℕ) (l m : List ℕ) → T (all (within 1 n) l) → (if eqb (last l) 0 then p else first l) ≡ first (l ++ (p ∷ m))
first_more n p [] m h = refl
first_more n p (x ∷ l) m h = rw (ne_eqb (last (x ∷ l)) 0 (λ e. omega (arith, (last_among n x l h).0)))

-- what is last when the first is taken off: 0 where nothing is left, which its first shows
pub last_rest : (n x : ℕ) (l : List ℕ) → T (all (within 1 n) l) → (if eqb (first l) 0 then 0 else last (x ∷ l)) ≡ last l
last_rest n x [] h = refl
last_rest n x (y ∷ l) h = rw (ne_eqb y 0 (λ e. omega (arith, (first_among n y l h).0)))

module _ (s : State) (k : ℕ) (inside : k < length s.cores) (queued : Queued s) where
  -- the members of the active queue and of the batches, and the heads, are processes
  pub active_among : T (all (within 1 (length s.processes)) (core_of s k).active)
  active_among = (both (all (within 1 (length s.processes)) (core_of s k).active) _ (queued.members k inside)).0

  pub batches_among : T (all (all (within 1 (length s.processes))) (core_of s k).run_queue)
  batches_among = (both (all (within 1 (length s.processes)) (core_of s k).active) _ (queued.members k inside)).1

  pub core_heads_among : T (all (within 1 (length s.processes)) (heads (core_of s k).run_queue))
  core_heads_among = heads_among (length s.processes) (core_of s k).run_queue batches_among (queued.batches k inside)

  -- a process that stands in the core's queues stands there once
  pub stands_once : (p : ℕ) → Among (length s.processes) p → 1 ≤ times_in p (core_of s k) → Stands s k p
  unfolding in_queues
  stands_once p among here =
      let once : in_queues s p ≤ 1 = queued.once p among.0 among.1 in
      record {
        low = among.0;
        high = among.1;
        once = once;
        here = here;
        at_most = le_trans (term_le_total (times_in p) s.cores no_core k inside) once;
      }

  -- so does the first of the active queue
  pub first_stands : (p : ℕ) (rest : List ℕ) → (core_of s k).active ≡ p ∷ rest → Stands s k p
  first_stands p rest e =
      let here : 1 ≤ times p (core_of s k).active = rw e (omega (arith, head_stands p rest)) in
      stands_once p (first_among _ p rest (rw e at active_among)) (omega arith)

  -- it stands neither further on in that queue nor in a batch
  pub first_once : (p : ℕ) (rest : List ℕ) → (core_of s k).active ≡ p ∷ rest
      → (times p rest ≡ 0) × (total (times p) (core_of s k).run_queue ≡ 0)
  first_once p rest e =
      let stands : Stands s k p = first_stands p rest e in
      let count : times p (core_of s k).active ≡ 1 + times p rest = ap (times p) e ∙ head_stands p rest in
      omega arith

  -- the second of the active queue, which stands in no batch
  second_here : (p q : ℕ) (rest : List ℕ) → (core_of s k).active ≡ p ∷ (q ∷ rest) → 1 ≤ times q (core_of s k).active
  second_here p q rest e = rw e (omega (arith, head_stands q rest))

  pub second_stands : (p q : ℕ) (rest : List ℕ) → (core_of s k).active ≡ p ∷ (q ∷ rest) → Stands s k q
  second_stands p q rest e =
      stands_once q (first_among _ q rest (both (within 1 (length s.processes) p) _ (rw e at active_among)).1)
      (omega (arith, second_here p q rest e))

  pub second_once : (p q : ℕ) (rest : List ℕ) → (core_of s k).active ≡ p ∷ (q ∷ rest) → total (times q) (core_of s k).run_queue ≡ 0
  second_once p q rest e = omega (arith, second_here p q rest e, (second_stands p q rest e).at_most)

  -- the last of the active queue
  pub last_stands : 1 ≤ last (core_of s k).active → Stands s k (last (core_of s k).active)
  last_stands low =
      let here : 1 ≤ times (last (core_of s k).active) (core_of s k).active = times_last (core_of s k).active low in
      stands_once (last (core_of s k).active) (low, last_bound _ (core_of s k).active active_among) (omega arith)

  -- and the last head, which is a head once
  pub last_head_stands : 1 ≤ last (heads (core_of s k).run_queue) → Stands s k (last (heads (core_of s k).run_queue))
  last_head_stands low =
      let b : ℕ = last (heads (core_of s k).run_queue) in
      let here : 1 ≤ times b (heads (core_of s k).run_queue) = times_last (heads (core_of s k).run_queue) low in
      stands_once b (low, last_bound _ (heads (core_of s k).run_queue) core_heads_among)
      (omega (arith, times_heads b (core_of s k).run_queue low))

  pub last_head_once : (low : 1 ≤ last (heads (core_of s k).run_queue))
      → times (last (heads (core_of s k).run_queue)) (heads (core_of s k).run_queue) ≤ 1
  last_head_once low =
      let b : ℕ = last (heads (core_of s k).run_queue) in
      let stands : Stands s k b = last_head_stands low in
      omega (arith, times_heads b (core_of s k).run_queue low)

  -- the first head stands in its batch and in no other
  first_head_here : (p : ℕ) (more : List ℕ) (rest : List (List ℕ)) → (core_of s k).run_queue ≡ (p ∷ more) ∷ rest
      → 1 + total (times p) rest ≤ total (times p) (core_of s k).run_queue
  first_head_here p more rest e = rw e (omega (arith, head_stands p more))

  pub first_head_stands : (p : ℕ) (more : List ℕ) (rest : List (List ℕ)) → (core_of s k).run_queue ≡ (p ∷ more) ∷ rest → Stands s k p
  first_head_stands p more rest e =
      stands_once p (first_among _ p (heads rest) (rw e at core_heads_among)) (omega (arith, first_head_here p more rest e))

  pub first_head_once : (p : ℕ) (more : List ℕ) (rest : List (List ℕ)) → (core_of s k).run_queue ≡ (p ∷ more) ∷ rest
      → total (times p) rest ≡ 0
  first_head_once p more rest e = omega (arith, first_head_here p more rest e, (first_head_stands p more rest e).at_most)
