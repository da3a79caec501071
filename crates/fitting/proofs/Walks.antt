-- What the walks of the check find. Each walk is exact: it finds no flaw just where what it looks for holds, and then it has met just
-- what it went over.
use Rattle.std.specs.Prelude.{if◌then◌else◌}
use Prim.Native.Nat.{ℕ, zero, suc, ◌+◌, ◌*◌, ◌≤◌}
use mathlib.Core.Path.{◌≡◌, refl, ap, subst}
use mathlib.Core.Bool.{Bool, true, false, ◌&&◌}
use mathlib.Core.List.{List, [], ◌∷◌, map}
use native.Mathlib.Omega.{arith}
use lib.Dec.{T, eqb, eqb→eq, eqb-suc-zero}
use lib.ListN.{length, set}
use borrow.Author.Tests.{eqb-true}
use Rattle.rules.specs.Lists.{within, total, bit, times}
use Rattle.rules.specs.Layout.{process_at, core_last_head, process_next, process_last, process_next_head}
use Rattle.rules.specs.Packing.{k_of, n_of, word_of_core, word_of_process, chain}
use Rattle.rules.proofs.Tests.{both, three, together, within_means}
use Rattle.rules.proofs.Sums.{head_stands}
use Rattle.fitting.proofs.Tests.{equal_holds, within_holds, all_three}
use Rattle.fitting.proofs.Exact.{
  Exact,
  exact_if,
  exact_then,
  exact_as,
  Met,
  met_as,
  Apart,
  Grown,
  apart_first,
  apart_second,
  apart_both,
  fresh_means,
  means_fresh,
  met_set,
  one_more,
  one_here,
  one_elsewhere,
  apart_one,
  met_one,
}
use Rattle.fitting.specs.Twin.{word, fresh, Walk, flaw, well, and_then, chain_walk, batch_walk}

-- from p on, the links go over the list, and end behind it
abbrev pub Linked : (ℕ → ℕ) → ℕ → List ℕ → Type 0
Linked link p [] = p ≡ 0
Linked link p (x ∷ xs) = (p ≡ x) × Linked link (link x) xs

-- the last of a list; d where it is empty
abbrev pub last_from : ℕ → List ℕ → ℕ
last_from d [] = d
last_from d (x ∷ xs) = last_from x xs

-- a queue: it is linked from p on, and its last and its size, counted on from those given, are these
pub record Queue (link : ℕ → ℕ) (at_last at_size p last size : ℕ) (l : List ℕ) : Type 0 where
  pub linked : Linked link p l
  pub last_is : at_last ≡ last_from last l
  pub size_is : at_size ≡ size + length l

-- the first of a linked list stands in it
pub first_stands : (link : ℕ → ℕ) (p : ℕ) (l : List ℕ) → Linked link p l → 1 ≤ p → (q : ℕ) → one_more p q ≤ times q l
first_stands link p [] h b q = absurd (omega arith)
first_stands link p (x ∷ xs) h b q = omega (arith, ap (λ (y : ℕ). one_more y q) h.0)

-- what holds of a number, and of each in a list, holds of each in both
each_more : (C : ℕ → Type 0) (x : ℕ) (xs : List ℕ) → C x → ((y : ℕ) → 1 ≤ times y xs → C y) → (y : ℕ) → 1 ≤ times y (x ∷ xs) → C y
each_more C x xs here rest y b = cases (eqb x y) refl
  where
    cases : (t : Bool) → eqb x y ≡ t → C y
    cases true e = subst C (eqb-true x y e) here
    cases false e = rest y (omega (arith, ap bit e))

module _ (t : List ℕ) where
  -- the table's number of cores and of processes
  abbrev K : ℕ
  K = k_of t

  abbrev N : ℕ
  N = n_of t

  -- who follows p in its queue
  abbrev pub next_of : ℕ → ℕ
  next_of p = word_of_process t p process_next

  module _ (a : ℕ) where
    -- the queue from p on, at most n long, is one whose last and size stand at the words a and a + 1, and c counts nobody of it
    abbrev pub QueueFrom : ℕ → (ℕ → ℕ) → ℕ → ℕ → ℕ → Type 0
    QueueFrom n c p last size =
        Queue next_of (word t a) (word t (a + 1)) p last size (chain next_of n p) × Apart N c (λ q. times q (chain next_of n p))

    -- then it is met, with the number 2 for each
    abbrev pub MetFrom : ℕ → (ℕ → ℕ) → ℕ → List ℕ → Type 0
    MetFrom n c p = Met N (λ q. c q + 2 * times q (chain next_of n p))

    -- the end of a queue is found exactly
    end_exact : (met : List ℕ) (c : ℕ → ℕ) (p last size : ℕ) → Met N c met
        → Exact (QueueFrom 0 c p last size) (MetFrom 0 c p)
        (if eqb p 0 && eqb (word t a) last && eqb (word t (a + 1)) size then well met else flaw)
    end_exact met c p last size agrees =
        exact_if (QueueFrom 0 c p last size) (MetFrom 0 c p) (eqb p 0 && eqb (word t a) last && eqb (word t (a + 1)) size) (well met)
        need rest
      where
        need : QueueFrom 0 c p last size → T (eqb p 0 && eqb (word t a) last && eqb (word t (a + 1)) size)
        need h =
            let q = h.0 in
            all_three (eqb p 0) (eqb (word t a) last) (eqb (word t (a + 1)) size) (equal_holds p 0 q.linked)
            (equal_holds (word t a) last q.last_is) (equal_holds (word t (a + 1)) size (omega (arith, q.size_is)))

        rest : T (eqb p 0 && eqb (word t a) last && eqb (word t (a + 1)) size) → QueueFrom 0 c p last size × MetFrom 0 c p met
        rest h =
            let r = three (eqb p 0) (eqb (word t a) last) (eqb (word t (a + 1)) size) h in
            let size_is : word t (a + 1) ≡ size + 0 = omega (arith, eqb→eq (word t (a + 1)) size r.2) in (
              (record { linked = eqb→eq p 0 r.0; last_is = eqb→eq (word t a) last r.1; size_is = size_is }, λ q b. absurd (omega arith)),
              met_as N c _ met (λ q. omega arith) agrees,
            )

    -- a queue is found exactly
    pub chain_exact : (n : ℕ) (met : List ℕ) (c : ℕ → ℕ) (p last size : ℕ) → Met N c met
        → Exact (QueueFrom n c p last size) (MetFrom n c p) (chain_walk t K N a n met p last size)
    chain_exact zero met c p last size agrees = end_exact met c p last size agrees
    chain_exact (suc n) met c zero last size agrees = end_exact met c zero last size agrees
    chain_exact (suc n) met c (suc p) last size agrees =
        rw eqb-suc-zero
        (exact_if P Q (fresh N met (suc p)) rest_walk need (λ f. let r = fresh_means N c met agrees (suc p) f in
        exact_as P Q P' Q' rest_walk (to r) back (λ m. met_as N _ _ m (λ q. omega arith))
        (chain_exact n (set met (suc p) 2) c' (next_of (suc p)) (suc p) (size + 1) (met_one N c met agrees 2 (suc p) r))))
      where
        rest_walk : Walk
        rest_walk = chain_walk t K N a n (set met (suc p) 2) (next_of (suc p)) (suc p) (size + 1)

        behind : List ℕ
        behind = chain next_of n (next_of (suc p))

        -- what is counted with the first
        c' : ℕ → ℕ
        c' q = c q + 2 * one_more (suc p) q

        P : Type 0
        P = QueueFrom (suc n) c (suc p) last size

        Q : List ℕ → Type 0
        Q = MetFrom (suc n) c (suc p)

        P' : Type 0
        P' = QueueFrom n c' (next_of (suc p)) (suc p) (size + 1)

        Q' : List ℕ → Type 0
        Q' = MetFrom n c' (next_of (suc p))

        need : P → T (fresh N met (suc p))
        need h =
            let r = h.1 (suc p) (omega (arith, head_stands (suc p) behind)) in
            means_fresh N c met agrees (suc p) r.0 r.1 r.2

        grown : Grown c (one_more (suc p)) c'
        grown q = (λ e. omega arith, λ e. omega arith)

        -- the queue, from its first and the rest
        to : (1 ≤ suc p) × (suc p ≤ N) × (c (suc p) ≡ 0) → P' → P
        to r h = (
          record { linked = (refl, h.0.linked); last_is = h.0.last_is; size_is = omega (arith, h.0.size_is) },
          apart_both N c (one_more (suc p)) c' (λ q. times q behind) grown (apart_one N c (suc p) r) h.1,
        )

        -- and the rest of a queue
        back : P → P'
        back h = (
          record { linked = h.0.linked.1; last_is = h.0.last_is; size_is = omega (arith, h.0.size_is) },
          apart_second N c (one_more (suc p)) c' (λ q. times q behind) grown h.1,
        )

  -- Batches

  -- the head of the batch that follows that of h
  abbrev pub batch_behind : ℕ → ℕ
  batch_behind h = word_of_process t h process_next_head

  -- the batch that h heads
  abbrev pub batch_of : ℕ → List ℕ
  batch_of h = chain next_of N h

  -- the batch of a head: its last and its size stand in the head's record
  pub record Batch (h : ℕ) : Type 0 where
    pub low : 1 ≤ h
    pub high : h ≤ N
    pub queue : Queue next_of (word_of_process t h process_last) (word t (process_at K h process_last + 1)) h 0 0 (batch_of h)

  -- the heads of a core's batches, the last of them counted on from the one given
  pub record Heads (at_last head prev : ℕ) (l : List ℕ) : Type 0 where
    pub linked : Linked batch_behind head l
    pub last_is : at_last ≡ last_from prev l
    pub each : (h : ℕ) → 1 ≤ times h l → Batch h

  module _ (k : ℕ) where
    -- the heads from this one on, at most n, are those of batches that c counts nobody of
    abbrev pub HeadsFrom : ℕ → (ℕ → ℕ) → ℕ → ℕ → Type 0
    HeadsFrom n c head prev =
        let l = chain batch_behind n head in Heads (word_of_core t k core_last_head) head prev l × Apart N c (λ q. total (times q) (map batch_of l))

    -- then these batches are met, with the number 3 for each head
    abbrev pub MetHeads : ℕ → (ℕ → ℕ) → ℕ → List ℕ → Type 0
    MetHeads n c head = let l = chain batch_behind n head in Met N (λ q. c q + 2 * total (times q) (map batch_of l) + times q l)

    -- the end of the batches is found exactly
    heads_end_exact : (met : List ℕ) (c : ℕ → ℕ) (head prev : ℕ) → Met N c met
        → Exact (HeadsFrom 0 c head prev) (MetHeads 0 c head) (if eqb head 0 && eqb (word_of_core t k core_last_head) prev then well met else flaw)
    heads_end_exact met c head prev agrees =
        exact_if (HeadsFrom 0 c head prev) (MetHeads 0 c head) (eqb head 0 && eqb (word_of_core t k core_last_head) prev) (well met) need rest
      where
        need : HeadsFrom 0 c head prev → T (eqb head 0 && eqb (word_of_core t k core_last_head) prev)
        need h =
            together (eqb head 0) (eqb (word_of_core t k core_last_head) prev) (equal_holds head 0 h.0.linked)
            (equal_holds (word_of_core t k core_last_head) prev h.0.last_is)

        rest : T (eqb head 0 && eqb (word_of_core t k core_last_head) prev) → HeadsFrom 0 c head prev × MetHeads 0 c head met
        rest h =
            let r = both (eqb head 0) (eqb (word_of_core t k core_last_head) prev) h in (
              (
                record { linked = eqb→eq head 0 r.0; last_is = eqb→eq (word_of_core t k core_last_head) prev r.1; each = λ q b. absurd (omega arith) },
                λ q b. absurd (omega arith),
              ),
              met_as N c _ met (λ q. omega arith) agrees,
            )

    -- the batches are found exactly
    pub batch_exact : (n : ℕ) (met : List ℕ) (c : ℕ → ℕ) (head prev : ℕ) → Met N c met
        → Exact (HeadsFrom n c head prev) (MetHeads n c head) (batch_walk t K N k n met head prev)
    batch_exact zero met c head prev agrees = heads_end_exact met c head prev agrees
    batch_exact (suc n) met c zero prev agrees = heads_end_exact met c zero prev agrees
    batch_exact (suc n) met c (suc h) prev agrees =
        rw eqb-suc-zero
        (exact_if P Q (within 1 N head) (and_then (chain_walk t K N a N met head 0 0) rest_walk) need
        (λ f. exact_then P Q (QueueFrom a N c head 0 0) (MetFrom a N c head) (chain_walk t K N a N met head 0 0) rest_walk
        (chain_exact a N met c head 0 0 agrees) first
        (λ m e g. exact_as P Q P' Q' (rest_walk m) (to f e) (back e) (λ m'. met_as N _ _ m' (λ q. omega arith))
        (batch_exact n (set m head 3) c' (batch_behind head) head (marked f e m g)))))
      where
        head : ℕ
        head = suc h

        a : ℕ
        a = process_at K head process_last

        rest_walk : List ℕ → Walk
        rest_walk m = batch_walk t K N k n (set m head 3) (batch_behind head) head

        behind : List ℕ
        behind = chain batch_behind n (batch_behind head)

        -- what is counted with the first batch
        c' : ℕ → ℕ
        c' q = c q + 2 * times q (batch_of head) + one_more head q

        P : Type 0
        P = HeadsFrom (suc n) c head prev

        Q : List ℕ → Type 0
        Q = MetHeads (suc n) c head

        P' : Type 0
        P' = HeadsFrom n c' (batch_behind head) head

        Q' : List ℕ → Type 0
        Q' = MetHeads n c' (batch_behind head)

        batch : P → Batch head
        batch h = h.0.each head (omega (arith, head_stands head behind))

        need : P → T (within 1 N head)
        need h = let b = batch h in within_holds 1 N head b.low b.high

        first : P → QueueFrom a N c head 0 0
        first h = ((batch h).queue, apart_first N c (λ q. times q (batch_of head)) c' (λ q. total (times q) (map batch_of behind)) h.1)

        grown : QueueFrom a N c head 0 0 → Grown c (λ q. times q (batch_of head)) c'
        grown e q = (λ z. omega arith, λ z. omega (arith, first_stands next_of head (batch_of head) e.0.linked (omega arith) q))

        -- what is met once the head has its number
        marked : T (within 1 N head) → QueueFrom a N c head 0 0 → (m : List ℕ) → MetFrom a N c head m → Met N c' (set m head 3)
        marked f e m g =
            let r = within_means 1 N head f in
            let one : one_more head head ≡ 1 = one_here head in
            let here = e.1 head (omega (arith, first_stands next_of head (batch_of head) e.0.linked (omega arith) head)) in
            met_set N (λ q. c q + 2 * times q (batch_of head)) m g c' head 3 r.0 r.1
            (omega (arith, here, first_stands next_of head (batch_of head) e.0.linked (omega arith) head))
            (λ q ne. omega (arith, one_elsewhere head q ne))

        -- the first batch
        this : T (within 1 N head) → QueueFrom a N c head 0 0 → Batch head
        this f e = let r = within_means 1 N head f in record { low = r.0; high = r.1; queue = e.0 }

        -- the batches, from the first and the rest
        to : T (within 1 N head) → QueueFrom a N c head 0 0 → P' → P
        to f e h = (
          record { linked = (refl, h.0.linked); last_is = h.0.last_is; each = each_more Batch head behind (this f e) h.0.each },
          apart_both N c (λ q. times q (batch_of head)) c' (λ q. total (times q) (map batch_of behind)) (grown e) e.1 h.1,
        )

        -- and the rest of them
        back : QueueFrom a N c head 0 0 → P → P'
        back e h = (
          record { linked = h.0.linked.1; last_is = h.0.last_is; each = λ x b. h.0.each x (omega arith) },
          apart_second N c (λ q. times q (batch_of head)) c' (λ q. total (times q) (map batch_of behind)) (grown e) h.1,
        )
