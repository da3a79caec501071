-- The walks over a core and over all cores are exact: what they look for, for the cores that are read out of the table.
use Rattle.std.specs.Prelude.{if◌then◌else◌}
use Prim.Native.Nat.{ℕ, zero, suc, ◌+◌, ◌*◌, ◌≤◌, ◌<◌}
use mathlib.Core.Path.{◌≡◌, refl, ap, subst}
use mathlib.Core.Bool.{Bool, true, false}
use mathlib.Core.List.{List, [], ◌∷◌, map}
use native.Mathlib.Omega.{arith}
use lib.Dec.{T, eqb, eqb-suc-zero}
use lib.ListN.{set}
use borrow.Author.Tests.{eqb-true, eqb-false}
use Rattle.rules.specs.Lists.{total, tabulate, times, first}
use Rattle.rules.specs.State.{Core, queues_of}
use Rattle.rules.specs.Layout.{core_at, core_runs, core_task, core_task_process, core_first, core_last, core_first_head, core_last_head}
use Rattle.rules.specs.Packing.{heads, k_of, n_of, word_of_core, chain, work_numbered, view_core}
use Rattle.rules.specs.Soundness.{runs_it}
use Rattle.rules.proofs.Sums.{head_stands}
use Rattle.fitting.proofs.Exact.{
  Exact,
  exact_if,
  exact_then,
  exact_as,
  Met,
  Apart,
  Grown,
  apart_first,
  apart_second,
  apart_both,
  fresh_means,
  means_fresh,
  one_more,
  apart_one,
  one_here,
  met_as,
  met_one,
}
use Rattle.fitting.proofs.Walks.{
  first_stands,
  Queue,
  next_of,
  QueueFrom,
  MetFrom,
  chain_exact,
  batch_behind,
  batch_of,
  Heads,
  HeadsFrom,
  MetHeads,
  batch_exact,
}
use Rattle.fitting.specs.Twin.{
  word,
  core_fits,
  fresh,
  Walk,
  flaw,
  well,
  and_then,
  meet_running,
  chain_walk,
  batch_walk,
  core_walk,
  cores_walk,
}

-- how often a process stands on a core or in its queues
abbrev pub standing : ℕ → Core → ℕ
standing q c = runs_it q c.work + total (times q) (queues_of c)

-- the number of what was met, for a process on a core
abbrev pub load : ℕ → Core → ℕ
load q c = runs_it q c.work + 2 * total (times q) (queues_of c) + times q (heads c.run_queue)

-- a chain begins where it is begun
pub chain_first : (link : ℕ → ℕ) (n p : ℕ) → 1 ≤ n → first (chain link n p) ≡ p
chain_first link zero p b = absurd (omega arith)
chain_first link (suc n) zero b = refl
chain_first link (suc n) (suc p) b = refl

-- the heads of lists that begin with these numbers
heads_back : (f : ℕ → List ℕ) (l : List ℕ) → ((h : ℕ) → first (f h) ≡ h) → heads (map f l) ≡ l
heads_back f [] e = refl
heads_back f (x ∷ xs) e =
    let here : first (f x) ≡ x = e x in
    let behind : heads (map f xs) ≡ xs = heads_back f xs e in
    cc

-- numbers that stand in their lists stand in all of these at least as often as among themselves
members_stand : (f : ℕ → List ℕ) (q : ℕ) (l : List ℕ) → ((h : ℕ) → 1 ≤ times h l → one_more h q ≤ times q (f h))
    → times q l ≤ total (times q) (map f l)
members_stand f q [] e = omega arith
members_stand f q (x ∷ xs) e = omega (arith, e x (omega (arith, head_stands x xs)), members_stand f q xs (λ h b. e h (omega arith)))

-- The running process is met exactly.
running_exact : (N : ℕ) (c : ℕ → ℕ) (met : List ℕ) → Met N c met → (p task q : ℕ)
    → Exact (Apart N c (λ x. runs_it x (work_numbered p task q))) (Met N (λ x. c x + runs_it x (work_numbered p task q)))
    (if eqb p 0 then well met else if fresh N met p then well (set met p 1) else flaw)
running_exact N c met agrees zero task q = (λ x b. absurd (omega arith), met_as N c _ met (λ x. omega arith) agrees)
running_exact N c met agrees (suc p) task q =
    rw eqb-suc-zero
    (exact_if (Apart N c (one_more (suc p))) (Met N (λ x. c x + one_more (suc p) x)) (fresh N met (suc p)) (well (set met (suc p) 1))
    need rest)
  where
    need : Apart N c (one_more (suc p)) → T (fresh N met (suc p))
    need a = let r = a (suc p) (omega (arith, one_here (suc p))) in means_fresh N c met agrees (suc p) r.0 r.1 r.2

    rest : T (fresh N met (suc p)) → Apart N c (one_more (suc p)) × Met N (λ x. c x + one_more (suc p) x) (set met (suc p) 1)
    rest f =
        let r = fresh_means N c met agrees (suc p) f in
        (apart_one N c (suc p) r, met_as N _ _ (set met (suc p) 1) (λ x. omega arith) (met_one N c met agrees 1 (suc p) r))

-- what holds of a number, and of each that follows up to a bound, holds of each
each_from : (C : ℕ → Type 0) (k n : ℕ) → C k → ((j : ℕ) → suc k ≤ j → j < suc k + n → C j) → (j : ℕ) → k ≤ j → j < k + suc n → C j
each_from C k n here rest j l b = cases (eqb k j) refl
  where
    cases : (t : Bool) → eqb k j ≡ t → C j
    cases true e = subst C (eqb-true k j e) here
    cases false e = let ne : k ≡ j → ⊥ = eqb-false k j e in rest j (omega arith) (omega arith)

module _ (t : List ℕ) where
  -- the heads of a core's batches
  abbrev pub heads_of : ℕ → List ℕ
  heads_of k = chain (batch_behind t) (n_of t) (word_of_core t k core_first_head)

  -- what the check asks of a core by itself
  pub record CoreFits (k : ℕ) : Type 0 where
    pub flat : T (core_fits t (n_of t) k)
    pub active : Queue (next_of t) (word_of_core t k core_last) (word t (core_at k core_last + 1)) (word_of_core t k core_first) 0 0 (view_core t k).active
    pub batches : Heads t (word_of_core t k core_last_head) (word_of_core t k core_first_head) 0 (heads_of k)

  -- the heads of the batches that are read out of the table
  pub heads_are : 1 ≤ n_of t → (k : ℕ) → heads (view_core t k).run_queue ≡ heads_of k
  unfolding view_core
  heads_are some k =
      heads_back (batch_of t) (heads_of k) (λ h. chain_first (next_of t) (n_of t) h some)

  -- a head stands in its batch
  pub heads_stand : 1 ≤ n_of t → (k : ℕ) → CoreFits k → (q : ℕ)
      → times q (heads (view_core t k).run_queue) ≤ total (times q) (view_core t k).run_queue
  unfolding view_core
  heads_stand some k h q =
      let link = next_of t in
      let batch = batch_of t in
      let e = h.batches.each in
      omega (
        arith,
        ap (times q) (heads_are some k),
        members_stand batch q (heads_of k) (λ x b. first_stands link x (batch x) (e x b).queue.linked (e x b).low q),
      )

  -- A core is found exactly.
  core_exact : 1 ≤ n_of t → (k : ℕ) (c : ℕ → ℕ) (met : List ℕ) → Met (n_of t) c met
      → Exact (CoreFits k × Apart (n_of t) c (λ q. standing q (view_core t k))) (Met (n_of t) (λ q. c q + load q (view_core t k)))
      (core_walk t (k_of t) (n_of t) k met)
  unfolding view_core
  core_exact some k c met agrees =
      exact_if P Q (core_fits t N k) walk (λ h. h.0.flat)
      (λ f. exact_then P Q (Apart N c running) (Met N c₁) (meet_running t N k met) after_running
      (running_exact N c met agrees (word_of_core t k core_runs) (word_of_core t k core_task) (word_of_core t k core_task_process)) (λ h. apart_first N c running c₁ queues h.1)
      (λ m₁ a₁ g₁. exact_then P Q P₂ Q₂ (chain_walk t K N (core_at k core_last) N m₁ (word_of_core t k core_first) 0 0) after_active
      (chain_exact t (core_at k core_last) N m₁ c₁ (word_of_core t k core_first) 0 0 g₁)
      (λ h. (h.0.active, apart_first N c₁ active c₂ batches (apart_second N c running c₁ queues grown₁ h.1)))
      (λ m₂ h₂ g₂. exact_as P Q P₃ Q₃ (after_active m₂)
      (λ h. (
        record { flat = f; active = h₂.0; batches = h.0 },
        apart_both N c running c₁ queues grown₁ a₁ (apart_both N c₁ active c₂ batches grown₂ h₂.1 h.1),
      ))
      (λ h. (h.0.batches, apart_second N c₁ active c₂ batches grown₂ (apart_second N c running c₁ queues grown₁ h.1)))
      (λ m. met_as N _ _ m (λ q. omega (arith, ap (times q) (heads_are some k)))) (batch_exact t k N m₂ c₂ (word_of_core t k core_first_head) 0 g₂))))
    where
      K : ℕ
      K = k_of t

      N : ℕ
      N = n_of t

      P : Type 0
      P = CoreFits k × Apart N c (λ q. standing q (view_core t k))

      Q : List ℕ → Type 0
      Q = Met N (λ q. c q + load q (view_core t k))

      -- how often a process is running, then in the active queue, in the batches, in both
      running : ℕ → ℕ
      running q = runs_it q (view_core t k).work

      active : ℕ → ℕ
      active q = times q (view_core t k).active

      batches : ℕ → ℕ
      batches q = total (times q) (view_core t k).run_queue

      queues : ℕ → ℕ
      queues q = active q + batches q

      -- what is counted once the running process, then the active queue is met
      c₁ : ℕ → ℕ
      c₁ q = c q + running q

      c₂ : ℕ → ℕ
      c₂ q = c₁ q + 2 * active q

      -- what the walk over the active queue finds, and what is met then
      P₂ : Type 0
      P₂ = QueueFrom t (core_at k core_last) N c₁ (word_of_core t k core_first) 0 0

      Q₂ : List ℕ → Type 0
      Q₂ = MetFrom t (core_at k core_last) N c₁ (word_of_core t k core_first)

      -- what the walk over the batches finds, and what is met then
      P₃ : Type 0
      P₃ = HeadsFrom t k N c₂ (word_of_core t k core_first_head) 0

      Q₃ : List ℕ → Type 0
      Q₃ = MetHeads t k N c₂ (word_of_core t k core_first_head)

      -- the walks that are left after the active queue, after the running process, and at first
      after_active : List ℕ → Walk
      after_active m = batch_walk t K N k N m (word_of_core t k core_first_head) 0

      after_running : List ℕ → Walk
      after_running m = and_then (chain_walk t K N (core_at k core_last) N m (word_of_core t k core_first) 0 0) after_active

      walk : Walk
      walk = and_then (meet_running t N k met) after_running

      grown₁ : Grown c running c₁
      grown₁ q = (λ z. z, λ z. z)

      grown₂ : Grown c₁ active c₂
      grown₂ q = (λ z. omega arith, λ z. omega arith)

  -- All cores are found exactly: k, k + 1, .. (n of them).
  pub cores_exact : 1 ≤ n_of t → (n k : ℕ) (c : ℕ → ℕ) (met : List ℕ) → Met (n_of t) c met
      → Exact (((j : ℕ) → k ≤ j → j < k + n → CoreFits j) × Apart (n_of t) c (λ q. total (standing q) (tabulate (view_core t) k n)))
      (Met (n_of t) (λ q. c q + total (load q) (tabulate (view_core t) k n))) (cores_walk t (k_of t) (n_of t) k n met)
  cores_exact some zero k c met agrees =
      ((λ j l b. absurd (omega arith), λ q b. absurd (omega arith)), met_as (n_of t) c _ met (λ q. omega arith) agrees)
  cores_exact some (suc n) k c met agrees =
      exact_then P Q (CoreFits k × Apart N c here) (Met N c') (core_walk t (k_of t) N k met) (λ m. cores_walk t (k_of t) N (suc k) n m)
      (core_exact some k c met agrees) (λ h. (h.0 k (omega arith) (omega arith), apart_first N c here c' behind h.1))
      (λ m h g. exact_as P Q P' Q' (cores_walk t (k_of t) N (suc k) n m)
      (λ h'. (each_from CoreFits k n h.0 h'.0, apart_both N c here c' behind (grown h.0) h.1 h'.1))
      (λ h'. (λ j l b. h'.0 j (omega arith) (omega arith), apart_second N c here c' behind (grown h.0) h'.1))
      (λ m'. met_as N _ _ m' (λ q. omega arith))
      (cores_exact some n (suc k) c' m g))
    where
      N : ℕ
      N = n_of t

      -- how often a process stands on the first core, and on those behind
      here : ℕ → ℕ
      here q = standing q (view_core t k)

      behind : ℕ → ℕ
      behind q = total (standing q) (tabulate (view_core t) (suc k) n)

      -- what is counted with the first core
      c' : ℕ → ℕ
      c' q = c q + load q (view_core t k)

      P : Type 0
      P = ((j : ℕ) → k ≤ j → j < k + suc n → CoreFits j) × Apart N c (λ q. total (standing q) (tabulate (view_core t) k (suc n)))

      Q : List ℕ → Type 0
      Q = Met N (λ q. c q + total (load q) (tabulate (view_core t) k (suc n)))

      P' : Type 0
      P' = ((j : ℕ) → suc k ≤ j → j < suc k + n → CoreFits j) × Apart N c' behind

      Q' : List ℕ → Type 0
      Q' = Met N (λ q. c' q + total (load q) (tabulate (view_core t) (suc k) n))

      grown : CoreFits k → Grown c here c'
      grown h q = (λ z. omega arith, λ z. omega (arith, heads_stand some k h q))
