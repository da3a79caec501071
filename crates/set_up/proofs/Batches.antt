-- Process after process comes to stand alone in a batch of its core: what the table packs then.
use Rattle.std.specs.Prelude.{if◌then◌else◌}
use Prim.Native.Nat.{ℕ, zero, suc, ◌+◌, ◌-◌, ◌%◌, ◌≤◌, ◌<◌}
use mathlib.Core.Path.{◌≡◌, refl, sym, ap, ◌∙◌, subst}
use mathlib.Core.Bool.{Bool, true, false}
use mathlib.Core.List.{List, [], ◌∷◌, ◌++◌, map, append-nil}
use native.Mathlib.Omega.{arith}
use native.Mathlib.Decide.{ℕ_discrete}
use native.Mathlib.Nat.{mod-lt, zero-add}
use lib.Dec.{T, eqb}
use lib.ListN.{length, get_or, set, length-set}
use lib.Seq.{get_or-set_same, get_or-set_other, set-set}
use borrow.Author.Tests.{eq-eqb, ne_eqb}
use Rattle.rules.specs.Lists.{within, all, total, tabulate, from, times}
use Rattle.rules.specs.State.{Core, queues_of, State}
use Rattle.rules.specs.Items.{core_of, core, put, no_core}
use Rattle.rules.specs.Packing.{pack}
use Rattle.rules.specs.Soundness.{in_queues, not_empty}
use Rattle.rules.specs.SetUp.{ends_of, its_batches, new_core, new_process, new_channel}
use Rattle.rules.proofs.Sums.{counts_not}
use Rattle.rules.proofs.Tabulate.{length_tabulate, tabulate_at, tabulate_back}
use Rattle.rules.proofs.Validity.SetUp.{total_none, batches_by}
use Rattle.packing.specs.Queues.{with_queues, push_table, Queued}
use Rattle.packing.proofs.Push.{push_law}
use Rattle.packing.proofs.Queued.{queued_push, queued_store}
use Rattle.parts.proofs.Packs.{Packs, on_pack, as_packed, still}
use Rattle.queues.specs.Fits.{CanPush, CanStore}
use Rattle.queues.specs.RunQueue.{stored_table}
use Rattle.queues.proofs.Fits.{can_push, can_store}
use Rattle.queues.proofs.Laws.{stores, store_step_law}
use Rattle.set_up.specs.Filled.{alone, in_batches, CanStandAlone}

-- one number more
from_more : (a n : ℕ) → from a (suc n) ≡ from a n ++ ((a + n) ∷ [])
from_more a zero = let e : a ≡ a + 0 = omega arith in ap (λ (x : ℕ). x ∷ []) e
from_more a (suc n) = let e : suc a + n ≡ a + suc n = omega arith in ap (λ (l : List ℕ). a ∷ l) (from_more (suc a) n ∙ ap (λ (x : ℕ). from (suc a) n ++ (x ∷ [])) e)

from_one_more : (n : ℕ) → from 1 (suc n) ≡ from 1 n ++ (suc n ∷ [])
from_one_more n = let e : 1 + n ≡ suc n = omega arith in from_more 1 n ∙ ap (λ (x : ℕ). from 1 n ++ (x ∷ [])) e

-- a number behind them isn't among them
not_among : (q a n : ℕ) → a + n ≤ q → times q (from a n) ≡ 0
not_among q a zero h = refl
not_among q a (suc n) h = omega (arith, counts_not a q (λ e. omega arith), not_among q (suc a) n (omega arith))

module _ (k j : ℕ) where
  -- one process more, of this core or of another
  batches_more : (l : List ℕ) (p : ℕ) → its_batches k j (l ++ (p ∷ [])) ≡ its_batches k j l ++ its_batches k j (p ∷ [])
  batches_more [] p = refl
  batches_more (q ∷ l) p = cases (eqb ((q - 1) % k) j) (its_batches k j l) (batches_more l p)
    where
      cases : (b : Bool) {m : List (List ℕ)} (n : List (List ℕ)) → m ≡ n ++ its_batches k j (p ∷ [])
          → (if b then ((q ∷ []) ∷ m) else m) ≡ (if b then ((q ∷ []) ∷ n) else n) ++ its_batches k j (p ∷ [])
      cases true n e = ap (λ (m : List (List ℕ)). (q ∷ []) ∷ m) e
      cases false n e = e

  -- who isn't among the processes isn't in their batches
  not_in_batches : (q : ℕ) (l : List ℕ) → times q l ≡ 0 → total (times q) (its_batches k j l) ≡ 0
  not_in_batches q =
      batches_by k j (λ l batches. times q l ≡ 0 → total (times q) batches ≡ 0) (λ e. refl)
      (λ p l batches own h e. omega (arith, h (omega arith)))
      (λ p l batches other h e. h (omega arith))

  module _ (i : ℕ) where
    own_batch : (suc i - 1) % k ≡ j → its_batches k j (from 1 i) ++ ((suc i ∷ []) ∷ []) ≡ its_batches k j (from 1 (suc i))
    own_batch own =
        sym (ap (its_batches k j) (from_one_more i) ∙ batches_more (from 1 i) (suc i)
        ∙ ap (λ (b : Bool). its_batches k j (from 1 i) ++ (if b then ((suc i ∷ []) ∷ []) else [])) (eq-eqb ((suc i - 1) % k) j own))

    other_batch : ((suc i - 1) % k ≡ j → ⊥) → its_batches k j (from 1 (suc i)) ≡ its_batches k j (from 1 i)
    other_batch other =
        ap (its_batches k j) (from_one_more i) ∙ batches_more (from 1 i) (suc i)
        ∙ ap (λ (b : Bool). its_batches k j (from 1 i) ++ (if b then ((suc i ∷ []) ∷ []) else [])) (ne_eqb ((suc i - 1) % k) j other)
        ∙ append-nil (its_batches k j (from 1 i))

module _ (k n : ℕ) (pairs : List ℕ) (some_core : 0 < k) where
  -- the state in which the processes up to i stand in batches
  abbrev pub batched : ℕ → State
  batched i = record { cores = tabulate (new_core k i) 0 k; processes = tabulate new_process 1 n; channels = map new_channel (ends_of pairs) }

  pub core_new : (i x : ℕ) → x < k → core_of (batched i) x ≡ new_core k i x
  core_new i x inside = tabulate_at (new_core k i) 0 k no_core x inside ∙ ap (new_core k i) (zero-add x)

  module _ (few : n ≤ 256) (i : ℕ) (more : i < n) (order : Queued (batched i)) where
    abbrev j : ℕ
    j = (suc i - 1) % k

    inside : j < length (batched i).cores
    inside = rw (length_tabulate (new_core k i) 0 k) (mod-lt (suc i - 1) some_core)

    high : suc i ≤ length (batched i).processes
    high = rw (length_tabulate new_process 1 n) more

    -- suc i stands in no queue yet
    unqueued : in_queues (batched i) (suc i) ≡ 0
    unfolding in_queues
    unqueued =
        total_none (new_core k i) (λ (c : Core). total (times (suc i)) (queues_of c)) 0 k
        (λ x low. omega (arith, not_in_batches k x (suc i) (from 1 i) (not_among (suc i) 1 i (omega arith))))

    abbrev was : Core
    was = core_of (batched i) j

    was_new : was ≡ new_core k i j
    was_new = core_new i j (mod-lt (suc i - 1) some_core)

    -- it comes to the active queue
    abbrev active : Core
    active = with_queues (was.active ++ (suc i ∷ [])) was.run_queue was

    abbrev pushed : State
    pushed = put core j active (batched i)

    pushed_inside : j < length pushed.cores
    pushed_inside = rw length-set inside

    pushed_order : Queued pushed
    pushed_order = queued_push (batched i) j inside order (suc i) (omega arith) high unqueued

    is_active : core_of pushed j ≡ active
    is_active = get_or-set_same (batched i).cores j active no_core inside

    only_one : (core_of pushed j).active ≡ suc i ∷ []
    only_one = ap (λ (c : Core). c.active) is_active ∙ ap (λ (c : Core). c.active ++ (suc i ∷ [])) was_new

    -- and is stored
    stored_core : stores (suc i) [] (core_of pushed j) ≡ new_core k (suc i) j
    stored_core =
        ap (stores (suc i) []) is_active
        ∙ ap (λ (c : Core). stores (suc i) [] (with_queues (c.active ++ (suc i ∷ [])) c.run_queue c)) was_new
        ∙ ap (λ (r : List (List ℕ)). with_queues [] r (new_core k i j)) (own_batch k j i refl)

    next_cores : set pushed.cores j (stores (suc i) [] (core_of pushed j)) ≡ tabulate (new_core k (suc i)) 0 k
    next_cores =
        set-set (batched i).cores j active _ ∙ ap (set (batched i).cores j) stored_core
        ∙ sym (tabulate_back (new_core k (suc i)) 0 k no_core _ (sym size)
        (λ x b. at_core x (omega (arith, size)) (ℕ_discrete x j)))
      where
        size : length (set (batched i).cores j (new_core k (suc i) j)) ≡ k
        size = length-set (batched i).cores j _ ∙ length_tabulate (new_core k i) 0 k

        at_core : (x : ℕ) → x < k → Dec (x ≡ j) → new_core k (suc i) (0 + x) ≡ get_or (set (batched i).cores j (new_core k (suc i) j)) x no_core
        at_core x b (yes e) =
            ap (new_core k (suc i)) (zero-add x ∙ e)
            ∙ sym (ap (λ (y : ℕ). get_or (set (batched i).cores j (new_core k (suc i) j)) y no_core) e ∙ get_or-set_same (batched i).cores j _ no_core inside)
        at_core x b (no other) =
            ap (new_core k (suc i)) (zero-add x)
            ∙ ap (λ (r : List (List ℕ)). with_queues [] r (new_core k i x)) (other_batch k x i (λ e. other (sym e)))
            ∙ sym (get_or-set_other (batched i).cores j x _ no_core other ∙ core_new i x b)

    next : put core j (stores (suc i) [] (core_of pushed j)) pushed ≡ batched (suc i)
    next = ap (λ (l : List Core). record { cores = l; processes = tabulate new_process 1 n; channels = map new_channel (ends_of pairs) }) next_cores

    next_order : Queued (batched (suc i))
    next_order = subst Queued next (queued_store pushed j pushed_inside pushed_order (suc i) [] only_one)

    module _ (t : List ℕ) (packs : Packs t k n (batched i)) where
      pushed_packs : Packs (push_table t k j (suc i)) k n pushed
      pushed_packs = still packs (length-set (batched i).cores j _) refl (as_packed packs (λ u c. push_table u c j (suc i)) (push_law (batched i) j (suc i) inside order))

      pub may_stand : CanStandAlone t k (suc i)
      may_stand =
          record {
            pushes = on_pack packs (λ u c. CanPush u c j) (can_push (batched i) j inside order (rw (length_tabulate new_process 1 n) few));
            stores = on_pack pushed_packs (λ u c. CanStore u c j) (can_store pushed j pushed_inside pushed_order (suc i) [] only_one);
          }

      next_packs : Packs (alone k (suc i) t) k n (batched (suc i))
      next_packs =
          subst (Packs (alone k (suc i) t) k n) next
          (still pushed_packs (length-set pushed.cores j _) refl
          (as_packed pushed_packs (λ u c. stored_table u c j) (store_step_law pushed j pushed_inside pushed_order (suc i) [] only_one)))

  -- none stands in a batch
  none_queued : Queued (batched 0)
  unfolding in_queues
  none_queued =
      record {
        members = λ x inside. subst (λ (c : Core). T (all (all (within 1 (length (batched 0).processes))) (queues_of c))) (sym (empty x inside)) tt;
        batches = λ x inside. subst (λ (c : Core). T (all not_empty c.run_queue)) (sym (empty x inside)) tt;
        once = λ p low high. omega (arith, total_none (new_core k 0) (λ (c : Core). total (times p) (queues_of c)) 0 k (λ x low. refl));
      }
    where
      empty : (x : ℕ) → x < length (batched 0).cores → core_of (batched 0) x ≡ new_core k 0 x
      empty x inside = core_new 0 x (rw (length_tabulate (new_core k 0) 0 k) at inside)

  module _ (few : n ≤ 256) (t : List ℕ) (packs : Packs t k n (batched 0)) where
    up_to : (i : ℕ) → i ≤ n → Packs (in_batches k i t) k n (batched i) × Queued (batched i)
    up_to zero h = (packs, none_queued)
    up_to (suc i) h =
        let (now, order) = up_to i (omega arith) in
        (next_packs few i (omega arith) order (in_batches k i t) now, next_order few i (omega arith) order)

    -- each can come to stand in a batch, and in the end all do
    pub can_stand : (i : ℕ) → i < n → CanStandAlone (in_batches k i t) k (suc i)
    can_stand i more = let (now, order) = up_to i (omega arith) in may_stand few i more order (in_batches k i t) now

    pub all_stand : in_batches k n t ≡ pack (batched n)
    all_stand = (up_to n (omega arith)).0.is_pack
