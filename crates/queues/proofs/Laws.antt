-- The changes of queues on a packing, with what the rules change beside them.
use Rattle.std.specs.Prelude.{if◌then◌else◌}
use Prim.Native.Nat.{ℕ, ◌≤◌, ◌<◌}
use mathlib.Core.Path.{◌≡◌, refl, ap, ◌∙◌}
use mathlib.Core.Bool.{Bool, true, false, not}
use mathlib.Core.List.{List, [], ◌∷◌, ◌++◌}
use lib.ListN.{length, set, length-set}
use native.Mathlib.Omega.{arith}
use lib.Dec.{eqb, lit<}
use borrow.Author.Tests.{ne_eqb}
use Rattle.rules.specs.Lists.{first, bit}
use Rattle.rules.specs.State.{running, queued, no_task, runs, free, Core, State}
use Rattle.rules.specs.Items.{core_of, put, core, place}
use Rattle.rules.specs.Layout.{core_at, process_at, core_runs, core_size, core_dispatch, core_mark, core_first_head, process_place, place_running, place_queued}
use Rattle.rules.specs.Packing.{heads, pack}
use Rattle.rules.specs.Steps.{with_active}
use Rattle.rules.specs.Scheduler.{stored}
use Rattle.packing.specs.Queues.{push_table, take_table, store_table, split_table, with_queues, Queued}
use Rattle.packing.proofs.Focus.{writes}
use Rattle.packing.proofs.ReadLaws.{core_list, read_core}
use Rattle.packing.proofs.WriteLaws.{put_place, put_core_again}
use Rattle.packing.proofs.Links.{Stands}
use Rattle.packing.proofs.Standing.{first_stands, first_head_stands}
use Rattle.packing.proofs.Queued.{queued_put}
use Rattle.packing.proofs.Push.{push_law}
use Rattle.packing.proofs.Take.{take_law}
use Rattle.packing.proofs.Store.{store_law}
use Rattle.packing.proofs.Split.{split_law}
use Rattle.packing.proofs.Load.{load_law}
use Rattle.queues.specs.RunQueue.{any_batch, has_batch, whole, stored_table, loaded_table}

-- The core c after the rules' steps: the process p is taken, the active queue is stored, a batch is loaded.
abbrev pub takes : ℕ → ℕ → List ℕ → Core → Core
takes p n rest c = record { work = runs p; active = rest; dispatch = n; mark = c.mark; run_queue = c.run_queue }

abbrev pub stores : ℕ → List ℕ → Core → Core
stores p rest c = with_queues [] (c.run_queue ++ stored c.mark p rest) c

abbrev pub loads : ℕ → Bool → List ℕ → List (List ℕ) → Core → Core
loads n m batch rest c = record { work = c.work; active = batch; dispatch = n; mark = m; run_queue = rest }

module _ (s : State) (k : ℕ) (inside : k < length s.cores) (order : Queued s) where
  -- process q is queued and goes to the end of the active queue: `joins` of the rules
  pub join_law : (q : ℕ) → 1 ≤ q → q ≤ length s.processes
      → push_table (set (pack s) (process_at (length s.cores) q process_place) place_queued) (length s.cores) k q
      ≡ pack (put core k (with_active ((core_of s k).active ++ (q ∷ [])) (core_of s k)) (put place q queued s))
  join_law q low high =
      ap (λ t. push_table t (length s.cores) k q) (put_place s q low high queued)
      ∙ push_law (put place q queued s) k q inside (queued_put place q queued s tt order)

  -- the first process p, taken off the active queue of a core that runs nothing, runs there, and the dispatch count is n: `take_step`
  pub take_step_law : (p n : ℕ) (rest : List ℕ) → (core_of s k).active ≡ p ∷ rest → (core_of s k).work ≡ free no_task
      → set (set (set (take_table (pack s) (length s.cores) k) (core_at k core_runs) p) (core_at k core_dispatch) n) (process_at (length s.cores) p process_place) place_running
      ≡ pack (put place p running (put core k (takes p n rest (core_of s k)) s))
  take_step_law p n rest e idle =
      ap (λ t. set (set (set t (core_at k core_runs) p) (core_at k core_dispatch) n) (process_at (length s.cores) p process_place) place_running) (take_law s k p rest inside order e)
      ∙ ap (λ t. set t (process_at (length s.cores) p process_place) place_running)
      (put_core_again s k (with_queues rest (core_of s k).run_queue (core_of s k)) (takes p n rest (core_of s k)) (λ f. f)
      ((core_runs, p) ∷ (core_dispatch, n) ∷ []) inside tt refl refl turned)
      ∙ rw (length-set s.cores k (takes p n rest (core_of s k)))
      at (put_place (put core k (takes p n rest (core_of s k)) s) p stands.low stands.high running)
    where
      stands : Stands s k p
      stands = first_stands s k inside order p rest e

      turned : writes ((core_runs, p) ∷ (core_dispatch, n) ∷ []) (λ f. f) (core_list (with_queues rest (core_of s k).run_queue (core_of s k)))
          ≡ core_list (takes p n rest (core_of s k))
      turned = rw idle

  -- the active queue becomes one batch, if the mark is set or one process stands there alone, otherwise two: `store_step`
  pub store_step_law : (p : ℕ) (rest : List ℕ) → (core_of s k).active ≡ p ∷ rest
      → stored_table (pack s) (length s.cores) k ≡ pack (put core k (stores p rest (core_of s k)) s)
  unfolding stored_table
  store_step_law p rest e =
      (λ i. table (read_core s k core_mark inside (lit< tt) i) ((read_core s k core_size inside (lit< tt) ∙ ap length e) i))
      ∙ cases (core_of s k).mark rest e
    where
      table : ℕ → ℕ → List ℕ
      table mark size = if whole mark size then store_table (pack s) (length s.cores) k else split_table (pack s) (length s.cores) k

      cases : (m : Bool) (rest : List ℕ) → (core_of s k).active ≡ p ∷ rest
          → table (bit m) (length (p ∷ rest)) ≡ pack (put core k (with_queues [] ((core_of s k).run_queue ++ stored m p rest) (core_of s k)) s)
      cases true [] e = store_law s k p [] inside order e
      cases true (q ∷ rest) e = store_law s k p (q ∷ rest) inside order e
      cases false [] e = store_law s k p [] inside order e
      cases false (q ∷ rest) e =
          let several : eqb (length (p ∷ q ∷ rest)) 1 ≡ false = ne_eqb (length (p ∷ q ∷ rest)) 1 (omega arith) in
          rw several (split_law s k p q rest inside order e)

  -- a run queue has a batch exactly if it isn't empty
  pub batch_law : has_batch (pack s) k ≡ any_batch (core_of s k).run_queue
  unfolding has_batch
  batch_law = ap (λ p. not (eqb p 0)) (read_core s k core_first_head inside (lit< tt)) ∙ cases (core_of s k).run_queue refl
    where
      cases : (l : List (List ℕ)) → (core_of s k).run_queue ≡ l → not (eqb (first (heads l)) 0) ≡ any_batch l
      cases [] e = refl
      cases ([] ∷ rest) e = absurd (rw e at (order.batches k inside))
      cases ((p ∷ more) ∷ rest) e = ap not (ne_eqb p 0 (omega (arith, (first_head_stands s k inside order p more rest e).low)))

  -- the first batch becomes the active queue, which was empty
  module _ (batch : List ℕ) (rest : List (List ℕ)) (empty : (core_of s k).active ≡ []) (first_batch : (core_of s k).run_queue ≡ batch ∷ rest) where
    pub load_queue_law : loaded_table (pack s) (length s.cores) k ≡ pack (put core k (with_queues batch rest (core_of s k)) s)
    unfolding loaded_table
    load_queue_law = load_law s k batch rest inside order empty first_batch

    -- with a dispatch count n and a mark m: `load_step`
    pub load_step_law : (n : ℕ) (m : Bool)
        → set (set (loaded_table (pack s) (length s.cores) k) (core_at k core_dispatch) n) (core_at k core_mark) (bit m)
        ≡ pack (put core k (loads n m batch rest (core_of s k)) s)
    load_step_law n m =
        ap (λ t. set (set t (core_at k core_dispatch) n) (core_at k core_mark) (bit m)) load_queue_law
        ∙ put_core_again s k (with_queues batch rest (core_of s k)) _ (λ f. f) ((core_dispatch, n) ∷ (core_mark, bit m) ∷ []) inside tt refl refl refl
