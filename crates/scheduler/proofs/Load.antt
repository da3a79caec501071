-- Load, and nothing to do: what they come to.
use Prim.Native.Nat.{ℕ, ◌*◌, ◌<◌, min}
use mathlib.Core.Path.{◌≡◌, refl, sym, ap, ◌∙◌, subst}
use mathlib.Core.Bool.{true, false, true≢false}
use mathlib.Core.List.{List, [], ◌∷◌}
use native.Mathlib.Omega.{arith}
use lib.Dec.{T, lit<, eqb}
use lib.ListN.{length, set, length-set}
use lib.Seq.{get_or-set_same}
use Rattle.rules.specs.Lists.{bit, first, within, all}
use Rattle.rules.specs.Numbers.{Said, MOVED, IDLE, yes_with}
use Rattle.rules.specs.State.{Core, no_task}
use Rattle.rules.specs.Items.{core_of, core, put, no_core}
use Rattle.rules.specs.CoreStep.{step}
use Rattle.rules.specs.Layout.{core_at, core_first, core_size, core_dispatch, core_mark}
use Rattle.rules.specs.Packing.{pack, view, word_at}
use Rattle.packing.specs.Queues.{with_queues}
use Rattle.rules.proofs.Tests.{both, within_means}
use Rattle.packing.proofs.ReadLaws.{read_core}
use Rattle.parts.specs.Does.{Comes, Does}
use Rattle.parts.proofs.Packs.{on_pack, as_packed}
use Rattle.queues.specs.Fits.{CanLoad}
use Rattle.queues.specs.RunQueue.{any_batch, has_batch, loaded_table}
use Rattle.queues.proofs.Fits.{can_load}
use Rattle.queues.proofs.Laws.{batch_law, load_queue_law, load_step_law}
use Rattle.scheduler.specs.Free.{Free, Loads}
use Rattle.scheduler.proofs.Idle as idle
use Rattle.scheduler.proofs.Known.{free_packs, free_inside, free_order, free_read}

-- a queue of processes whose first word is 0 is empty
empties : (n : ℕ) (l : List ℕ) → T (all (within 1 n) l) → first l ≡ 0 → l ≡ []
empties n [] h e = refl
empties n (x ∷ l) h e = absurd (let r = within_means 1 n x (both (within 1 n x) (all (within 1 n) l) h).0 in omega arith)

-- a run queue has a first batch, or it is empty
some_batch : (l : List (List ℕ)) → any_batch l ≡ true → (batch : List ℕ) × (rest : List (List ℕ)) × (l ≡ batch ∷ rest)
some_batch [] e = absurd (true≢false (sym e))
some_batch (batch ∷ rest) e = (batch, rest, refl)

no_batch : (l : List (List ℕ)) → any_batch l ≡ false → l ≡ []
no_batch [] e = refl
no_batch (batch ∷ rest) e = absurd (true≢false e)

-- the first batch is active, with the dispatch count n and the mark m
abbrev loaded_step : List ℕ → ℕ → ℕ → ℕ → ℕ → List ℕ
loaded_step t cores k n m = set (set (loaded_table t cores k) (core_at k core_dispatch) n) (core_at k core_mark) m

module _ {t : List ℕ} {cores processes k : ℕ} (free : Free t cores processes k no_task) where
  -- the active queue is empty where its first word is 0
  is_empty : word_at t (core_at k core_first) ≡ 0 → (core_of (view t) k).active ≡ []
  is_empty e =
      let members = (free_order free).members k (free_inside free) in
      empties (length (view t).processes) (core_of (view t) k).active (both (all (within 1 (length (view t).processes)) (core_of (view t) k).active) _ members).0
      (sym (free_read free core_first (lit< tt)) ∙ e)

  batches_found : has_batch t k ≡ any_batch (core_of (view t) k).run_queue
  batches_found =
      on_pack (free_packs free) (λ u n. has_batch u k ≡ any_batch (core_of (view t) k).run_queue)
      (batch_law (view t) k (free_inside free) (free_order free))

  -- nothing to do
  pub idle_does : {r : Said} → word_at t (core_at k core_first) ≡ 0 → has_batch t k ≡ false → r ≡ yes_with IDLE → Does (step k) t r t
  idle_does {r} no_active none reply =
      let batches = no_batch (core_of (view t) k).run_queue (sym batches_found ∙ none) in
      subst (λ x. Comes x t r t) (sym (idle.idles (view t) k free.work (is_empty no_active) batches)) (reply, (free_packs free).is_pack)

module _ {t : List ℕ} {cores processes k : ℕ} (pre : Loads t cores processes k) where
  batches : (batch : List ℕ) × (rest : List (List ℕ)) × ((core_of (view t) k).run_queue ≡ batch ∷ rest)
  batches = some_batch (core_of (view t) k).run_queue (sym (batches_found pre.free) ∙ pre.batch)

  empty : (core_of (view t) k).active ≡ []
  empty = is_empty pre.free pre.empty

  pub may_load : CanLoad t cores k
  may_load =
      on_pack (free_packs pre.free) (λ u n. CanLoad u n k)
      (can_load (view t) k (free_inside pre.free) (free_order pre.free) batches.0 batches.1 batches.2)

  -- the size that is read once the batch is active
  size_is : {size : ℕ} {u : List ℕ} → u ≡ loaded_table t cores k → size ≡ word_at u (core_at k core_size) → size ≡ length batches.0
  size_is {size} {u} wrote read =
      let c = with_queues batches.0 batches.1 (core_of (view t) k) in
      let inside = free_inside pre.free in
      let after : u ≡ pack (put core k c (view t)) =
      wrote ∙ as_packed (free_packs pre.free) (λ u n. loaded_table u n k)
      (load_queue_law (view t) k inside (free_order pre.free) batches.0 batches.1 empty batches.2) in
      read ∙ ap (λ (u : List ℕ). word_at u (core_at k core_size)) after
      ∙ read_core (put core k c (view t)) k core_size (subst (λ (n : ℕ). k < n) (sym (length-set (view t).cores k c)) inside) (lit< tt)
      ∙ ap (λ (c : Core). length c.active) (get_or-set_same (view t).cores k c no_core inside)

  -- what the code has written: the batch, then the count, then the mark
  pub load_does : {size n m : ℕ} {a b u : List ℕ} {r : Said} → a ≡ loaded_table t cores k → size ≡ word_at a (core_at k core_size)
      → n ≡ min 32 (4 * size) → m ≡ bit (eqb size 1) → b ≡ set a (core_at k core_dispatch) n → u ≡ set b (core_at k core_mark) m
      → r ≡ yes_with MOVED → Does (step k) t r u
  load_does {u = u} {r = r} active read count mark counted marked reply =
      let size = length batches.0 in
      let wrote : u ≡ loaded_step t cores k (min 32 (4 * size)) (bit (eqb size 1)) = let e = size_is active read in cc in
      subst (λ x. Comes x t r u) (sym (idle.loads (view t) k pre.free.work batches.0 batches.1 empty batches.2)) (
        reply,
        wrote ∙ as_packed (free_packs pre.free) (λ u n. loaded_step u n k (min 32 (4 * size)) (bit (eqb size 1)))
            (load_step_law (view t) k (free_inside pre.free) (free_order pre.free) batches.0 batches.1 empty batches.2 _ _),
      )
