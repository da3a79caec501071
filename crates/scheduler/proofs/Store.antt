-- Store: what it comes to.
use Prim.Native.Nat.{ℕ}
use mathlib.Core.Path.{◌≡◌, sym, ◌∙◌, subst}
use mathlib.Core.List.{List}
use lib.Dec.{lit<}
use Rattle.rules.specs.Numbers.{Said, MOVED, yes_with}
use Rattle.rules.specs.Items.{core_of}
use Rattle.rules.specs.CoreStep.{step}
use Rattle.rules.specs.Layout.{core_dispatch}
use Rattle.rules.specs.Packing.{view}
use Rattle.parts.specs.Does.{Comes, Does}
use Rattle.parts.proofs.Packs.{on_pack, as_packed}
use Rattle.queues.specs.Fits.{CanStore}
use Rattle.queues.specs.RunQueue.{stored_table}
use Rattle.queues.proofs.Fits.{can_store}
use Rattle.queues.proofs.Laws.{store_step_law}
use Rattle.scheduler.specs.Free.{Stores}
use Rattle.scheduler.proofs.Idle as idle
use Rattle.scheduler.proofs.Known.{free_packs, free_inside, free_order, free_read, queue}

module _ {t : List ℕ} {cores processes k : ℕ} (pre : Stores t cores processes k) where
  pub may_store : CanStore t cores k
  may_store =
      let (rest, begins) = queue pre.free pre.head in
      on_pack (free_packs pre.free) (λ u n. CanStore u n k) (can_store (view t) k (free_inside pre.free) (free_order pre.free) _ rest begins)

  pub store_does : {r : Said} {u : List ℕ} → r ≡ yes_with MOVED → u ≡ stored_table t cores k → Does (step k) t r u
  store_does {r} {u} reply wrote =
      let (rest, begins) = queue pre.free pre.head in
      let none : (core_of (view t) k).dispatch ≡ 0 = sym (free_read pre.free core_dispatch (lit< tt)) ∙ pre.count in
      subst (λ x. Comes x t r u) (sym (idle.stores (view t) k pre.free.work _ rest none begins)) (
        reply,
        wrote ∙ as_packed (free_packs pre.free) (λ u n. stored_table u n k)
            (store_step_law (view t) k (free_inside pre.free) (free_order pre.free) _ rest begins),
      )
