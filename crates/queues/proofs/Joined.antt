-- A process at the end of an active queue, on a table that packs a state.
use Prim.Native.Nat.{ℕ, ◌≤◌, ◌<◌}
use mathlib.Core.List.{List, [], ◌∷◌, ◌++◌}
use lib.ListN.{length, set, length-set}
use Rattle.rules.specs.State.{queued, State}
use Rattle.rules.specs.Items.{put, core_of, core, place}
use Rattle.rules.specs.Layout.{process_at, process_place, place_queued}
use Rattle.rules.specs.Steps.{with_active}
use Rattle.rules.proofs.Nth.{length_set_nth}
use Rattle.packing.specs.Queues.{push_table, Queued}
use Rattle.parts.proofs.Packs.{Packs, IsProcess, on_pack, as_packed, still}
use Rattle.queues.specs.Fits.{CanJoin}
use Rattle.queues.proofs.Fits.{can_join}
use Rattle.queues.proofs.Laws.{join_law}

-- the state in which process q is queued and stands there
abbrev pub with_joined : ℕ → ℕ → State → State
with_joined k q s = put core k (with_active ((core_of s k).active ++ (q ∷ [])) (core_of s k)) (put place q queued s)

module _ {t : List ℕ} {cores processes : ℕ} {s : State} (packs : Packs t cores processes s) (k : ℕ) (inside : k < length s.cores)
    (order : Queued s) (q : ℕ) (is : IsProcess s q) where
  pub may_join : length s.processes ≤ 256 → CanJoin t cores k q
  may_join few = on_pack packs (λ u n. CanJoin u n k q) (can_join s k inside order few q is.0 is.1)

  pub joined : Packs (push_table (set t (process_at cores q process_place) place_queued) cores k q) cores processes (with_joined k q s)
  joined =
      still packs (length-set s.cores k _) (length_set_nth s.processes q _)
      (as_packed packs (λ u n. push_table (set u (process_at n q process_place) place_queued) n k q) (join_law s k inside order q is.0 is.1))

  -- core k is still one of the state's
  pub joined_inside : k < length (with_joined k q s).cores
  joined_inside = rw length-set inside
