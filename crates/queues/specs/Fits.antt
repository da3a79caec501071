-- What each change of a queue needs of the table, so that every word it reads and writes is there and no size wraps.
use Rattle.std.specs.Prelude.{ℕ, ◌≤◌, ◌<◌, ◌≡◌, List}
use Rattle.rules.specs.Layout.{core_at, process_at, core_first, core_last, core_size, core_first_head, core_last_head, process_next}
use Rattle.rules.specs.Packing.{word_at}
use Rattle.table.specs.Has.{HasCore, HasProcess}

-- to link behind the last one b, if there is one, otherwise to be the first of core k
pub record CanLink (t : List ℕ) (cores k b : ℕ) : Type 0 where
  pub core : HasCore t k
  pub last : 1 ≤ b → HasProcess t cores b

-- to put a process at the end of core k's active queue
pub record CanPush (t : List ℕ) (cores k : ℕ) : Type 0 where
  pub links : CanLink t cores k (word_at t (core_at k core_last))
  pub size : word_at t (core_at k core_size) < 4294967295

-- to make process q queued and put it there
pub record CanJoin (t : List ℕ) (cores k q : ℕ) : Type 0 where
  pub inside : k < cores
  pub pushes : CanPush t cores k
  pub process : HasProcess t cores q

-- to take the first process p off the active queue
pub record CanTake (t : List ℕ) (cores k p : ℕ) : Type 0 where
  pub core : HasCore t k
  pub first : p ≡ word_at t (core_at k core_first)
  pub process : HasProcess t cores p
  pub size : 1 ≤ word_at t (core_at k core_size)

-- to make the active queue, with the first process p, one batch
pub record CanBatch (t : List ℕ) (cores k p : ℕ) : Type 0 where
  pub links : CanLink t cores k (word_at t (core_at k core_last_head))
  pub first : p ≡ word_at t (core_at k core_first)
  pub process : HasProcess t cores p

-- to make it two batches
pub record CanSplit (t : List ℕ) (cores k p : ℕ) : Type 0 where
  pub whole : CanBatch t cores k p
  pub second : HasProcess t cores (word_at t (process_at cores p process_next))
  pub size : 1 ≤ word_at t (core_at k core_size)

-- to store the active queue
pub record CanStore (t : List ℕ) (cores k : ℕ) : Type 0 where
  pub core : HasCore t k
  pub whole : CanBatch t cores k (word_at t (core_at k core_first))
  pub parts : (word_at t (core_at k core_size) ≡ 1 → ⊥) → CanSplit t cores k (word_at t (core_at k core_first))

-- to make the first batch, with the head p, the active queue
pub record CanLoadFirst (t : List ℕ) (cores k p : ℕ) : Type 0 where
  pub core : HasCore t k
  pub head : p ≡ word_at t (core_at k core_first_head)
  pub process : HasProcess t cores p

abbrev pub CanLoad : List ℕ → ℕ → ℕ → Type 0
CanLoad t cores k = CanLoadFirst t cores k (word_at t (core_at k core_first_head))
