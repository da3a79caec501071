-- A core with nothing running, on a sound table.
use Rattle.std.specs.Prelude.{ℕ, ◌≤◌, ◌≡◌, true, List, set}
use Rattle.rules.specs.State.{Task, no_task, free}
use Rattle.rules.specs.Items.{core_of}
use Rattle.rules.specs.Layout.{core_at, process_at, core_runs, core_first, core_dispatch, process_place, place_running}
use Rattle.rules.specs.Packing.{view, word_at}
use Rattle.packing.specs.Queues.{take_table}
use Rattle.queues.specs.RunQueue.{has_batch}
use Rattle.parts.specs.Does.{Card}

-- core k runs nothing and has the task x
pub record Free (t : List ℕ) (cores processes k : ℕ) (x : Task) : Type 0 where
  pub card : Card t cores processes k
  pub work : (core_of (view t) k).work ≡ free x

-- nothing runs, there is no task, and the active queue has a first process; the dispatch count is above 0, or it is 0
pub record Takes (t : List ℕ) (cores processes k : ℕ) : Type 0 where
  pub free : Free t cores processes k no_task
  pub head : 1 ≤ word_at t (core_at k core_first)
  pub count : 1 ≤ word_at t (core_at k core_dispatch)

pub record Stores (t : List ℕ) (cores processes k : ℕ) : Type 0 where
  pub free : Free t cores processes k no_task
  pub head : 1 ≤ word_at t (core_at k core_first)
  pub count : word_at t (core_at k core_dispatch) ≡ 0

-- the active queue is empty, and there is a first batch
pub record Loads (t : List ℕ) (cores processes k : ℕ) : Type 0 where
  pub free : Free t cores processes k no_task
  pub empty : word_at t (core_at k core_first) ≡ 0
  pub batch : has_batch t k ≡ true

-- the first process p runs, and the dispatch count is n
abbrev pub taken_table : List ℕ → ℕ → ℕ → ℕ → ℕ → List ℕ
taken_table t cores k p n = set (set (set (take_table t cores k) (core_at k core_runs) p) (core_at k core_dispatch) n) (process_at cores p process_place) place_running
