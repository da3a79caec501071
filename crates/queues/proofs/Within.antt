-- Which of its two ways a store goes.
use Rattle.std.specs.Prelude.{if◌then◌else◌}
use Rattle.std.proofs.Common.{ℕ, ◌≡◌, Bool, List}
use Rattle.rules.specs.Layout.{core_at, core_size, core_mark}
use Rattle.rules.specs.Packing.{word_at}
use Rattle.packing.specs.Queues.{store_table, split_table}
use Rattle.queues.specs.RunQueue.{whole, stored_table}

-- it was found from the words that were read
pub store_way : (t : List ℕ) (cores k : ℕ) {mark size : ℕ} {w : Bool} {u : List ℕ} → mark ≡ word_at t (core_at k core_mark)
    → size ≡ word_at t (core_at k core_size) → w ≡ whole mark size → u ≡ (if w then store_table t cores k else split_table t cores k)
    → u ≡ stored_table t cores k
unfolding stored_table
store_way t cores k is_mark is_size is_whole wrote = cc
