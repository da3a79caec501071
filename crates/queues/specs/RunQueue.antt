-- What is asked of a run queue from outside. These aren't opened there: what they do to a state is said by their laws (proofs/Laws.antt).
use Rattle.std.specs.Prelude.{ℕ, Bool, true, false, not, ◌||◌, List, [], ◌∷◌, eqb, if◌then◌else◌}
use Rattle.rules.specs.Layout.{core_at, core_size, core_mark, core_first_head}
use Rattle.rules.specs.Packing.{word_at}
use Rattle.packing.specs.Queues.{store_table, split_table, load_table}

-- a run queue isn't empty
abbrev pub any_batch : List (List ℕ) → Bool
any_batch [] = false
any_batch (batch ∷ rest) = true

-- core k has a batch
unfoldable pub has_batch : List ℕ → ℕ → Bool
has_batch t k = not (eqb (word_at t (core_at k core_first_head)) 0)

-- "With the mark set, or one process only, the queue becomes one batch"
abbrev pub whole : ℕ → ℕ → Bool
whole mark size = eqb mark 1 || eqb size 1

-- its active queue is stored: as one batch, or split into two
unfoldable pub stored_table : List ℕ → ℕ → ℕ → List ℕ
stored_table t K k =
    if whole (word_at t (core_at k core_mark)) (word_at t (core_at k core_size)) then store_table t K k else split_table t K k

-- its first batch is loaded
unfoldable pub loaded_table : List ℕ → ℕ → ℕ → List ℕ
loaded_table t K k = load_table t K k
