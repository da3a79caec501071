-- Parts of the changes of queues, as writes into the table.
use Rattle.std.specs.Prelude.{ℕ, List, set}
use Rattle.rules.specs.Layout.{core_at, process_at, core_first, core_last, core_size, process_next, process_last, process_size, process_next_head}

-- core k's active queue has another first, last and size
abbrev pub active_table : List ℕ → (k first last size : ℕ) → List ℕ
active_table t k first last size = set (set (set t (core_at k core_first) first) (core_at k core_last) last) (core_at k core_size) size

-- process p, a batch's head, keeps the batch's last and size
abbrev pub batch_table : List ℕ → (K p last size : ℕ) → List ℕ
batch_table t K p last size = set (set t (process_at K p process_last) last) (process_at K p process_size) size

-- process p is a batch of its own, and the next head is q
abbrev pub alone_table : List ℕ → (K p q : ℕ) → List ℕ
alone_table t K p q = set (set (set (set t (process_at K p process_next) 0) (process_at K p process_last) p) (process_at K p process_size) 1) (process_at K p process_next_head) q

-- process p is the head of no batch
abbrev pub no_batch_table : List ℕ → (K p : ℕ) → List ℕ
no_batch_table t K p = set (set (set t (process_at K p process_last) 0) (process_at K p process_size) 0) (process_at K p process_next_head) 0
