-- The five changes of queues as writes into the table: a few words each, whatever the length of a queue. K is the number of cores,
-- k a core.
use Rattle.std.specs.Prelude.{ℕ, ◌+◌, ◌-◌, ◌≤◌, ◌<◌, List, T, eqb, length, set, if◌then◌else◌}
use Rattle.rules.specs.Lists.{within, all}
use Rattle.rules.specs.State.{Core, queues_of, State}
use Rattle.rules.specs.Items.{core_of}
use Rattle.rules.specs.Layout.{core_at, process_at, core_first, core_last, core_size, core_first_head, core_last_head, process_next, process_last, process_size, process_next_head}
use Rattle.rules.specs.Packing.{word_at}
use Rattle.rules.specs.Soundness.{not_empty, in_queues}

-- Process p is linked behind the last one b by the word g of b; where there is none it is the first, the word f of core k.
abbrev pub link_end : (f g b p : ℕ) → List ℕ → ℕ → ℕ → List ℕ
link_end f g b p t K k = if eqb b 0 then set t (core_at k f) p else set t (process_at K b g) p

-- Process q is put at the end of the active queue.
abbrev pub push_writes : (last size : ℕ) → List ℕ → ℕ → ℕ → ℕ → List ℕ
push_writes last size t K k q = set (set (link_end core_first process_next last q t K k) (core_at k core_last) q) (core_at k core_size) (size + 1)

abbrev pub push_table : List ℕ → ℕ → ℕ → ℕ → List ℕ
push_table t K k q = push_writes (word_at t (core_at k core_last)) (word_at t (core_at k core_size)) t K k q

-- The first process p is taken off the active queue; n is the next.
abbrev pub take_writes : (p n last size : ℕ) → List ℕ → ℕ → ℕ → List ℕ
take_writes p n last size t K k =
    set (set (set (set t (core_at k core_first) n) (core_at k core_last) (if eqb n 0 then 0 else last)) (core_at k core_size) (size - 1)) (process_at K p process_next) 0

abbrev pub take_table : List ℕ → ℕ → ℕ → List ℕ
take_table t K k =
    let p = word_at t (core_at k core_first) in
    take_writes p (word_at t (process_at K p process_next)) (word_at t (core_at k core_last)) (word_at t (core_at k core_size)) t K k

-- A batch with the head p is put behind the last one, whose head is b; the last head is h then, and the active queue is empty.
abbrev pub store_heads : (p h b : ℕ) → List ℕ → ℕ → ℕ → List ℕ
store_heads p h b t K k = set (set (set (set (link_end core_first_head process_next_head b p t K k) (core_at k core_last_head) h) (core_at k core_first) 0) (core_at k core_last) 0) (core_at k core_size) 0

-- The active queue, with first process p, becomes the last batch.
abbrev pub store_writes : (p last size b : ℕ) → List ℕ → ℕ → ℕ → List ℕ
store_writes p last size b t K k = store_heads p p b (set (set t (process_at K p process_last) last) (process_at K p process_size) size) K k

abbrev pub store_table : List ℕ → ℕ → ℕ → List ℕ
store_table t K k = store_writes (word_at t (core_at k core_first)) (word_at t (core_at k core_last)) (word_at t (core_at k core_size)) (word_at t (core_at k core_last_head)) t K k

-- The active queue becomes the two last batches: its first process p alone, then the others, the first of them q.
abbrev pub split_writes : (p q last size b : ℕ) → List ℕ → ℕ → ℕ → List ℕ
split_writes p q last size b t K k =
    let alone = set (set (set (set t (process_at K p process_next) 0) (process_at K p process_last) p) (process_at K p process_size) 1) (process_at K p process_next_head) q in
    store_heads p q b (set (set alone (process_at K q process_last) last) (process_at K q process_size) (size - 1)) K k

abbrev pub split_table : List ℕ → ℕ → ℕ → List ℕ
split_table t K k =
    let p = word_at t (core_at k core_first) in
    split_writes p (word_at t (process_at K p process_next)) (word_at t (core_at k core_last)) (word_at t (core_at k core_size)) (word_at t (core_at k core_last_head)) t K k

-- The first batch, with the head p, becomes the active queue; n is the next head, b the last.
abbrev pub load_writes : (p last size n b : ℕ) → List ℕ → ℕ → ℕ → List ℕ
load_writes p last size n b t K k =
    let active = set (set (set t (core_at k core_first) p) (core_at k core_last) last) (core_at k core_size) size in
    let heads = set (set active (core_at k core_first_head) n) (core_at k core_last_head) (if eqb n 0 then 0 else b) in
    set (set (set heads (process_at K p process_last) 0) (process_at K p process_size) 0) (process_at K p process_next_head) 0

abbrev pub load_table : List ℕ → ℕ → ℕ → List ℕ
load_table t K k =
    let p = word_at t (core_at k core_first_head) in
    load_writes p (word_at t (process_at K p process_last)) (word_at t (process_at K p process_size)) (word_at t (process_at K p process_next_head)) (word_at t (core_at k core_last_head)) t K k

-- a core with other queues
abbrev pub with_queues : List ℕ → List (List ℕ) → Core → Core
with_queues active batches c = record { work = c.work; active = active; dispatch = c.dispatch; mark = c.mark; run_queue = batches }

-- The queues of a state are in order: each member is a process, no batch is empty, and no process stands twice.
pub record Queued (s : State) : Type 0 where
  pub members : (k : ℕ) → k < length s.cores → T (all (all (within 1 (length s.processes))) (queues_of (core_of s k)))
  pub batches : (k : ℕ) → k < length s.cores → T (all not_empty (core_of s k).run_queue)
  pub once : (p : ℕ) → 1 ≤ p → p ≤ length s.processes → in_queues s p ≤ 1
