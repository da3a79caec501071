-- A core is read back from its words and the links of the processes.
use Rattle.std.specs.Prelude.{if◌then◌else◌}
use Prim.Native.Nat.{ℕ, suc, ◌+◌, ◌-◌, ◌≤◌, ◌<◌}
use mathlib.Core.Path.{◌≡◌, refl, ap, ◌∙◌}
use mathlib.Core.Bool.{Bool}
use mathlib.Core.List.{List, [], ◌∷◌, map}
use native.Mathlib.Omega.{arith}
use lib.Dec.{T, lit<}
use lib.ListN.{length, get_or}
use Rattle.rules.specs.Lists.{times, first, follows}
use Rattle.rules.specs.State.{no_task, trigger, wake_up, Work, runs, free, queues_of, State, Wiring, wiring}
use Rattle.rules.specs.Items.{core_of}
use Rattle.rules.specs.Layout.{core_runs, core_task, core_task_process, core_first, core_dispatch, core_mark, core_first_head, process_next, process_next_head, links_size}
use Rattle.rules.specs.Packing.{work_words, heads, pack, n_of, word_of_core, word_of_process, work_numbered, chain, view_core}
use Rattle.rules.specs.Soundness.{valid_work}
use Rattle.rules.proofs.Tests.{within_means, not_zero}
use Rattle.rules.proofs.Packing.Reflect.{Valid}
use Rattle.rules.proofs.Sums.{Among}
use Rattle.rules.proofs.Packing.Chains.{chain_back, queue_of, queue_among, next_follows, heads_among, batch_follows}
use Rattle.rules.proofs.Packing.Reading.{bit_back, header_of_pack, link_words, work_word, queue_word, link_word}

-- what a core does, of its three words
abbrev work_of_words : List ℕ → Work
work_of_words l = work_numbered (get_or l core_runs 0) (get_or l core_task 0) (get_or l core_task_process 0)

-- what a core does is read back from its words
work_back : (w : Wiring) (x : Work) → T (valid_work w x) → work_of_words (work_words x) ≡ x
work_back w (runs p) h =
    ap (λ (t : Bool). if t then free no_task else runs p) (not_zero p (within_means 1 w.N p h).0)
work_back w (free no_task) h = refl
work_back w (free (trigger q)) h = refl
work_back w (free (wake_up q)) h = refl

-- batches are read back from their heads, if each of them is
batches_back : (queue : ℕ → List ℕ) (l : List (List ℕ)) → ((i : ℕ) → i < length l → queue (first (get_or l i [])) ≡ get_or l i [])
    → map queue (heads l) ≡ l
batches_back queue [] e = refl
batches_back queue (x ∷ xs) e =
    let here : queue (first x) ≡ x = e 0 (omega arith) in
    let behind : map queue (heads xs) ≡ xs = batches_back queue xs (λ i b. e (suc i) (omega arith)) in
    cc

-- the link f of each process
abbrev link_of : State → ℕ → ℕ → ℕ
link_of s f p = word_of_process (pack s) p (process_next + f)

-- a list of distinct processes is read back from its first, if the link of each is what follows it
list_back : (s : State) (f : ℕ) → f < links_size → (l : List ℕ) → Among (length s.processes) l
    → ((p : ℕ) → 1 ≤ times p l → get_or (link_words s p) f 0 ≡ follows p l)
    → chain (link_of s f) (n_of (pack s)) (first l) ≡ l
list_back s f b l a e =
    let linked : (p : ℕ) → 1 ≤ times p l → link_of s f p ≡ follows p l = λ p h. link_word s p (a.range p h).0 (a.range p h).1 f b ∙ e p h in
    rw (header_of_pack s).processes (chain_back (length s.processes) (link_of s f) l a linked)

-- which of these is the next head
abbrev to_head : ℕ
to_head = process_next_head - process_next

module _ (s : State) (v : Valid s) (k : ℕ) (b : k < length s.cores) where
  -- what the core does is read back
  work_read : let w = word_of_core (pack s) k in work_numbered (w core_runs) (w core_task) (w core_task_process) ≡ (core_of s k).work
  work_read =
      let x = (core_of s k).work in
      let at = work_word s k b in
      cc (at core_runs (lit< tt), at core_task (lit< tt), at core_task_process (lit< tt), work_back (wiring s) x (v.cores k b).work)

  -- a queue is read back from its first process
  queue_read : (i : ℕ) → i < length (queues_of (core_of s k)) → chain (link_of s 0) (n_of (pack s)) (first (queue_of s k i)) ≡ queue_of s k i
  queue_read i c = list_back s 0 (lit< tt) (queue_of s k i) (queue_among s v k b i c) (next_follows s v k b i c)

  -- the run queue is read back from the first head: the heads, and of each its batch
  run_queue_read : map (chain (link_of s 0) (n_of (pack s))) (chain (link_of s to_head) (n_of (pack s)) (word_of_core (pack s) k core_first_head))
      ≡ (core_of s k).run_queue
  run_queue_read =
      let queue = chain (link_of s 0) (n_of (pack s)) in
      let batches = (core_of s k).run_queue in
      ap (λ (n : ℕ). map queue (chain (link_of s to_head) (n_of (pack s)) n)) (queue_word s k b (core_first_head - core_first) (lit< tt))
      ∙ ap (map queue) (list_back s to_head (lit< tt) (heads batches) (heads_among s v k b) (batch_follows s v k b))
      ∙ batches_back queue batches (λ i d. queue_read (suc i) (omega arith))

  -- A core is read back from the packing of a valid state.
  pub view_core_back : view_core (pack s) k ≡ core_of s k
  unfolding view_core
  view_core_back =
      let active = ap (chain (link_of s 0) (n_of (pack s))) (queue_word s k b 0 (lit< tt)) ∙ queue_read 0 (omega arith) in
      let dispatch = queue_word s k b (core_dispatch - core_first) (lit< tt) in
      let mark = bit_back (word_of_core (pack s) k core_mark) (core_of s k).mark (queue_word s k b (core_mark - core_first) (lit< tt)) in
      λ i. record { work = work_read i; active = active i; dispatch = dispatch i; mark = mark i; run_queue = run_queue_read i }
