-- Load: the first batch of a core's run queue becomes its active queue, which was empty.
use Rattle.std.specs.Prelude.{if◌then◌else◌}
use Prim.Native.Nat.{ℕ, ◌<◌}
use mathlib.Core.Path.{◌≡◌, refl, sym, ap, ◌∙◌}
use mathlib.Core.List.{List, [], ◌∷◌}
use native.Mathlib.Omega.{arith}
use lib.Dec.{T, eqb, lit<}
use lib.ListN.{length}
use Rattle.rules.specs.Lists.{within, all, total, times, first, last, follows}
use Rattle.rules.specs.State.{Core, State}
use Rattle.rules.specs.Items.{core_of, put, core}
use Rattle.rules.specs.Layout.{core_at, process_at, core_first, core_last, core_size, core_first_head, core_last_head, process_last, process_size, process_next_head}
use Rattle.rules.specs.Packing.{heads, if_head, word_at, head_link, batch_link, pack}
use Rattle.packing.specs.Queues.{load_writes, load_table, with_queues, Queued}
use Rattle.packing.proofs.ReadLaws.{read_core, read_process}
use Rattle.rules.proofs.Tests.{here_or_there, both}
use Rattle.rules.proofs.QueueLists.{follows_first, follows_rest, if_head_first, if_head_other, no_head, no_next_head}
use Rattle.packing.proofs.Links.{
  held_first,
  held_core,
  held_own,
  held_last,
  queue_entries,
  Stands,
  next_kept,
  head_kept,
  next_head_kept,
  head_alone,
  next_head_alone,
}
use Rattle.packing.proofs.Standing.{core_heads_among, last_rest, first_head_stands, first_head_once}

module _ (s : State) (k p : ℕ) (more : List ℕ) (rest : List (List ℕ)) (inside : k < length s.cores) (queued : Queued s)
    (e : (core_of s k).active ≡ []) (e' : (core_of s k).run_queue ≡ (p ∷ more) ∷ rest) where
  -- the law below for a batch with the first process p
  load_first : load_table (pack s) (length s.cores) k ≡ pack (put core k (with_queues (p ∷ more) rest (core_of s k)) s)
  load_first =
      ap (λ x. load_writes x (word_at t (process_at K x process_last)) (word_at t (process_at K x process_size)) (word_at t (process_at K x process_next_head))
      (word_at t (core_at k core_last_head)) t K k)
      (read_core s k core_first_head inside (lit< tt) ∙ ap (λ r. first (heads r)) e')
      ∙ (λ i. load_writes p (last_read i) (size_read i) (next_head_read i)
      ((read_core s k core_last_head inside (lit< tt) ∙ ap (λ r. last (heads r)) e') i) t K k)
      ∙ held_last s k c' _ _ _ inside
      (held_own s k inside process_next_head p 0 tt stands (held_own s k inside process_size p 0 tt stands (held_own s k inside process_last p 0 tt stands
      (held_core s k inside core_last_head _ tt (held_core s k inside core_first_head _ tt (held_core s k inside core_size _ tt (held_core s k inside core_last _ tt
      (held_core s k inside core_first p tt (held_first s k inside)))))))))
      (queue_entries c (p ∷ more) rest refl refl refl refl (last_rest _ p (heads rest) among))
      (record {
        next = λ i low high. next_kept s k c' inside i (omega (arith, ap (follows i) e, ap (total (follows i)) e'));
        batch_last = λ i low high. head_moved last i;
        batch_size = λ i low high. head_moved length i;
        next_head = λ i low high.
            here_or_there p i 0 _ (λ i. batch_link (put core k c' s) i)
            (λ z. sym (next_head_alone s k c' inside p stands ∙ no_next_head p rest stands.low none))
            (λ ne. next_head_kept s k c' inside i (ap (λ r. follows i (heads r)) e' ∙ follows_rest i p (heads rest) ne));
      })
    where
      K : ℕ
      K = length s.cores

      t : List ℕ
      t = pack s

      c : Core
      c = core_of s k

      c' : Core
      c' = with_queues (p ∷ more) rest c

      stands : Stands s k p
      stands = first_head_stands s k inside queued p more rest e'

      none : total (times p) rest ≡ 0
      none = first_head_once s k inside queued p more rest e'

      among : T (all (within 1 (length s.processes)) (heads rest))
      among = (both (within 1 (length s.processes) p) _ (rw e' at (core_heads_among s k inside queued))).1

      -- what the head keeps of its batch
      kept : (f : List ℕ → ℕ) → head_link f s p ≡ f (p ∷ more)
      kept f =
          head_kept s k c inside f p refl ∙ head_alone s k c inside p stands f
          ∙ omega (arith, ap (total (if_head f p)) e', if_head_first f p more, no_head f p rest stands.low none)

      -- what is read of it in the table
      last_read : word_at t (process_at K p process_last) ≡ last (p ∷ more)
      last_read = read_process s p process_last stands.low stands.high (lit< tt) ∙ kept last

      size_read : word_at t (process_at K p process_size) ≡ length (p ∷ more)
      size_read = read_process s p process_size stands.low stands.high (lit< tt) ∙ kept length

      next_head_read : word_at t (process_at K p process_next_head) ≡ first (heads rest)
      next_head_read =
          read_process s p process_next_head stands.low stands.high (lit< tt)
          ∙ next_head_kept s k c inside p refl
          ∙ next_head_alone s k c inside p stands
          ∙ ap (λ r. follows p (heads r)) e'
          ∙ follows_first p (heads rest)

      -- it keeps nothing any more
      head_moved : (f : List ℕ → ℕ) (i : ℕ) → (if eqb i p then 0 else head_link f s i) ≡ head_link f (put core k c' s) i
      head_moved f i =
          here_or_there p i 0 _ (λ i. head_link f (put core k c' s) i)
          (λ z. sym (head_alone s k c' inside p stands f ∙ no_head f p rest stands.low none))
          (λ ne. head_kept s k c' inside f i (omega (arith, ap (total (if_head f i)) e', if_head_other f i p more ne)))

-- The writes of a load on a packing give the packing of the state in which core k's first batch is its active queue.
pub load_law : (s : State) (k : ℕ) (batch : List ℕ) (rest : List (List ℕ)) → k < length s.cores → Queued s
    → (core_of s k).active ≡ [] → (core_of s k).run_queue ≡ batch ∷ rest
    → load_table (pack s) (length s.cores) k ≡ pack (put core k (with_queues batch rest (core_of s k)) s)
load_law s k [] rest inside queued e e' = absurd (rw e' at (queued.batches k inside))
load_law s k (p ∷ more) rest inside queued e e' = load_first s k p more rest inside queued e e'
