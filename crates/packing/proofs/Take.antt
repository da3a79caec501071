-- Take: the first process is taken off a core's active queue.
use Prim.Native.Nat.{ℕ, ◌+◌, ◌<◌}
use mathlib.Core.Path.{◌≡◌, refl, sym, ap, ◌∙◌}
use mathlib.Core.List.{List, ◌∷◌}
use native.Mathlib.Omega.{arith}
use lib.Dec.{T, lit<}
use lib.ListN.{length}
use Rattle.rules.specs.Lists.{within, all, total, first, last, follows}
use Rattle.rules.specs.State.{Core, State}
use Rattle.rules.specs.Items.{core_of, put, core}
use Rattle.rules.specs.Layout.{core_at, process_at, core_first, core_last, core_size, process_next}
use Rattle.rules.specs.Packing.{word_at, next_link, pack}
use Rattle.packing.specs.Queues.{take_writes, take_table, with_queues, Queued}
use Rattle.packing.proofs.ReadLaws.{read_core, read_process}
use Rattle.rules.proofs.Tests.{here_or_there, both}
use Rattle.rules.proofs.QueueLists.{follows_none, follows_first, follows_rest, no_next}
use Rattle.packing.proofs.Links.{
  held_first,
  held_core,
  held_own,
  held_last,
  queue_entries,
  next_in,
  Stands,
  next_kept,
  head_kept,
  next_head_kept,
  next_alone,
}
use Rattle.packing.proofs.Standing.{first_stands, first_once, active_among, last_rest}

module _ (s : State) (k p : ℕ) (rest : List ℕ) (inside : k < length s.cores) (queued : Queued s)
    (e : (core_of s k).active ≡ p ∷ rest) where
  -- who is next in the table is next in the queue
  pub next_read : word_at (pack s) (process_at (length s.cores) p process_next) ≡ first rest
  next_read =
      let stands : Stands s k p = first_stands s k inside queued p rest e in
      let next : follows p (core_of s k).active ≡ first rest = ap (follows p) e ∙ follows_first p rest in
      read_process s p process_next stands.low stands.high (lit< tt)
      ∙ next_kept s k (core_of s k) inside p refl
      ∙ next_alone s k (core_of s k) inside p stands
      ∙ omega (arith, no_next p (core_of s k).run_queue (first_once s k inside queued p rest e).1)

  -- The writes of a take on a packing give the packing of the state in which core k's active queue, first p, is without p.
  pub take_law : take_table (pack s) (length s.cores) k
      ≡ pack (put core k (with_queues rest (core_of s k).run_queue (core_of s k)) s)
  take_law =
      ap (λ x. take_writes x (word_at t (process_at K x process_next)) (word_at t (core_at k core_last)) (word_at t (core_at k core_size)) t K k)
      (read_core s k core_first inside (lit< tt) ∙ ap first e)
      ∙ (λ i. take_writes p (next_read i) ((read_core s k core_last inside (lit< tt) ∙ ap last e) i)
      ((read_core s k core_size inside (lit< tt) ∙ ap length e) i) t K k)
      ∙ held_last s k c' _ _ _ inside
      (held_own s k inside process_next p 0 tt stands
      (held_core s k inside core_size _ tt (held_core s k inside core_last _ tt (held_core s k inside core_first (first rest) tt (held_first s k inside)))))
      (queue_entries c rest r refl (last_rest _ p rest among) (omega arith) refl refl)
      (record {
        next = λ i low high. here_or_there p i 0 _ (λ i. next_link (put core k c' s) i) (λ q. sym (next_alone s k c' inside p stands ∙ unlinked))
            (λ ne. next_kept s k c' inside i (ap (λ n. n + total (follows i) r) (ap (follows i) e ∙ follows_rest i p rest ne)));
        batch_last = λ i low high. head_kept s k c' inside last i refl;
        batch_size = λ i low high. head_kept s k c' inside length i refl;
        next_head = λ i low high. next_head_kept s k c' inside i refl;
      })
    where
      K : ℕ
      K = length s.cores

      t : List ℕ
      t = pack s

      c : Core
      c = core_of s k

      r : List (List ℕ)
      r = c.run_queue

      c' : Core
      c' = with_queues rest r c

      stands : Stands s k p
      stands = first_stands s k inside queued p rest e

      among : T (all (within 1 (length s.processes)) rest)
      among = (both (within 1 (length s.processes) p) _ (rw e at (active_among s k inside queued))).1

      -- nothing follows p any more
      unlinked : next_in p c' ≡ 0
      unlinked =
          let once = first_once s k inside queued p rest e in
          omega (arith, follows_none p rest once.0, no_next p r once.1)
