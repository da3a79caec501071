-- Store: a core's active queue becomes the last batch of its run queue.
use Rattle.std.specs.Prelude.{if◌then◌else◌}
use Prim.Native.Nat.{ℕ, ◌≤◌, ◌<◌}
use mathlib.Core.Path.{◌≡◌, refl, sym, ap, ◌∙◌}
use mathlib.Core.List.{List, [], ◌∷◌, ◌++◌}
use native.Mathlib.Omega.{arith}
use lib.Dec.{T, eqb, lit<}
use lib.ListN.{length}
use Rattle.rules.specs.Lists.{within, all, first, last, follows}
use Rattle.rules.specs.State.{Core, State}
use Rattle.rules.specs.Items.{core_of, put, core}
use Rattle.rules.specs.Layout.{core_first, core_last, core_size, core_first_head, core_last_head, process_last, process_size, process_next_head}
use Rattle.rules.specs.Packing.{heads, if_head, head_link, batch_link, pack}
use Rattle.packing.specs.Queues.{store_heads, store_writes, store_table, with_queues, Queued}
use Rattle.packing.proofs.ReadLaws.{read_core, core_list}
use Rattle.rules.proofs.Tests.{here_or_there}
use Rattle.rules.proofs.Sums.{total_append}
use Rattle.rules.proofs.QueueLists.{follows_more, follows_last, last_append, heads_append, if_head_first, if_head_other, no_head}
use Rattle.packing.proofs.Links.{
  write_link,
  Held,
  held_first,
  held_core,
  held_own,
  held_end,
  Linked,
  held_last,
  queue_entries,
  Stands,
  next_kept,
  head_kept,
  next_head_kept,
  head_alone,
  next_head_alone,
}
use Rattle.packing.proofs.Standing.{
  first_stands,
  first_once,
  last_head_stands,
  last_head_once,
  core_heads_among,
  last_bound,
  first_more,
}

-- Once the links of new batches are written, the first of them with the head p, `store_heads` puts them at the end of the run queue.
pub stored : (s : State) (k p : ℕ) (l : List ℕ) (more : List (List ℕ)) (L : ℕ → ℕ → ℕ) (t : List ℕ) → k < length s.cores → Queued s
    → Held s k (core_list (core_of s k)) L t
    → Linked (length s.processes) (write_link process_next_head (last (heads (core_of s k).run_queue)) p L)
    (put core k (with_queues [] ((core_of s k).run_queue ++ ((p ∷ l) ∷ more)) (core_of s k)) s)
    → store_heads p (last (p ∷ heads more)) (last (heads (core_of s k).run_queue)) t (length s.cores) k
    ≡ pack (put core k (with_queues [] ((core_of s k).run_queue ++ ((p ∷ l) ∷ more)) (core_of s k)) s)
stored s k p l more L t inside queued held linked =
    held_last s k _ _ _ _ inside
    (held_core s k inside core_size 0 tt (held_core s k inside core_last 0 tt (held_core s k inside core_first 0 tt
    (held_core s k inside core_last_head _ tt (held_end s k inside core_first_head process_next_head b p tt tt (last_bound _ (heads r) among) held)))))
    (queue_entries (core_of s k) [] (r ++ ((p ∷ l) ∷ more)) refl refl refl
    (first_more _ p (heads r) (heads more) among ∙ ap first (sym (heads_append r ((p ∷ l) ∷ more))))
    (sym (ap last (heads_append r ((p ∷ l) ∷ more)) ∙ last_append (heads r) p (heads more))))
    linked
  where
    r : List (List ℕ)
    r = (core_of s k).run_queue

    b : ℕ
    b = last (heads r)

    among : T (all (within 1 (length s.processes)) (heads r))
    among = core_heads_among s k inside queued

module _ (s : State) (k p : ℕ) (rest : List ℕ) (inside : k < length s.cores) (queued : Queued s)
    (e : (core_of s k).active ≡ p ∷ rest) where
  -- The writes of a store on a packing give the packing of the state in which core k's active queue is the last batch.
  pub store_law : store_table (pack s) (length s.cores) k
      ≡ pack (put core k (with_queues [] ((core_of s k).run_queue ++ ((p ∷ rest) ∷ [])) (core_of s k)) s)
  store_law =
      (λ i. store_writes ((read_core s k core_first inside (lit< tt) ∙ ap first e) i) ((read_core s k core_last inside (lit< tt) ∙ ap last e) i)
      ((read_core s k core_size inside (lit< tt) ∙ ap length e) i) (read_core s k core_last_head inside (lit< tt) i) (pack s) (length s.cores) k)
      ∙ stored s k p rest [] _ _ inside queued
      (held_own s k inside process_size p (length (p ∷ rest)) tt stands
      (held_own s k inside process_last p (last (p ∷ rest)) tt stands (held_first s k inside)))
      (record {
        next = λ i low high. next_kept s k c' inside i (omega (arith, ap (follows i) e, total_append (follows i) r ((p ∷ rest) ∷ [])));
        batch_last = λ i low high. head_moved last i;
        batch_size = λ i low high. head_moved length i;
        next_head = λ i low high.
            here_or_there b i p _ (λ i. batch_link (put core k c' s) i) (λ q. sym (linked (omega arith)))
            (λ ne. next_head_kept s k c' inside i (sym (ap (follows i) (heads_append r ((p ∷ rest) ∷ [])) ∙ follows_more i p (heads r) ne)));
      })
    where
      c : Core
      c = core_of s k

      r : List (List ℕ)
      r = c.run_queue

      c' : Core
      c' = with_queues [] (r ++ ((p ∷ rest) ∷ [])) c

      stands : Stands s k p
      stands = first_stands s k inside queued p rest e

      b : ℕ
      b = last (heads r)

      -- what the new head keeps of the new batch
      head_moved : (f : List ℕ → ℕ) (i : ℕ) → (if eqb i p then f (p ∷ rest) else head_link f s i) ≡ head_link f (put core k c' s) i
      head_moved f i =
          here_or_there p i _ _ (λ i. head_link f (put core k c' s) i)
          (λ q. sym (head_alone s k c' inside p stands f
          ∙ omega (
            arith,
            total_append (if_head f p) r ((p ∷ rest) ∷ []),
            if_head_first f p rest,
            no_head f p r stands.low (first_once s k inside queued p rest e).1,
          )))
          (λ ne. head_kept s k c' inside f i (omega (arith, total_append (if_head f i) r ((p ∷ rest) ∷ []), if_head_other f i p rest ne)))

      -- behind the last head stands the new one
      linked : 1 ≤ b → batch_link (put core k c' s) b ≡ p
      linked low =
          next_head_alone s k c' inside b (last_head_stands s k inside queued low)
          ∙ ap (follows b) (heads_append r ((p ∷ rest) ∷ []))
          ∙ follows_last p (heads r) low (last_head_once s k inside queued low)
