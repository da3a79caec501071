-- Push: a process is put at the end of a core's active queue.
use Prim.Native.Nat.{ℕ, ◌+◌, ◌≤◌, ◌<◌}
use mathlib.Core.Path.{◌≡◌, refl, sym, ap, ◌∙◌, ap₂}
use mathlib.Core.List.{List, [], ◌∷◌, ◌++◌}
use native.Mathlib.Omega.{arith}
use lib.Dec.{T, lit<}
use lib.ListN.{length, length-append}
use Rattle.rules.specs.Lists.{within, all, total, times, last, follows}
use Rattle.rules.specs.State.{Core, State}
use Rattle.rules.specs.Items.{core_of, put, core}
use Rattle.rules.specs.Layout.{core_first, core_last, core_size, process_next}
use Rattle.rules.specs.Packing.{next_link, pack}
use Rattle.packing.specs.Queues.{push_writes, push_table, with_queues, Queued}
use Rattle.packing.proofs.ReadLaws.{read_core}
use Rattle.rules.proofs.Tests.{here_or_there}
use Rattle.rules.proofs.QueueLists.{follows_more, follows_last, last_append, times_last, no_next}
use Rattle.packing.proofs.Links.{
  queue_entries,
  held_first,
  held_core,
  held_end,
  held_last,
  Stands,
  next_kept,
  head_kept,
  next_head_kept,
  next_alone,
}
use Rattle.packing.proofs.Standing.{active_among, last_bound, first_more, last_stands}

-- The writes of a push on a packing give the packing of the state in which q stands at the end of core k's active queue.
pub push_law : (s : State) (k q : ℕ) → k < length s.cores → Queued s
    → push_table (pack s) (length s.cores) k q
    ≡ pack (put core k (with_queues ((core_of s k).active ++ (q ∷ [])) (core_of s k).run_queue (core_of s k)) s)
push_law s k q inside queued =
    ap₂ (λ l n. push_writes l n (pack s) (length s.cores) k q) (read_core s k core_last inside (lit< tt)) (read_core s k core_size inside (lit< tt))
    ∙ held_last s k c' _ _ _ inside
    (held_core s k inside core_size (length l + 1) tt (held_core s k inside core_last q tt
    (held_end s k inside core_first process_next a q tt tt bound (held_first s k inside))))
    (queue_entries c (l ++ (q ∷ [])) r (first_more _ q l [] among) (sym (last_append l q [])) (sym (length-append l (q ∷ []))) refl refl)
    (record {
      next = λ p low high. here_or_there a p q _ (λ p. next_link (put core k c' s) p) (λ e. sym (linked (omega arith)))
          (λ ne. next_kept s k c' inside p (ap (λ n. n + total (follows p) r) (sym (follows_more p q l ne))));
      batch_last = λ p low high. head_kept s k c' inside last p refl;
      batch_size = λ p low high. head_kept s k c' inside length p refl;
      next_head = λ p low high. next_head_kept s k c' inside p refl;
    })
  where
    c : Core
    c = core_of s k

    l : List ℕ
    l = c.active

    r : List (List ℕ)
    r = c.run_queue

    c' : Core
    c' = with_queues (l ++ (q ∷ [])) r c

    a : ℕ
    a = last l

    among : T (all (within 1 (length s.processes)) l)
    among = active_among s k inside queued

    -- the last one's number has an address, and q follows it
    bound : a ≤ length s.processes
    bound = last_bound _ l among

    linked : 1 ≤ a → next_link (put core k c' s) a ≡ q
    linked low =
        let stands : Stands s k a = last_stands s k inside queued low in
        let here : 1 ≤ times a l = times_last l low in
        let at_most : times a l + total (times a) r ≤ 1 = stands.at_most in
        next_alone s k c' inside a stands ∙ omega (arith, follows_last q l low (omega arith), no_next a r (omega arith))
