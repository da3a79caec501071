-- Split: a core's active queue becomes the two last batches of its run queue, its first process alone, then the others.
use Rattle.std.specs.Prelude.{if◌then◌else◌}
use Prim.Native.Nat.{ℕ, ◌-◌, ◌≤◌, ◌<◌}
use mathlib.Core.Path.{◌≡◌, sym, ap, ◌∙◌, subst}
use mathlib.Core.List.{List, [], ◌∷◌, ◌++◌, append_assoc}
use native.Mathlib.Omega.{arith}
use lib.Dec.{eqb, lit<}
use lib.ListN.{length}
use borrow.Author.Tests.{eq-eqb}
use Rattle.rules.specs.Lists.{total, bit, times, first, last, follows}
use Rattle.rules.specs.State.{Core, State}
use Rattle.rules.specs.Items.{core_of, put, core}
use Rattle.rules.specs.Layout.{core_at, process_at, core_first, core_last, core_size, core_last_head, process_next, process_last, process_size, process_next_head}
use Rattle.rules.specs.Packing.{heads, if_head, word_at, next_link, head_link, batch_link, pack}
use Rattle.packing.specs.Queues.{split_writes, split_table, with_queues, Queued}
use Rattle.packing.proofs.ReadLaws.{read_core}
use Rattle.rules.proofs.Tests.{here_or_there}
use Rattle.rules.proofs.Sums.{total_append, times_append, head_stands}
use Rattle.rules.proofs.QueueLists.{times_last, times_heads, follows_none, follows_single, follows_rest, follows_more, follows_last, last_append, heads_append, if_head_first, if_head_other, no_next, no_head}
use Rattle.packing.proofs.Links.{
  held_first,
  held_own,
  next_in,
  Stands,
  next_kept,
  head_kept,
  next_head_kept,
  next_alone,
  head_alone,
  next_head_alone,
}
use Rattle.packing.proofs.Standing.{first_stands, first_once, second_stands, second_once, last_head_stands, last_head_once}
use Rattle.packing.proofs.Take.{next_read}
use Rattle.packing.proofs.Store.{stored}

-- The writes of a split on a packing give the packing of the state in which core k's active queue is the two last batches.
pub split_law : (s : State) (k p q : ℕ) (rest : List ℕ) → k < length s.cores → Queued s → (core_of s k).active ≡ p ∷ (q ∷ rest)
    → split_table (pack s) (length s.cores) k
    ≡ pack (put core k (with_queues [] ((core_of s k).run_queue ++ ((p ∷ []) ∷ ((q ∷ rest) ∷ []))) (core_of s k)) s)
split_law s k p q rest inside queued e =
    ap (λ x. split_writes x (word_at t (process_at K x process_next)) (word_at t (core_at k core_last)) (word_at t (core_at k core_size)) (word_at t (core_at k core_last_head))
    t K k)
    (read_core s k core_first inside (lit< tt) ∙ ap first e)
    ∙ (λ i. split_writes p (next_read s k p (q ∷ rest) inside queued e i) ((read_core s k core_last inside (lit< tt) ∙ ap last e) i)
    ((read_core s k core_size inside (lit< tt) ∙ ap length e) i) (read_core s k core_last_head inside (lit< tt) i) t K k)
    ∙ stored s k p [] ((q ∷ rest) ∷ []) _ _ inside queued
    (held_own s k inside process_size q _ tt second (held_own s k inside process_last q _ tt second (held_own s k inside process_next_head p _ tt stands
    (held_own s k inside process_size p _ tt stands (held_own s k inside process_last p _ tt stands (held_own s k inside process_next p 0 tt stands
    (held_first s k inside)))))))
    (record {
      next = λ i low high.
          here_or_there p i 0 _ (λ i. next_link s' i) (λ z. sym (next_alone s k c' inside p stands ∙ unlinked))
          (λ ne. next_kept s k c' inside i (next_same i ne));
      batch_last = λ i low high. head_moved last i;
      batch_size = λ i low high. (let z : length (p ∷ (q ∷ rest)) - 1 ≡ length (q ∷ rest) = omega arith in rw z (head_moved length i));
      next_head = λ i low high.
          here_or_there b i p _ (λ i. batch_link s' i) (λ z. sym (behind_last (omega arith)))
          (λ ne. here_or_there p i q _ (λ i. batch_link s' i) (λ z. sym behind_first)
          (λ ne'. next_head_kept s k c' inside i (behind_others i ne ne')));
    })
  where
    K : ℕ
    K = length s.cores

    t : List ℕ
    t = pack s

    c : Core
    c = core_of s k

    r : List (List ℕ)
    r = c.run_queue

    new : List (List ℕ)
    new = (p ∷ []) ∷ ((q ∷ rest) ∷ [])

    c' : Core
    c' = with_queues [] (r ++ new) c

    s' : State
    s' = put core k c' s

    stands : Stands s k p
    stands = first_stands s k inside queued p (q ∷ rest) e

    second : Stands s k q
    second = second_stands s k inside queued p q rest e

    b : ℕ
    b = last (heads r)

    -- neither p nor q stands in a batch, and they differ
    first_none : total (times p) r ≡ 0
    first_none = (first_once s k inside queued p (q ∷ rest) e).1

    second_none : total (times q) r ≡ 0
    second_none = second_once s k inside queued p q rest e

    differ : p ≡ q → ⊥
    differ z = omega (arith, (first_once s k inside queued p (q ∷ rest) e).0, ap bit (eq-eqb q p (sym z)))

    -- nothing follows p, and what follows another stays
    unlinked : next_in p c' ≡ 0
    unlinked =
        omega (
          arith,
          total_append (follows p) r new,
          no_next p r first_none,
          follows_single p p,
          follows_none p (q ∷ rest) (first_once s k inside queued p (q ∷ rest) e).0,
        )

    next_same : (i : ℕ) → (i ≡ p → ⊥) → next_in i c ≡ next_in i c'
    next_same i ne = omega (arith, ap (follows i) e, follows_rest i p (q ∷ rest) ne, total_append (follows i) r new, follows_single i p)

    -- what the two new heads keep of their batches
    head_moved : (f : List ℕ → ℕ) (i : ℕ)
        → (if eqb i q then f (q ∷ rest) else (if eqb i p then f (p ∷ []) else head_link f s i)) ≡ head_link f s' i
    head_moved f i =
        here_or_there q i _ _ (λ i. head_link f s' i)
        (λ z. sym (head_alone s k c' inside q second f
        ∙ omega (
          arith,
          total_append (if_head f q) r new,
          no_head f q r second.low second_none,
          if_head_other f q p [] (λ z. differ (sym z)),
          if_head_first f q rest,
        )))
        (λ ne. here_or_there p i _ _ (λ i. head_link f s' i)
        (λ z. sym (head_alone s k c' inside p stands f
        ∙ omega (
          arith,
          total_append (if_head f p) r new,
          no_head f p r stands.low first_none,
          if_head_first f p [],
          if_head_other f p q rest differ,
        )))
        (λ ne'. head_kept s k c' inside f i
        (omega (arith, total_append (if_head f i) r new, if_head_other f i p [] ne', if_head_other f i q rest ne))))

    -- the heads are those before, then p and q
    new_heads : heads (r ++ new) ≡ heads r ++ (p ∷ []) ++ (q ∷ [])
    new_heads = heads_append r new ∙ sym (append_assoc (heads r) (p ∷ []) (q ∷ []))

    -- p was no head
    apart_from : 1 ≤ b → b ≡ p → ⊥
    apart_from low z =
        let one : 1 ≤ times p (heads r) = subst (λ (x : ℕ). 1 ≤ times x (heads r)) z (times_last (heads r) low) in
        omega (arith, times_heads p r stands.low, first_none)

    -- behind the last head stands p, behind p stands q, and behind no other head a new one
    behind_last : 1 ≤ b → batch_link s' b ≡ p
    behind_last low =
        next_head_alone s k c' inside b (last_head_stands s k inside queued low)
        ∙ ap (follows b) new_heads
        ∙ follows_more b q (heads r ++ (p ∷ [])) (λ z. apart_from low (z ∙ last_append (heads r) p []))
        ∙ follows_last p (heads r) low (last_head_once s k inside queued low)

    behind_first : batch_link s' p ≡ q
    behind_first =
        let z : last (heads r ++ (p ∷ [])) ≡ p = last_append (heads r) p [] in
        let once : times p (heads r ++ (p ∷ [])) ≤ 1 =
        omega (arith, times_append p (heads r) (p ∷ []), times_heads p r stands.low, first_none, head_stands p []) in
        next_head_alone s k c' inside p stands ∙ ap (follows p) new_heads
        ∙ (rw z at (follows_last q (heads r ++ (p ∷ [])) (rw z stands.low) (rw z once)))

    behind_others : (i : ℕ) → (i ≡ b → ⊥) → (i ≡ p → ⊥) → follows i (heads r) ≡ follows i (heads (r ++ new))
    behind_others i ne ne' =
        sym (ap (follows i) new_heads
        ∙ follows_more i q (heads r ++ (p ∷ [])) (rw (last_append (heads r) p []) ne')
        ∙ follows_more i p (heads r) ne)
