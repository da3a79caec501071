-- The packing of a state whose queues are in order has what each change of a queue needs.
use Prim.Native.Nat.{ℕ, zero, suc, ◌≤◌, ◌<◌}
use mathlib.Core.Path.{◌≡◌, refl, sym, ap, ◌∙◌, subst}
use mathlib.Core.List.{List, [], ◌∷◌}
use native.Mathlib.Omega.{arith}
use lib.Dec.{lit<}
use lib.ListN.{length}
use Rattle.rules.specs.Lists.{within, times, first}
use Rattle.rules.specs.State.{State}
use Rattle.rules.specs.Items.{core_of}
use Rattle.rules.specs.Layout.{core_at, core_first, core_last, core_size, core_first_head, core_last_head}
use Rattle.rules.specs.Packing.{heads, word_at, pack}
use Rattle.packing.specs.Queues.{Queued}
use Rattle.rules.proofs.Packing.Blocks.{pack_holds}
use Rattle.rules.proofs.Tests.{within_means, all_times}
use Rattle.rules.proofs.Sums.{among_length}
use Rattle.packing.proofs.ReadLaws.{read_core}
use Rattle.packing.proofs.Links.{Stands}
use Rattle.packing.proofs.Standing.{active_among, stands_once, first_stands, second_stands, last_stands, first_head_stands, last_head_stands}
use Rattle.packing.proofs.Take.{next_read}
use Rattle.table.specs.Has.{HasCore, HasProcess}
use Rattle.queues.specs.Fits.{CanPush, CanJoin, CanTake, CanBatch, CanSplit, CanStore, CanLoad}

pub packed_core : (s : State) (k : ℕ) → k < length s.cores → HasCore (pack s) k
packed_core s k inside = omega (arith, (pack_holds s).size)

pub packed_process : (s : State) (p : ℕ) → 1 ≤ p → p ≤ length s.processes → HasProcess (pack s) (length s.cores) p
packed_process s p low high = omega (arith, (pack_holds s).size)

module _ (s : State) (k : ℕ) (inside : k < length s.cores) (queued : Queued s) where
  -- a process that stands in the core's queues is one of the table
  standing : (p : ℕ) → Stands s k p → HasProcess (pack s) (length s.cores) p
  standing p stands = packed_process s p stands.low stands.high

  -- the active queue has no more members than there are processes
  active_size : length (core_of s k).active ≤ length s.processes
  active_size = among_length (length s.processes) l (record { range = range; once = λ p. once p (times p l) refl })
    where
      l : List ℕ
      l = (core_of s k).active

      range : (p : ℕ) → 1 ≤ times p l → (1 ≤ p) × (p ≤ length s.processes)
      range p here =
          within_means 1 (length s.processes) p (all_times (within 1 (length s.processes)) l (active_among s k inside queued) p here)

      once : (p n : ℕ) → times p l ≡ n → times p l ≤ 1
      once p zero e = omega arith
      once p (suc n) e =
          let here : 1 ≤ times p l = omega arith in
          omega (arith, (stands_once s k inside queued p (range p here) (omega arith)).at_most)

  -- the first of the active queue, and its size, as they are read
  first_read : (p : ℕ) (rest : List ℕ) → (core_of s k).active ≡ p ∷ rest → p ≡ word_at (pack s) (core_at k core_first)
  first_read p rest e = sym (read_core s k core_first inside (lit< tt) ∙ ap first e)

  size_read : (p : ℕ) (rest : List ℕ) → (core_of s k).active ≡ p ∷ rest → 1 ≤ word_at (pack s) (core_at k core_size)
  size_read p rest e = rw (read_core s k core_size inside (lit< tt)) (omega (arith, ap length e))

  pub can_push : length s.processes ≤ 256 → CanPush (pack s) (length s.cores) k
  can_push few =
      record {
        links =
            record {
              core = packed_core s k inside;
              last = rw (read_core s k core_last inside (lit< tt)) (λ low. standing _ (last_stands s k inside queued low));
            };
        size = rw (read_core s k core_size inside (lit< tt)) (omega (arith, active_size));
      }

  pub can_join : length s.processes ≤ 256 → (q : ℕ) → 1 ≤ q → q ≤ length s.processes → CanJoin (pack s) (length s.cores) k q
  can_join few q low high = record { inside = inside; pushes = can_push few; process = packed_process s q low high }

  pub can_take : (p : ℕ) (rest : List ℕ) → (core_of s k).active ≡ p ∷ rest → CanTake (pack s) (length s.cores) k p
  can_take p rest e =
      record {
        core = packed_core s k inside;
        first = first_read p rest e;
        process = standing p (first_stands s k inside queued p rest e);
        size = size_read p rest e;
      }

  batch : (p : ℕ) (rest : List ℕ) → (core_of s k).active ≡ p ∷ rest → CanBatch (pack s) (length s.cores) k p
  batch p rest e =
      record {
        links =
            record {
              core = packed_core s k inside;
              last = rw (read_core s k core_last_head inside (lit< tt)) (λ low. standing _ (last_head_stands s k inside queued low));
            };
        first = first_read p rest e;
        process = standing p (first_stands s k inside queued p rest e);
      }

  -- a queue that isn't of one process has a second
  split : (p : ℕ) (rest : List ℕ) → (core_of s k).active ≡ p ∷ rest → (length (p ∷ rest) ≡ 1 → ⊥) → CanSplit (pack s) (length s.cores) k p
  split p [] e several = absurd (several refl)
  split p (q ∷ rest) e several =
      record {
        whole = batch p (q ∷ rest) e;
        second = rw (next_read s k p (q ∷ rest) inside queued e) (standing q (second_stands s k inside queued p q rest e));
        size = size_read p (q ∷ rest) e;
      }

  pub can_store : (p : ℕ) (rest : List ℕ) → (core_of s k).active ≡ p ∷ rest → CanStore (pack s) (length s.cores) k
  can_store p rest e =
      record {
        core = packed_core s k inside;
        whole = subst (CanBatch (pack s) (length s.cores) k) (first_read p rest e) (batch p rest e);
        parts = λ several.
            subst (CanSplit (pack s) (length s.cores) k) (first_read p rest e)
            (split p rest e (λ one. several (read_core s k core_size inside (lit< tt) ∙ ap length e ∙ one)));
      }

  pub can_load : (batch : List ℕ) (rest : List (List ℕ)) → (core_of s k).run_queue ≡ batch ∷ rest → CanLoad (pack s) (length s.cores) k
  can_load [] rest e = absurd (rw e at (queued.batches k inside))
  can_load (p ∷ more) rest e =
      let head = read_core s k core_first_head inside (lit< tt) ∙ ap (λ r. first (heads r)) e in
      record { core = packed_core s k inside; head = refl; process = rw head (standing p (first_head_stands s k inside queued p more rest e)) }
