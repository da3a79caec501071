-- What set-up returns and writes, number by number.
use Rattle.std.specs.Prelude.{ℕ, zero, suc, ◌+◌, ◌*◌, ◌-◌, ◌%◌, ◌≤◌, ◌<◌, ◌≡◌, List, length, get_or, set, replicate}
use Rattle.std.proofs.Math.Option.{Option, none, some}
use Rattle.rules.specs.Numbers.{Refusal, no_because, number_of}
use Rattle.rules.specs.Layout.{process_at, channel_at, room, header_cores, header_processes, header_channels, process_place, process_progress, channel_writer, channel_reader, place_queued, due_go}
use Rattle.packing.specs.Queues.{push_table}
use Rattle.queues.specs.Fits.{CanPush, CanStore}
use Rattle.queues.specs.RunQueue.{stored_table}

-- the number of a refusal; 0 where there is none
abbrev pub flaw_number : Option Refusal → ℕ
flaw_number none = 0
flaw_number (some why) = number_of (no_because why)

-- f a, then f (a + 1), .. (n of them)
abbrev pub in_turn : (ℕ → List ℕ → List ℕ) → ℕ → ℕ → List ℕ → List ℕ
in_turn f a zero t = t
in_turn f a (suc n) t = in_turn f (suc a) n (f a t)

-- The table, region by region: k cores, n processes, m channels

-- all words are 0 but the header's three
abbrev pub header_filled : ℕ → ℕ → ℕ → List ℕ → List ℕ
header_filled k n m t = set (set (set (replicate (length t) 0) header_cores k) header_processes n) header_channels m

-- process p is queued, with GO due
abbrev pub process_filled : ℕ → ℕ → List ℕ → List ℕ
process_filled k p t = set (set t (process_at k p process_place) place_queued) (process_at k p process_progress) due_go

-- channel c has its writer and reader
abbrev pub channel_filled : ℕ → ℕ → List ℕ → ℕ → List ℕ → List ℕ
channel_filled k n pairs c t =
    set (set t (channel_at k n c channel_writer) (get_or pairs (2 * (c - 1)) 0)) (channel_at k n c channel_reader) (get_or pairs (2 * (c - 1) + 1) 0)

-- "process p is alone in a batch on core (p-1) mod K": it comes to the active queue there, which is empty, and that is stored
abbrev pub alone : ℕ → ℕ → List ℕ → List ℕ
alone k p t = let j = (p - 1) % k in stored_table (push_table t k j p) k j

-- "in order of p": the processes 1 to n
abbrev pub in_batches : ℕ → ℕ → List ℕ → List ℕ
in_batches k zero t = t
in_batches k (suc n) t = alone k (suc n) (in_batches k n t)

-- what one needs of the table
pub record CanStandAlone (t : List ℕ) (k p : ℕ) : Type 0 where
  pub pushes : CanPush t k ((p - 1) % k)
  pub stores : CanStore (push_table t k ((p - 1) % k) p) k ((p - 1) % k)

-- all that a set-up of proper pairs needs: the sizes are within their limits, and the list and the table have their lengths
pub record Ready (k n m paired size : ℕ) : Type 0 where
  pub core : 0 < k
  pub cores : k ≤ 8
  pub processes : n ≤ 256
  pub channels : m ≤ 256
  pub pairs : paired ≡ 2 * m
  pub table : size ≡ room k n m
