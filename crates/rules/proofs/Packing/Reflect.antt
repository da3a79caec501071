-- What a test says, as a proposition, and what `valid` says of a state.
use Rattle.std.specs.Prelude.{if◌then◌else◌}
use Prim.Native.Nat.{ℕ, zero, suc, ◌≤◌, ◌<◌}
use mathlib.Core.Path.{◌≡◌}
use mathlib.Core.Bool.{Bool, true, false}
use mathlib.Core.List.{[]}
use native.Mathlib.Omega.{arith}
use lib.Dec.{T, eqb, leb, leb→le, ltb→lt}
use lib.ListN.{length, get_or}
use Rattle.rules.specs.Lists.{within, all, from, times}
use Rattle.rules.specs.State.{Core, queues_of, Channel, State, Wiring, wiring}
use Rattle.rules.specs.Items.{core_of, channel_of, no_core, no_channel}
use Rattle.rules.specs.SetUp.{sizes}
use Rattle.rules.specs.Soundness.{word32, is_process, valid_process, valid_work, not_empty, valid_core, valid_word, valid_channel, valid}
use Rattle.rules.proofs.Tests.{three, four, five, within_means, differ_means, all_at, all_from, all_times}
use Rattle.rules.proofs.Good.{GoodIn, good}

-- A valid state

-- how many cores, processes and channels there may be
pub record Sizes (k n m : ℕ) : Type 0 where
  pub cores : (1 ≤ k) × (k ≤ 8)
  pub processes : (1 ≤ n) × (n ≤ 256)
  pub channels : m ≤ 256

-- a core: what it does, its batches, and the members of its queues
pub record ValidCore (w : Wiring) (c : Core) : Type 0 where
  pub work : T (valid_work w c.work)
  pub dispatch : c.dispatch ≤ 32
  pub batches : (i : ℕ) → i < length c.run_queue → T (not_empty (get_or c.run_queue i []))
  pub members : (i : ℕ) → i < length (queues_of c) → (p : ℕ) → 1 ≤ times p (get_or (queues_of c) i []) → (1 ≤ p) × (p ≤ w.N)

-- a channel: its ends and its word are processes
pub record ValidChannel (w : Wiring) (c : Channel) : Type 0 where
  pub writer : (1 ≤ c.ends.writer) × (c.ends.writer ≤ w.N)
  pub reader : (1 ≤ c.ends.reader) × (c.ends.reader ≤ w.N)
  pub differ : c.ends.writer ≡ c.ends.reader → ⊥
  pub word : T (valid_word w c.word)
  pub transfers : c.transfers < 4294967296

-- a state: cores are counted from 0, processes and channels from 1
pub record Valid (s : State) : Type 0 where
  pub sizes : Sizes (length s.cores) (length s.processes) (length s.channels)
  pub cores : (k : ℕ) → k < length s.cores → ValidCore (wiring s) (core_of s k)
  pub processes : (p : ℕ) → 1 ≤ p → p ≤ length s.processes → GoodIn s p
  pub channels : (c : ℕ) → 1 ≤ c → c ≤ length s.channels → ValidChannel (wiring s) (channel_of s c)

-- what the test of the sizes says
sizes_mean : (k n m : ℕ) → T (sizes k n m) → Sizes k n m
sizes_mean k n m h =
    let t = three (within 1 8 k) (within 1 256 n) (within 0 256 m) h in
    record { cores = within_means 1 8 k t.0; processes = within_means 1 256 n t.1; channels = (within_means 0 256 m t.2).1 }

-- what the test of a core says
valid_core_means : (w : Wiring) (c : Core) → T (valid_core w c) → ValidCore w c
unfolding valid_core
valid_core_means w c h =
    let t = four (valid_work w c.work) (leb c.dispatch 32) (all not_empty c.run_queue) (all (all (is_process w)) (queues_of c)) h in
    record {
      work = t.0;
      dispatch = leb→le c.dispatch 32 t.1;
      batches = all_at not_empty c.run_queue [] t.2;
      members = λ i b p g.
          let each = all_at (all (is_process w)) (queues_of c) [] t.3 i b in
          within_means 1 w.N p (all_times (is_process w) (get_or (queues_of c) i []) each p g);
    }

-- what the test of a channel says
valid_channel_means : (w : Wiring) (c : Channel) → T (valid_channel w c) → ValidChannel w c
unfolding valid_channel
valid_channel_means w c h =
    let e = c.ends in
    let differ : Bool = if eqb e.writer e.reader then false else true in
    let t = five (is_process w e.writer) (is_process w e.reader) differ (valid_word w c.word) (word32 c.transfers) h in
    record {
      writer = within_means 1 w.N e.writer t.0;
      reader = within_means 1 w.N e.reader t.1;
      differ = differ_means e.writer e.reader t.2;
      word = t.3;
      transfers = ltb→lt c.transfers 4294967296 t.4;
    }

-- What `valid` says of a state.
pub valid_means : (s : State) → T (valid s) → Valid s
unfolding valid
valid_means s h =
    let w = wiring s in
    let m = length s.channels in
    let processes = all (valid_process s) (from 1 w.N) in
    let t = four (sizes w.K w.N m) (all (valid_core w) s.cores) processes (all (valid_channel w) s.channels) h in
    record {
      sizes = sizes_mean w.K w.N m t.0;
      cores = λ k b. valid_core_means w (core_of s k) (all_at (valid_core w) s.cores no_core t.1 k b);
      processes = λ p l b. good s p (all_from (valid_process s) 1 w.N t.2 p l (omega arith));
      channels = at_channel t.3;
    }
  where
    at_channel : T (all (valid_channel (wiring s)) s.channels) → (c : ℕ) → 1 ≤ c → c ≤ length s.channels
        → ValidChannel (wiring s) (channel_of s c)
    at_channel a zero l b = absurd (omega arith)
    at_channel a (suc c) l b =
        valid_channel_means (wiring s) (channel_of s (suc c)) (all_at (valid_channel (wiring s)) s.channels no_channel a c b)
