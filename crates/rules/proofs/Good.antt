-- What `valid_process` asks of a process, as facts.
use Prim.Native.Nat.{ℕ, ◌≤◌, ◌<◌}
use lib.Dec.{T}
use Rattle.rules.specs.State.{Process, State, Wiring, wiring}
use Rattle.rules.specs.Items.{process_of}
use Rattle.rules.specs.Soundness.{valid_progress, fits, on_cores, in_queues, stands, valid_process}
use Rattle.rules.proofs.Tests.{and_means, leb_means}

-- of process p with the record r, that runs on `here` cores and stands `there` times in a queue
pub record Good (w : Wiring) (p : ℕ) (r : Process) (here there : ℕ) : Type 0 where
  pub word : r.data_word < 4294967296
  pub count : r.alternation.count ≤ 9
  pub in_hand : T (valid_progress w p r.progress)
  pub fitting : T (fits r.place r.progress)
  pub standing : T (stands here there r.place)

-- of process p of a state
abbrev pub GoodIn : State → ℕ → Type 0
GoodIn s p = Good (wiring s) p (process_of s p) (on_cores s p) (in_queues s p)

-- the test says so
pub good : (s : State) (p : ℕ) → T (valid_process s p) → GoodIn s p
unfolding valid_process
good s p h =
    let h' = simp (and_means, leb_means) at h in
    record { word = h'.0.0.0.0; count = h'.0.0.0.1; in_hand = h'.0.0.1; fitting = h'.0.1; standing = h'.1 }

-- and the other way
pub good_tested : (s : State) (p : ℕ) → GoodIn s p → T (valid_process s p)
unfolding valid_process
good_tested s p g = simp (and_means, leb_means) ((((g.word, g.count), g.in_hand), g.fitting), g.standing)
