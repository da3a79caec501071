-- Validity as facts: of a state all of whose processes but one are as they should be, and of that one.
use Prim.Native.Nat.{ℕ}
use native.Mathlib.Omega.{arith}
use mathlib.Core.Path.{◌≡◌, refl, sym, subst}
use lib.Dec.{T}
use lib.ListN.{length, length-map}
use Rattle.rules.specs.Lists.{all}
use Rattle.rules.specs.State.{Channel, State, Wiring, wiring}
use Rattle.rules.specs.Items.{process_of}
use Rattle.rules.specs.SetUp.{sizes}
use Rattle.rules.specs.Soundness.{is_process, on_cores, in_queues, valid_process, valid_core, valid_channel, valid}
use Rattle.rules.proofs.Tests.{tests, and_means, all_from, tabulate_all}
use Rattle.rules.proofs.Good.{Good, good, good_tested}

-- A state with the wiring w in which all is valid, but perhaps for process p.
pub record AllBut (w : Wiring) (p : ℕ) (s : State) : Type 0 where
  pub wired : wiring s ≡ w
  pub sized : T (sizes w.K w.N (length w.ends))
  pub cores : T (all (valid_core w) s.cores)
  pub others : (q : ℕ) → T (is_process w q) → (q ≡ p → ⊥) → Good w q (process_of s q) (on_cores s q) (in_queues s q)
  pub channels : T (all (valid_channel w) s.channels)

-- There is no process 0.
abbrev pub Valid : Wiring → State → Type 0
Valid w s = AllBut w 0 s

-- so each process of a valid state is as it should be
pub good_of : {w : Wiring} {s : State} (p : ℕ) → Valid w s → T (is_process w p) → Good w p (process_of s p) (on_cores s p) (in_queues s p)
good_of p v is = v.others p is (λ e. omega (arith, simp tests at is))

-- `valid` is the fact
pub reflected : (s : State) → T (valid s) → Valid (wiring s) s
unfolding valid
reflected s h =
    let h' = simp and_means at h in
    record {
      wired = refl;
      sized = rw (length-map s.channels (λ (c : Channel). c.ends)) (simp and_means h'.0.0.0);
      cores = h'.0.0.1;
      others =
          λ q is _.
          let (low, high) = simp tests at is in
          good s q (all_from (valid_process s) 1 (length s.processes) h'.0.1 q low (omega arith));
      channels = h'.1;
    }

-- and the other way
pub tested : (w : Wiring) (s : State) → Valid w s → T (valid s)
unfolding valid
tested w s valid_at_w = at_its_own (subst (λ (x : Wiring). Valid x s) (sym valid_at_w.wired) valid_at_w)
  where
    -- at the state's own wiring
    at_its_own : Valid (wiring s) s → T (valid s)
    at_its_own v =
        let sized = rw (length-map s.channels (λ (c : Channel). c.ends)) at v.sized in
        simp and_means (
          (
            (simp and_means at sized, v.cores),
            tabulate_all (valid_process s) (λ i. i) 1 (length s.processes)
                (λ p low high. good_tested s p (good_of p v (simp tests (low, omega arith)))),
          ),
          v.channels,
        )
