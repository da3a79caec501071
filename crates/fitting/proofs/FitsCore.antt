-- The words of a core that belong to no queue fit exactly where they are those of a valid core.
use Prim.Native.Nat.{ℕ, zero, suc, ◌+◌, ◌-◌, ◌≤◌, ◌<◌}
use mathlib.Core.Path.{◌≡◌, refl}
use mathlib.Core.Bool.{Bool, ◌&&◌}
use mathlib.Core.List.{List, [], ◌∷◌}
use native.Mathlib.Omega.{arith}
use lib.Dec.{T, eqb, leb, eqb→eq, leb→le, le→leb, eqb-suc-zero}
use Rattle.rules.specs.Lists.{within, bit}
use Rattle.rules.specs.State.{Wiring}
use Rattle.rules.specs.Layout.{core_stride, core_at, core_runs, core_task, core_task_process, core_dispatch, core_mark, core_spare, task_wake}
use Rattle.rules.specs.Packing.{work_words, word_of_core, work_numbered}
use Rattle.rules.specs.Soundness.{is_process, valid_work}
use Rattle.rules.proofs.Tests.{both, three, four}
use Rattle.fitting.proofs.Tests.{equal_holds, within_holds, all_three, all_four, zeros_mean, zeros_hold, bit_means, bit_holds}
use Rattle.fitting.specs.Twin.{word, zeros, work_fits, core_fits}

-- the work that is read out of three words is valid, and these are its words
abbrev pub GoodWork : Wiring → ℕ → ℕ → ℕ → Type 0
GoodWork w p task q = T (valid_work w (work_numbered p task q)) × (work_words (work_numbered p task q) ≡ p ∷ task ∷ q ∷ [])

module _ (w : Wiring) where
  -- the work that is read out of words that fit
  work_means : (p task q : ℕ) → T (work_fits w.N p task q) → GoodWork w p task q
  work_means zero zero q h = (tt, let e : q ≡ 0 = eqb→eq q 0 h in cc)
  work_means zero (suc zero) q h = (h, refl)
  work_means zero (suc (suc zero)) q h = (h, refl)
  work_means zero (suc (suc (suc task))) q h =
      let g : T (leb (suc (suc (suc task))) task_wake && within 1 w.N q) = rw eqb-suc-zero at h in
      absurd (omega (arith, leb→le (suc (suc (suc task))) task_wake (both (leb (suc (suc (suc task))) task_wake) (within 1 w.N q) g).0))
  work_means (suc p) task q h =
      let g : T (leb (suc p) w.N && eqb task 0 && eqb q 0) = rw eqb-suc-zero at h in
      let r = three (leb (suc p) w.N) (eqb task 0) (eqb q 0) g in
      let no_task : task ≡ 0 = eqb→eq task 0 r.1 in
      let nobody : q ≡ 0 = eqb→eq q 0 r.2 in
      rw eqb-suc-zero (within_holds 1 w.N (suc p) (omega arith) (leb→le (suc p) w.N r.0), (cc))

  -- words that such work is read out of fit
  means_work : (p task q : ℕ) → GoodWork w p task q → T (work_fits w.N p task q)
  means_work zero zero q h = equal_holds q 0 (let e = h.1 in cc)
  means_work zero (suc zero) q h = h.0
  means_work zero (suc (suc zero)) q h = h.0
  means_work zero (suc (suc (suc task))) q h = let e = h.1 in let z : ◌≡◌ {A = ℕ} 0 (suc (suc (suc task))) = cc in absurd (omega arith)
  means_work (suc p) task q h =
      let g : T (is_process w (suc p)) × (suc p ∷ 0 ∷ 0 ∷ [] ≡ suc p ∷ task ∷ q ∷ []) = rw eqb-suc-zero at h in
      let e = g.1 in
      rw eqb-suc-zero
      (all_three (leb (suc p) w.N) (eqb task 0) (eqb q 0) (both (leb 1 (suc p)) (leb (suc p) w.N) g.0).1
      (equal_holds task 0 (cc)) (equal_holds q 0 (cc)))

-- the words of a core that belong to no queue are those of a valid core
pub record FlatCore (w : Wiring) (t : List ℕ) (k : ℕ) : Type 0 where
  pub work : GoodWork w (word_of_core t k core_runs) (word_of_core t k core_task) (word_of_core t k core_task_process)
  pub dispatch : word_of_core t k core_dispatch ≤ 32
  pub mark : bit (eqb (word_of_core t k core_mark) 1) ≡ word_of_core t k core_mark
  pub unused : (f : ℕ) → f < core_stride - core_spare → word t (core_at k core_spare + f) ≡ 0

module _ (w : Wiring) (t : List ℕ) (k : ℕ) where
  -- the words of the core
  abbrev own : ℕ → ℕ
  own = word_of_core t k

  -- the tests of its work, its dispatch count, its mark and its unused words
  abbrev work_test : Bool
  work_test = work_fits w.N (own core_runs) (own core_task) (own core_task_process)

  abbrev unused_test : Bool
  unused_test = zeros t (core_at k core_spare) (core_stride - core_spare)

  -- What the test of these words says,
  pub core_fits_means : T (core_fits t w.N k) → FlatCore w t k
  core_fits_means h =
      let r = four work_test (leb (own core_dispatch) 32) (leb (own core_mark) 1) unused_test h in
      record {
        work = work_means w (own core_runs) (own core_task) (own core_task_process) r.0;
        dispatch = leb→le (own core_dispatch) 32 r.1;
        mark = bit_means (own core_mark) r.2;
        unused = zeros_mean t (core_at k core_spare) (core_stride - core_spare) r.3;
      }

  -- and what says as much.
  pub means_core_fits : FlatCore w t k → T (core_fits t w.N k)
  means_core_fits h =
      all_four work_test (leb (own core_dispatch) 32) (leb (own core_mark) 1) unused_test
      (means_work w (own core_runs) (own core_task) (own core_task_process) h.work) (le→leb (own core_dispatch) 32 h.dispatch)
      (bit_holds (eqb (own core_mark) 1) (own core_mark) h.mark) (zeros_hold t (core_at k core_spare) (core_stride - core_spare) h.unused)
