-- What the check finds, put together: a table fits exactly where its header, cores, processes and channels do.
use Rattle.std.specs.Prelude.{if◌then◌else◌}
use Prim.Native.Nat.{ℕ, zero, suc, ◌+◌, ◌-◌, ◌≤◌, ◌<◌}
use mathlib.Core.Path.{◌≡◌, refl, ap, ◌∙◌}
use mathlib.Core.Bool.{Bool, true, false, ◌&&◌}
use mathlib.Core.List.{List}
use mathlib.Core.Logic.{◌↔◌}
use native.Mathlib.Omega.{arith}
use native.Mathlib.Nat.{zero-add}
use lib.Dec.{T, eqb, leb, eqb→eq, le→leb}
use lib.ListN.{length, get_or, replicate, length-replicate, get_or-replicate}
use Rattle.rules.specs.Lists.{within, all, total, from}
use Rattle.rules.specs.State.{wiring}
use Rattle.rules.specs.Layout.{header_size, room, header_spare, process_place}
use Rattle.rules.specs.SetUp.{sizes}
use Rattle.rules.specs.Packing.{k_of, n_of, m_of, word_of_process, view_channel, view}
use Rattle.rules.specs.Soundness.{valid_channel}
use Rattle.rules.proofs.Tests.{both, four, three, together, within_means, all_from}
use Rattle.fitting.proofs.Tests.{equal_holds, all_four, zeros_mean, zeros_hold, from_holds}
use Rattle.fitting.proofs.Exact.{Exact, Met, Apart}
use Rattle.fitting.proofs.CoreWalks.{standing, load, CoreFits, cores_exact}
use Rattle.fitting.proofs.Views.{processes_of_view}
use Rattle.fitting.proofs.FitsChannel.{channel_fits_is}
use Rattle.fitting.proofs.FitsProcess.{FlatProcess, process_exact}
use Rattle.fitting.specs.Twin.{
  word,
  zeros,
  header_fits,
  Walk,
  flaw,
  well,
  cores_walk,
  meeting_fits,
  process_fits,
  processes_fit,
  channel_fits,
  channels_fit,
  rest_fits,
  table_fits,
}

-- a check that goes from number to number is a test of each
as_all : (check : ℕ → ℕ → Bool) (f : ℕ → Bool) → ((a : ℕ) → check a 0 ≡ true) → ((a n : ℕ) → check a (suc n) ≡ (f a && check (suc a) n))
    → (a n : ℕ) → check a n ≡ all f (from a n)
as_all check f none more a zero = none a
as_all check f none more a (suc n) = more a n ∙ ap (λ (b : Bool). f a && b) (as_all check f none more (suc a) n)

-- the check of all processes
processes_fit_is : (t : List ℕ) (K N M : ℕ) (met : List ℕ) (p n : ℕ) → processes_fit t K N M met p n ≡ all (λ p. process_fits t K N M p (get_or met p 0)) (from p n)
processes_fit_is t K N M met = as_all (processes_fit t K N M met) (λ p. process_fits t K N M p (get_or met p 0)) (λ a. refl) (λ a n. refl)

-- the check of all channels
channels_fit_is : (t : List ℕ) (K N c n : ℕ) → channels_fit t K N c n ≡ all (channel_fits t K N) (from c n)
channels_fit_is t K N = as_all (channels_fit t K N) (channel_fits t K N) (λ a. refl) (λ a n. refl)

-- what a header that fits says
pub record HeaderFits (t : List ℕ) : Type 0 where
  pub sizes : T (sizes (k_of t) (n_of t) (m_of t))
  pub length : length t ≡ room (k_of t) (n_of t) (m_of t)
  pub unused : (i : ℕ) → i < header_size - header_spare → word t (header_spare + i) ≡ 0

-- a header fits exactly where it says this
header_exact : (t : List ℕ) → T (header_fits t) ↔ HeaderFits t
header_exact t = (
  λ h. let u = four (leb header_size (length t)) (sizes (k_of t) (n_of t) (m_of t)) (eqb (length t) size) (unused_test) h in
      record { sizes = u.1; length = eqb→eq (length t) size u.2; unused = zeros_mean t header_spare (header_size - header_spare) u.3 },
  λ h. all_four (leb header_size (length t)) (sizes (k_of t) (n_of t) (m_of t)) (eqb (length t) size) (unused_test)
      (le→leb header_size (length t) (omega (arith, h.length))) h.sizes (equal_holds (length t) size h.length) (zeros_hold t header_spare (header_size - header_spare) h.unused),
)
  where
    size : ℕ
    size = room (k_of t) (n_of t) (m_of t)

    unused_test : Bool
    unused_test = zeros t header_spare (header_size - header_spare)

-- there are 1 to 256 processes
pub processes_limits : (t : List ℕ) → HeaderFits t → (1 ≤ n_of t) × (n_of t ≤ 256)
processes_limits t h =
    within_means 1 256 (n_of t) (three (within 1 8 (k_of t)) (within 1 256 (n_of t)) (within 0 256 (m_of t)) h.sizes).1

-- what a table that fits says
pub record Fitting (t : List ℕ) : Type 0 where
  pub header : HeaderFits t
  pub cores : (k : ℕ) → k < k_of t → CoreFits t k
  pub apart : Apart (n_of t) (λ q. 0) (λ q. total (standing q) (view t).cores)
  pub processes : (p : ℕ) → 1 ≤ p → p ≤ n_of t → FlatProcess t p
  pub meetings : (p : ℕ) → 1 ≤ p → p ≤ n_of t → T (meeting_fits t (k_of t) p (word_of_process t p process_place) (total (load p) (view t).cores))
  pub channels : (c : ℕ) → 1 ≤ c → c ≤ m_of t → T (valid_channel (wiring (view t)) (view_channel t c))

module _ (t : List ℕ) (words : (i : ℕ) → get_or t i 0 < 4294967296) (header : HeaderFits t) where
  -- what the walk over all cores finds, and what is met then
  abbrev CoresFit : Type 0
  CoresFit = ((k : ℕ) → 0 ≤ k → k < 0 + k_of t → CoreFits t k) × Apart (n_of t) (λ q. 0) (λ q. total (standing q) (view t).cores)

  abbrev CoresMet : List ℕ → Type 0
  CoresMet = Met (n_of t) (λ q. 0 + total (load q) (view t).cores)

  -- there are 1 to 256 processes
  limits : (1 ≤ n_of t) × (n_of t ≤ 256)
  limits = processes_limits t header

  -- nobody is met at first
  nobody_met : Met (n_of t) (λ q. 0) (replicate 257 0)
  nobody_met =
      record { room = omega (arith, limits, length-replicate {A = ℕ} 257 0); each = λ q l b. get_or-replicate 257 q 0 0 (omega (arith, limits)) }

  -- the walk over all cores is exact
  walk_exact : Exact CoresFit CoresMet (cores_walk t (k_of t) (n_of t) 0 (k_of t) (replicate 257 0))
  unfolding view
  walk_exact = cores_exact t limits.0 (k_of t) 0 (λ q. 0) (replicate 257 0) nobody_met

  -- the number of a process in what was met
  number : (met : List ℕ) → CoresMet met → (p : ℕ) → 1 ≤ p → p ≤ n_of t → get_or met p 0 ≡ total (load p) (view t).cores
  number met g p l b = g.each p l b ∙ zero-add (total (load p) (view t).cores)

  -- a channel fits exactly where it is valid
  channel_is : (c : ℕ) → valid_channel (wiring (view t)) (view_channel t c) ≡ channel_fits t (k_of t) (n_of t) c
  channel_is c = channel_fits_is t (wiring (view t)) (processes_of_view t) c (words _)

  -- the test of process p
  abbrev process_test : List ℕ → ℕ → Bool
  process_test met p = process_fits t (k_of t) (n_of t) (m_of t) p (get_or met p 0)

  -- what the rest of the check says, after a walk that is exact
  rest_means : (walk : Walk) → Exact CoresFit CoresMet walk → T (rest_fits t (k_of t) (n_of t) (m_of t) walk) → Fitting t
  rest_means flaw e h = absurd h
  rest_means (well met) e h =
      let u = both (processes_fit t (k_of t) (n_of t) (m_of t) met 1 (n_of t)) (channels_fit t (k_of t) (n_of t) 1 (m_of t)) h in
      let each = all_from (process_test met) 1 (n_of t) (rw processes_fit_is at u.0) in
      let part : (p : ℕ) (l : 1 ≤ p) (b : p ≤ n_of t) → FlatProcess t p × T (meeting_fits t (k_of t) p (word_of_process t p process_place) (get_or met p 0)) =
      λ p l b. (process_exact t p (get_or met p 0)).0 (each p l (omega arith)) in
      let channel = all_from (channel_fits t (k_of t) (n_of t)) 1 (m_of t) (rw channels_fit_is at u.1) in
      record {
        header = header;
        cores = λ k b. e.0.0 k (omega arith) (omega arith);
        apart = e.0.1;
        processes = λ p l b. (part p l b).0;
        meetings = λ p l b. rw (number met e.1 p l b) at (part p l b).1;
        channels = λ c l b. rw (channel_is c) (channel c l (omega arith));
      }

  -- and that it finds no flaw in a table that fits
  means_rest : (walk : Walk) → Exact CoresFit CoresMet walk → Fitting t → T (rest_fits t (k_of t) (n_of t) (m_of t) walk)
  means_rest flaw e h = absurd (e (λ k l b. h.cores k (omega arith), h.apart))
  means_rest (well met) e h =
      together (processes_fit t (k_of t) (n_of t) (m_of t) met 1 (n_of t)) (channels_fit t (k_of t) (n_of t) 1 (m_of t))
      (rw processes_fit_is (from_holds (process_test met) 1 (n_of t) (λ p l b. process p l (omega arith))))
      (rw channels_fit_is (from_holds (channel_fits t (k_of t) (n_of t)) 1 (m_of t) channel))
    where
      process : (p : ℕ) → 1 ≤ p → p ≤ n_of t → T (process_test met p)
      process p l b = (process_exact t p (get_or met p 0)).1 (h.processes p l b, rw (number met e.1 p l b) (h.meetings p l b))

      channel : (c : ℕ) → 1 ≤ c → c < 1 + m_of t → T (channel_fits t (k_of t) (n_of t) c)
      channel c l b = rw (channel_is c) at (h.channels c l (omega arith))

-- A table fits exactly where its parts do.
pub table_exact : (t : List ℕ) → ((i : ℕ) → get_or t i 0 < 4294967296) → T (table_fits t) ↔ Fitting t
unfolding table_fits
table_exact t words = cases (header_fits t) (header_exact t)
  where
    walk : Walk
    walk = cores_walk t (k_of t) (n_of t) 0 (k_of t) (replicate 257 0)

    cases : (b : Bool) → T b ↔ HeaderFits t → T (if b then rest_fits t (k_of t) (n_of t) (m_of t) walk else false) ↔ Fitting t
    cases true e = let h = e.0 tt in (rest_means t words h walk (walk_exact t words h), means_rest t words h walk (walk_exact t words h))
    cases false e = (λ h. absurd h, λ h. e.1 h.header)
