-- What a write to one record of a state leaves valid.
use Prim.Native.Nat.{ℕ, ◌+◌, ◌<◌}
use native.Mathlib.Omega.{arith}
use native.Mathlib.Decide.{ℕ_discrete}
use mathlib.Core.Path.{◌≡◌, refl, sym, ap, subst, ◌∙◌}
use lib.Dec.{T}
use lib.ListN.{length, length-set}
use Rattle.rules.specs.Lists.{total, times}
use Rattle.rules.specs.State.{Place, Progress, Process, Core, queues_of, Channel, State, Wiring}
use Rattle.rules.specs.Items.{
  processes,
  channels,
  no_core,
  no_process,
  no_channel,
  core_of,
  process_of,
  channel_of,
  with_record,
  core,
  place,
  progress,
  with_field,
  put,
}
use Rattle.rules.specs.Soundness.{is_process, valid_progress, fits, runs_it, on_cores, in_queues, stands, valid_core, valid_channel}
use Rattle.rules.proofs.Tests.{within_means, all_set}
use Rattle.rules.proofs.Nth.{length_set_nth, nth_set_same, nth_set_other, map_set_nth, all_set_nth}
use Rattle.rules.proofs.Sums.{total_set}
use Rattle.rules.proofs.Good.{Good}
use Rattle.rules.proofs.Validity.Reflect.{AllBut, Valid, good_of}

-- the state with the record of process p changed by f
abbrev pub changed : ℕ → (Process → Process) → State → State
changed p f s = with_record processes p (f (process_of s p)) s

-- A process that is as it should be is so at another place and with another progress, if these fit and it stands so.
pub refit : {w : Wiring} {p : ℕ} {r : Process} {here there here' there' : ℕ} → Good w p r here there → (x : Place) (y : Progress)
    → T (valid_progress w p y) → T (fits x y) → T (stands here' there' x) → Good w p (with_field place x (with_field progress y r)) here' there'
refit g x y its fit stood = record { word = g.word; count = g.count; in_hand = its; fitting = fit; standing = stood }

-- All is valid but perhaps process p, which has the record r, runs on `here` cores and stands `there` times in a queue.
pub record Open (w : Wiring) (p : ℕ) (r : Process) (here there : ℕ) (s : State) : Type 0 where
  pub rest : AllBut w p s
  pub named : T (is_process w p)
  pub its_record : process_of s p ≡ r
  pub its_cores : on_cores s p ≡ here
  pub its_queues : in_queues s p ≡ there

-- a valid state, with p in view
pub open_at : {w : Wiring} {s : State} (p : ℕ) {here there : ℕ} → Valid w s → T (is_process w p) → on_cores s p ≡ here → in_queues s p ≡ there
    → Open w p (process_of s p) here there s
open_at p v is cores queues =
    record {
      rest = record { wired = v.wired; sized = v.sized; cores = v.cores; others = λ q its _. good_of q v its; channels = v.channels };
      named = is;
      its_record = refl;
      its_cores = cores;
      its_queues = queues;
    }

module _ {w : Wiring} {p : ℕ} {r : Process} {here there : ℕ} {s : State} where
  -- with p as it should be, the state is valid
  pub close : Open w p r here there s → Good w p r here there → Valid w s
  close o g =
      let a = o.rest in
      record { wired = a.wired; sized = a.sized; cores = a.cores; others = λ q is _. go q is (ℕ_discrete q p); channels = a.channels }
    where
      its_own : Good w p (process_of s p) (on_cores s p) (in_queues s p)
      its_own = rw (o.its_record, o.its_cores, o.its_queues) g

      go : (q : ℕ) → T (is_process w q) → Dec (q ≡ p) → Good w q (process_of s q) (on_cores s q) (in_queues s q)
      go q is (yes e) = subst (λ (x : ℕ). Good w x (process_of s x) (on_cores s x) (in_queues s x)) (sym e) its_own
      go q is (no other) = o.rest.others q is other

  -- a change of p's record leaves all else as it was
  pub change : (f : Process → Process) → Open w p r here there s → Open w p (f r) here there (changed p f s)
  unfolding on_cores in_queues
  change f o =
      let a = o.rest in
      let (low, high) = within_means 1 w.N p o.named in
      let all : length s.processes ≡ w.N = ap (λ (x : Wiring). x.N) a.wired in
      record {
        rest =
            record {
              wired = rw length_set_nth a.wired;
              sized = a.sized;
              cores = a.cores;
              others = λ q is other. rw (nth_set_other s.processes p q (f (process_of s p)) no_process other) (a.others q is other);
              channels = a.channels;
            };
        named = o.named;
        its_record = nth_set_same s.processes p (f (process_of s p)) no_process low (omega arith) ∙ ap f o.its_record;
        its_cores = o.its_cores;
        its_queues = o.its_queues;
      }

-- how often q stands in the queues of a core
abbrev pub queued_in : ℕ → Core → ℕ
queued_in q c = total (times q) (queues_of c)

-- q stands on the core as it does on the other
pub record Alike (q : ℕ) (c d : Core) : Type 0 where
  pub works : runs_it q c.work ≡ runs_it q d.work
  pub queues : queued_in q c ≡ queued_in q d

module _ {w : Wiring} {p : ℕ} {s : State} (k : ℕ) (c : Core) (a : AllBut w p s) (there_is : k < w.K) where
  -- there is such a core
  inside : k < length s.cores
  inside = omega (arith, ap (λ (x : Wiring). x.K) a.wired)

  -- the sums over the cores differ as the cores do
  pub cores_after : (q : ℕ) → on_cores (put core k c s) q + runs_it q (core_of s k).work ≡ on_cores s q + runs_it q c.work
  unfolding on_cores
  cores_after q = total_set (λ (x : Core). runs_it q x.work) s.cores k c no_core inside

  -- and those over their queues
  pub queues_after : (q : ℕ) → in_queues (put core k c s) q + queued_in q (core_of s k) ≡ in_queues s q + queued_in q c
  unfolding in_queues
  queues_after q = total_set (queued_in q) s.cores k c no_core inside

  -- a core on which all but p stand as before leaves all but p as they should be
  pub set_core : T (valid_core w c) → ((q : ℕ) → (q ≡ p → ⊥) → Alike q c (core_of s k)) → AllBut w p (put core k c s)
  set_core good_core alike =
      record {
        wired = rw length-set a.wired;
        sized = a.sized;
        cores = all_set (valid_core w) s.cores k c a.cores good_core;
        others =
            λ q is other.
            let same = alike q other in
            let same_cores : on_cores (put core k c s) q ≡ on_cores s q = omega (arith, cores_after q, same.works) in
            let same_queues : in_queues (put core k c s) q ≡ in_queues s q = omega (arith, queues_after q, same.queues) in
            rw (same_cores, same_queues) (a.others q is other);
        channels = a.channels;
      }

module _ {w : Wiring} {s : State} (c : ℕ) (d : Channel) (v : Valid w s) where
  -- a channel with the same ends leaves a valid state valid
  pub set_channel : T (valid_channel w d) → d.ends ≡ (channel_of s c).ends
      → Valid w (with_record channels c d s)
  unfolding on_cores in_queues
  set_channel good_channel same_ends =
      record {
        wired = rw (map_set_nth (λ (x : Channel). x.ends) s.channels c d no_channel same_ends) v.wired;
        sized = v.sized;
        cores = v.cores;
        others = v.others;
        channels = all_set_nth (valid_channel w) s.channels c d v.channels good_channel;
      }
