-- Where a process stands, and the moves between its places.
use Prim.Native.Nat.{ℕ, suc, ◌+◌, ◌≤◌, ◌<◌}
use native.Mathlib.Omega.{arith}
use mathlib.Core.Path.{◌≡◌, refl, ap}
use mathlib.Core.Bool.{true}
use mathlib.Core.List.{List, [], ◌∷◌, ◌++◌}
use lib.Dec.{T}
use Rattle.rules.specs.Lists.{all}
use Rattle.rules.specs.State.{Place, running, queued, asleep, ended, Process, Task, Work, runs, free, Core, State, Wiring}
use Rattle.rules.specs.Items.{core, put, no_core, core_of, process_of}
use Rattle.rules.specs.Steps.{with_work, with_active}
use Rattle.rules.specs.Soundness.{is_process, runs_it, on_cores, in_queues, stands, valid_work, not_empty, valid_core}
use Rattle.rules.proofs.Tests.{tests, and_means, leb_means, all_at, all_append}
use Rattle.rules.proofs.Sums.{total_append, counts_once, counts_not}
use Rattle.rules.proofs.Good.{Good}
use Rattle.rules.proofs.Validity.Reflect.{AllBut, Valid, good_of}
use Rattle.rules.proofs.Validity.Changes.{changed, Open, open_at, close, change, queued_in, Alike, cores_after, queues_after, set_core}

-- What `valid_core` asks.
pub record GoodCore (w : Wiring) (c : Core) : Type 0 where
  pub working : T (valid_work w c.work)
  pub dispatching : c.dispatch ≤ 32
  pub batches : T (all not_empty c.run_queue)
  pub active : T (all (is_process w) c.active)
  pub waiting : T (all (all (is_process w)) c.run_queue)

-- `valid_core` is the fact
good_core : (w : Wiring) (c : Core) → T (valid_core w c) → GoodCore w c
unfolding valid_core
good_core w c h =
    let h' = simp (and_means, leb_means) at h in
    record { working = h'.0.0.0; dispatching = h'.0.0.1; batches = h'.0.1; active = h'.1.0; waiting = h'.1.1 }

-- and the other way
pub good_core_tested : (w : Wiring) (c : Core) → GoodCore w c → T (valid_core w c)
unfolding valid_core
good_core_tested w c g = simp (and_means, leb_means) (((g.working, g.dispatching), g.batches), (g.active, g.waiting))

-- a core may have other work
pub good_work : {w : Wiring} {c : Core} (x : Work) → GoodCore w c → T (valid_work w x) → GoodCore w (with_work x c)
good_work x g its = record { working = its; dispatching = g.dispatching; batches = g.batches; active = g.active; waiting = g.waiting }

-- a process stands at most once, on a core or in a queue
pub stands_once : (x : Place) (here there : ℕ) → T (stands here there x) → here + there ≤ 1
stands_once running here there h = omega (arith, simp tests at h)
stands_once queued here there h = omega (arith, simp tests at h)
stands_once asleep here there h = omega (arith, simp tests at h)
stands_once ended here there h = omega (arith, simp tests at h)

-- who stands on a core is running
stands_running : (x : Place) (here there : ℕ) → T (stands here there x) → 1 ≤ here → x ≡ running
stands_running running here there h b = refl
stands_running queued here there h b = absurd (omega (arith, simp tests at h))
stands_running asleep here there h b = absurd (omega (arith, simp tests at h))
stands_running ended here there h b = absurd (omega (arith, simp tests at h))

module _ {w : Wiring} {s : State} where
  -- a core of the table is as it should be
  pub core_good : (p k : ℕ) → AllBut w p s → k < w.K → GoodCore w (core_of s k)
  core_good p k a b =
      good_core w (core_of s k) (all_at (valid_core w) s.cores no_core a.cores k (omega (arith, ap (λ (x : Wiring). x.K) a.wired)))

  -- a change of a process's record that keeps it as it should be
  pub amend : (p : ℕ) (f : Process → Process) → Valid w s → T (is_process w p)
      → ((here there : ℕ) → Good w p (process_of s p) here there → Good w p (f (process_of s p)) here there)
      → Valid w (changed p f s)
  amend p f v is keeps = close (change f (open_at p v is refl refl)) (keeps _ _ (good_of p v is))

  -- a core on which all stand as before
  pub same_standing : (k : ℕ) (c : Core) → Valid w s → k < w.K → GoodCore w c → ((q : ℕ) → Alike q c (core_of s k)) → Valid w (put core k c s)
  same_standing k c v b g alike = set_core k c v b (good_core_tested w c g) (λ q _. alike q)

module _ {w : Wiring} {p : ℕ} {r : Process} {here there : ℕ} {s : State} (k : ℕ) (o : Open w p r here there s) (on : k < w.K) where
  -- a core on which all but p stand as before, and p as the sums say
  moved : (c : Core) (here' there' : ℕ) → GoodCore w c → ((q : ℕ) → (q ≡ p → ⊥) → Alike q c (core_of s k))
      → here' + runs_it p (core_of s k).work ≡ here + runs_it p c.work → there' + queued_in p (core_of s k) ≡ there + queued_in p c
      → Open w p r here' there' (put core k c s)
  moved c here' there' g alike cores queues =
      record {
        rest = set_core k c o.rest on (good_core_tested w c g) alike;
        named = o.named;
        its_record = o.its_record;
        its_cores = omega (arith, cores_after k c o.rest on p, o.its_cores, cores);
        its_queues = omega (arith, queues_after k c o.rest on p, o.its_queues, queues);
      }

  -- p, which runs on core k, leaves it to a task
  pub leaves : (t : Task) → (core_of s k).work ≡ runs p → T (valid_work w (free t)) → here ≡ 1
      → Open w p r 0 there (put core k (with_work (free t) (core_of s k)) s)
  leaves t work task one =
      moved (with_work (free t) (core_of s k)) 0 there (good_work (free t) (core_good p k o.rest on) task)
      (λ q other. record { works = rw (work, counts_not p q other); queues = refl })
      (rw (work, counts_once p) (omega arith))
      refl

  -- p goes to the end of core k's active queue
  pub joined : there ≡ 0 → Open w p r here 1 (put core k (with_active ((core_of s k).active ++ (p ∷ [])) (core_of s k)) s)
  joined no_times =
      let g = core_good p k o.rest on in
      let longer = all_append (is_process w) (core_of s k).active (p ∷ []) g.active ((and_means (is_process w p) true).1 (o.named, tt)) in
      moved (with_active ((core_of s k).active ++ (p ∷ [])) (core_of s k)) here 1
      (record { working = g.working; dispatching = g.dispatching; batches = g.batches; active = longer; waiting = g.waiting })
      (λ q other. record { works = refl; queues = simp total_append (rw (counts_not p q other) (omega arith)) })
      refl
      (simp total_append (rw (counts_once p) (omega arith)))

  -- p, at the head of core k's active queue, is taken
  pub taken_off : (rest : List ℕ) (n : ℕ) (t : Task) → (core_of s k).work ≡ free t → (core_of s k).active ≡ p ∷ rest → (core_of s k).dispatch ≡ suc n
      → there ≡ 1 → here ≡ 0
      → Open w p r 1 0
      (put core k (record { work = runs p; active = rest; dispatch = n; mark = (core_of s k).mark; run_queue = (core_of s k).run_queue }) s)
  taken_off rest n t work active dispatch once nowhere =
      let g = core_good p k o.rest on in
      let shorter = ((and_means (is_process w p) (all (is_process w) rest)).0 (rw active at g.active)).1 in
      moved _ 1 0
      (record { working = o.named; dispatching = omega (arith, g.dispatching); batches = g.batches; active = shorter; waiting = g.waiting })
      (λ q other. record { works = rw (work, counts_not p q other); queues = rw (active, counts_not p q other) (omega arith) })
      (rw (work, counts_once p) (omega arith))
      (rw (active, counts_once p) (omega arith))

-- Process p runs on core k of a valid state.
pub record Runs (w : Wiring) (k p : ℕ) (s : State) : Type 0 where
  pub valid : Valid w s
  pub on : k < w.K
  pub named : T (is_process w p)
  pub work : (core_of s k).work ≡ runs p

module _ {w : Wiring} {k p : ℕ} {s : State} (h : Runs w k p s) where
  -- it is as it should be
  pub running_good : Good w p (process_of s p) (on_cores s p) (in_queues s p)
  running_good = good_of p h.valid h.named

  -- it stands on a core
  on_a_core : 1 ≤ on_cores s p
  on_a_core =
      let at_k : runs_it p (core_of s k).work ≡ 1 = rw (h.work, counts_once p) in
      omega (arith, cores_after k no_core h.valid h.on p, at_k)

  -- its place is that of a running process
  pub is_running : (process_of s p).place ≡ running
  is_running = stands_running (process_of s p).place (on_cores s p) (in_queues s p) running_good.standing on_a_core

  -- it runs nowhere else, and stands in no queue
  pub running_open : Open w p (process_of s p) 1 0 s
  running_open =
      let once = stands_once (process_of s p).place (on_cores s p) (in_queues s p) running_good.standing in
      open_at p h.valid h.named (omega (arith, once, on_a_core)) (omega (arith, once, on_a_core))

module _ {w : Wiring} {s : State} (k : ℕ) (v : Valid w s) (on : k < w.K) where
  -- what a core works on is of the table
  pub works_on : (x : Work) → (core_of s k).work ≡ x → T (valid_work w x)
  works_on x e = rw e at (core_good 0 k v on).working

  -- the process that it runs
  pub runs_there : (p : ℕ) → (core_of s k).work ≡ runs p → Runs w k p s
  runs_there p e = record { valid = v; on = on; named = works_on (runs p) e; work = e }
