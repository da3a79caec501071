-- "only copy counts": no other call changes the transfers of a channel, and copy adds one to them.
use Prim.Native.Nat.{ℕ, zero, suc, ◌+◌, ◌%◌, ◌<◌}
use mathlib.Core.Path.{◌≡◌, refl, sym, subst⁻¹}
use mathlib.Core.Bool.{Bool, true, false, ◌&&◌}
use mathlib.Core.List.{List, [], ◌∷◌, ◌++◌, map, flat_map}
use mathlib.Core.Logic.{◌⊎◌, inl, inr}
use native.Mathlib.Omega.{arith}
use lib.Dec.{T, ltb}
use lib.ListN.{length, get_or-eq_default}
use borrow.Author.Tests.{lt-ltb, ltb-true, ltb-false}
use Rattle.rules.specs.Numbers.{Answer, well_lent}
use Rattle.rules.specs.State.{
  Way,
  sending,
  receiving,
  Stage,
  look,
  park,
  copy,
  clear,
  wake,
  enable_look,
  raise,
  place_name,
  ready_from_look,
  ready_from_place,
  wait,
  disable,
  lower,
  finish,
  Progress,
  nothing,
  doing,
  due,
  no_task,
  trigger,
  wake_up,
  Work,
  runs,
  free,
  Core,
  queues_of,
  State,
  wiring,
}
use Rattle.rules.specs.Items.{channels, Kind, place, data_word, progress, transfers, Kind_discrete, Item, core_of, get, put, no_core}
use Rattle.rules.specs.Rule.{Rule, Ran, accepted, refused, run}
use Rattle.rules.specs.Steps.{copy_step}
use Rattle.rules.specs.CoreStep.{running_step, work_step}
use Rattle.rules.specs.Requests.{Request, send, receive, choose, yield, end, request}
use Rattle.rules.specs.Packing.{view}
use Rattle.rules.specs.Soundness.{own_end, is_process, valid, sound}
use Rattle.rules.specs.Calls.{Ask, the_step, a_request, rule_of, outcome_of}
use Rattle.rules.specs.Touched.{record_and_running, queue_places, stage_items, take_items, progress_items, work_items, request_items, accepted_items, ask_items}
use Rattle.rules.specs.Claims.{sends_word, Copying, OnlyCopyCounts, Call, perform}
use Rattle.rules.proofs.Tests.{both, within_means}
use Rattle.rules.proofs.Packing.Reflect.{valid_means}
use Rattle.rules.proofs.Packing.Means.{view_of_pack}
use Rattle.rules.proofs.Laws.Items.{there, put_own}
use Rattle.rules.proofs.Laws.Frame.{run_keeps}
use Rattle.rules.proofs.Laws.Within.{All, rule_within}
use Rattle.rules.proofs.Laws.Whole.{whole, whole_by, holds, Packs, sound_packs, on_packing}
use Rattle.rules.proofs.Laws.StaysSound.{leaves_packing}

-- From the rule to the table

-- the transfers of channel c are n once a rule has run from s; a refusal leaves s
abbrev Has : State → ℕ → ℕ → Ran Answer → Type 0
Has s c n (accepted a s') = get transfers s' c ≡ n
Has s c n (refused why) = get transfers s c ≡ n

-- so they are in the table that a call leaves
table_has : (d : Call) (c n : ℕ) (t : List ℕ) → T (sends_word d.ask) → T (sound t)
    → Has (view t) c n (run (whole true d (wiring (view t))) (view t)) → get transfers (view (perform d t).table) c ≡ n
table_has d c n t small h = rw (on_packing d own refl) (go (run (whole true d (wiring (view t))) (view t)) refl)
  where
    own : Packs t (view t)
    own = sound_packs t h

    go : (x : Ran Answer) → run (whole true d (wiring (view t))) (view t) ≡ x → Has (view t) c n x
        → get transfers (view (outcome_of t d.answer x).table) c ≡ n
    go (accepted a s') e has = rw (view_of_pack s' (leaves_packing d small own e).good) has
    go (refused why) e has = has

-- Calls that don't copy

module _ (s : State) (k : ℕ) (ask : Ask) where
  -- any item but the transfers of a channel on which the call doesn't copy
  abbrev Allowed : Kind → ℕ → Type 0
  Allowed kind n = elim (Kind_discrete kind transfers) [ yes same ↦ Copying s k ask n | no other ↦ Unit {0} ]

  -- where every item of two lists is allowed, every item of both together is
  all_joined : (l m : List Item) → All Allowed l → All Allowed m → All Allowed (l ++ m)
  all_joined [] m h g = g
  all_joined (x ∷ l) m h g = (h.0, all_joined l m h.1 g)

  -- the places of a list of processes
  all_places : (l : List ℕ) → All Allowed (map (λ p. record { kind = place; number = p }) l)
  all_places [] = tt
  all_places (p ∷ l) = (tt, all_places l)

  -- the places of the processes in a core's queues, before other items
  with_places : (c : Core) (l : List Item) → All Allowed l → All Allowed (queue_places c ++ l)
  unfolding flat_map
  with_places c l h = all_joined (queue_places c) l (each (queues_of c)) h
    where
      each : (queues : List (List ℕ)) → All Allowed (flat_map (map (λ p. record { kind = place; number = p })) queues)
      each [] = tt
      each (q ∷ queues) = all_joined (map _ q) (flat_map _ queues) (all_places q) (each queues)

  -- the record and the running process of a core
  all_running : (w : Work) → All Allowed (record_and_running k w)
  all_running (runs p) = (tt, (tt, (tt, (tt, tt))))
  all_running (free t) = (tt, tt)

  -- the process that a core takes
  all_taken : (n : ℕ) (l : List ℕ) → All Allowed (take_items n l)
  all_taken zero l = tt
  all_taken (suc n) [] = tt
  all_taken (suc n) (p ∷ l) = (tt, (tt, tt))

  -- what a request touches besides
  all_request : (r : Request) (w : Work) → All Allowed (request_items r w)
  all_request (send c v) w = tt
  all_request (receive c) w = tt
  all_request (choose gs) (runs p) = (tt, tt)
  all_request (choose gs) (free t) = tt
  all_request yield w = tt
  all_request end w = tt

  -- what a step touches besides, by the stage and the progress of the running process, and by the core's work
  module _ (steps : ask ≡ the_step) where
    all_stage : (p : ℕ) → (core_of s k).work ≡ runs p → (x : Stage) → get progress s p ≡ doing x → All Allowed (stage_items p x)
    all_stage p on (look way c) e = (tt, tt)
    all_stage p on (park way c) e = (tt, tt)
    all_stage p on (copy way c q) e = (record { process = p; partner = q; way = way; steps = steps; running = on; at_copy = e }, (tt, tt))
    all_stage p on (clear way c q) e = (tt, tt)
    all_stage p on (wake way c q) e = (tt, tt)
    all_stage p on (enable_look gs i) e = (tt, tt)
    all_stage p on (raise gs i) e = (tt, tt)
    all_stage p on (place_name gs i) e = (tt, tt)
    all_stage p on (ready_from_look gs i) e = (tt, tt)
    all_stage p on (ready_from_place gs i) e = (tt, tt)
    all_stage p on (wait gs) e = (tt, tt)
    all_stage p on (disable gs i r) e = (tt, tt)
    all_stage p on (lower gs i r) e = (tt, tt)
    all_stage p on (finish gs r) e = (tt, tt)

    all_progress : (p : ℕ) → (core_of s k).work ≡ runs p → (x : Progress) → get progress s p ≡ x → All Allowed (progress_items (core_of s k) p x)
    all_progress p on nothing e = tt
    all_progress p on (doing x) e = with_places (core_of s k) (stage_items p x) (all_stage p on x e)
    all_progress p on (due o) e = tt

    all_work : (w : Work) → (core_of s k).work ≡ w → All Allowed (work_items s (core_of s k) w)
    all_work (runs p) on = all_progress p on (get progress s p) refl
    all_work (free no_task) on = let c = core_of s k in with_places c (take_items c.dispatch c.active) (all_taken c.dispatch c.active)
    all_work (free (trigger q)) on = with_places (core_of s k) (_ ∷ []) (tt, tt)
    all_work (free (wake_up q)) on = with_places (core_of s k) (_ ∷ []) (tt, tt)

  -- what a call touches besides
  all_asked : (x : Ask) → ask ≡ x → All Allowed (ask_items s k (core_of s k) x)
  all_asked the_step e = all_work e (core_of s k).work refl
  all_asked (a_request r) e = by_outcome (run (request (wiring s) r k) s)
    where
      by_outcome : (ran : Ran Answer) → All Allowed (accepted_items (core_of s k) r ran)
      by_outcome (accepted a s') = let c = core_of s k in with_places c (request_items r c.work) (all_request r c.work)
      by_outcome (refused why) = tt

  -- so a call's own rule leaves the transfers of a channel on which it doesn't copy
  kept : (c : ℕ) → (Copying s k ask c → ⊥) → Has s c (get transfers s c) (run (rule_of (wiring s) ask k) s)
  kept c not = go (run rule s) refl
    where
      rule : Rule Answer
      rule = rule_of (wiring s) ask k

      untouched : (s' : State) → Allowed transfers c ⊎ (get transfers s c ≡ get transfers s' c) → get transfers s' c ≡ get transfers s c
      untouched s' (inl copies) = absurd (not copies)
      untouched s' (inr e) = sym e

      go : (ran : Ran Answer) → run rule s ≡ ran → Has s c (get transfers s c) ran
      go (accepted a s') e =
          let inside = rule_within Allowed s k ask (all_running (core_of s k).work) (all_asked ask refl) in
          untouched s' (run_keeps Allowed rule s s' a inside e transfers c)
      go (refused why) e = refl

-- Copying

-- the transfers of a channel and one more
abbrev one_more : State → ℕ → ℕ
one_more s c = (get transfers s c + 1) % 4294967296

-- a copy on a channel that is there adds one
copy_counts : (s : State) (p : ℕ) (way : Way) (c q : ℕ) → there (wiring s) channels c ≡ true
    → Has s c (one_more s c) (run (copy_step p way c q) s)
copy_counts s p sending c q h = put_own transfers c _ (put data_word q (get data_word s p) s) h
copy_counts s p receiving c q h = put_own transfers c _ (put data_word p (get data_word s q) s) h

-- a core that runs a process is there
core_there : (s : State) (k p : ℕ) → (core_of s k).work ≡ runs p → k < length s.cores
core_there s k p on = go (ltb k (length s.cores)) refl
  where
    go : (b : Bool) → ltb k (length s.cores) ≡ b → k < length s.cores
    go true e = ltb-true k (length s.cores) e
    go false e =
        let none_there : core_of s k ≡ no_core = get_or-eq_default s.cores no_core (ltb-false k (length s.cores) e) in
        let z : ◌≡◌ {A = ℕ} 0 1 = cc in
        absurd (omega arith)

-- and the channel on which it copies is too, in a valid state
channel_there : (s : State) (k : ℕ) (ask : Ask) (c : ℕ) → T (valid s) → Copying s k ask c → there (wiring s) channels c ≡ true
channel_there s k ask c good x =
    let w = wiring s in
    let v = valid_means s good in
    let p = x.process in
    let named : T (is_process w p) = rw x.running at (v.cores k (core_there s k p x.running)).work in
    let (low, high) = within_means 1 w.N p named in
    let own : T (own_end w x.way p c && is_process w x.partner) = rw x.at_copy at (v.processes p low high).in_hand in
    holds _ (both (there w channels c) _ (both (own_end w x.way p c) _ own).0).0

-- so the call's own rule adds one
step_counts : (s : State) (k : ℕ) (ask : Ask) (c : ℕ) → T (valid s) → Copying s k ask c
    → Has s c (one_more s c) (run (rule_of (wiring s) ask k) s)
step_counts s k ask c good x =
    rw x.steps
    (subst⁻¹ (λ w. Has s c (one_more s c) (run (work_step k (core_of s k) w) s)) x.running
    (subst⁻¹ (λ y. Has s c (one_more s c) (run (running_step k x.process y) s)) x.at_copy
    (copy_counts s x.process x.way c x.partner (channel_there s k ask c good x))))

-- Only copy counts.
pub only_copy_counts : OnlyCopyCounts
only_copy_counts = record {
  unless_copying =
      λ t answer k ask c small h not.
      let d : Call = record { core = k; ask = ask; answer = answer } in
      let s = view t in
      table_has d c _ t small h
      (whole_by d (wiring s) (λ r. Has s c (get transfers s c) (run r s)) (λ why. refl) (λ there. kept s k ask c not));
  copying = λ t answer k ask c h long x.
      let d : Call = record { core = k; ask = ask; answer = answer } in
      let s = view t in
      let here = core_there s k x.process x.running in
      table_has d c _ t (rw x.steps tt) h
      (rw (holds (well_lent answer) long, lt-ltb k (length s.cores) here) (step_counts s k ask c (sound_packs t h).good x));
}
