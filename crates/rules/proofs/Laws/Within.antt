-- Each rule keeps to the items that `touched` lists for its call: no rule reads or writes another, in any state.
use Rattle.std.specs.Prelude.{if◌then◌else◌}
use Prim.Native.Nat.{ℕ, zero, suc, ◌<◌}
use mathlib.Core.Path.{◌≡◌, refl}
use mathlib.Core.Bool.{Bool, true, false}
use mathlib.Core.List.{List, [], ◌∷◌, ◌++◌, map, flat_map, Memᴰ}
use mathlib.Core.Option.{Option, none, some}
use lib.Dec.{eqb}
use lib.ListN.{length}
use borrow.Author.Tests.{lt-ltb}
use Rattle.rules.specs.Lists.{within, member}
use Rattle.rules.specs.Numbers.{Answer, Refusal, TWICE, GUARDS}
use Rattle.rules.specs.State.{
  Place,
  running,
  queued,
  asleep,
  ended,
  Way,
  sending,
  receiving,
  Stage,
  look,
  park,
  copy,
  clear,
  wake,
  enable_look,
  raise,
  place_name,
  ready_from_look,
  ready_from_place,
  wait,
  disable,
  lower,
  finish,
  Outcome,
  go,
  sent,
  got,
  chose,
  Progress,
  nothing,
  doing,
  due,
  no_task,
  trigger,
  wake_up,
  Alternation,
  Work,
  runs,
  free,
  Core,
  ChannelWord,
  nobody,
  plain,
  choosing,
  State,
  Wiring,
  wiring,
}
use Rattle.rules.specs.Items.{Kind, core, place, data_word, alternation, progress, channel_word, Item, get, put, core_of}
use Rattle.rules.specs.Rule.{Rule, done, refuse, read, write, Ran, run, go_on, ◌>>=◌, ◌>>◌}
use Rattle.rules.specs.Steps.{must_sleep, wakes, parked, copies, reports, with_work}
use Rattle.rules.specs.Choice.{guard, lowered, raised, name_placed, waits, disabled, first_ready, finished}
use Rattle.rules.specs.CoreStep.{stage_step, running_step, work_step}
use Rattle.rules.specs.Scheduler.{taken, schedule}
use Rattle.rules.specs.Requests.{Request, send, receive, choose, yield, end, unless, nothing_in_hand, requester, proper_end, proper_guards, asks}
use Rattle.rules.specs.Calls.{Ask, the_step, a_request, rule_of}
use Rattle.rules.specs.Touched.{
  record_and_running,
  queue_places,
  stage_items,
  take_items,
  progress_items,
  work_items,
  accepted_items,
  ask_items,
  touched,
}
use Rattle.rules.proofs.Laws.Frame.{Within}

-- every item of the list is in P
abbrev pub All : (Kind → ℕ → Type 0) → List Item → Type 0
All P [] = Unit {0}
All P (x ∷ l) = P x.kind x.number × All P l

-- what a request is checked for: a check touches nothing, and lets the rule go on or refuses it
data Check : Rule (Unit {0}) → Type 0 where
  passes : Check go_on
  fails : (why : Refusal) → Check (refuse why)

-- a test is a check
check_unless : (b : Bool) (why : Refusal) → Check (unless b why)
check_unless true why = passes
check_unless false why = fails why

-- one check after another is a check
check_then : {r q : Rule (Unit {0})} → Check r → Check q → Check (r >> q)
check_then passes h = h
check_then (fails why) h = fails why

-- so is the check that p is at its end of channel c
check_end : (w : Wiring) (way : Way) (p c : ℕ) → Check (proper_end w way p c)
check_end w way p c = search (check_then, check_unless)

-- and the check of a list of guards
check_guards : (w : Wiring) (p : ℕ) (earlier gs : List ℕ) → Check (proper_guards w p earlier gs)
check_guards w p earlier [] = passes
check_guards w p earlier (c ∷ rest) =
    check_then (check_end w receiving p c)
    (check_then (check_unless (if member c earlier then false else true) TWICE) (check_guards w p (c ∷ earlier) rest))

module _ (P : Kind → ℕ → Type 0) where
  -- where every item of two lists is in P, every item of each is
  all_parts : (l m : List Item) → All P (l ++ m) → All P l × All P m
  all_parts [] m h = (tt, h)
  all_parts (x ∷ l) m h = let parts = all_parts l m h.1 in ((h.0, parts.0), parts.1)

  -- one rule, then another that keeps to P wherever it starts
  within_then : {A B : Type 0} (r : Rule A) (f : A → Rule B) (s : State)
      → Within P r s → ((a : A) (t : State) → Within P (f a) t) → Within P (r >>= f) s
  within_then (done a) f s h g = g a s
  within_then (refuse w) f s h g = tt
  within_then (read k n q) f s h g = (h.0, within_then (q (get k s n)) f s h.1 g)
  within_then (write k n v r) f s h g = (h.0, within_then r f (put k n v s) h.1 g)

  -- a test keeps to P if what it chooses between does
  within_if : {A : Type 0} (b : Bool) (r q : Rule A) (s : State) → Within P r s → Within P q s → Within P (if b then r else q) s
  within_if true r q s h g = h
  within_if false r q s h g = g

  -- lowering a count touches nothing
  lowered_within : (n : ℕ) (s : State) → Within P (lowered n) s
  lowered_within zero s = tt
  lowered_within (suc n) s = tt

  -- raising a count touches nothing
  raised_within : (n : ℕ) (s : State) → Within P (raised n) s
  raised_within n s = within_if (eqb n 9) _ _ s tt tt

  -- that a process must be asleep touches nothing
  must_sleep_within : (was : Place) (s : State) → Within P (must_sleep was) s
  must_sleep_within running s = tt
  must_sleep_within queued s = tt
  must_sleep_within asleep s = tt
  must_sleep_within ended s = tt

  -- that a guard must be ready touches nothing
  first_ready_within : (gs : List ℕ) (r : Option ℕ) (s : State) → Within P (first_ready gs r) s
  first_ready_within gs none s = tt
  first_ready_within gs (some i) s = tt

  -- waking q by core k touches the core and q's place
  wakes_within : (k q : ℕ) (s : State) → P core k → P place q → Within P (wakes k q) s
  wakes_within k q s h g = (g, within_then (must_sleep (get place s q)) _ s (must_sleep_within (get place s q) s) (λ a t. search))

  -- answering an outcome touches the process's progress and data
  reports_within : (p : ℕ) (o : Outcome) (s : State) → P progress p → P data_word p → Within P (reports p o) s
  reports_within p go s h g = search
  reports_within p (sent c) s h g = search
  reports_within p (got c) s h g = search
  reports_within p (chose c) s h g = search

  -- A running process: its core, progress, data and place are in P.
  module _ (k p : ℕ) (own : All P (record_and_running k (runs p))) where
    -- parking, by the old word
    parked_within : (w : Way) (c : ℕ) (old : ChannelWord) (s : State) → Within P (parked k p w c old) s
    parked_within w c nobody s = search
    parked_within w c (plain q) s = search
    parked_within w c (choosing q) s = search

    -- copying to or from q
    copies_within : (w : Way) (q : ℕ) (s : State) → P data_word q → Within P (copies w p q) s
    copies_within sending q s h = search
    copies_within receiving q s h = search

    -- placing one's name in a guard, by its word
    placed_within : (gs : List ℕ) (i : ℕ) (word : ChannelWord) (s : State) → P channel_word (guard gs i) → Within P (name_placed p gs i word) s
    placed_within gs i nobody s h = search
    placed_within gs i (plain q) s h = search
    placed_within gs i (choosing q) s h = search

    -- disabling a guard, by its word
    disabled_within : (gs : List ℕ) (i : ℕ) (r : Option ℕ) (word : ChannelWord) (s : State) → P channel_word (guard gs i)
        → Within P (disabled p gs i r word) s
    disabled_within gs i r nobody s h = search
    disabled_within gs i r (plain q) s h = search
    disabled_within gs i r (choosing q) s h = search within_if

    -- waiting, or going on where a guard is ready
    waits_within : (gs : List ℕ) (a : Alternation) (not_ready : Bool) (s : State) → P alternation p → Within P (waits k p gs a not_ready) s
    waits_within gs a true s h = search
    waits_within gs a false s h = search

    -- choosing c, by the count
    finished_within : (c n : ℕ) (s : State) → Within P (finished k p c n) s
    finished_within c zero s = search
    finished_within c (suc n) s = search

    -- each stage of a request touches the running process and what is listed for the stage
    stage_within : (x : Stage) (s : State) → All P (stage_items p x) → Within P (stage_step k p x) s
    stage_within (look w c) s h = search
    stage_within (park w c) s h = search parked_within
    stage_within (copy w c q) s h = search (within_then, copies_within)
    stage_within (clear w c q) s h = search
    stage_within (wake w c q) s h = search (within_then, wakes_within, reports_within)
    stage_within (enable_look gs i) s h = search
    stage_within (raise gs i) s h = search (within_then, raised_within)
    stage_within (place_name gs i) s h = search placed_within
    stage_within (ready_from_look gs i) s h = search
    stage_within (ready_from_place gs i) s h = search (within_then, lowered_within)
    stage_within (wait gs) s h = search waits_within
    stage_within (disable gs i r) s h = search disabled_within
    stage_within (lower gs i r) s h = search (within_then, lowered_within)
    stage_within (finish gs r) s h = search (within_then, first_ready_within, lowered_within, finished_within)

    -- a step of the running process, by its progress
    running_within : (c : Core) (has : Progress) (s : State) → All P (progress_items c p has) → Within P (running_step k p has) s
    running_within c nothing s h = tt
    running_within c (doing x) s h = stage_within x s (all_parts (queue_places c) (stage_items p x) h).1
    running_within c (due o) s h = tt

  -- what a taken process answers, by its progress
  taken_within : (p : ℕ) (had : Progress) (s : State) → P progress p → P data_word p → Within P (taken p had) s
  taken_within p nothing s h g = tt
  taken_within p (doing x) s h g = tt
  taken_within p (due o) s h g = reports_within p o s h g

  -- a core with nothing to run takes, stores, loads or idles
  schedule_within : (k : ℕ) (c : Core) (n : ℕ) (active : List ℕ) (batches : List (List ℕ)) (s : State) → P core k
      → All P (flat_map (map (λ p. record { kind = place; number = p })) (active ∷ batches)) → All P (take_items n active)
      → Within P (schedule k c n active batches) s
  unfolding flat_map
  schedule_within k c (suc n) (p ∷ rest) batches s own waiting h = search taken_within
  schedule_within k c zero (p ∷ rest) batches s own waiting h = search
  schedule_within k c n [] (batch ∷ rest) s own waiting h = search
  schedule_within k c n [] [] s own waiting h = tt

  -- the step of a core, by its work
  work_within : (k : ℕ) (c : Core) (w : Work) (s : State) → All P (record_and_running k w) → All P (work_items s c w) → Within P (work_step k c w) s
  work_within k c (runs p) s own h = search running_within
  work_within k c (free no_task) s own h =
      let parts = all_parts (queue_places c) (take_items c.dispatch c.active) h in
      schedule_within k c c.dispatch c.active c.run_queue s own.0 parts.0 parts.1
  work_within k c (free (trigger q)) s own h = let parts = all_parts (queue_places c) (_ ∷ []) h in search (within_then, lowered_within)
  work_within k c (free (wake_up q)) s own h = let parts = all_parts (queue_places c) (_ ∷ []) h in search (within_then, wakes_within)

  -- a check, then a rule that keeps to P if what Q says of its outcome holds
  within_checked : {A : Type 0} {r : Rule (Unit {0})} (Q : Ran A → Type 0) (q : Rule A) (s : State)
      → Check r → (Q (run q s) → Within P q s) → Q (run (r >> q) s) → Within P (r >> q) s
  within_checked Q q s passes f h = f h
  within_checked Q q s (fails why) f h = tt

  -- what is listed for a request that process p makes on a core that is otherwise c, by what it comes to
  abbrev Listed : Core → ℕ → Request → Ran Answer → Type 0
  Listed c p r ran = All P (accepted_items (with_work (runs p) c) r ran)

  -- each request of a process with nothing in hand
  asks_within : (w : Wiring) (k p : ℕ) (c : Core) (r : Request) (s : State)
      → All P (record_and_running k (runs p)) → Listed c p r (run (asks w k p r) s) → Within P (asks w k p r) s
  asks_within w k p c (send d v) s own h = within_checked (Listed c p (send d v)) _ s (check_end w sending p d) (λ g. search) h
  asks_within w k p c (receive d) s own h = within_checked (Listed c p (receive d)) _ s (check_end w receiving p d) (λ g. search) h
  asks_within w k p c (choose gs) s own h =
      within_checked (Listed c p (choose gs)) _ s (check_unless (within 1 8 (length gs)) GUARDS)
      (within_checked (Listed c p (choose gs)) _ s (check_guards w p [] gs) (λ g. let parts = all_parts (queue_places c) (_ ∷ []) g in search)) h
  asks_within w k p c yield s own h = search
  asks_within w k p c end s own h = search

  -- a request, by the progress of the running process
  nothing_in_hand_within : (w : Wiring) (k p : ℕ) (c : Core) (r : Request) (has : Progress) (s : State)
      → All P (record_and_running k (runs p)) → Listed c p r (run (nothing_in_hand p has >>= λ q. asks w k q r) s)
      → Within P (nothing_in_hand p has >>= λ q. asks w k q r) s
  nothing_in_hand_within w k p c r nothing s own h = asks_within w k p c r s own h
  nothing_in_hand_within w k p c r (doing x) s own h = tt
  nothing_in_hand_within w k p c r (due o) s own h = tt

  -- a request, by the work of the core
  requester_within : (w : Wiring) (k : ℕ) (c : Core) (r : Request) (work : Work) (s : State)
      → All P (record_and_running k work) → All P (accepted_items (with_work work c) r (run (requester work >>= λ q. asks w k q r) s))
      → Within P (requester work >>= λ q. asks w k q r) s
  requester_within w k c r (runs p) s own h = (own.1.0, nothing_in_hand_within w k p c r (get progress s p) s own h)
  requester_within w k c r (free t) s own h = tt

  -- the core's record is listed whatever the core's work
  own_core : (k : ℕ) (w : Work) → All P (record_and_running k w) → P core k
  own_core k (runs p) own = own.0
  own_core k (free t) own = own.0

  -- a call keeps to P if P has its core's record, its running process and what is listed for what it asks
  pub rule_within : (s : State) (k : ℕ) (ask : Ask) → All P (record_and_running k (core_of s k).work) → All P (ask_items s k (core_of s k) ask)
      → Within P (rule_of (wiring s) ask k) s
  rule_within s k the_step own h = let c = core_of s k in (own_core k c.work own, work_within k c c.work s own h)
  rule_within s k (a_request r) own h =
      let c = core_of s k in (own_core k c.work own, requester_within (wiring s) k c r c.work s own h)

-- where the members of a list are in P, every item of the list is
all_members : (l : List Item) (P : Kind → ℕ → Type 0) → ((x : Item) → Memᴰ x l → P x.kind x.number) → All P l
all_members [] P f = tt
all_members (x ∷ l) P f = (f x (Memᴰ.head refl), all_members l P (λ y m. f y (Memᴰ.tail m)))

-- the items that a call touches
abbrev pub IsTouched : State → ℕ → Ask → Kind → ℕ → Type 0
IsTouched s k ask kind n = Memᴰ (record { kind = kind; number = n }) (touched s k ask)

-- on a core that is there, a call touches the core's record and running process, and what is listed for what it asks
touched_there : (s : State) (k : ℕ) (ask : Ask) → k < length s.cores
    → touched s k ask ≡ record_and_running k (core_of s k).work ++ ask_items s k (core_of s k) ask
unfolding touched
touched_there s k ask h = rw lt-ltb

-- on a core that is there, a call keeps to the items that it touches
pub within_touched : (s : State) (k : ℕ) (ask : Ask) → k < length s.cores → Within (IsTouched s k ask) (rule_of (wiring s) ask k) s
within_touched s k ask h = rule_within (IsTouched s k ask) s k ask parts.0 parts.1
  where
    parts : All (IsTouched s k ask) (record_and_running k (core_of s k).work) × All (IsTouched s k ask) (ask_items s k (core_of s k) ask)
    parts =
        all_parts (IsTouched s k ask) (record_and_running k (core_of s k).work) (ask_items s k (core_of s k) ask)
        (rw (touched_there s k ask h) at (all_members (touched s k ask) (IsTouched s k ask) (λ x m. m)))
