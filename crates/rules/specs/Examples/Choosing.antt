-- Steps of choosing, in each of their cases, and the kernel tasks.
use Rattle.std.specs.Prelude.{ℕ, Bool, true, false, List, [], ◌∷◌, ◌++◌}
use Rattle.std.proofs.Math.Option.{none, some}
use Rattle.rules.specs.Numbers.{MOVED, CHOSE, FAULT}
use Rattle.rules.specs.State.{running, enable_look, raise, place_name, ready_from_look, ready_from_place, wait, disable, lower, finish, chose, doing, due, Task, no_task, trigger, wake_up, runs, free, nobody, plain, choosing}
use Rattle.rules.specs.Items.{core, place, alternation, Item}
use Rattle.rules.specs.Examples.Card.{Change, ◌of◌is◌, ◌#◌, holds, word, a_core, alternating, core_with, woken, through, in_queues, Example, Outcome, ◌changing◌, refused_for, goes_on, falls_asleep, ◌given◌gives◌touching◌, ◌at◌given◌gives◌besides◌}

abbrev pub both : List ℕ
both = 1 ∷ 2 ∷ []

-- the flags enabling, not-ready and waiting of process 2, and its count; as a touched item
abbrev pub has : Bool → Bool → Bool → ℕ → List Change
has e n w c = alternation of 2 is alternating e n w c ∷ []

abbrev pub state : List Item
state = alternation # 2 ∷ []

-- Process 2 chooses over both channels.
abbrev pub enabled : List Example
enabled =
    -- look: nobody, plain, choosing
    (2 at enable_look both 1 given [] gives goes_on 2 (raise both 1) [] besides word 1)
    ∷ (2 at enable_look both 2 given holds 2 (plain 3) gives goes_on 2 (ready_from_look both 2) [] besides word 2)
    ∷ (2 at enable_look both 2 given holds 2 (choosing 3) gives goes_on 2 (ready_from_look both 2) [] besides word 2)
    -- raise
    ∷ (2 at raise both 1 given has true false false 1 gives goes_on 2 (place_name both 1) (has true false false 2) besides state)
    ∷ (2 at raise both 2 given has false true false 8 gives goes_on 2 (place_name both 2) (has false true false 9) besides state)
    ∷ (2 at raise both 1 given has false false true 9 gives refused_for FAULT besides state)
    -- place: still 0, plain, choosing
    ∷ (2 at place_name both 1 given [] gives goes_on 2 (enable_look both 2) (holds 1 (choosing 2)) besides word 1)
    ∷ (2 at place_name both 2 given [] gives goes_on 2 (wait both) (holds 2 (choosing 2)) besides word 2)
    ∷ (2 at place_name both 1 given holds 1 (plain 1) gives goes_on 2 (ready_from_place both 1) [] besides word 1)
    ∷ (2 at place_name both 2 given holds 2 (choosing 3) gives goes_on 2 (ready_from_place both 2) [] besides word 2)
    -- ready, from look
    ∷ (2 at ready_from_look both 1 given has true true false 1 gives goes_on 2 (enable_look both 2) (has true false false 1) besides state)
    ∷ (2 at ready_from_look both 2 given has false true true 0 gives goes_on 2 (wait both) (has false false true 0) besides state)
    -- ready, from place
    ∷ (2 at ready_from_place both 1 given has true true false 2 gives goes_on 2 (enable_look both 2) (has true false false 1) besides state)
    ∷ (2 at ready_from_place both 2 given has false true true 1 gives goes_on 2 (wait both) (has false false true 0) besides state)
    ∷ (2 at ready_from_place both 1 given has true true true 0 gives refused_for FAULT besides state)
    -- wait: not-ready set, not-ready clear
    ∷ (2 at wait both given has true true false 3 gives falls_asleep 2 (doing (disable both 1 none)) no_task (has false false true 3) besides state)
    ∷ (2 at wait both given has true false false 2 gives goes_on 2 (disable both 1 none) (has false false false 2) besides state)
    ∷ (2 at wait both given has true false true 2 gives goes_on 2 (disable both 1 none) (has false false true 2) besides state)
    ∷ []

abbrev pub disabled : List Example
disabled =
    -- disable: one's own with the low bit, plain, another's with the low bit, nobody
    (2 at disable both 1 none given holds 1 (choosing 2) gives goes_on 2 (lower both 1 none) (holds 1 nobody) besides word 1)
    ∷ (2 at disable both 2 (some 1) given holds 2 (choosing 2) gives goes_on 2 (lower both 2 (some 1)) (holds 2 nobody) besides word 2)
    ∷ (2 at disable both 1 none given holds 1 (plain 1) gives goes_on 2 (disable both 2 (some 1)) [] besides word 1)
    ∷ (2 at disable both 2 none given holds 2 (plain 2) gives goes_on 2 (finish both (some 2)) [] besides word 2)
    ∷ (2 at disable both 2 (some 1) given holds 2 (plain 3) gives goes_on 2 (finish both (some 1)) [] besides word 2)
    ∷ (2 at disable both 1 none given holds 1 (choosing 1) gives goes_on 2 (disable both 2 none) [] besides word 1)
    ∷ (2 at disable both 2 (some 1) given [] gives goes_on 2 (finish both (some 1)) [] besides word 2)
    -- lower
    ∷ (2 at lower both 1 none given has true false false 2 gives goes_on 2 (disable both 2 none) (has true false false 1) besides state)
    ∷ (2 at lower both 2 (some 1) given has false true true 1 gives goes_on 2 (finish both (some 1)) (has false true true 0) besides state)
    ∷ (2 at lower both 1 none given [] gives refused_for FAULT besides state)
    -- finish: at 0, above 0; no ready guard, whatever the count; a count of 0
    ∷ (2 at finish both (some 2) given has false false true 1 gives CHOSE 2 2 changing (has false false true 0 ++ through 2) besides state)
    ∷ (2 at finish both (some 1) given has false true false 2 gives falls_asleep 2 (due (chose 1)) no_task (has false true false 1) besides state)
    ∷ (2 at finish both none given has false false false 2 gives refused_for FAULT besides state)
    ∷ (2 at finish both none given [] gives refused_for FAULT besides state)
    ∷ (2 at finish both (some 1) given [] gives refused_for FAULT besides state)
    ∷ []

-- core 0 makes the step of its task
infix 2 task◌given◌gives◌besides◌
abbrev pub task◌given◌gives◌besides◌ : Task → List Change → Outcome → List Item → Example
task t given l gives o besides items = core_with (free t) given l gives o touching (core # 0 ∷ in_queues ++ items)

abbrev pub next_task : Task → List Change → Outcome
next_task t l = MOVED changing (l ++ (core of 0 is core_with (free t) ∷ []))

-- process 2 runs on core 1
abbrev pub runs_elsewhere : List Change
runs_elsewhere = core of 1 is a_core (runs 2) [] 0 false [] ∷ place of 2 is running ∷ through 2

-- Core 0 triggers process 2, or wakes it.
abbrev pub tasks : List Example
tasks =
    -- waiting was set; the new count is 0; neither; lower a count of 0
    (task (trigger 2) given has true true true 2 gives next_task (wake_up 2) (has true false false 1) besides state)
    ∷ (task (trigger 2) given has false true false 1 gives next_task (wake_up 2) (has false false false 0) besides state)
    ∷ (task (trigger 2) given has true true false 2 gives next_task no_task (has true false false 1) besides state)
    ∷ (task (trigger 2) given has true true true 0 gives refused_for FAULT besides state)
    -- asleep; running, queued, ended
    ∷ (task (wake_up 2) given [] gives MOVED changing woken (free no_task) 2 besides (place # 2 ∷ []))
    ∷ (task (wake_up 2) given runs_elsewhere gives refused_for FAULT besides (place # 2 ∷ []))
    ∷ (task (wake_up 4) given [] gives refused_for FAULT besides (place # 4 ∷ []))
    ∷ (task (wake_up 6) given [] gives refused_for FAULT besides (place # 6 ∷ []))
    ∷ []
