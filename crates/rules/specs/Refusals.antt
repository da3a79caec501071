-- Document 01, "Numbers returned": when each refusal is given, and in which order. Written apart from the rules: they don't use it.
use Rattle.std.specs.Prelude.{ℕ, ◌*◌, Bool, true, false, not, ◌||◌, List, [], ◌∷◌, ◌++◌, map, eqb, ltb, length}
use Rattle.std.proofs.Math.Option.{Option, none, some}
use Rattle.rules.specs.Lists.{within, member}
use Rattle.rules.specs.Numbers.{
  Refusal,
  SIZE,
  PAIRS,
  ROOM,
  NAME,
  SELF,
  ANSWER,
  DAMAGED,
  CORE,
  BUSY,
  AWAITED,
  GUARDS,
  CHANNEL,
  OTHER_END,
  TWICE,
  FAULT,
  Lent,
  well_lent,
}
use Rattle.rules.specs.State.{
  Place,
  running,
  queued,
  asleep,
  ended,
  Stage,
  look,
  park,
  copy,
  clear,
  wake,
  enable_look,
  raise,
  place_name,
  ready_from_look,
  ready_from_place,
  wait,
  disable,
  lower,
  finish,
  Progress,
  nothing,
  doing,
  due,
  Task,
  no_task,
  trigger,
  wake_up,
  Work,
  runs,
  free,
  State,
}
use Rattle.rules.specs.Items.{core_of, process_of, channel_of}
use Rattle.rules.specs.Requests.{Request, send, receive, choose, yield, end}
use Rattle.rules.specs.Layout.{room}
use Rattle.rules.specs.Packing.{view}
use Rattle.rules.specs.Soundness.{sound}
use Rattle.rules.specs.Calls.{Ask, the_step, a_request}

infix 70 ◌when◌
-- a refusal, and whether its case is given
pub data Case : Type 0 where
  ◌when◌ : Refusal → Bool → Case

-- why's case is given, and none before it
pub data First : List Case → Refusal → Type 0 where
  here : {why : Refusal} {rest : List Case} → First (why when true ∷ rest) why
  later : {other why : Refusal} {rest : List Case} → First rest why → First (other when false ∷ rest) why

-- n is none of low, .. high
abbrev pub outside : ℕ → ℕ → ℕ → Bool
outside low high n = not (within low high n)

-- Set-up

-- "NAME: a writer or reader not in 1 to N"; "SELF: writer equals reader"
abbrev pub pair_cases : ℕ → List ℕ → List Case
pair_cases n [] = []
pair_cases n (w ∷ []) = []
pair_cases n (w ∷ (r ∷ rest)) = NAME when (outside 1 n w || outside 1 n r) ∷ SELF when eqb w r ∷ pair_cases n rest

-- "SIZE: K, N or M outside its limits": "K 1 to 8, N 1 to 256, M 0 to 256"; "PAIRS: the list of (writer, reader) isn't 2M long"; "ROOM:
-- table length isn't T", "T = 8 + 16K + 24N + 4M". "Order: set-up 20, 21, 22, then channel by channel 23, 24."
abbrev pub set_up_cases : (k n m : ℕ) (pairs table : List ℕ) → List Case
set_up_cases k n m pairs table =
    SIZE when (outside 1 8 k || outside 1 256 n || outside 0 256 m)
    ∷ PAIRS when not (eqb (length pairs) (2 * m))
    ∷ ROOM when not (eqb (length table) (room k n m))
    ∷ pair_cases n pairs

-- Requests

-- "nothing in hand, or the stage of its request ..; or an outcome"
abbrev pub in_hand : Progress → Bool
in_hand nothing = false
in_hand (doing x) = true
in_hand (due o) = true

-- "CHANNEL: a channel not in 1 to M"; "OTHER_END: sender isn't the writer, receiver or chooser isn't the reader"
abbrev pub end_cases : State → (c proper p : ℕ) → List Case
end_cases s c proper p = CHANNEL when outside 1 (length s.channels) c ∷ OTHER_END when not (eqb proper p) ∷ []

-- "guard by guard 31, 32, 33"; "TWICE: a guard repeats an earlier one"
abbrev pub guard_cases : State → ℕ → (earlier guards : List ℕ) → List Case
guard_cases s p earlier [] = []
guard_cases s p earlier (c ∷ rest) =
    end_cases s c (channel_of s c).ends.reader p ++ (TWICE when member c earlier ∷ guard_cases s p (c ∷ earlier) rest)

-- "GUARDS: no guards, or more than 8"
abbrev pub asked_cases : State → ℕ → Request → List Case
asked_cases s p (send c v) = end_cases s c (channel_of s c).ends.writer p
asked_cases s p (receive c) = end_cases s c (channel_of s c).ends.reader p
asked_cases s p (choose gs) = GUARDS when outside 1 8 (length gs) ∷ guard_cases s p [] gs
asked_cases s p yield = []
asked_cases s p end = []

-- "BUSY: a request, but nothing runs on this core, or the running process still has a request in hand"
abbrev pub request_cases : State → Work → Request → List Case
request_cases s (free t) r = BUSY when true ∷ []
request_cases s (runs p) r = BUSY when in_hand (process_of s p).progress ∷ asked_cases s p r

-- A step

-- what a step would do that may be at fault
pub data Deed : Type 0 where
  wakes lowers raises : (p : ℕ) → Deed
  finishes : (first_ready : Option ℕ) → Deed

abbrev pub is_asleep : Place → Bool
is_asleep running = false
is_asleep queued = false
is_asleep asleep = true
is_asleep ended = false

-- "FAULT is given, and given only, where a step would wake a process that isn't asleep, lower a count of 0, raise a count of 9, or finish
-- a choice with no ready guard"
abbrev pub at_fault : State → Deed → Bool
at_fault s (wakes p) = not (is_asleep (process_of s p).place)
at_fault s (lowers p) = eqb (process_of s p).alternation.count 0
at_fault s (raises p) = eqb (process_of s p).alternation.count 9
at_fault s (finishes none) = true
at_fault s (finishes (some i)) = false

-- of process p at each stage. "ready (.. count - 1 if it came from place ..)"; "finish: count - 1", the ready guard "looked at before the
-- count"
abbrev pub stage_deeds : ℕ → Stage → List Deed
stage_deeds p (look way c) = []
stage_deeds p (park way c) = []
stage_deeds p (copy way c q) = []
stage_deeds p (clear way c q) = []
stage_deeds p (wake way c q) = wakes q ∷ []
stage_deeds p (enable_look gs i) = []
stage_deeds p (raise gs i) = raises p ∷ []
stage_deeds p (place_name gs i) = []
stage_deeds p (ready_from_look gs i) = []
stage_deeds p (ready_from_place gs i) = lowers p ∷ []
stage_deeds p (wait gs) = []
stage_deeds p (disable gs i r) = []
stage_deeds p (lower gs i r) = lowers p ∷ []
stage_deeds p (finish gs r) = finishes r ∷ lowers p ∷ []

-- "Trigger q (kernel task): .. count - 1"; "Wake q: as above"
abbrev pub task_deeds : Task → List Deed
task_deeds no_task = []
task_deeds (trigger q) = lowers q ∷ []
task_deeds (wake_up q) = wakes q ∷ []

-- "34 last"
abbrev pub fault_cases : State → List Deed → List Case
fault_cases s deeds = map (λ (d : Deed). FAULT when at_fault s d) deeds

-- "AWAITED: a step, but the running process has nothing in hand" (No running process has an outcome due.)
abbrev pub running_cases : State → ℕ → Progress → List Case
running_cases s p nothing = AWAITED when true ∷ []
running_cases s p (doing x) = fault_cases s (stage_deeds p x)
running_cases s p (due o) = []

abbrev pub step_cases : State → Work → List Case
step_cases s (free t) = fault_cases s (task_deeds t)
step_cases s (runs p) = running_cases s p (process_of s p).progress

-- Calls

abbrev pub ask_cases : State → Work → Ask → List Case
ask_cases s w the_step = step_cases s w
ask_cases s w (a_request r) = request_cases s w r

-- "ANSWER: answer slice isn't 3 long"; "DAMAGED: table not sound"; "CORE: no such core". "Other calls 25, 26, 27, then 28 or 29, then 30,
-- then guard by guard 31, 32, 33, and 34 last."
abbrev pub call_cases : List ℕ → Lent → (k : ℕ) → Ask → List Case
call_cases t answer k ask =
    let s = view t in
    ANSWER when not (well_lent answer)
    ∷ DAMAGED when not (sound t)
    ∷ CORE when not (ltb k (length s.cores))
    ∷ ask_cases s (core_of s k).work ask
