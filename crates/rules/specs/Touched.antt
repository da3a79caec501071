-- Document 01, "Touched items": the list of a call, read off the state before it. What is lent for the answer plays no part in it.
use Rattle.std.specs.Prelude.{ℕ, zero, suc, ltb, length, if◌then◌else◌}
use mathlib.Core.List.{List, [], ◌∷◌, ◌++◌, map, flat_map}
use Rattle.rules.specs.Numbers.{Answer}
use Rattle.rules.specs.State.{
  Stage,
  look,
  park,
  copy,
  clear,
  wake,
  enable_look,
  raise,
  place_name,
  ready_from_look,
  ready_from_place,
  wait,
  disable,
  lower,
  finish,
  Progress,
  nothing,
  doing,
  due,
  no_task,
  trigger,
  wake_up,
  Work,
  runs,
  free,
  Core,
  queues_of,
  State,
  users,
}
use Rattle.rules.specs.Items.{Kind, core, place, data_word, alternation, progress, channel_word, transfers, Item, core_of, process_of}
use Rattle.rules.specs.Rule.{Ran, accepted, refused, run}
use Rattle.rules.specs.Choice.{guard}
use Rattle.rules.specs.Requests.{Request, send, receive, choose, yield, end, request}
use Rattle.rules.specs.Calls.{Ask, the_step, a_request}

abbrev item : Kind → ℕ → Item
item k n = record { kind = k; number = n }

-- "Every call on a core touches that core's record; the progress, data and place of its running process"
abbrev pub record_and_running : ℕ → Work → List Item
record_and_running k (runs p) = item core k ∷ item progress p ∷ item data_word p ∷ item place p ∷ []
record_and_running k (free t) = item core k ∷ []

-- "the places of all processes in its queues"
abbrev pub queue_places : Core → List Item
queue_places c = flat_map (map (item place)) (queues_of c)

-- "Besides: look, park, clear, place, disable touch the channel word; copy the transfers and the partner's data; wake the place of
-- the woken; .. raise, ready, wait, lower, finish .. the alternation state concerned"
abbrev pub stage_items : ℕ → Stage → List Item
stage_items p (look way c) = item channel_word c ∷ []
stage_items p (park way c) = item channel_word c ∷ []
stage_items p (copy way c q) = item transfers c ∷ item data_word q ∷ []
stage_items p (clear way c q) = item channel_word c ∷ []
stage_items p (wake way c q) = item place q ∷ []
stage_items p (enable_look gs i) = item channel_word (guard gs i) ∷ []
stage_items p (raise gs i) = item alternation p ∷ []
stage_items p (place_name gs i) = item channel_word (guard gs i) ∷ []
stage_items p (ready_from_look gs i) = item alternation p ∷ []
stage_items p (ready_from_place gs i) = item alternation p ∷ []
stage_items p (wait gs) = item alternation p ∷ []
stage_items p (disable gs i r) = item channel_word (guard gs i) ∷ []
stage_items p (lower gs i r) = item alternation p ∷ []
stage_items p (finish gs r) = item alternation p ∷ []

-- "take the progress and data of the taken"
abbrev pub take_items : ℕ → List ℕ → List Item
take_items zero l = []
take_items (suc n) [] = []
take_items (suc n) (p ∷ rest) = item progress p ∷ item data_word p ∷ []

-- A step that has something to do: its queues' places, and what its stage, task or take touches. "trigger the alternation state
-- concerned" (AWAITED: "only the core's record and running process where it has no step")
abbrev pub progress_items : Core → ℕ → Progress → List Item
progress_items c p nothing = []
progress_items c p (doing x) = queue_places c ++ stage_items p x
progress_items c p (due o) = []

abbrev pub work_items : State → Core → Work → List Item
work_items s c (runs p) = progress_items c p (process_of s p).progress
work_items s c (free no_task) = queue_places c ++ take_items c.dispatch c.active
work_items s c (free (trigger q)) = queue_places c ++ (item alternation q ∷ [])
work_items s c (free (wake_up q)) = queue_places c ++ (item place q ∷ [])

-- "the choose request .. the alternation state concerned"
abbrev pub request_items : Request → Work → List Item
request_items (send c v) w = []
request_items (receive c) w = []
request_items (choose gs) (runs p) = item alternation p ∷ []
request_items (choose gs) (free t) = []
request_items yield w = []
request_items end w = []

-- "A call that is refused touches what its step would, or only the core's record and running process where it has no step."
abbrev pub accepted_items : Core → Request → Ran Answer → List Item
accepted_items c r (accepted a s) = queue_places c ++ request_items r c.work
accepted_items c r (refused why) = []

abbrev pub ask_items : State → ℕ → Core → Ask → List Item
ask_items s k c the_step = work_items s c c.work
ask_items s k c (a_request r) = accepted_items c r (run (request (users s) r k) s)

-- "A call naming a core that doesn't exist touches nothing."
unfoldable pub touched : State → ℕ → Ask → List Item
touched s k ask =
    let c = core_of s k in
    if ltb k (length s.cores) then (record_and_running k c.work ++ ask_items s k c ask) else []
