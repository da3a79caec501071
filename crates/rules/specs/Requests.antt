-- Document 01, "Requests": what the running process of core k does next, and when it is refused.
use Rattle.std.specs.Prelude.{ℕ, Bool, true, false, List, [], ◌∷◌, length, if◌then◌else◌}
use Rattle.rules.specs.Lists.{within, member}
use Rattle.rules.specs.Numbers.{Answer, TAKEN, Refusal, BUSY, GUARDS, CHANNEL, OTHER_END, TWICE}
use Rattle.rules.specs.State.{
  ended,
  Way,
  sending,
  receiving,
  look,
  enable_look,
  Progress,
  nothing,
  doing,
  due,
  go,
  Alternation,
  no_task,
  Work,
  runs,
  free,
  Wiring,
  is_channel,
  may_use,
}
use Rattle.rules.specs.Items.{core, place, data_word, alternation, progress}
use Rattle.rules.specs.Rule.{Rule, done, refuse, the, becomes, go_on, ◌>>=◌, ◌>>◌}
use Rattle.rules.specs.Steps.{has_task, joins}

-- "a request (what the running process of a core does next: send, receive, choose, yield, end)"
pub data Request : Type 0 where
  send : (channel value : ℕ) → Request
  receive : (channel : ℕ) → Request
  choose : (guards : List ℕ) → Request
  yield end : Request

-- Refusals

abbrev pub unless : Bool → Refusal → Rule (Unit {0})
unless true r = go_on
unless false r = refuse r

-- "BUSY: a request, but nothing runs on this core, or the running process still has a request in hand"
abbrev pub nothing_in_hand : ℕ → Progress → Rule ℕ
nothing_in_hand p nothing = done p
nothing_in_hand p (doing x) = refuse BUSY
nothing_in_hand p (due o) = refuse BUSY

abbrev pub requester : Work → Rule ℕ
requester (free t) = refuse BUSY
requester (runs p) = do
  has ← the progress p
  nothing_in_hand p has

-- "CHANNEL: a channel not in 1 to M"; "OTHER_END: sender isn't the writer, receiver or chooser isn't the reader"
abbrev pub proper_end : Wiring → Way → ℕ → ℕ → Rule (Unit {0})
proper_end w way p c = do
  unless (is_channel w c) CHANNEL
  unless (may_use w way p c) OTHER_END

-- "guard by guard 31, 32, 33"; "TWICE: a guard repeats an earlier one"
abbrev pub proper_guards : Wiring → ℕ → List ℕ → List ℕ → Rule (Unit {0})
proper_guards w p earlier [] = go_on
proper_guards w p earlier (c ∷ rest) = do
  proper_end w receiving p c
  unless (if member c earlier then false else true) TWICE
  proper_guards w p (c ∷ earlier) rest

-- What is accepted

-- "Choose sets enabling and not-ready, count 1, waiting clear"
abbrev pub choice_begun : Alternation
choice_begun = record { enabling = true; not_ready = true; waiting = false; count = 1 }

-- "Send stores the value in the process's data word. Send and receive start at look. Choose .. starts enabling at the first guard.
-- Yield puts the process at the end of the active queue with outcome GO and leaves nothing running. End makes it ended and leaves
-- nothing running."
abbrev pub asks : Wiring → ℕ → ℕ → Request → Rule Answer
asks w k p (send c v) = do
  proper_end w sending p c
  becomes data_word p v
  becomes progress p (doing (look sending c))
  done (TAKEN p c)
asks w k p (receive c) = do
  proper_end w receiving p c
  becomes progress p (doing (look receiving c))
  done (TAKEN p c)
asks w k p (choose gs) = do
  unless (within 1 8 (length gs)) GUARDS
  proper_guards w p [] gs
  becomes alternation p choice_begun
  becomes progress p (doing (enable_look gs 1))
  done (TAKEN p 0)
asks w k p yield = do
  becomes progress p (due go)
  joins k p
  has_task k no_task
  done (TAKEN p 0)
asks w k p end = do
  becomes place p ended
  has_task k no_task
  done (TAKEN p 0)

abbrev pub request : Wiring → Request → ℕ → Rule Answer
request w r k = do
  c ← the core k
  p ← requester c.work
  asks w k p r
