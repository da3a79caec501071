-- The code's answers and refusals, in the rules' terms.
use Rattle.std.specs.Prelude.{⊤, Result, Ok, Err}
use Rattle.std.proofs.Math.Option.{Option, none, some}
use Rattle.rules.specs.Numbers as rules
use Rattle.rules.specs.Numbers.{Said, yes_with, no_because, Lent, written}
use Rattle.answers.specs.declared.Answer.{Answer}
use Rattle.answers.specs.declared.Answer.TheVariants as a
use Rattle.answers.specs.declared.Refusal.{Refusal}
use Rattle.answers.specs.declared.Refusal.TheVariants as r

abbrev pub answered : Answer → rules.Answer
answered (a.Taken p c) = rules.TAKEN p c
answered a.Moved = rules.MOVED
answered (a.Slept p) = rules.SLEPT p
answered a.Idle = rules.IDLE
answered (a.Go p) = rules.GO p
answered (a.Sent p c) = rules.SENT p c
answered (a.Got p c v) = rules.GOT p c v
answered (a.Chose p c) = rules.CHOSE p c

abbrev pub because : Refusal → rules.Refusal
because r.Size = rules.SIZE
because r.Pairs = rules.PAIRS
because r.Room = rules.ROOM
because r.Name = rules.NAME
because r.SameProcess = rules.SELF
because r.Answer = rules.ANSWER
because r.Damaged = rules.DAMAGED
because r.Core = rules.CORE
because r.Busy = rules.BUSY
because r.Awaited = rules.AWAITED
because r.Guards = rules.GUARDS
because r.Channel = rules.CHANNEL
because r.OtherEnd = rules.OTHER_END
because r.Twice = rules.TWICE
because r.Fault = rules.FAULT

abbrev pub said : Result Answer Refusal → Said
said (Ok x) = yes_with (answered x)
said (Err why) = no_because (because why)

-- why something isn't done, if it isn't
abbrev pub why_not : Result ⊤ Refusal → Option rules.Refusal
why_not (Ok done) = none
why_not (Err why) = some (because why)

-- what was lent for the answer, after a call: an accepted call's words; as it was after a refused one
abbrev pub told : Said → Lent → Lent
told (yes_with x) old = written x
told (no_because why) old = old
