-- Document 01, "The state": what a table holds. Each stage, outcome, place and task is a constructor, and each stage has just
-- the fields that mean something there (docs/DECISIONS.md, "Fields of a stage").
use Rattle.std.specs.Prelude.{ℕ, Bool, List, ◌∷◌, map, eqb, length}
use Rattle.std.proofs.Math.Option.{Option}
use Rattle.rules.specs.Lists.{nth, within}

-- Process

-- "its place (running, queued, asleep, ended)"
pub data Place : Type 0 where
  running queued asleep ended : Place

-- The end of a channel that a request is made at: a sender's is the writer's, a receiver's the reader's.
pub data Way : Type 0 where
  sending receiving : Way

-- "the stage of its request with channel, partner, guards, guard index and first ready guard". Guards are channels; they are
-- counted from 1, and so is the first ready one, if there is one.
pub data Stage : Type 0 where
  look park : Way → (channel : ℕ) → Stage
  copy clear wake : Way → (channel partner : ℕ) → Stage
  enable_look raise place_name : (guards : List ℕ) (index : ℕ) → Stage
  ready_from_look ready_from_place : (guards : List ℕ) (index : ℕ) → Stage
  wait : (guards : List ℕ) → Stage
  disable lower : (guards : List ℕ) (index : ℕ) (first_ready : Option ℕ) → Stage
  finish : (guards : List ℕ) (first_ready : Option ℕ) → Stage

-- "an outcome to report when next taken": GO, SENT, GOT or CHOSE
pub data Outcome : Type 0 where
  go : Outcome
  sent got chose : (channel : ℕ) → Outcome

-- "its progress (nothing in hand, or the stage of its request ..; or an outcome to report when next taken)"
pub data Progress : Type 0 where
  nothing : Progress
  doing : Stage → Progress
  due : Outcome → Progress

-- "its alternation state: flags enabling, not-ready, waiting and a count 0 to 9"
pub record Alternation : Type 0 where
  pub enabling : Bool
  pub not_ready : Bool
  pub waiting : Bool
  pub count : ℕ

pub record Process : Type 0 where
  pub place : Place
  pub data_word : ℕ
  pub alternation : Alternation
  pub progress : Progress

-- Core

-- "a kernel task (none, trigger q, wake q)"
pub data Task : Type 0 where
  no_task : Task
  trigger wake_up : (q : ℕ) → Task

-- "the running process or none; a kernel task .., only where nothing runs"
pub data Work : Type 0 where
  runs : (p : ℕ) → Work
  free : Task → Work

-- "the active queue; the dispatch count 0 to 32; the single mark; the run queue, a list of non-empty batches of processes, in order"
pub record Core : Type 0 where
  pub work : Work
  pub active : List ℕ
  pub dispatch : ℕ
  pub mark : Bool
  pub run_queue : List (List ℕ)

-- every queue of a core
abbrev pub queues_of : Core → List (List ℕ)
queues_of c = c.active ∷ c.run_queue

-- Channel

-- "writer and reader, fixed at set-up"
pub record Ends : Type 0 where
  pub writer : ℕ
  pub reader : ℕ

-- "The channel word is 0 for nobody, otherwise twice the process number, with the lowest bit set when that process is choosing."
-- (The numbers are the packing's: `word_number`.)
pub data ChannelWord : Type 0 where
  nobody : ChannelWord
  plain choosing : (q : ℕ) → ChannelWord

-- "the channel word; the number of transfers, which goes round from 4294967295 to 0"
pub record Channel : Type 0 where
  pub ends : Ends
  pub word : ChannelWord
  pub transfers : ℕ

-- "The table holds K cores .., N processes (1 to N) and M channels (1 to M)"
pub record State : Type 0 where
  pub cores : List Core
  pub processes : List Process
  pub channels : List Channel

-- What no call but a set-up changes: K, N, M and the ends of each channel.
pub record Wiring : Type 0 where
  pub K : ℕ
  pub N : ℕ
  pub ends : List Ends

abbrev pub wiring : State → Wiring
wiring s = record { K = length s.cores; N = length s.processes; ends = map (λ (c : Channel). c.ends) s.channels }

-- the process at an end of channel c
abbrev pub at_end : Way → Ends → ℕ
at_end sending e = e.writer
at_end receiving e = e.reader

abbrev pub end_of : Wiring → Way → ℕ → ℕ
end_of w way c = at_end way (nth w.ends c (record { writer = 0; reader = 0 }))

-- "a channel .. in 1 to M"
abbrev pub is_channel : Wiring → ℕ → Bool
is_channel w c = within 1 (length w.ends) c

-- process p may use this end of channel c: it stands there
abbrev pub may_use : Wiring → Way → (p c : ℕ) → Bool
may_use w way p c = eqb (end_of w way c) p

-- who may use the ends of each channel now: its writer and its reader
abbrev pub users : State → Wiring
users s = wiring s
