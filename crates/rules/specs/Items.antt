-- The items of document 01, "Touched items": what a step can read and write, each with the type of its value.
use Rattle.std.specs.Prelude.{ℕ, false, [], get_or, set}
use Rattle.rules.specs.Lists.{nth, set_nth}
use Rattle.rules.specs.State.{Place, ended, Progress, nothing, Alternation, Process, free, no_task, Core, ChannelWord, nobody, Channel, State}

-- Regions

-- A state's lists of records.
pub data Region : Type 0 where
  cores processes channels : Region
  deriving Discrete as Region_discrete

abbrev pub Record : Region → Type 0
Record cores = Core
Record processes = Process
Record channels = Channel

-- What stands where there is no core, process or channel of a number: no rule looks there in a sound table.
abbrev pub no_core : Core
no_core = record { work = free no_task; active = []; dispatch = 0; mark = false; run_queue = [] }

abbrev pub no_alternation : Alternation
no_alternation = record { enabling = false; not_ready = false; waiting = false; count = 0 }

abbrev pub no_process : Process
no_process = record { place = ended; data_word = 0; alternation = no_alternation; progress = nothing }

abbrev pub no_channel : Channel
no_channel = record { ends = record { writer = 0; reader = 0 }; word = nobody; transfers = 0 }

-- Cores are counted from 0, processes and channels from 1.
abbrev pub core_of : State → ℕ → Core
core_of s k = get_or s.cores k no_core

abbrev pub process_of : State → ℕ → Process
process_of s p = nth s.processes p no_process

abbrev pub channel_of : State → ℕ → Channel
channel_of s c = nth s.channels c no_channel

-- the record of a number
abbrev pub record_of : (g : Region) → State → ℕ → Record g
record_of cores s k = core_of s k
record_of processes s p = process_of s p
record_of channels s c = channel_of s c

-- the state in which that is another
abbrev pub with_record : (g : Region) → ℕ → Record g → State → State
with_record cores k r s = record { cores = set s.cores k r; processes = s.processes; channels = s.channels }
with_record processes p r s = record { cores = s.cores; processes = set_nth s.processes p r; channels = s.channels }
with_record channels c r s = record { cores = s.cores; processes = s.processes; channels = set_nth s.channels c r }

-- Kinds

-- Seven kinds of item; an item is a kind and the number of its core, process or channel.
pub data Kind : Type 0 where
  core place data_word alternation progress channel_word transfers : Kind
  deriving Discrete as Kind_discrete

pub record Item : Type 0 where
  pub kind : Kind
  pub number : ℕ

-- the region whose records have it
abbrev pub region : Kind → Region
region core = cores
region place = processes
region data_word = processes
region alternation = processes
region progress = processes
region channel_word = channels
region transfers = channels

-- the type of its value
abbrev pub Val : Kind → Type 0
Val core = Core
Val place = Place
Val data_word = ℕ
Val alternation = Alternation
Val progress = Progress
Val channel_word = ChannelWord
Val transfers = ℕ

-- its value in a record
abbrev pub field : (k : Kind) → Record (region k) → Val k
field core r = r
field place r = r.place
field data_word r = r.data_word
field alternation r = r.alternation
field progress r = r.progress
field channel_word r = r.word
field transfers r = r.transfers

-- the record in which it has another value
abbrev pub with_field : (k : Kind) → Val k → Record (region k) → Record (region k)
with_field core v r = v
with_field place v r = record { place = v; data_word = r.data_word; alternation = r.alternation; progress = r.progress }
with_field data_word v r = record { place = r.place; data_word = v; alternation = r.alternation; progress = r.progress }
with_field alternation v r = record { place = r.place; data_word = r.data_word; alternation = v; progress = r.progress }
with_field progress v r = record { place = r.place; data_word = r.data_word; alternation = r.alternation; progress = v }
with_field channel_word v r = record { ends = r.ends; word = v; transfers = r.transfers }
with_field transfers v r = record { ends = r.ends; word = r.word; transfers = v }

-- the value of an item
abbrev pub get : (k : Kind) → State → ℕ → Val k
get k s n = field k (record_of (region k) s n)

-- the state in which an item has another value
abbrev pub put : (k : Kind) → ℕ → Val k → State → State
put k n v s = with_record (region k) n (with_field k v (record_of (region k) s n)) s
