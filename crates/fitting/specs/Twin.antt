-- The soundness check as a pure function of the table that goes the way of the code: header, then core by core its queues, process by
-- process along each chain, then the processes, then the channels. The first record with a flaw ends it. Tests that the code makes
-- together within a record, before it leaves, are joined by `&&` here as the others are.
use Rattle.std.specs.Prelude.{ℕ, zero, suc, ◌+◌, ◌-◌, ◌/◌, Bool, true, false, ◌&&◌, ◌||◌, List, eqb, leb, length, get_or, set, replicate, if◌then◌else◌}
use Rattle.rules.specs.Lists.{within}
use Rattle.rules.specs.Layout.{header_size, core_stride, process_stride, core_at, process_at, channel_at, room, header_cores, header_processes, header_channels, header_spare, core_runs, core_task, core_task_process, core_first, core_last, core_dispatch, core_mark, core_first_head, core_last_head, core_spare, process_place, process_enabling, process_not_ready, process_waiting, process_count, process_progress, process_channel, process_partner, process_guards, process_index, process_first_ready, process_first_guard, process_next, process_last, process_next_head, process_spare, guard_places, links_size, channel_writer, channel_reader, channel_holder, place_running, place_queued, place_asleep, place_ended, task_none, task_wake, at_nothing, at_send_look, at_send_copy, at_send_wake, at_receive_look, at_receive_copy, at_receive_wake, at_enable_look, at_ready_from_place, at_disable, at_lower, at_finish, due_sent, due_got, due_chose}
use Rattle.rules.specs.SetUp.{sizes}

abbrev pub word : List ℕ → ℕ → ℕ
word t a = get_or t a 0

-- the n words from a on are 0
abbrev pub zeros : List ℕ → ℕ → ℕ → Bool
zeros t a zero = true
zeros t a (suc n) = eqb (word t a) 0 && zeros t (suc a) n

-- Header: sizes in their limits, unused words 0, and the length that they ask for.
abbrev pub header_fits : List ℕ → Bool
header_fits t =
    let w = word t in
    leb header_size (length t) && sizes (w header_cores) (w header_processes) (w header_channels)
    && eqb (length t) (room (w header_cores) (w header_processes) (w header_channels)) && zeros t header_spare (header_size - header_spare)

-- Below: K, N and M are the header's.

-- A core's words that belong to no queue: running process, task only where nothing runs, dispatch count, mark, unused words.
abbrev pub task_fits : ℕ → ℕ → ℕ → Bool
task_fits N task q = if eqb task task_none then eqb q 0 else (leb task task_wake && within 1 N q)

abbrev pub work_fits : ℕ → ℕ → ℕ → ℕ → Bool
work_fits N running task q = if eqb running 0 then task_fits N task q else (leb running N && eqb task task_none && eqb q 0)

abbrev pub core_fits : List ℕ → ℕ → ℕ → Bool
core_fits t N k =
    let w : ℕ → ℕ = λ f. word t (core_at k f) in
    work_fits N (w core_runs) (w core_task) (w core_task_process)
    && leb (w core_dispatch) 32 && leb (w core_mark) 1 && zeros t (core_at k core_spare) (core_stride - core_spare)

-- What was met so far, a number for each process: 0 not met, 1 running, 2 in a queue, 3 the head of a batch. (Word 0 is not used.)
abbrev pub fresh : ℕ → List ℕ → ℕ → Bool
fresh N met p = within 1 N p && eqb (get_or met p 0) 0

-- A part of the check: a flaw was found, or all is well so far and this was met.
pub data Walk : Type 0 where
  flaw : Walk
  well : (met : List ℕ) → Walk

abbrev pub and_then : Walk → (List ℕ → Walk) → Walk
and_then flaw f = flaw
and_then (well met) f = f met

-- the running process of a core is met first
abbrev pub meet_running : List ℕ → ℕ → ℕ → List ℕ → Walk
meet_running t N k met =
    let p = word t (core_at k core_runs) in
    if eqb p 0 then well met else if fresh N met p then well (set met p 1) else flaw

-- One queue, process by process from p on, each not met before: at its end, the last one and the size are those that stand at the
-- words a and a + 1. At most n more processes can be met.
abbrev pub chain_walk : List ℕ → ℕ → ℕ → ℕ → ℕ → List ℕ → ℕ → ℕ → ℕ → Walk
chain_walk t K N a zero met p last size = if eqb p 0 && eqb (word t a) last && eqb (word t (a + 1)) size then well met else flaw
chain_walk t K N a (suc n) met p last size =
    if eqb p 0 then (if eqb (word t a) last && eqb (word t (a + 1)) size then well met else flaw)
    else if fresh N met p then chain_walk t K N a n (set met p 2) (word t (process_at K p process_next)) p (size + 1)
    else flaw

-- The batches from head on; prev is the head before. The last head is the one that the core has. At most n more batches.
abbrev pub batch_walk : List ℕ → ℕ → ℕ → ℕ → ℕ → List ℕ → ℕ → ℕ → Walk
batch_walk t K N k zero met head prev = if eqb head 0 && eqb (word t (core_at k core_last_head)) prev then well met else flaw
batch_walk t K N k (suc n) met head prev =
    if eqb head 0 then (if eqb (word t (core_at k core_last_head)) prev then well met else flaw)
    else if within 1 N head
    then and_then (chain_walk t K N (process_at K head process_last) N met head 0 0)
    (λ met. batch_walk t K N k n (set met head 3) (word t (process_at K head process_next_head)) head)
    else flaw

-- A core: its own words, its running process, its active queue, its batches.
abbrev pub core_walk : List ℕ → ℕ → ℕ → ℕ → List ℕ → Walk
core_walk t K N k met =
    if core_fits t N k
    then and_then (meet_running t N k met)
    (λ met. and_then (chain_walk t K N (core_at k core_last) N met (word t (core_at k core_first)) 0 0)
    (λ met. batch_walk t K N k N met (word t (core_at k core_first_head)) 0))
    else flaw

-- the cores from k on, n of them
abbrev pub cores_walk : List ℕ → ℕ → ℕ → ℕ → ℕ → List ℕ → Walk
cores_walk t K N k zero met = well met
cores_walk t K N k (suc n) met = and_then (core_walk t K N k met) (λ met. cores_walk t K N (suc k) n met)

-- A process's progress, by its number n: which of its words mean something.

abbrev pub is_sender : ℕ → Bool
is_sender n = within at_send_look at_send_wake n || eqb n due_sent

abbrev pub is_receiver : ℕ → Bool
is_receiver n = within at_receive_look at_receive_wake n || within due_got due_chose n

abbrev pub has_partner : ℕ → Bool
has_partner n = within at_send_copy at_send_wake n || within at_receive_copy at_receive_wake n

abbrev pub has_guards : ℕ → Bool
has_guards n = within at_enable_look at_finish n

abbrev pub has_index : ℕ → Bool
has_index n = within at_enable_look at_ready_from_place n || within at_disable at_lower n

abbrev pub has_ready : ℕ → Bool
has_ready n = within at_disable at_finish n

-- process p stands at the end f (writer or reader) of channel c
abbrev pub end_fits : List ℕ → ℕ → ℕ → ℕ → ℕ → ℕ → ℕ → Bool
end_fits t K N M p f c = within 1 M c && eqb (word t (channel_at K N c f)) p

-- the word x stands among the n words from a on
abbrev pub stands_among : List ℕ → ℕ → ℕ → ℕ → Bool
stands_among t x a zero = false
stands_among t x a (suc n) = eqb (word t a) x || stands_among t x (suc a) n

-- the n guards from the word a on: each one's own, none twice
abbrev pub guards_fit : List ℕ → ℕ → ℕ → ℕ → ℕ → ℕ → ℕ → Bool
guards_fit t K N M p a zero = true
guards_fit t K N M p a (suc n) = end_fits t K N M p channel_reader (word t a) && (if stands_among t (word t a) (suc a) n then false else true) && guards_fit t K N M p (suc a) n

abbrev pub channel_part : List ℕ → ℕ → ℕ → ℕ → ℕ → ℕ → ℕ → Bool
channel_part t K N M p n c =
    if is_sender n then end_fits t K N M p channel_writer c else if is_receiver n then end_fits t K N M p channel_reader c else eqb c 0

-- the partner, of the number q
abbrev pub partner_part : ℕ → ℕ → ℕ → Bool
partner_part N n q = if has_partner n then within 1 N q else eqb q 0

-- g guards from the word a on, 1 to 8, and zeros behind them
abbrev pub guards_stand : List ℕ → ℕ → ℕ → ℕ → ℕ → ℕ → ℕ → Bool
guards_stand t K N M p g a = within 1 8 g && guards_fit t K N M p a g && zeros t (a + g) (guard_places - g)

abbrev pub guards_part : List ℕ → ℕ → ℕ → ℕ → ℕ → ℕ → ℕ → ℕ → Bool
guards_part t K N M p n g a = if has_guards n then guards_stand t K N M p g a else (eqb g 0 && zeros t a guard_places)

-- the guard index i, and the first ready guard r, among g guards
abbrev pub index_part : ℕ → ℕ → ℕ → Bool
index_part n g i = if has_index n then within 1 g i else eqb i 0

abbrev pub ready_part : ℕ → ℕ → ℕ → Bool
ready_part n g r = if has_ready n then leb r g else eqb r 0

abbrev pub progress_fits : List ℕ → ℕ → ℕ → ℕ → ℕ → Bool
progress_fits t K N M p =
    let w : ℕ → ℕ = λ f. word t (process_at K p f) in
    let n = w process_progress in
    leb n due_chose
    && channel_part t K N M p n (w process_channel)
    && partner_part N n (w process_partner)
    && guards_part t K N M p n (w process_guards) (process_at K p process_first_guard)
    && index_part n (w process_guards) (w process_index)
    && ready_part n (w process_guards) (w process_first_ready)

-- "A running process has nothing in hand or a stage; a queued or sleeping one has a stage or an outcome; an ended one has nothing in hand."
abbrev pub place_fits : ℕ → ℕ → Bool
place_fits place n =
    if eqb place place_running then leb n at_finish
    else if eqb place place_ended then eqb n at_nothing
    else (within place_queued place_asleep place && leb at_send_look n)

-- what was met agrees with the place, and who is in no queue has no links, who heads no batch none of a batch's
abbrev pub meeting_fits : List ℕ → ℕ → ℕ → ℕ → ℕ → Bool
meeting_fits t K p place m =
    let unlinked = zeros t (process_at K p process_next) links_size in
    if eqb m 0 then (leb place_asleep place && unlinked)
    else if eqb m 1 then (eqb place place_running && unlinked)
    else if eqb m 2 then (eqb place place_queued && zeros t (process_at K p process_last) (links_size - 1))
    else eqb place place_queued

-- flags 0 or 1, count 0 to 9, unused words 0
abbrev pub flags_fit : List ℕ → ℕ → ℕ → Bool
flags_fit t K p =
    let w : ℕ → ℕ = λ f. word t (process_at K p f) in
    leb (w process_enabling) 1 && leb (w process_not_ready) 1 && leb (w process_waiting) 1 && leb (w process_count) 9
    && zeros t (process_at K p process_spare) (process_stride - process_spare)

-- a process of which m was met
abbrev pub process_fits : List ℕ → ℕ → ℕ → ℕ → ℕ → ℕ → Bool
process_fits t K N M p m =
    let place = word t (process_at K p process_place) in
    flags_fit t K p && place_fits place (word t (process_at K p process_progress)) && meeting_fits t K p place m && progress_fits t K N M p

-- the processes from p on, n of them
abbrev pub processes_fit : List ℕ → ℕ → ℕ → ℕ → List ℕ → ℕ → ℕ → Bool
processes_fit t K N M met p zero = true
processes_fit t K N M met p (suc n) = process_fits t K N M p (get_or met p 0) && processes_fit t K N M met (suc p) n

-- A channel: its ends, which differ, and its word: nobody, or a process's name.
abbrev pub channel_fits : List ℕ → ℕ → ℕ → ℕ → Bool
channel_fits t K N c =
    let w : ℕ → ℕ = λ f. word t (channel_at K N c f) in
    within 1 N (w channel_writer) && within 1 N (w channel_reader) && (if eqb (w channel_writer) (w channel_reader) then false else true)
    && (eqb (w channel_holder) 0 || within 1 N (w channel_holder / 2))

-- the channels from c on, n of them
abbrev pub channels_fit : List ℕ → ℕ → ℕ → ℕ → ℕ → Bool
channels_fit t K N c zero = true
channels_fit t K N c (suc n) = channel_fits t K N c && channels_fit t K N (suc c) n

-- The whole check. Nobody is met at first.
abbrev pub rest_fits : List ℕ → ℕ → ℕ → ℕ → Walk → Bool
rest_fits t K N M flaw = false
rest_fits t K N M (well met) = processes_fit t K N M met 1 N && channels_fit t K N 1 M

unfoldable pub table_fits : List ℕ → Bool
table_fits t =
    let K = word t header_cores in
    let N = word t header_processes in
    if header_fits t then rest_fits t K N (word t header_channels) (cores_walk t K N 0 K (replicate 257 0)) else false
