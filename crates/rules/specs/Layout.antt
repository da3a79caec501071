-- The layout of a table (docs/PACKING.md): a header, then the records of K cores, N processes and M channels; how long each is, what each
-- word is called, and where it lies. Nothing else says a number of it.
use Rattle.std.specs.Prelude.{ℕ, ◌+◌, ◌*◌, ◌-◌}

-- How long

abbrev pub header_size : ℕ
header_size = 8

abbrev pub core_stride : ℕ
core_stride = 16

abbrev pub process_stride : ℕ
process_stride = 24

abbrev pub channel_stride : ℕ
channel_stride = 4

-- Where: the word f of core j, of process p, of channel c, among k cores and n processes

abbrev pub processes_at : ℕ → ℕ
processes_at k = header_size + core_stride * k

abbrev pub channels_at : ℕ → ℕ → ℕ
channels_at k n = processes_at k + process_stride * n

abbrev pub core_at : ℕ → ℕ → ℕ
core_at j f = header_size + core_stride * j + f

abbrev pub process_at : ℕ → ℕ → ℕ → ℕ
process_at k p f = processes_at k + process_stride * (p - 1) + f

abbrev pub channel_at : ℕ → ℕ → ℕ → ℕ → ℕ
channel_at k n c f = channels_at k n + channel_stride * (c - 1) + f

-- "The table has exactly T = 8 + 16K + 24N + 4M words."
abbrev pub room : ℕ → ℕ → ℕ → ℕ
room k n m = channels_at k n + channel_stride * m

-- The header's words: K, N, M. Those from header_spare on are 0.

abbrev pub header_cores : ℕ
header_cores = 0

abbrev pub header_processes : ℕ
header_processes = 1

abbrev pub header_channels : ℕ
header_channels = 2

abbrev pub header_spare : ℕ
header_spare = 3

-- A core's words: the running process; the task and its process; the active queue's first, last and size; dispatch count; mark; the heads
-- of the first and of the last batch. Those from core_spare on are 0.

abbrev pub core_runs : ℕ
core_runs = 0

abbrev pub core_task : ℕ
core_task = 1

abbrev pub core_task_process : ℕ
core_task_process = 2

abbrev pub core_first : ℕ
core_first = 3

abbrev pub core_last : ℕ
core_last = 4

abbrev pub core_size : ℕ
core_size = 5

abbrev pub core_dispatch : ℕ
core_dispatch = 6

abbrev pub core_mark : ℕ
core_mark = 7

abbrev pub core_first_head : ℕ
core_first_head = 8

abbrev pub core_last_head : ℕ
core_last_head = 9

abbrev pub core_spare : ℕ
core_spare = 10

-- A process's words: place; data; alternation state; progress (its number, channel, partner, number of guards, guard index, first ready
-- guard, and the guards); links (next, and of a batch's head the batch's last, its size and the next head). Those from
-- process_spare on are 0; there are none.

abbrev pub process_place : ℕ
process_place = 0

abbrev pub process_data : ℕ
process_data = 1

abbrev pub process_enabling : ℕ
process_enabling = 2

abbrev pub process_not_ready : ℕ
process_not_ready = 3

abbrev pub process_waiting : ℕ
process_waiting = 4

abbrev pub process_count : ℕ
process_count = 5

abbrev pub process_progress : ℕ
process_progress = 6

abbrev pub process_channel : ℕ
process_channel = 7

abbrev pub process_partner : ℕ
process_partner = 8

abbrev pub process_guards : ℕ
process_guards = 9

abbrev pub process_index : ℕ
process_index = 10

abbrev pub process_first_ready : ℕ
process_first_ready = 11

abbrev pub process_first_guard : ℕ
process_first_guard = 12

abbrev pub process_next : ℕ
process_next = 20

abbrev pub process_last : ℕ
process_last = 21

abbrev pub process_size : ℕ
process_size = 22

abbrev pub process_next_head : ℕ
process_next_head = 23

abbrev pub process_spare : ℕ
process_spare = 24

-- how many of them are a progress, and how many of those are guards; how many are links
abbrev pub progress_size : ℕ
progress_size = 14

abbrev pub guard_places : ℕ
guard_places = 8

abbrev pub links_size : ℕ
links_size = 4

-- A channel's words: writer, reader, channel word, transfers. None is left over.

abbrev pub channel_writer : ℕ
channel_writer = 0

abbrev pub channel_reader : ℕ
channel_reader = 1

abbrev pub channel_holder : ℕ
channel_holder = 2

abbrev pub channel_transfers : ℕ
channel_transfers = 3

abbrev pub channel_spare : ℕ
channel_spare = 4

-- The numbers that places, tasks and progress go by

abbrev pub place_running : ℕ
place_running = 1

abbrev pub place_queued : ℕ
place_queued = 2

abbrev pub place_asleep : ℕ
place_asleep = 3

abbrev pub place_ended : ℕ
place_ended = 4

abbrev pub task_none : ℕ
task_none = 0

abbrev pub task_trigger : ℕ
task_trigger = 1

abbrev pub task_wake : ℕ
task_wake = 2

-- nothing in hand; the stages of send, of receive and of a choice; the outcomes due
abbrev pub at_nothing : ℕ
at_nothing = 0

abbrev pub at_send_look : ℕ
at_send_look = 1

abbrev pub at_send_park : ℕ
at_send_park = 2

abbrev pub at_send_copy : ℕ
at_send_copy = 3

abbrev pub at_send_clear : ℕ
at_send_clear = 4

abbrev pub at_send_wake : ℕ
at_send_wake = 5

abbrev pub at_receive_look : ℕ
at_receive_look = 6

abbrev pub at_receive_park : ℕ
at_receive_park = 7

abbrev pub at_receive_copy : ℕ
at_receive_copy = 8

abbrev pub at_receive_clear : ℕ
at_receive_clear = 9

abbrev pub at_receive_wake : ℕ
at_receive_wake = 10

abbrev pub at_enable_look : ℕ
at_enable_look = 11

abbrev pub at_raise : ℕ
at_raise = 12

abbrev pub at_place_name : ℕ
at_place_name = 13

abbrev pub at_ready_from_look : ℕ
at_ready_from_look = 14

abbrev pub at_ready_from_place : ℕ
at_ready_from_place = 15

abbrev pub at_wait : ℕ
at_wait = 16

abbrev pub at_disable : ℕ
at_disable = 17

abbrev pub at_lower : ℕ
at_lower = 18

abbrev pub at_finish : ℕ
at_finish = 19

abbrev pub due_go : ℕ
due_go = 20

abbrev pub due_sent : ℕ
due_sent = 21

abbrev pub due_got : ℕ
due_got = 22

abbrev pub due_chose : ℕ
due_chose = 23
