-- The packing (docs/PACKING.md): each state as a table of T words (Layout.antt says where each lies), and a state read out of any table.
use Rattle.std.specs.Prelude.{ℕ, zero, suc, ◌+◌, ◌*◌, ◌-◌, ◌/◌, ◌%◌, eqb, length, get_or, take, replicate, if◌then◌else◌}
use mathlib.Core.List.{List, [], ◌∷◌, ◌++◌, map, flat_map}
use Rattle.std.proofs.Math.Option.{Option, none, some}
use Rattle.rules.specs.Lists.{total, tabulate, from, bit, first, last, follows}
use Rattle.rules.specs.State.{Place, running, queued, asleep, ended, sending, receiving, look, park, copy, clear, wake, enable_look, raise, place_name, ready_from_look, ready_from_place, wait, disable, lower, finish, go, sent, got, chose, Progress, nothing, doing, due, Process, no_task, trigger, wake_up, Work, runs, free, Core, queues_of, ChannelWord, nobody, plain, choosing, Channel, State}
use Rattle.rules.specs.Items.{core_of, process_of, channel_of}
use Rattle.rules.specs.Layout.{header_size, core_stride, process_stride, channel_stride, core_at, process_at, channel_at, header_cores, header_processes, header_channels, header_spare, core_runs, core_task, core_task_process, core_first, core_dispatch, core_mark, core_first_head, core_spare, process_place, process_data, process_enabling, process_not_ready, process_waiting, process_count, process_progress, process_channel, process_partner, process_guards, process_index, process_first_ready, process_first_guard, process_next, process_next_head, process_spare, place_running, place_queued, place_asleep, place_ended, task_none, task_trigger, task_wake, at_nothing, at_send_look, at_send_park, at_send_copy, at_send_clear, at_send_wake, at_receive_look, at_receive_park, at_receive_copy, at_receive_clear, at_receive_wake, at_enable_look, at_raise, at_place_name, at_ready_from_look, at_ready_from_place, at_wait, at_disable, at_lower, at_finish, due_go, due_sent, due_got, due_chose, guard_places, channel_writer, channel_reader, channel_holder, channel_transfers, channel_spare}

-- The numbers of the packing

abbrev pub place_number : Place → ℕ
place_number running = place_running
place_number queued = place_queued
place_number asleep = place_asleep
place_number ended = place_ended

-- "The channel word is 0 for nobody, otherwise twice the process number, with the lowest bit set when that process is choosing."
abbrev pub word_number : ChannelWord → ℕ
word_number nobody = 0
word_number (plain q) = 2 * q
word_number (choosing q) = 2 * q + 1

-- first ready guard, 0 for none
abbrev pub ready_number : Option ℕ → ℕ
ready_number none = 0
ready_number (some i) = i

-- Core: running process, task, the task's process
abbrev pub work_words : Work → List ℕ
work_words (runs p) = p ∷ task_none ∷ 0 ∷ []
work_words (free no_task) = 0 ∷ task_none ∷ 0 ∷ []
work_words (free (trigger q)) = 0 ∷ task_trigger ∷ q ∷ []
work_words (free (wake_up q)) = 0 ∷ task_wake ∷ q ∷ []

-- the first process of each batch, its head
abbrev pub heads : List (List ℕ) → List ℕ
heads batches = map first batches

-- what is left of a record: zeros, from the word f to its end
abbrev pub spare : (stride f : ℕ) → List ℕ
spare stride f = replicate (stride - f) 0

-- (`unfoldable` is for the prover, as `abbrev` is: it reads what is defined as what it stands for only where a proof says so.)
-- A core's words: its work; the active queue's first, last and size; dispatch count; mark; heads of the first and the last batch.
unfoldable pub core_words : Core → List ℕ
core_words c =
    work_words c.work
    ++ (first c.active ∷ last c.active ∷ length c.active
    ∷ c.dispatch ∷ bit c.mark ∷ first (heads c.run_queue) ∷ last (heads c.run_queue)
    ∷ spare core_stride core_spare)

-- exactly n words: the list, then zeros
abbrev pub padded : ℕ → List ℕ → List ℕ
padded zero l = []
padded (suc n) [] = 0 ∷ padded n []
padded (suc n) (x ∷ xs) = x ∷ padded n xs

-- What a progress carries, and so which of its words mean something: docs/PACKING.md's column "Words".
pub data Carried : Type 0 where
  bare : Carried
  channel_only : (c : ℕ) → Carried
  channel_partner : (c q : ℕ) → Carried
  guards_only : (gs : List ℕ) → Carried
  guards_index : (gs : List ℕ) (i : ℕ) → Carried
  guards_index_ready : (gs : List ℕ) (i : ℕ) (r : Option ℕ) → Carried
  guards_ready : (gs : List ℕ) (r : Option ℕ) → Carried

-- Each progress: its number, and what it carries.
abbrev pub packed_as : Progress → ℕ × Carried
packed_as nothing = (at_nothing, bare)
packed_as (doing (look sending c)) = (at_send_look, channel_only c)
packed_as (doing (park sending c)) = (at_send_park, channel_only c)
packed_as (doing (copy sending c q)) = (at_send_copy, channel_partner c q)
packed_as (doing (clear sending c q)) = (at_send_clear, channel_partner c q)
packed_as (doing (wake sending c q)) = (at_send_wake, channel_partner c q)
packed_as (doing (look receiving c)) = (at_receive_look, channel_only c)
packed_as (doing (park receiving c)) = (at_receive_park, channel_only c)
packed_as (doing (copy receiving c q)) = (at_receive_copy, channel_partner c q)
packed_as (doing (clear receiving c q)) = (at_receive_clear, channel_partner c q)
packed_as (doing (wake receiving c q)) = (at_receive_wake, channel_partner c q)
packed_as (doing (enable_look gs i)) = (at_enable_look, guards_index gs i)
packed_as (doing (raise gs i)) = (at_raise, guards_index gs i)
packed_as (doing (place_name gs i)) = (at_place_name, guards_index gs i)
packed_as (doing (ready_from_look gs i)) = (at_ready_from_look, guards_index gs i)
packed_as (doing (ready_from_place gs i)) = (at_ready_from_place, guards_index gs i)
packed_as (doing (wait gs)) = (at_wait, guards_only gs)
packed_as (doing (disable gs i r)) = (at_disable, guards_index_ready gs i r)
packed_as (doing (lower gs i r)) = (at_lower, guards_index_ready gs i r)
packed_as (doing (finish gs r)) = (at_finish, guards_ready gs r)
packed_as (due go) = (due_go, bare)
packed_as (due (sent c)) = (due_sent, channel_only c)
packed_as (due (got c)) = (due_got, channel_only c)
packed_as (due (chose c)) = (due_chose, channel_only c)

-- A progress's words: its number, channel, partner, number of guards, guard index, first ready guard, and the guards.
abbrev pub request_words : ℕ → ℕ → ℕ → List ℕ → ℕ → Option ℕ → List ℕ
request_words number c q gs i r = number ∷ c ∷ q ∷ length gs ∷ i ∷ ready_number r ∷ padded guard_places gs

abbrev pub of_channel : ℕ → ℕ → ℕ → List ℕ
of_channel number c q = request_words number c q [] 0 none

abbrev pub of_choice : ℕ → List ℕ → ℕ → Option ℕ → List ℕ
of_choice number gs i r = request_words number 0 0 gs i r

abbrev pub carried_words : ℕ → Carried → List ℕ
carried_words number bare = of_channel number 0 0
carried_words number (channel_only c) = of_channel number c 0
carried_words number (channel_partner c q) = of_channel number c q
carried_words number (guards_only gs) = of_choice number gs 0 none
carried_words number (guards_index gs i) = of_choice number gs i none
carried_words number (guards_index_ready gs i r) = of_choice number gs i r
carried_words number (guards_ready gs r) = of_choice number gs 0 r

unfoldable pub progress_words : Progress → List ℕ
progress_words x = carried_words (packed_as x).0 (packed_as x).1

-- The queues as chains. In a sound table p stands in at most one queue, and the sums below have at most one term that isn't 0.
-- p's next: who follows p in its queue
unfoldable pub next_link : State → ℕ → ℕ
next_link s p = total (λ (c : Core). total (follows p) (queues_of c)) s.cores

-- what a batch's head keeps of its batch: a number of the batch if p is its head
abbrev pub if_head : (List ℕ → ℕ) → ℕ → List ℕ → ℕ
if_head f p batch = if eqb (first batch) p then f batch else 0

unfoldable pub head_link : (List ℕ → ℕ) → State → ℕ → ℕ
head_link f s p = total (λ (c : Core). total (if_head f p) c.run_queue) s.cores

-- and the head of the batch that follows in the run queue
unfoldable pub batch_link : State → ℕ → ℕ
batch_link s p = total (λ (c : Core). follows p (heads c.run_queue)) s.cores

-- A process's words: place; data; alternation state; progress; next, and for a batch's head its last, its size and the next head.
unfoldable pub process_words : State → ℕ → List ℕ
process_words s p =
    let r = process_of s p in
    place_number r.place ∷ r.data_word
    ∷ bit r.alternation.enabling ∷ bit r.alternation.not_ready ∷ bit r.alternation.waiting ∷ r.alternation.count
    ∷ progress_words r.progress
    ++ (next_link s p ∷ head_link last s p ∷ head_link length s p ∷ batch_link s p ∷ spare process_stride process_spare)

-- A channel's words.
unfoldable pub channel_words : Channel → List ℕ
channel_words c = c.ends.writer ∷ c.ends.reader ∷ word_number c.word ∷ c.transfers ∷ spare channel_stride channel_spare

unfoldable pub header_words : State → List ℕ
header_words s = length s.cores ∷ length s.processes ∷ length s.channels ∷ spare header_size header_spare

-- The table: header, cores, processes, channels.
unfoldable pub pack : State → List ℕ
pack s =
    header_words s
    ++ flat_map (λ k. core_words (core_of s k)) (from 0 (length s.cores))
    ++ flat_map (λ p. process_words s p) (from 1 (length s.processes))
    ++ flat_map (λ c. channel_words (channel_of s c)) (from 1 (length s.channels))

-- Reading a state out of a table

abbrev pub word_at : List ℕ → ℕ → ℕ
word_at t a = get_or t a 0

-- the header's K, N and M
abbrev pub k_of : List ℕ → ℕ
k_of t = word_at t header_cores

abbrev pub n_of : List ℕ → ℕ
n_of t = word_at t header_processes

abbrev pub m_of : List ℕ → ℕ
m_of t = word_at t header_channels

-- the word f of core j, of process p, of channel c
abbrev pub word_of_core : List ℕ → ℕ → ℕ → ℕ
word_of_core t j f = word_at t (core_at j f)

abbrev pub word_of_process : List ℕ → ℕ → ℕ → ℕ
word_of_process t p f = word_at t (process_at (k_of t) p f)

abbrev pub word_of_channel : List ℕ → ℕ → ℕ → ℕ
word_of_channel t c f = word_at t (channel_at (k_of t) (n_of t) c f)

-- The one of a list that has the number n. Where none has it anything may be read, as d: packing it again gives another table.
abbrev pub numbered : {A : Type 0} → (A → ℕ) → List A → A → ℕ → A
numbered number [] d n = d
numbered number (x ∷ l) d n = if eqb (number x) n then x else numbered number l d n

abbrev pub place_numbered : ℕ → Place
place_numbered n = numbered place_number (running ∷ queued ∷ asleep ∷ ended ∷ []) ended n

abbrev pub word_numbered : ℕ → ChannelWord
word_numbered n = if eqb n 0 then nobody else if eqb (n % 2) 0 then plain (n / 2) else choosing (n / 2)

abbrev pub ready_numbered : ℕ → Option ℕ
ready_numbered n = if eqb n 0 then none else some n

abbrev pub work_numbered : ℕ → ℕ → ℕ → Work
work_numbered p task q = if eqb p 0 then free (get_or (no_task ∷ trigger q ∷ wake_up q ∷ []) task no_task) else runs p

-- every progress with this channel, partner, guards, index and first ready guard, and the one of a number
abbrev pub progress_list : ℕ → ℕ → List ℕ → ℕ → Option ℕ → List Progress
progress_list c q gs i r =
    nothing
    ∷ doing (look sending c) ∷ doing (park sending c) ∷ doing (copy sending c q) ∷ doing (clear sending c q) ∷ doing (wake sending c q)
    ∷ doing (look receiving c) ∷ doing (park receiving c) ∷ doing (copy receiving c q) ∷ doing (clear receiving c q) ∷ doing (wake receiving c q)
    ∷ doing (enable_look gs i) ∷ doing (raise gs i) ∷ doing (place_name gs i) ∷ doing (ready_from_look gs i) ∷ doing (ready_from_place gs i)
    ∷ doing (wait gs) ∷ doing (disable gs i r) ∷ doing (lower gs i r) ∷ doing (finish gs r)
    ∷ due go ∷ due (sent c) ∷ due (got c) ∷ due (chose c) ∷ []

unfoldable pub progress_numbered : ℕ → ℕ → ℕ → List ℕ → ℕ → Option ℕ → Progress
progress_numbered number c q gs i r = numbered (λ x. (packed_as x).0) (progress_list c q gs i r) nothing number

-- p, then what is linked behind it, up to the first 0 and at most n of them
abbrev pub chain : (ℕ → ℕ) → ℕ → ℕ → List ℕ
chain link zero p = []
chain link (suc n) zero = []
chain link (suc n) (suc p) = suc p ∷ chain link n (link (suc p))

unfoldable pub view_core : List ℕ → ℕ → Core
view_core t j =
    let w = word_of_core t j in
    let queue = chain (λ p. word_of_process t p process_next) (n_of t) in
    record {
      work = work_numbered (w core_runs) (w core_task) (w core_task_process);
      active = queue (w core_first);
      dispatch = w core_dispatch;
      mark = eqb (w core_mark) 1;
      run_queue = map queue (chain (λ p. word_of_process t p process_next_head) (n_of t) (w core_first_head));
    }

unfoldable pub view_process : List ℕ → ℕ → Process
view_process t p =
    let w = word_of_process t p in
    let guards = take (w process_guards) (tabulate w process_first_guard guard_places) in
    record {
      place = place_numbered (w process_place);
      data_word = w process_data;
      alternation =
          record {
            enabling = eqb (w process_enabling) 1;
            not_ready = eqb (w process_not_ready) 1;
            waiting = eqb (w process_waiting) 1;
            count = w process_count;
          };
      progress =
          progress_numbered (w process_progress) (w process_channel) (w process_partner) guards (w process_index)
          (ready_numbered (w process_first_ready));
    }

unfoldable pub view_channel : List ℕ → ℕ → Channel
view_channel t c =
    let w = word_of_channel t c in
    record {
      ends = record { writer = w channel_writer; reader = w channel_reader };
      word = word_numbered (w channel_holder);
      transfers = w channel_transfers;
    }

unfoldable pub view : List ℕ → State
view t =
    record {
      cores = tabulate (view_core t) 0 (k_of t);
      processes = tabulate (view_process t) 1 (n_of t);
      channels = tabulate (view_channel t) 1 (m_of t);
    }
