-- What is claimed of the rules, as types, each under the demand that it belongs to. The proofs stand in rules/proofs, each under the name
-- that is given here. `T b` says that the test b holds, `A ↔ B` that A and B hold together.
use Rattle.std.specs.Prelude.{ℕ, ◌+◌, ◌%◌, ◌≤◌, ◌<◌, ◌≡◌, Bool, true, ◌↔◌, T, length, get_or}
use mathlib.Core.List.{List, [], ◌∷◌, map, Memᴰ}
use Rattle.rules.specs.Lists.{total, member, times, first, last}
use Rattle.rules.specs.Numbers.{Answer, BUILT, TAKEN, MOVED, SLEPT, IDLE, GO, SENT, GOT, CHOSE, Refusal, SIZE, PAIRS, ROOM, NAME, SELF, ANSWER, DAMAGED, CORE, BUSY, AWAITED, GUARDS, CHANNEL, OTHER_END, TWICE, FAULT, reply, refusal_number, Lent, well_lent, written}
use Rattle.rules.specs.State.{Way, copy, doing, no_task, runs, free, Core, State, wiring}
use Rattle.rules.specs.Items.{progress, transfers, Item, core_of, get}
use Rattle.rules.specs.Requests.{send, receive, choose, yield, end}
use Rattle.rules.specs.Layout.{header_size, core_stride, process_stride, room, header_spare, core_task, core_task_process, core_first, core_last, core_size, core_first_head, core_last_head, core_spare, process_channel, process_next, process_last, process_size, process_next_head, process_spare}
use Rattle.rules.specs.Packing.{heads, pack, word_at, word_of_core, word_of_process, view}
use Rattle.rules.specs.UsedWords.{used_words}
use Rattle.rules.specs.Soundness.{word32, is_process, in_queues, valid, sound}
use Rattle.rules.specs.Calls.{Result, Ask, the_step, a_request, call, step_call, send_call, receive_call, choose_call, yield_call, end_call, Built, set_up_call}
use Rattle.rules.specs.Refusals.{First, set_up_cases, call_cases}
use Rattle.rules.specs.Touched.{touched}
use Rattle.rules.specs.BenchSheet.{BenchSheet}
use Rattle.rules.specs.Examples.{Examples}
use Rattle.rules.specs.Examples.Reached.{set_up_results, send_results, receive_results, choose_results, yield_results, end_results, step_results}
use Rattle.rules.specs.Shortcuts.{Shortcuts}

-- Demand 1: "Each call, on any table and any arguments, returns one of the listed numbers; a refusal comes exactly in its stated case and
-- changes nothing."

-- the number and the words of an answer
abbrev pub row : Answer → List ℕ
row a = (reply a).number ∷ (written a).words

-- `computed`, numbers_table: 01's table, row by row.
pub record NumbersTable : Type 0 where
  pub answers : (p c v : ℕ)
      → map row (BUILT ∷ TAKEN p c ∷ MOVED ∷ SLEPT p ∷ IDLE ∷ GO p ∷ SENT p c ∷ GOT p c v ∷ CHOSE p c ∷ [])
      ≡ (0 ∷ 0 ∷ 0 ∷ 0 ∷ []) ∷ (1 ∷ p ∷ c ∷ 0 ∷ []) ∷ (2 ∷ 0 ∷ 0 ∷ 0 ∷ []) ∷ (3 ∷ p ∷ 0 ∷ 0 ∷ []) ∷ (4 ∷ 0 ∷ 0 ∷ 0 ∷ [])
      ∷ (5 ∷ p ∷ 0 ∷ 0 ∷ []) ∷ (6 ∷ p ∷ c ∷ 0 ∷ []) ∷ (7 ∷ p ∷ c ∷ v ∷ []) ∷ (8 ∷ p ∷ c ∷ 0 ∷ []) ∷ []
  pub refusals : map refusal_number
      (SIZE ∷ PAIRS ∷ ROOM ∷ NAME ∷ SELF ∷ ANSWER ∷ DAMAGED ∷ CORE ∷ BUSY ∷ AWAITED ∷ GUARDS ∷ CHANNEL ∷ OTHER_END ∷ TWICE ∷ FAULT ∷ [])
      ≡ 20 ∷ 21 ∷ 22 ∷ 23 ∷ 24 ∷ 25 ∷ 26 ∷ 27 ∷ 28 ∷ 29 ∷ 30 ∷ 31 ∷ 32 ∷ 33 ∷ 34 ∷ []

-- `listed_number`: each call, on any table and any arguments, returns one of the listed numbers.
abbrev pub listed : List ℕ
listed =
    0 ∷ 1 ∷ 2 ∷ 3 ∷ 4 ∷ 5 ∷ 6 ∷ 7 ∷ 8 ∷ 20 ∷ 21 ∷ 22 ∷ 23 ∷ 24 ∷ 25 ∷ 26 ∷ 27 ∷ 28 ∷ 29 ∷ 30 ∷ 31 ∷ 32 ∷ 33 ∷ 34 ∷ []

pub record ListedNumber : Type 0 where
  pub calls : (t : List ℕ) (answer : Lent) (k : ℕ) (ask : Ask) → T (member (call t answer k ask).number listed)
  pub set_up : (k n m : ℕ) (pairs t : List ℕ) → T (member (set_up_call k n m pairs t).number listed)

-- the numbers that include/fontarisca.h lists for each export
abbrev pub set_up_numbers : List ℕ
set_up_numbers = 0 ∷ 20 ∷ 21 ∷ 22 ∷ 23 ∷ 24 ∷ []

abbrev pub send_numbers : List ℕ
send_numbers = 1 ∷ 25 ∷ 26 ∷ 27 ∷ 28 ∷ 31 ∷ 32 ∷ []

abbrev pub receive_numbers : List ℕ
receive_numbers = 1 ∷ 25 ∷ 26 ∷ 27 ∷ 28 ∷ 31 ∷ 32 ∷ []

abbrev pub choose_numbers : List ℕ
choose_numbers = 1 ∷ 25 ∷ 26 ∷ 27 ∷ 28 ∷ 30 ∷ 31 ∷ 32 ∷ 33 ∷ []

abbrev pub yield_numbers : List ℕ
yield_numbers = 1 ∷ 25 ∷ 26 ∷ 27 ∷ 28 ∷ []

abbrev pub end_numbers : List ℕ
end_numbers = 1 ∷ 25 ∷ 26 ∷ 27 ∷ 28 ∷ []

abbrev pub step_numbers : List ℕ
step_numbers = 2 ∷ 3 ∷ 4 ∷ 5 ∷ 6 ∷ 7 ∷ 8 ∷ 25 ∷ 26 ∷ 27 ∷ 29 ∷ 34 ∷ []

-- `own_numbers`: each export returns one of its numbers.
pub record OwnNumbers : Type 0 where
  pub set_up : (k n m : ℕ) (pairs t : List ℕ) → T (member (set_up_call k n m pairs t).number set_up_numbers)
  pub send : (t : List ℕ) (answer : Lent) (k c v : ℕ) → T (member (send_call t answer k c v).number send_numbers)
  pub receive : (t : List ℕ) (answer : Lent) (k c : ℕ) → T (member (receive_call t answer k c).number receive_numbers)
  pub choose : (t : List ℕ) (answer : Lent) (k : ℕ) (gs : List ℕ) → T (member (choose_call t answer k gs).number choose_numbers)
  pub yield : (t : List ℕ) (answer : Lent) (k : ℕ) → T (member (yield_call t answer k).number yield_numbers)
  pub end : (t : List ℕ) (answer : Lent) (k : ℕ) → T (member (end_call t answer k).number end_numbers)
  pub step : (t : List ℕ) (answer : Lent) (k : ℕ) → T (member (step_call t answer k).number step_numbers)

-- `computed`, reached_numbers: and each of them in some case.
pub record ReachedNumbers : Type 0 where
  pub set_up : set_up_results ≡ set_up_numbers
  pub send : send_results ≡ send_numbers
  pub receive : receive_results ≡ receive_numbers
  pub choose : choose_results ≡ choose_numbers
  pub yield : yield_results ≡ yield_numbers
  pub end : end_results ≡ end_numbers
  pub step : step_results ≡ step_numbers

-- `refused_exactly`: a refusal comes exactly in its stated case: a call returns its number where its case is given and none before it in
-- 01's order, and only there.
pub record RefusedExactly : Type 0 where
  pub calls : (t : List ℕ) (answer : Lent) (k : ℕ) (ask : Ask) (why : Refusal)
      → ((call t answer k ask).number ≡ refusal_number why) ↔ First (call_cases t answer k ask) why
  pub set_up : (k n m : ℕ) (pairs t : List ℕ) (why : Refusal)
      → ((set_up_call k n m pairs t).number ≡ refusal_number why) ↔ First (set_up_cases k n m pairs t) why

-- `refusal_writes_nothing`: "A refusal writes nothing anywhere." (Refusals are the numbers from 20 up.)
pub record RefusalWritesNothing : Type 0 where
  pub calls : (t : List ℕ) (answer : Lent) (k : ℕ) (ask : Ask) → 20 ≤ (call t answer k ask).number
      → ((call t answer k ask).answer ≡ answer) × ((call t answer k ask).table ≡ t)
  pub set_up : (k n m : ℕ) (pairs t : List ℕ) → 20 ≤ (set_up_call k n m pairs t).number → (set_up_call k n m pairs t).table ≡ t

-- Demand 2: "Each accepted call does exactly the step that the published rules give, and no other."
-- It is made of three parts. What an export gives back is what its call's definition (Calls.antt) says: the rule's own run from the state
-- that the table packs, for number, answer words and whole table (`Meets`, which each export's contract is). A table packs one state, and
-- each call leaves one that does. And the rules are the published ones: they are read against 01 and 000, and computed in every case.

-- What an export gives back

-- What came back from an export: its number, and what was lent for the answer and the table as it left them; from set-up.
abbrev pub gives : ℕ → Lent → List ℕ → Result
gives n answer t = record { number = n; answer = answer; table = t }

abbrev pub builds : ℕ → List ℕ → Built
builds n t = record { number = n; table = t }

-- A result meets an export's promise where number, answer words and table are those of the call's definition. The contract of each
-- export says that what it gives, or builds, meets its call.
pub record Meets (promised r : Result) : Type 0 where
  pub number : r.number ≡ promised.number
  pub answer : r.answer ≡ promised.answer
  pub table : r.table ≡ promised.table

pub record MeetsBuilt (promised b : Built) : Type 0 where
  pub number : b.number ≡ promised.number
  pub table : b.table ≡ promised.table

-- `same_result`: "two results which meet a promise are equal"
pub record SameResult : Type 0 where
  pub calls : (t : List ℕ) (answer : Lent) (k : ℕ) (ask : Ask) (r r' : Result) → Meets (call t answer k ask) r → Meets (call t answer k ask) r' → r ≡ r'
  pub set_up : (k n m : ℕ) (pairs t : List ℕ) (r r' : Built)
      → MeetsBuilt (set_up_call k n m pairs t) r → MeetsBuilt (set_up_call k n m pairs t) r' → r ≡ r'

-- What a table packs

-- `view_of_pack`: what is read out of the packing of a valid state is that state.
abbrev pub ViewOfPack : Type 0
ViewOfPack = (s : State) → T (valid s) → view (pack s) ≡ s

-- `one_packing`: "Each state has exactly one packing" (`pack` is a function), and two valid states with one packing are equal.
abbrev pub OnePacking : Type 0
OnePacking = (s s' : State) → T (valid s) → T (valid s') → pack s ≡ pack s' → s ≡ s'

-- `sound_means`: "A table is sound exactly when it is the packing of a state in which .."
abbrev pub SoundMeans : Type 0
SoundMeans = (t : List ℕ) → T (sound t) ↔ ((s : State) × T (valid s) × (t ≡ pack s))

-- `packing_length`: "The table has exactly T = 8 + 16K + 24N + 4M words."
abbrev pub PackingLength : Type 0
PackingLength = (s : State) → length (pack s) ≡ room (length s.cores) (length s.processes) (length s.channels)

-- what is 0 among the words w of a core c: what is left of its record, a task's words where there is no task, a queue's where it is empty
pub record UnusedOfCore (c : Core) (w : ℕ → ℕ) : Type 0 where
  pub spare : (f : ℕ) → core_spare ≤ f → f < core_stride → w f ≡ 0
  pub task : (p : ℕ) → c.work ≡ runs p → (w core_task ≡ 0) × (w core_task_process ≡ 0)
  pub task_process : c.work ≡ free no_task → w core_task_process ≡ 0
  pub active : c.active ≡ [] → (w core_first ≡ 0) × (w core_last ≡ 0) × (w core_size ≡ 0)
  pub run_queue : c.run_queue ≡ [] → (w core_first_head ≡ 0) × (w core_last_head ≡ 0)

-- how many batches of the run queues process p heads
abbrev pub batches_headed : State → ℕ → ℕ
batches_headed s p = total (λ (c : Core). times p (heads c.run_queue)) s.cores

-- and of process p: what its progress has no use for, next where it stands in no queue, a batch's words where it heads none, and what is
-- left of its record
pub record UnusedOfProcess (s : State) (p : ℕ) (w : ℕ → ℕ) : Type 0 where
  pub in_hand : (f : ℕ) → process_channel ≤ f → f < process_next → (T (member f (used_words (get progress s p))) → ⊥) → w f ≡ 0
  pub next : in_queues s p ≡ 0 → w process_next ≡ 0
  pub batch : batches_headed s p ≡ 0 → (w process_last ≡ 0) × (w process_size ≡ 0) × (w process_next_head ≡ 0)
  pub spare : (f : ℕ) → process_spare ≤ f → f < process_stride → w f ≡ 0

-- `unused_words_zero`: "Each state has exactly one packing, unused words 0."
pub record UnusedWordsZero : Type 0 where
  pub header : (s : State) (f : ℕ) → header_spare ≤ f → f < header_size → word_at (pack s) f ≡ 0
  pub cores : (s : State) (k : ℕ) → k < length s.cores → UnusedOfCore (core_of s k) (word_of_core (pack s) k)
  pub processes : (s : State) (p : ℕ) → T (is_process (wiring s) p) → UnusedOfProcess s p (word_of_process (pack s) p)

-- `kept_words`: the words that mean something and that `view` doesn't read. A core keeps its active queue's last process and size and
-- the last batch's head; a batch's head keeps the batch's last process and size.
pub record KeptWords : Type 0 where
  pub cores : (s : State) (k : ℕ) → k < length s.cores → let c = core_of s k in let w = word_of_core (pack s) k in
      (w core_last ≡ last c.active) × (w core_size ≡ length c.active) × (w core_last_head ≡ last (heads c.run_queue))
  pub batches : (s : State) (k i : ℕ) → T (valid s) → k < length s.cores → i < length (core_of s k).run_queue
      → let batch = get_or (core_of s k).run_queue i [] in let w = word_of_process (pack s) (first batch) in
      (w process_last ≡ last batch) × (w process_size ≡ length batch)

-- "Values sent are any 32-bit number." The exports take no other; the claims below speak of such asks.
abbrev pub sends_word : Ask → Bool
sends_word the_step = true
sends_word (a_request (send c v)) = word32 v
sends_word (a_request (receive c)) = true
sends_word (a_request (choose gs)) = true
sends_word (a_request yield) = true
sends_word (a_request end) = true

-- `stays_sound`: "Every accepted call on a sound table leaves it sound"; a refused one leaves the table as it was, so every call does.
-- An accepted set-up leaves a sound table whatever the table held.
pub record StaysSound : Type 0 where
  pub calls : (t : List ℕ) (answer : Lent) (k : ℕ) (ask : Ask) → T (sends_word ask) → T (sound t) → T (sound (call t answer k ask).table)
  pub set_up : (k n m : ℕ) (pairs t : List ℕ) → (set_up_call k n m pairs t).number ≡ 0 → T (sound (set_up_call k n m pairs t).table)

-- The published rules

-- `computed`: what the rules come to, case by case: the table of numbers, 01's starred cases, what they do instead of two of its shortcuts
-- (`still_asleep`, `both_guards`), and the examples.
pub record Computed : Type 0 where
  pub numbers_table : NumbersTable
  pub reached_numbers : ReachedNumbers
  pub bench_sheet : BenchSheet
  pub shortcuts : Shortcuts
  pub examples : Examples

-- a call that is a step of core k, whose running process stands at copy on channel c
pub record Copying (s : State) (k : ℕ) (ask : Ask) (c : ℕ) : Type 0 where
  pub process : ℕ
  pub partner : ℕ
  pub way : Way
  pub steps : ask ≡ the_step
  pub running : (core_of s k).work ≡ runs process
  pub at_copy : get progress s process ≡ doing (copy way c partner)

-- `only_copy_counts`: "only copy counts": no other call changes a channel's transfers. At copy "transfers go up by one", and the number
-- "goes round from 4294967295 to 0". (On a sound table a step at copy is refused for nothing but what is lent.)
pub record OnlyCopyCounts : Type 0 where
  pub unless_copying : (t : List ℕ) (answer : Lent) (k : ℕ) (ask : Ask) (c : ℕ) → T (sends_word ask) → T (sound t) → (Copying (view t) k ask c → ⊥)
      → get transfers (view (call t answer k ask).table) c ≡ get transfers (view t) c
  pub copying : (t : List ℕ) (answer : Lent) (k : ℕ) (ask : Ask) (c : ℕ) → T (sound t) → T (well_lent answer) → Copying (view t) k ask c
      → get transfers (view (call t answer k ask).table) c ≡ (get transfers (view t) c + 1) % 4294967296

-- Demand 3: "Two calls on different cores whose touched items have nothing in common give the same two answers and the same table in
-- either order."

-- two lists of items have nothing in common
abbrev pub Apart : List Item → List Item → Type 0
Apart l m = (x : Item) → Memᴰ x l → Memᴰ x m → ⊥

-- a call that isn't a set-up: its core, what it asks, and what is lent for the answer
pub record Call : Type 0 where
  pub core : ℕ
  pub ask : Ask
  pub answer : Lent

abbrev pub perform : Call → List ℕ → Result
perform c t = call t c.answer c.core c.ask

-- c and d made in either order: the same two answers and the same table
pub record Commute (t : List ℕ) (c d : Call) : Type 0 where
  pub number_of_c : (perform c t).number ≡ (perform c (perform d t).table).number
  pub answer_of_c : (perform c t).answer ≡ (perform c (perform d t).table).answer
  pub number_of_d : (perform d (perform c t).table).number ≡ (perform d t).number
  pub answer_of_d : (perform d (perform c t).table).answer ≡ (perform d t).answer
  pub table : (perform d (perform c t).table).table ≡ (perform c (perform d t).table).table

-- `either_order`: the demand. "A call's list is read off the table before either call." Refused calls are included.
abbrev pub EitherOrder : Type 0
EitherOrder =
    (t : List ℕ) (c d : Call) → T (sends_word c.ask) → T (sends_word d.ask) → T (sound t) → (c.core ≡ d.core → ⊥)
    → Apart (touched (view t) c.core c.ask) (touched (view t) d.core d.ask)
    → Commute t c d
