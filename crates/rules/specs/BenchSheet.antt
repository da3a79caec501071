-- Document 01, "Bench sheet": the cases marked *, through the calls that the exports' contracts cite.
use Rattle.std.specs.Prelude.{ℕ, ◌≡◌, Bool, true, false, List, [], ◌∷◌, ◌++◌, map, replicate, if◌then◌else◌}
use Rattle.rules.specs.Lists.{tabulate, from, member}
use Rattle.rules.specs.Numbers.{Answer, BUILT, TAKEN, MOVED, SLEPT, GO, SENT, GOT, CHOSE, ROOM, yes_with, no_because, number_of, Lent, lends, written}
use Rattle.rules.specs.State.{Place, queued, asleep, ended, go, nothing, due, Alternation, Process, no_task, trigger, wake_up, Work, free}
use Rattle.rules.specs.Items.{core_of, process_of, no_alternation, put, alternation, transfers}
use Rattle.rules.specs.Requests.{send, receive, choose}
use Rattle.rules.specs.Layout.{room, channel_holder, channel_transfers}
use Rattle.rules.specs.Packing.{pack, view, word_of_channel}
use Rattle.rules.specs.Calls.{Result, Ask, the_step, a_request, call, Built, set_up_call}

-- Scripts: calls one after the other, each on the table that the one before left, with words of 0 lent for the answer.

pub record Turn : Type 0 where
  pub on : ℕ
  pub ask : Ask

-- core k does its next step; core k's process sends, receives or chooses
abbrev pub steps : ℕ → Turn
steps k = record { on = k; ask = the_step }

abbrev pub sends : ℕ → ℕ → ℕ → Turn
sends k c v = record { on = k; ask = a_request (send c v) }

abbrev pub receives : ℕ → ℕ → Turn
receives k c = record { on = k; ask = a_request (receive c) }

abbrev pub chooses : ℕ → List ℕ → Turn
chooses k gs = record { on = k; ask = a_request (choose gs) }

abbrev pub zeros : Lent
zeros = lends (0 ∷ 0 ∷ 0 ∷ [])

abbrev pub turn : List ℕ → Turn → Result
turn t x = call t zeros x.on x.ask

-- what each turn returned, number and words, and the table after the last
abbrev pub answers : List ℕ → List Turn → List (ℕ × Lent)
answers t [] = []
answers t (x ∷ xs) = let r = turn t x in (r.number, r.answer) ∷ answers r.table xs

abbrev pub after : List ℕ → List Turn → List ℕ
after t [] = t
after t (x ∷ xs) = after (turn t x).table xs

-- each answer as its number and its words
abbrev pub said : List Answer → List (ℕ × Lent)
said l = map (λ (a : Answer). (number_of (yes_with a), written a)) l

-- 1. "K=1, N=1, M=0: 48 words BUILT; 47 and 49 ROOM."
abbrev pub set_up_of : ℕ → Built
set_up_of size = set_up_call 1 1 0 [] (replicate size 0)

abbrev pub Case1 : Type 0
Case1 =
    ((set_up_of 48).number ≡ number_of (yes_with BUILT)) × ((set_up_of 47).number ≡ number_of (no_because ROOM))
    × ((set_up_of 49).number ≡ number_of (no_because ROOM))

-- One core with these queues and nothing running; the processes named in them are queued with GO due, the others have ended.
abbrev pub queue_place : List ℕ → ℕ → Process
queue_place members p =
    if member p members then record { place = queued; data_word = 0; alternation = no_alternation; progress = due go }
    else record { place = ended; data_word = 0; alternation = no_alternation; progress = nothing }

abbrev pub one_core : ℕ → List ℕ → Bool → List (List ℕ) → List ℕ → List ℕ
one_core n active mark batches members =
    pack
    (record {
      cores = record { work = free no_task; active = active; dispatch = 0; mark = mark; run_queue = batches } ∷ [];
      processes = tabulate (queue_place members) 1 n;
      channels = [];
    })

abbrev pub after_step : List ℕ → List ℕ
after_step t = after t (steps 0 ∷ [])

-- 3. "Load: sizes 1, 7, 8, 9 give 4, 28, 32, 32."
abbrev pub dispatch_after_load : ℕ → ℕ
dispatch_after_load n = (core_of (view (after_step (one_core n [] false (from 1 n ∷ []) (from 1 n)))) 0).dispatch

abbrev pub Case3 : Type 0
Case3 = map dispatch_after_load (1 ∷ 7 ∷ 8 ∷ 9 ∷ []) ≡ 4 ∷ 28 ∷ 32 ∷ 32 ∷ []

-- 4. "Store of 3, 5, 6 unmarked: batches (3), (5, 6); marked: (3, 5, 6); of 3 alone: (3)."
abbrev pub Stores : List ℕ → Bool → List (List ℕ) → Type 0
Stores active mark batches = after_step (one_core 6 active mark [] active) ≡ one_core 6 [] mark batches active

abbrev pub Case4 : Type 0
Case4 =
    Stores (3 ∷ 5 ∷ 6 ∷ []) false ((3 ∷ []) ∷ (5 ∷ 6 ∷ []) ∷ []) × Stores (3 ∷ 5 ∷ 6 ∷ []) true ((3 ∷ 5 ∷ 6 ∷ []) ∷ [])
    × Stores (3 ∷ []) false ((3 ∷ []) ∷ []) × Stores (3 ∷ []) true ((3 ∷ []) ∷ [])

-- the table of a pair: K cores, N=2, M=1, writer 1, reader 2
abbrev pub pair : ℕ → List ℕ
pair k = (set_up_call k 2 1 (1 ∷ 2 ∷ []) (replicate (room k 2 1) 7)).table

-- 5. "K=1, N=2, M=1, writer 1, reader 2. Step MOVED; step GO 1; send 77 TAKEN; MOVED; SLEPT 1; MOVED; GO 2; receive TAKEN; MOVED
-- three times; GOT 2, 1, 77."
abbrev pub Case5 : Type 0
Case5 =
    answers (pair 1)
    (steps 0 ∷ steps 0 ∷ sends 0 1 77 ∷ steps 0 ∷ steps 0 ∷ steps 0 ∷ steps 0 ∷ receives 0 1 ∷ steps 0 ∷ steps 0 ∷ steps 0 ∷ steps 0 ∷ [])
    ≡ said (MOVED ∷ GO 1 ∷ TAKEN 1 1 ∷ MOVED ∷ SLEPT 1 ∷ MOVED ∷ GO 2 ∷ TAKEN 2 1 ∷ MOVED ∷ MOVED ∷ MOVED ∷ GOT 2 1 77 ∷ [])

-- 6. "K=2, same pair. Both look at 0; the reader parks, SLEPT 2; the writer parks, MOVED, word 2; copy, clear; SENT 1, 1. Process 2 is
-- now in core 0's queue."
abbrev pub both_look : List Turn
both_look = steps 0 ∷ steps 0 ∷ steps 1 ∷ steps 1 ∷ sends 0 1 77 ∷ receives 1 1 ∷ steps 0 ∷ steps 1 ∷ []

abbrev pub both_park : List Turn
both_park = steps 1 ∷ steps 0 ∷ []

abbrev pub one_sends : List Turn
one_sends = steps 0 ∷ steps 0 ∷ steps 0 ∷ []

abbrev pub Case6 : Type 0
Case6 =
    (answers (pair 2) (both_look ++ both_park ++ one_sends)
    ≡ said (MOVED ∷ GO 1 ∷ MOVED ∷ GO 2 ∷ TAKEN 1 1 ∷ TAKEN 2 1 ∷ MOVED ∷ MOVED ∷ SLEPT 2 ∷ MOVED ∷ MOVED ∷ MOVED ∷ SENT 1 1 ∷ []))
    × (word_of_channel (after (pair 2) (both_look ++ both_park)) 1 channel_holder ≡ 2)
    × ((core_of (view (after (pair 2) (both_look ++ both_park ++ one_sends))) 0).active ≡ 2 ∷ [])

-- 7. "Choose over one guard whose word is 2: look, ready, wait, disable MOVED, finish CHOSE."
abbrev pub one_parks : List Turn
one_parks = steps 0 ∷ steps 0 ∷ sends 0 1 77 ∷ steps 0 ∷ steps 0 ∷ []

abbrev pub two_chooses : List Turn
two_chooses = steps 1 ∷ steps 1 ∷ chooses 1 (1 ∷ []) ∷ []

abbrev pub Case7 : Type 0
Case7 =
    (word_of_channel (after (pair 2) one_parks) 1 channel_holder ≡ 2)
    × (answers (after (pair 2) one_parks) (two_chooses ++ (steps 1 ∷ steps 1 ∷ steps 1 ∷ steps 1 ∷ steps 1 ∷ []))
    ≡ said (MOVED ∷ GO 2 ∷ TAKEN 2 0 ∷ MOVED ∷ MOVED ∷ MOVED ∷ MOVED ∷ CHOSE 2 1 ∷ []))

-- 8. "The same with word 0: look, raise, place MOVED, wait SLEPT; word 5, count 2, waiting."
abbrev pub two_waits : List Turn
two_waits = two_chooses ++ (steps 1 ∷ steps 1 ∷ steps 1 ∷ steps 1 ∷ [])

abbrev pub no_flags : ℕ → Alternation
no_flags n = record { enabling = false; not_ready = false; waiting = false; count = n }

abbrev pub Case8 : Type 0
Case8 =
    (answers (pair 2) two_waits ≡ said (MOVED ∷ GO 2 ∷ TAKEN 2 0 ∷ MOVED ∷ MOVED ∷ MOVED ∷ SLEPT 2 ∷ []))
    × (word_of_channel (after (pair 2) two_waits) 1 channel_holder ≡ 5)
    × ((process_of (view (after (pair 2) two_waits)) 2).alternation ≡ record { enabling = false; not_ready = false; waiting = true; count = 2 })

-- Process 1 now sends to process 2, which waits: it looks at 5, parks, and its core has the task "trigger 2".
abbrev pub one_triggers : List Turn
one_triggers = steps 0 ∷ steps 0 ∷ sends 0 1 77 ∷ steps 0 ∷ steps 0 ∷ []

-- A trigger of process 2, but for its alternation state: what the step answers, and what it leaves.
pub record Triggered : Type 0 where
  pub answer : List (ℕ × Lent)
  pub alternation : Alternation
  pub place : Place
  pub work : Work
  pub active : List ℕ

abbrev pub trigger_table : Alternation → List ℕ
trigger_table a = pack (put alternation 2 a (view (after (pair 2) (two_waits ++ one_triggers))))

abbrev pub left_by : List ℕ → List Turn → Triggered
left_by t turns =
    let s = view (after t turns) in
    let two = process_of s 2 in
    let core_0 = core_of s 0 in
    record {
      answer = answers t turns;
      alternation = two.alternation;
      place = two.place;
      work = core_0.work;
      active = core_0.active;
    }

-- 9. "Trigger on waiting, count 2: count 1, wake follows."
abbrev pub Case9 : Type 0
Case9 =
    (answers (after (pair 2) two_waits) (one_triggers ++ (steps 0 ∷ steps 0 ∷ []))
    ≡ said (MOVED ∷ GO 1 ∷ TAKEN 1 1 ∷ MOVED ∷ SLEPT 1 ∷ MOVED ∷ MOVED ∷ []))
    × ((core_of (view (after (pair 2) (two_waits ++ one_triggers))) 0).work ≡ free (trigger 2))
    × (left_by (after (pair 2) (two_waits ++ one_triggers)) (steps 0 ∷ [])
    ≡ record { answer = said (MOVED ∷ []); alternation = no_flags 1; place = asleep; work = free (wake_up 2); active = [] })
    × (left_by (after (pair 2) (two_waits ++ one_triggers)) (steps 0 ∷ steps 0 ∷ [])
    ≡ record { answer = said (MOVED ∷ MOVED ∷ []); alternation = no_flags 1; place = queued; work = free no_task; active = 2 ∷ [] })

-- 10. "Trigger, no flags, count 2: count 1, no wake."
abbrev pub Case10 : Type 0
Case10 =
    left_by (trigger_table (no_flags 2)) (steps 0 ∷ [])
    ≡ record { answer = said (MOVED ∷ []); alternation = no_flags 1; place = asleep; work = free no_task; active = [] }

-- 11. "Trigger, no flags, count 1: count 0, wake follows."
abbrev pub Case11 : Type 0
Case11 =
    (left_by (trigger_table (no_flags 1)) (steps 0 ∷ [])
    ≡ record { answer = said (MOVED ∷ []); alternation = no_flags 0; place = asleep; work = free (wake_up 2); active = [] })
    × (left_by (trigger_table (no_flags 1)) (steps 0 ∷ steps 0 ∷ [])
    ≡ record { answer = said (MOVED ∷ MOVED ∷ []); alternation = no_flags 0; place = queued; work = free no_task; active = 2 ∷ [] })

-- 13. "Transfers 4294967295, copy: 0." Process 2 has looked at the word of process 1, and copies.
abbrev pub two_looks : List Turn
two_looks = steps 1 ∷ steps 1 ∷ receives 1 1 ∷ steps 1 ∷ []

abbrev pub many_transfers : List ℕ
many_transfers = pack (put transfers 1 4294967295 (view (after (pair 2) (one_parks ++ two_looks))))

abbrev pub Case13 : Type 0
Case13 =
    (word_of_channel many_transfers 1 channel_transfers ≡ 4294967295) × (answers many_transfers (steps 1 ∷ []) ≡ said (MOVED ∷ []))
    × (word_of_channel (after many_transfers (steps 1 ∷ [])) 1 channel_transfers ≡ 0)

-- The starred cases, together.
pub record BenchSheet : Type 0 where
  pub case_1 : Case1
  pub case_3 : Case3
  pub case_4 : Case4
  pub case_5 : Case5
  pub case_6 : Case6
  pub case_7 : Case7
  pub case_8 : Case8
  pub case_9 : Case9
  pub case_10 : Case10
  pub case_11 : Case11
  pub case_13 : Case13
