-- Document 01, "Steps of send and receive (000, figure 7)", for the process p that runs on core k.
-- "Here and below, a step for which no answer is named answers MOVED."
use Rattle.std.specs.Prelude.{ℕ, ◌+◌, ◌%◌, List, [], ◌∷◌, ◌++◌}
use Rattle.rules.specs.Numbers.{Answer, MOVED, SLEPT, GO, SENT, GOT, CHOSE, FAULT}
use Rattle.rules.specs.State.{Place, running, queued, asleep, ended, Way, sending, receiving, Stage, park, copy, clear, wake, Outcome, go, sent, got, chose, Progress, nothing, doing, due, Task, no_task, trigger, Work, free, Core, ChannelWord, nobody, plain, choosing}
use Rattle.rules.specs.Items.{core, place, data_word, progress, channel_word, transfers}
use Rattle.rules.specs.Rule.{Rule, done, refuse, the, becomes, go_on, ◌>>=◌, ◌>>◌}

-- a core with other work, and one with another active queue
abbrev pub with_work : Work → Core → Core
with_work w c = record { work = w; active = c.active; dispatch = c.dispatch; mark = c.mark; run_queue = c.run_queue }

abbrev pub with_active : List ℕ → Core → Core
with_active l c = record { work = c.work; active = l; dispatch = c.dispatch; mark = c.mark; run_queue = c.run_queue }

-- the core runs nothing, and has the task t
abbrev pub has_task : ℕ → Task → Rule (Unit {0})
has_task k t = do
  c ← the core k
  becomes core k (with_work (free t) c)

-- the request goes on at another stage
abbrev pub next : ℕ → Stage → Rule Answer
next p x = do
  becomes progress p (doing x)
  done MOVED

-- p falls asleep, with what is to come when it is next taken, and the core has the task t
abbrev pub sleeps : ℕ → ℕ → Progress → Task → Rule Answer
sleeps k p then t = do
  becomes progress p then
  becomes place p asleep
  has_task k t
  done (SLEPT p)

-- "Numbers 5 to 8 leave the process running with nothing in hand"
abbrev pub leaves_running : ℕ → Answer → Rule Answer
leaves_running p answer = do
  becomes progress p nothing
  done answer

-- q goes to the end of this core's active queue
abbrev pub joins : ℕ → ℕ → Rule (Unit {0})
joins k q = do
  becomes place q queued
  c ← the core k
  becomes core k (with_active (c.active ++ (q ∷ [])) c)

-- "FAULT is given .. where a step would wake a process that isn't asleep"
abbrev pub must_sleep : Place → Rule (Unit {0})
must_sleep running = refuse FAULT
must_sleep queued = refuse FAULT
must_sleep asleep = go_on
must_sleep ended = refuse FAULT

abbrev pub wakes : ℕ → ℕ → Rule (Unit {0})
wakes k q = do
  was ← the place q
  must_sleep was
  joins k q

-- Look (figure 7, 1 to 3): "read the word. Nobody or the low bit set: next park. Otherwise that process is the partner: next copy."
abbrev pub after_look : Way → ℕ → ChannelWord → Stage
after_look w c nobody = park w c
after_look w c (choosing q) = park w c
after_look w c (plain q) = copy w c q

abbrev pub look_step : ℕ → Way → ℕ → Rule Answer
look_step p w c = do
  word ← the channel_word c
  next p (after_look w c word)

-- "On falling asleep the outcome SENT or GOT is due when next taken."
abbrev pub outcome : Way → ℕ → Outcome
outcome sending c = sent c
outcome receiving c = got c

-- Park (figure 7, 2): "Old word nobody: asleep, SLEPT. Old word with the low bit set: asleep, SLEPT, and the core has the task
-- 'trigger q'. Old word plain: the look was stale, one stays running with that partner: next copy."
abbrev pub parked : ℕ → ℕ → Way → ℕ → ChannelWord → Rule Answer
parked k p w c nobody = sleeps k p (due (outcome w c)) no_task
parked k p w c (choosing q) = sleeps k p (due (outcome w c)) (trigger q)
parked k p w c (plain q) = next p (copy w c q)

-- "swap one's plain name into the word"
abbrev pub park_step : ℕ → ℕ → Way → ℕ → Rule Answer
park_step k p w c = do
  old ← the channel_word c
  becomes channel_word c (plain p)
  parked k p w c old

-- Copy (figure 7, 4 and 5): "a sender writes its data word into the partner's, a receiver takes the partner's into its own, even
-- where the partner isn't the channel's other end"
abbrev pub copies : Way → ℕ → ℕ → Rule (Unit {0})
copies sending p q = do
  v ← the data_word p
  becomes data_word q v
copies receiving p q = do
  v ← the data_word q
  becomes data_word p v

-- "transfers go up by one", "which goes round from 4294967295 to 0"
abbrev pub copy_step : ℕ → Way → ℕ → ℕ → Rule Answer
copy_step p w c q = do
  copies w p q
  n ← the transfers c
  becomes transfers c ((n + 1) % 4294967296)
  next p (clear w c q)

-- Clear (figure 7, 6): "the word becomes 0."
abbrev pub clear_step : ℕ → Way → ℕ → ℕ → Rule Answer
clear_step p w c q = do
  becomes channel_word c nobody
  next p (wake w c q)

-- what a process that has come to an outcome answers; "GOT's value is its data word"
abbrev pub reports : ℕ → Outcome → Rule Answer
reports p go = leaves_running p (GO p)
reports p (sent c) = leaves_running p (SENT p c)
reports p (got c) = do
  v ← the data_word p
  leaves_running p (GOT p c v)
reports p (chose c) = leaves_running p (CHOSE p c)

-- Wake (figure 7, 7): "the partner goes to the end of this core's active queue; answer SENT or GOT."
abbrev pub wake_step : ℕ → ℕ → Way → ℕ → ℕ → Rule Answer
wake_step k p w c q = do
  wakes k q
  reports p (outcome w c)
