-- Document 01, "Steps of choosing" (000, section 4.1), for the process p that runs on core k and chooses over guards gs. The rules
-- are 01's: they differ from the paper's figures 8 to 11 where 01 does.
use Rattle.std.specs.Prelude.{ℕ, zero, suc, ◌+◌, Bool, true, false, ◌||◌, List, eqb, ltb, length, if◌then◌else◌}
use Rattle.std.proofs.Math.Option.{Option, none, some}
use Rattle.rules.specs.Lists.{nth}
use Rattle.rules.specs.Numbers.{Answer, MOVED, FAULT}
use Rattle.rules.specs.State.{
  Stage,
  enable_look,
  raise,
  place_name,
  ready_from_look,
  ready_from_place,
  wait,
  disable,
  lower,
  finish,
  chose,
  doing,
  due,
  Alternation,
  no_task,
  wake_up,
  ChannelWord,
  nobody,
  plain,
  choosing,
}
use Rattle.rules.specs.Items.{alternation, channel_word}
use Rattle.rules.specs.Rule.{Rule, done, refuse, the, becomes, ◌>>=◌, ◌>>◌}
use Rattle.rules.specs.Steps.{next, sleeps, reports, has_task, wakes}

-- the guard at an index, counted from 1
abbrev pub guard : List ℕ → ℕ → ℕ
guard gs i = nth gs i 0

-- an alternation state with other flags, and one with another count
abbrev pub flags : Bool → Bool → Bool → Alternation → Alternation
flags e n w a = record { enabling = e; not_ready = n; waiting = w; count = a.count }

abbrev pub counting : ℕ → Alternation → Alternation
counting n a = record { enabling = a.enabling; not_ready = a.not_ready; waiting = a.waiting; count = n }

-- count - 1; "FAULT is given .. where a step would .. lower a count of 0"
abbrev pub lowered : ℕ → Rule ℕ
lowered zero = refuse FAULT
lowered (suc n) = done n

-- count + 1; "FAULT .. raise a count of 9"
abbrev pub raised : ℕ → Rule ℕ
raised n = if eqb n 9 then refuse FAULT else done (n + 1)

-- Enabling: "Guards are enabled all, in list order". After the last guard comes wait.
abbrev pub enable_next : List ℕ → ℕ → Stage
enable_next gs i = if ltb i (length gs) then enable_look gs (i + 1) else wait gs

-- "look (word 0: next raise; otherwise next ready)"
abbrev pub after_enable_look : List ℕ → ℕ → ChannelWord → Stage
after_enable_look gs i nobody = raise gs i
after_enable_look gs i (plain q) = ready_from_look gs i
after_enable_look gs i (choosing q) = ready_from_look gs i

abbrev pub enable_look_step : ℕ → List ℕ → ℕ → Rule Answer
enable_look_step p gs i = do
  word ← the channel_word (guard gs i)
  next p (after_enable_look gs i word)

-- "raise (count + 1)"
abbrev pub raise_step : ℕ → List ℕ → ℕ → Rule Answer
raise_step p gs i = do
  a ← the alternation p
  n ← raised a.count
  becomes alternation p (counting n a)
  next p (place_name gs i)

-- "place (if the word is still 0 it becomes one's name with the low bit set, go on to the next guard; otherwise next ready)"
abbrev pub name_placed : ℕ → List ℕ → ℕ → ChannelWord → Rule Answer
name_placed p gs i nobody = do
  becomes channel_word (guard gs i) (choosing p)
  next p (enable_next gs i)
name_placed p gs i (plain q) = next p (ready_from_place gs i)
name_placed p gs i (choosing q) = next p (ready_from_place gs i)

abbrev pub place_name_step : ℕ → List ℕ → ℕ → Rule Answer
place_name_step p gs i = do
  word ← the channel_word (guard gs i)
  name_placed p gs i word

-- "ready (clear not-ready, and count - 1 if it came from place; go on)"
abbrev pub ready_from_look_step : ℕ → List ℕ → ℕ → Rule Answer
ready_from_look_step p gs i = do
  a ← the alternation p
  becomes alternation p (flags a.enabling false a.waiting a)
  next p (enable_next gs i)

abbrev pub ready_from_place_step : ℕ → List ℕ → ℕ → Rule Answer
ready_from_place_step p gs i = do
  a ← the alternation p
  n ← lowered a.count
  becomes alternation p (flags a.enabling false a.waiting (counting n a))
  next p (enable_next gs i)

-- "Then wait: if not-ready is set, clear enabling and not-ready, set waiting, asleep, SLEPT; otherwise clear enabling and go on."
-- Either way disabling comes next, at the first guard.
abbrev pub waits : ℕ → ℕ → List ℕ → Alternation → Bool → Rule Answer
waits k p gs a true = do
  becomes alternation p (flags false false true a)
  sleeps k p (doing (disable gs 1 none)) no_task
waits k p gs a false = do
  becomes alternation p (flags false false a.waiting a)
  next p (disable gs 1 none)

abbrev pub wait_step : ℕ → ℕ → List ℕ → Rule Answer
wait_step k p gs = do
  a ← the alternation p
  waits k p gs a a.not_ready

-- Disabling: "Then disable all guards in order". After the last guard comes finish.
abbrev pub disable_next : List ℕ → ℕ → Option ℕ → Stage
disable_next gs i r = if ltb i (length gs) then disable gs (i + 1) r else finish gs r

-- "the guard is ready and the first such is kept"
abbrev pub keep_first : Option ℕ → ℕ → Option ℕ
keep_first none i = some i
keep_first (some j) i = some j

-- "if the word is one's own with the low bit, make it 0 and next lower ..; if it is plain, the guard is ready ..; any other word,
-- not ready"
abbrev pub disabled : ℕ → List ℕ → ℕ → Option ℕ → ChannelWord → Rule Answer
disabled p gs i r nobody = next p (disable_next gs i r)
disabled p gs i r (plain q) = next p (disable_next gs i (keep_first r i))
disabled p gs i r (choosing q) =
    if eqb q p then (becomes channel_word (guard gs i) nobody >> next p (lower gs i r)) else next p (disable_next gs i r)

abbrev pub disable_step : ℕ → List ℕ → ℕ → Option ℕ → Rule Answer
disable_step p gs i r = do
  word ← the channel_word (guard gs i)
  disabled p gs i r word

-- "lower (count - 1)"
abbrev pub lower_step : ℕ → List ℕ → ℕ → Option ℕ → Rule Answer
lower_step p gs i r = do
  a ← the alternation p
  n ← lowered a.count
  becomes alternation p (counting n a)
  next p (disable_next gs i r)

-- "FAULT .. finish a choice with no ready guard (this one is looked at before the count)"
abbrev pub first_ready : List ℕ → Option ℕ → Rule ℕ
first_ready gs none = refuse FAULT
first_ready gs (some i) = done (guard gs i)

-- "at 0 answer CHOSE with the first ready guard; above 0 asleep, SLEPT, with CHOSE due."
abbrev pub finished : ℕ → ℕ → ℕ → ℕ → Rule Answer
finished k p c zero = reports p (chose c)
finished k p c (suc n) = sleeps k p (due (chose c)) no_task

-- "Then finish: count - 1"
abbrev pub finish_step : ℕ → ℕ → List ℕ → Option ℕ → Rule Answer
finish_step k p gs r = do
  c ← first_ready gs r
  a ← the alternation p
  n ← lowered a.count
  becomes alternation p (counting n a)
  finished k p c n

-- The kernel task of a core that runs nothing (000, figure 11). "Trigger q (kernel task): clear q's not-ready and waiting, count - 1.
-- If waiting had been set or the new count is 0, next wake q by this core; otherwise the task is over."
abbrev pub trigger_step : ℕ → ℕ → Rule Answer
trigger_step k q = do
  a ← the alternation q
  n ← lowered a.count
  becomes alternation q (flags a.enabling false false (counting n a))
  has_task k (if a.waiting || eqb n 0 then wake_up q else no_task)
  done MOVED

-- "Wake q: as above, answer MOVED."
abbrev pub wake_task_step : ℕ → ℕ → Rule Answer
wake_task_step k q = do
  wakes k q
  has_task k no_task
  done MOVED
