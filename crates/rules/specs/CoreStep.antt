-- Document 01, "a step": the next atomic step of a core.
use Rattle.std.specs.Prelude.{ℕ}
use Rattle.rules.specs.Numbers.{Answer, AWAITED}
use Rattle.rules.specs.State.{
  Stage,
  look,
  park,
  copy,
  clear,
  wake,
  enable_look,
  raise,
  place_name,
  ready_from_look,
  ready_from_place,
  wait,
  disable,
  lower,
  finish,
  Progress,
  nothing,
  doing,
  due,
  no_task,
  trigger,
  wake_up,
  Work,
  runs,
  free,
  Core,
}
use Rattle.rules.specs.Items.{core, progress}
use Rattle.rules.specs.Rule.{Rule, refuse, the, ◌>>=◌}
use Rattle.rules.specs.Steps.{look_step, park_step, copy_step, clear_step, wake_step}
use Rattle.rules.specs.Choice.{
  enable_look_step,
  raise_step,
  place_name_step,
  ready_from_look_step,
  ready_from_place_step,
  wait_step,
  disable_step,
  lower_step,
  finish_step,
  trigger_step,
  wake_task_step,
}
use Rattle.rules.specs.Scheduler.{schedule}

-- the stage of a request
abbrev pub stage_step : ℕ → ℕ → Stage → Rule Answer
stage_step k p (look w c) = look_step p w c
stage_step k p (park w c) = park_step k p w c
stage_step k p (copy w c q) = copy_step p w c q
stage_step k p (clear w c q) = clear_step p w c q
stage_step k p (wake w c q) = wake_step k p w c q
stage_step k p (enable_look gs i) = enable_look_step p gs i
stage_step k p (raise gs i) = raise_step p gs i
stage_step k p (place_name gs i) = place_name_step p gs i
stage_step k p (ready_from_look gs i) = ready_from_look_step p gs i
stage_step k p (ready_from_place gs i) = ready_from_place_step p gs i
stage_step k p (wait gs) = wait_step k p gs
stage_step k p (disable gs i r) = disable_step p gs i r
stage_step k p (lower gs i r) = lower_step p gs i r
stage_step k p (finish gs r) = finish_step k p gs r

-- "AWAITED: a step, but the running process has nothing in hand" (No running process has an outcome due.)
abbrev pub running_step : ℕ → ℕ → Progress → Rule Answer
running_step k p nothing = refuse AWAITED
running_step k p (doing x) = stage_step k p x
running_step k p (due o) = refuse AWAITED

abbrev pub work_step : ℕ → Core → Work → Rule Answer
work_step k c (runs p) = do
  has ← the progress p
  running_step k p has
work_step k c (free no_task) = schedule k c c.dispatch c.active c.run_queue
work_step k c (free (trigger q)) = trigger_step k q
work_step k c (free (wake_up q)) = wake_task_step k q

-- "a step (the next atomic step of a core)"
abbrev pub step : ℕ → Rule Answer
step k = do
  c ← the core k
  work_step k c c.work
