-- The code's kernel tasks, their numbers, and what they mean in the rules' terms.
use Rattle.std.specs.Prelude.{ℕ, eqb, if◌then◌else◌}
use Rattle.rules.specs.State as rules
use Rattle.rules.specs.Layout.{task_none, task_trigger, task_wake}
use Rattle.parts.specs.declared.Task.{Task}
use Rattle.parts.specs.declared.Task.TheVariants.{None, Trigger, Wake}

abbrev pub kind_of : Task → ℕ
kind_of None = task_none
kind_of (Trigger q) = task_trigger
kind_of (Wake q) = task_wake

-- the process that a task is about
abbrev pub subject_of : Task → ℕ
subject_of None = 0
subject_of (Trigger q) = q
subject_of (Wake q) = q

abbrev pub meant : Task → rules.Task
meant None = rules.no_task
meant (Trigger q) = rules.trigger q
meant (Wake q) = rules.wake_up q

-- the task of a kind and a process; task_wake is the greatest kind of a sound table
abbrev pub task_numbered : ℕ → ℕ → rules.Task
task_numbered kind q = if eqb kind task_none then rules.no_task else if eqb kind task_trigger then rules.trigger q else rules.wake_up q
