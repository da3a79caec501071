-- What the shared parts of the steps write into the table.
use Rattle.std.specs.Prelude.{ℕ, List, set, replicate, eqb, if◌then◌else◌}
use Rattle.std.proofs.lemmas.List.Edits.{sets}
use Rattle.rules.specs.Numbers.{Answer, GO, SENT, GOT, CHOSE}
use Rattle.rules.specs.Layout.{core_at, process_at, core_runs, core_task, core_task_process, process_place, process_progress, process_channel, progress_size, place_asleep, due_go, due_sent, due_got}

-- core k runs nothing and has a task, of process q
abbrev pub task_table : List ℕ → ℕ → ℕ → ℕ → List ℕ
task_table t k task q = set (set (set t (core_at k core_runs) 0) (core_at k core_task) task) (core_at k core_task_process) q

-- process p of core k is asleep, and the core has a task
abbrev pub asleep_table : List ℕ → ℕ → ℕ → ℕ → ℕ → ℕ → List ℕ
asleep_table t cores k p task q = task_table (set t (process_at cores p process_place) place_asleep) k task q

-- process p has nothing in hand: the words of its progress are 0
unfoldable pub cleared : List ℕ → ℕ → ℕ → List ℕ
cleared t cores p = sets t (process_at cores p process_progress) (replicate progress_size 0)

-- process p has an outcome due, of this number and of channel c
abbrev pub due_table : List ℕ → ℕ → ℕ → ℕ → ℕ → List ℕ
due_table t cores p number c = set (set (cleared t cores p) (process_at cores p process_progress) number) (process_at cores p process_channel) c

-- the answer to an outcome of this number, of process p, channel c and data word v
abbrev pub reported : ℕ → ℕ → ℕ → ℕ → Answer
reported number p c v =
    if eqb number due_go then GO p else if eqb number due_sent then SENT p c else if eqb number due_got then GOT p c v else CHOSE p c
