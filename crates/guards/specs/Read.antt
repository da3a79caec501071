-- A choice's guards, index, first ready guard and count as they stand in the table, and what goes to the next guard.
use Rattle.std.specs.Prelude.{ℕ, ◌+◌, ◌-◌, ◌<◌, List, eqb, ltb, length, get_or, set, take, if◌then◌else◌}
use Rattle.std.proofs.Math.Option.{Option}
use Rattle.rules.specs.Lists.{tabulate}
use Rattle.rules.specs.Numbers.{Answer, Said}
use Rattle.rules.specs.State.{Stage}
use Rattle.rules.specs.Rule.{Rule}
use Rattle.rules.specs.Layout.{process_at, channel_at, process_enabling, process_not_ready, process_waiting, process_count, process_progress}
use Rattle.rules.specs.Layout.{process_guards, process_index, process_first_ready, process_first_guard, guard_places, channel_holder}
use Rattle.rules.specs.Layout.{at_enable_look, at_wait}
use Rattle.rules.specs.Packing.{ready_numbered}
use Rattle.table.specs.Has.{HasProcess, HasChannel}
use Rattle.parts.specs.Does.{At, Does}

-- the word f of process p, among as many cores
abbrev pub word_of : List ℕ → ℕ → ℕ → ℕ → ℕ
word_of t cores p f = get_or t (process_at cores p f) 0

-- the word of the guard at an index, counted from 1
abbrev pub guard_place : ℕ → ℕ
guard_place i = process_first_guard - 1 + i

unfoldable pub guards_at : List ℕ → ℕ → ℕ → List ℕ
guards_at t cores p = take (word_of t cores p process_guards) (tabulate (word_of t cores p) process_first_guard guard_places)

abbrev pub index_at : List ℕ → ℕ → ℕ → ℕ
index_at t cores p = word_of t cores p process_index

abbrev pub ready_at : List ℕ → ℕ → ℕ → Option ℕ
ready_at t cores p = ready_numbered (word_of t cores p process_first_ready)

abbrev pub count_at : List ℕ → ℕ → ℕ → ℕ
count_at t cores p = word_of t cores p process_count

-- the channel of the guard that the choice has come to
abbrev pub guard_at : List ℕ → ℕ → ℕ → ℕ
guard_at t cores p = word_of t cores p (guard_place (index_at t cores p))

-- the table has the words of process p, of its guard and of that guard's channel
pub record AtGuard (t : List ℕ) (cores processes p : ℕ) : Type 0 where
  pub process : HasProcess t cores p
  pub index : process_at cores p (guard_place (index_at t cores p)) < length t
  pub channel : HasChannel t cores processes (guard_at t cores p)

-- the word of that channel
abbrev pub guard_word_at : List ℕ → ℕ → ℕ → ℕ → ℕ
guard_word_at t cores processes p = channel_at cores processes (guard_at t cores p) channel_holder

-- Process p runs on core k, at a stage that enables a guard of its choice, and at one that disables it; and what is said, r, and the table
-- u are what the step of such a stage comes to.
abbrev pub AtEnabling : (List ℕ → ℕ → Stage) → List ℕ → ℕ → ℕ → ℕ → ℕ → Type 0
AtEnabling stage t cores processes k p = At t cores processes k p (stage (guards_at t cores p) (index_at t cores p))

abbrev pub DoesEnabling : (ℕ → List ℕ → ℕ → Rule Answer) → List ℕ → ℕ → ℕ → Said → List ℕ → Type 0
DoesEnabling step t cores p r u = Does (step p (guards_at t cores p) (index_at t cores p)) t r u

abbrev pub AtDisabling : (List ℕ → ℕ → Option ℕ → Stage) → List ℕ → ℕ → ℕ → ℕ → ℕ → Type 0
AtDisabling stage t cores processes k p = At t cores processes k p (stage (guards_at t cores p) (index_at t cores p) (ready_at t cores p))

abbrev pub DoesDisabling : (ℕ → List ℕ → ℕ → Option ℕ → Rule Answer) → List ℕ → ℕ → ℕ → Said → List ℕ → Type 0
DoesDisabling step t cores p r u = Does (step p (guards_at t cores p) (index_at t cores p) (ready_at t cores p)) t r u

-- process p is at the stage of number n, with this guard index
abbrev pub stage_table : List ℕ → ℕ → ℕ → ℕ → ℕ → List ℕ
stage_table t cores p i n = set (set t (process_at cores p process_index) i) (process_at cores p process_progress) n

-- the next guard, at the stage of number `again`; after the last guard the stage of number `after`
unfoldable pub next_table : List ℕ → ℕ → ℕ → ℕ → ℕ → List ℕ
next_table t cores p again after =
    if ltb (index_at t cores p) (word_of t cores p process_guards)
    then stage_table t cores p (index_at t cores p + 1) again
    else stage_table t cores p 0 after

-- the guard of process p that is to be enabled is ready
abbrev pub ready_table : List ℕ → ℕ → ℕ → List ℕ
ready_table t cores p = next_table (set t (process_at cores p process_not_ready) 0) cores p at_enable_look at_wait

-- process p has these flags
abbrev pub flags_table : List ℕ → ℕ → ℕ → ℕ → ℕ → ℕ → List ℕ
flags_table t cores p enabling not_ready waiting =
    set (set (set t (process_at cores p process_enabling) enabling) (process_at cores p process_not_ready) not_ready)
    (process_at cores p process_waiting) waiting

-- the guard of process p is ready: the first such is kept
abbrev pub kept_table : List ℕ → ℕ → ℕ → List ℕ
kept_table t cores p =
    let ready = word_of t cores p process_first_ready in
    set t (process_at cores p process_first_ready) (if eqb ready 0 then index_at t cores p else ready)

-- process p has the count n
abbrev pub counted_table : List ℕ → ℕ → ℕ → ℕ → List ℕ
counted_table t cores p n = set t (process_at cores p process_count) n

-- process q is triggered, and has the count n
abbrev pub triggered_table : List ℕ → ℕ → ℕ → ℕ → List ℕ
triggered_table t cores q n =
    counted_table (set (set t (process_at cores q process_not_ready) 0) (process_at cores q process_waiting) 0) cores q n
