-- What the code's requests stand for, and what their functions are given, read, refuse and write.
use Rattle.std.specs.Prelude.{ℕ, ◌≤◌, ◌≡◌, Bool, ⊤, Option, Some, None, Result, Ok, Err, List, [], ◌∷◌, eqb, length, set, if◌then◌else◌}
use Rattle.std.proofs.lemmas.List.Edits.{sets}
use Rattle.rules.specs.Lists.{within, member}
use Rattle.rules.specs.State.{runs, nothing}
use Rattle.rules.specs.Items.{core_of, process_of}
use Rattle.rules.specs.Requests as rules
use Rattle.rules.specs.Layout.{room, core_at, process_at, channel_at, core_runs, process_progress, process_channel, process_guards, process_index, process_first_guard, process_enabling, process_not_ready, process_waiting, process_count, at_nothing, at_enable_look}
use Rattle.rules.specs.Packing.{view, word_at, m_of}
use Rattle.answers.specs.declared.Refusal.{Refusal}
use Rattle.answers.specs.declared.Refusal.TheVariants.{Channel, OtherEnd, Twice}
use Rattle.table.specs.declared.Sizes.{Sizes}
use Rattle.table.specs.declared.Process.{Process}
use Rattle.table.specs.Has.{HasCore, HasProcess}
use Rattle.parts.specs.Does.{Card}
use Rattle.requests.specs.declared.Request.{Request}
use Rattle.requests.specs.declared.Request.TheVariants.{Send, Receive, Choose, Yield, End}

-- a request, by the rules
abbrev pub asked : Request → rules.Request
asked (Send c v) = rules.send c v
asked (Receive c) = rules.receive c
asked (Choose guards) = rules.choose guards.now
asked Yield = rules.yield
asked End = rules.end

-- a sound table of these sizes, on whose core k the process p runs, with nothing in hand; their words and the channels are in the table
pub record Idle (t : List ℕ) (sizes : Sizes) (k p : ℕ) : Type 0 where
  pub card : Card t sizes.cores sizes.processes k
  pub all_channels : sizes.channels ≡ m_of t
  pub runs : (core_of (view t) k).work ≡ runs p
  pub progress : (process_of (view t) p).progress ≡ nothing
  pub core : HasCore t k
  pub process : HasProcess t sizes.cores p
  pub reaches : room sizes.cores sizes.processes sizes.channels ≤ length t

-- the words of core k are in the table, and those of the process that it runs
pub record HasRunning (t : List ℕ) (cores k : ℕ) : Type 0 where
  pub core : HasCore t k
  pub process : 1 ≤ word_at t (core_at k core_runs) → HasProcess t cores (word_at t (core_at k core_runs))

-- the process that runs on core k, if it has nothing in hand; otherwise 0
abbrev pub asker : List ℕ → ℕ → ℕ → ℕ
asker t cores k =
    let p = word_at t (core_at k core_runs) in
    if eqb p 0 then 0 else if eqb (word_at t (process_at cores p process_progress)) at_nothing then p else 0

-- the process of this number, as the code has it; none for 0
abbrev pub found : Sizes → ℕ → Option Process
found sizes p = if eqb p 0 then None else Some (record { sizes = sizes; number = p })

-- What a process may ask for, or why it may not

-- a channel, and its end: `known` says that it is one of the table's, `own` that the process may use the end
abbrev pub end_checked : Bool → Bool → Result ⊤ Refusal
end_checked known own = if known then (if own then Ok tt else Err OtherEnd) else Err Channel

-- the channel c, with process p at its end f, the writer's or the reader's
abbrev pub check_end : List ℕ → Sizes → (p f c : ℕ) → Result ⊤ Refusal
check_end t sizes p f c =
    end_checked (within 1 sizes.channels c) (eqb (word_at t (channel_at sizes.cores sizes.processes c f)) p)

-- what comes after a test that is passed
abbrev pub after : Result ⊤ Refusal → Result ⊤ Refusal → Result ⊤ Refusal
after (Ok done) next = next
after (Err why) next = Err why

-- guard by guard: its end, then whether it repeats an earlier one
abbrev pub check_guards : (ℕ → Result ⊤ Refusal) → List ℕ → List ℕ → Result ⊤ Refusal
check_guards end earlier [] = Ok tt
check_guards end earlier (c ∷ rest) =
    after (end c) (if member c earlier then Err Twice else check_guards end (c ∷ earlier) rest)

-- What is written

-- process p is at the look of this number, at channel c
abbrev pub look_table : List ℕ → (cores p number c : ℕ) → List ℕ
look_table t cores p number c = set (set t (process_at cores p process_progress) number) (process_at cores p process_channel) c

-- process p begins a choice: enabling and not-ready are set, waiting is clear, the count is 1
abbrev pub begun_table : List ℕ → (cores p : ℕ) → List ℕ
begun_table t cores p =
    set (set (set (set t (process_at cores p process_enabling) 1) (process_at cores p process_not_ready) 1) (process_at cores p process_waiting) 0)
    (process_at cores p process_count) 1

-- process p is at the enabling look of the first of its guards
abbrev pub enabling_table : List ℕ → (cores p : ℕ) → List ℕ → List ℕ
enabling_table t cores p guards =
    sets
    (set (set (set t (process_at cores p process_progress) at_enable_look) (process_at cores p process_guards) (length guards)) (process_at cores p process_index) 1)
    (process_at cores p process_first_guard) guards
