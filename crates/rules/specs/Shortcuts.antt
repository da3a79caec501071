-- Document 01, "Shortcuts we have seen fail": what the rules do instead, where no starred case of the bench sheet shows it.
use Rattle.std.specs.Prelude.{ℕ, ◌≡◌, List, [], ◌∷◌, ◌++◌, replicate}
use Rattle.rules.specs.Numbers.{TAKEN, MOVED, GO, CHOSE}
use Rattle.rules.specs.State.{asleep}
use Rattle.rules.specs.Items.{process_of}
use Rattle.rules.specs.Layout.{room}
use Rattle.rules.specs.Packing.{view}
use Rattle.rules.specs.Calls.{set_up_call}
use Rattle.rules.specs.BenchSheet.{Turn, steps, sends, receives, chooses, answers, after, said, pair}

-- the table in which the reader has parked, and the writer has looked and copied
abbrev pub copied : List ℕ
copied =
    after (pair 2)
    (steps 1 ∷ steps 1 ∷ receives 1 1 ∷ steps 1 ∷ steps 1 ∷ steps 0 ∷ steps 0 ∷ sends 0 1 77 ∷ steps 0 ∷ steps 0 ∷ [])

-- "Waking before the copy: the partner may run on before its data is there": after the copy it has its data, and is still asleep.
abbrev pub StillAsleep : Type 0
StillAsleep = ((process_of (view copied) 2).data_word ≡ 77) × ((process_of (view copied) 2).place ≡ asleep)

-- K=3, N=3, M=2: processes 1 and 2 write, process 3 reads both channels
abbrev pub triple : List ℕ
triple = (set_up_call 3 3 2 (1 ∷ 3 ∷ 2 ∷ 3 ∷ []) (replicate (room 3 3 2) 7)).table

-- the process of a core sends on a channel, and parks
abbrev pub parks : ℕ → ℕ → List Turn
parks k c = steps k ∷ steps k ∷ sends k c 77 ∷ steps k ∷ steps k ∷ []

-- "Finishing a choice at the first ready guard, the others left enabled": with both guards ready, both are enabled and both disabled.
abbrev pub BothGuards : Type 0
BothGuards =
    answers (after triple (parks 0 1 ++ parks 1 2))
    (steps 2 ∷ steps 2 ∷ chooses 2 (1 ∷ 2 ∷ [])
    ∷ steps 2 ∷ steps 2 ∷ steps 2 ∷ steps 2 ∷ steps 2 ∷ steps 2 ∷ steps 2 ∷ steps 2 ∷ [])
    ≡ said (MOVED ∷ GO 3 ∷ TAKEN 3 0 ∷ MOVED ∷ MOVED ∷ MOVED ∷ MOVED ∷ MOVED ∷ MOVED ∷ MOVED ∷ CHOSE 3 1 ∷ [])

pub record Shortcuts : Type 0 where
  pub still_asleep : StillAsleep
  pub both_guards : BothGuards
