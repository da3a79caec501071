use Rattle.std.specs.Prelude.{ℕ, List, drop, slice_index}
use Rattle.rules.specs.Numbers.{lends}
use Rattle.rules.specs.Calls.{set_up_call, send_call, receive_call, choose_call, yield_call, end_call, step_call}
use Rattle.rules.specs.Claims.{gives, Meets, builds, MeetsBuilt}
use Rattle.try_calls.specs.declared.Call.{Call}
use Rattle.try_calls.specs.declared.Call.TheVariants.{SetUp, Send, Receive, Choose, Yield, End, Step}

-- what is lent to a call, and its number
pub record Words : Type 0 where
  pub table : List ℕ
  pub answer : List ℕ

-- the call of this name with these numbers is made on what is lent, and gives this number and leaves these words
abbrev pub IsMade : Call → List ℕ → Words → ℕ → Words → Type 0
IsMade SetUp numbers old number new =
    MeetsBuilt (set_up_call (slice_index numbers 0) (slice_index numbers 1) (slice_index numbers 2) (drop 3 numbers) old.table) (builds number new.table)
IsMade Send numbers old number new =
    Meets (send_call old.table (lends old.answer) (slice_index numbers 0) (slice_index numbers 1) (slice_index numbers 2)) (gives number (lends new.answer) new.table)
IsMade Receive numbers old number new =
    Meets (receive_call old.table (lends old.answer) (slice_index numbers 0) (slice_index numbers 1)) (gives number (lends new.answer) new.table)
IsMade Choose numbers old number new =
    Meets (choose_call old.table (lends old.answer) (slice_index numbers 0) (drop 1 numbers)) (gives number (lends new.answer) new.table)
IsMade Yield numbers old number new =
    Meets (yield_call old.table (lends old.answer) (slice_index numbers 0)) (gives number (lends new.answer) new.table)
IsMade End numbers old number new =
    Meets (end_call old.table (lends old.answer) (slice_index numbers 0)) (gives number (lends new.answer) new.table)
IsMade Step numbers old number new =
    Meets (step_call old.table (lends old.answer) (slice_index numbers 0)) (gives number (lends new.answer) new.table)
