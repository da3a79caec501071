-- The numbers that the code's enums go by, in the rules' names.
use Rattle.std.specs.Prelude.{ℕ, ◌+◌, ◌-◌, ◌≡◌, ◌≤◌, ◌<◌, Result, MatchResult}
use Rattle.rules.specs.State as rules
use Rattle.rules.specs.Layout.{at_nothing, at_send_look, at_send_park, at_send_copy, at_send_clear, at_send_wake, at_receive_look}
use Rattle.rules.specs.Layout.{at_enable_look, at_raise, at_place_name, at_ready_from_look, at_ready_from_place, at_wait, at_disable, at_lower, at_finish}
use Rattle.rules.specs.Layout.{due_go, due_sent, due_got, due_chose}
use Rattle.layout.specs.declared.progress.Way.{Way}
use Rattle.layout.specs.declared.progress.Way.TheVariants.{Sending, Receiving}
use Rattle.layout.specs.declared.progress.Exchange.{Exchange}
use Rattle.layout.specs.declared.progress.Exchange.TheVariants.{Look, Park, Copy, Clear, Wake}
use Rattle.layout.specs.declared.progress.Choice.{Choice}
use Rattle.layout.specs.declared.progress.Choice.TheVariants.{EnableLook, Raise, PlaceName, ReadyFromLook, ReadyFromPlace, Wait, Disable, Lower, Finish}
use Rattle.layout.specs.declared.progress.Outcome.{Outcome}
use Rattle.layout.specs.declared.progress.Outcome.TheVariants.{Go, Sent, Got, Chose}
use Rattle.layout.specs.declared.progress.Progress.{Progress}
use Rattle.layout.specs.declared.progress.Progress.TheVariants.{Nothing, Exchanging, Choosing, Due}
use Rattle.layout.specs.declared.progress.NoProgress.{NoProgress}

-- the code's ends of a channel, in the rules' terms
abbrev pub which : Way → rules.Way
which Sending = rules.sending
which Receiving = rules.receiving

abbrev pub exchange_number : Exchange → ℕ
exchange_number Look = at_send_look
exchange_number Park = at_send_park
exchange_number Copy = at_send_copy
exchange_number Clear = at_send_clear
exchange_number Wake = at_send_wake

-- the number of a stage of receive, given by that of send: they stand in the same order
abbrev pub of_way : rules.Way → ℕ → ℕ
of_way rules.sending n = n
of_way rules.receiving n = n + (at_receive_look - at_send_look)

abbrev pub choice_number : Choice → ℕ
choice_number EnableLook = at_enable_look
choice_number Raise = at_raise
choice_number PlaceName = at_place_name
choice_number ReadyFromLook = at_ready_from_look
choice_number ReadyFromPlace = at_ready_from_place
choice_number Wait = at_wait
choice_number Disable = at_disable
choice_number Lower = at_lower
choice_number Finish = at_finish

abbrev pub outcome_number : Outcome → ℕ
outcome_number Go = due_go
outcome_number Sent = due_sent
outcome_number Got = due_got
outcome_number Chose = due_chose

abbrev pub number_of : Progress → ℕ
number_of Nothing = at_nothing
number_of (Exchanging way stage) = of_way (which way) (exchange_number stage)
number_of (Choosing stage) = choice_number stage
number_of (Due outcome) = outcome_number outcome

-- the outcome of this number, or an error where none has it
abbrev pub NumbersOutcome : ℕ → Result Outcome NoProgress → Type 0
NumbersOutcome n r = MatchResult r (λ outcome. outcome_number outcome ≡ n) (λ _. due_go ≤ n → due_chose < n)

-- the progress of this number, or an error where none has it: due_chose is the greatest
abbrev pub Numbers : ℕ → Result Progress NoProgress → Type 0
Numbers n r = MatchResult r (λ progress. number_of progress ≡ n) (λ _. due_chose < n)
