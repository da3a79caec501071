-- The calls, one for all: steps and requests.
use Prim.Native.Nat.{ℕ, ◌<◌}
use mathlib.Core.Path.{◌≡◌}
use lib.Dec.{T}
use lib.ListN.{length}
use Rattle.rules.specs.Numbers.{Answer}
use Rattle.rules.specs.State.{State, wiring}
use Rattle.rules.specs.Rule.{accepted, run}
use Rattle.rules.specs.Soundness.{valid}
use Rattle.rules.specs.Calls.{Ask, the_step, a_request, rule_of}
use Rattle.rules.specs.Claims.{sends_word}
use Rattle.rules.proofs.Validity.Reflect.{Valid, reflected, tested}
use Rattle.rules.proofs.Validity.Rules.{Accepts}
use Rattle.rules.proofs.Validity.Scheduler.{step_keeps}
use Rattle.rules.proofs.Validity.Requests.{request_keeps}

-- whatever is asked, what is accepted is valid
ask_keeps : (s : State) (k : ℕ) (ask : Ask) → T (sends_word ask) → T (valid s) → k < length s.cores
    → Accepts (Valid (wiring s)) (run (rule_of (wiring s) ask k) s)
ask_keeps s k the_step small v on = step_keeps k (reflected s v) on
ask_keeps s k (a_request r) small v on = request_keeps k (reflected s v) on r small

-- Every accepted call on a valid state leaves it valid.
pub stays_valid : (s : State) (k : ℕ) (ask : Ask) (a : Answer) (s' : State) → T (sends_word ask) → T (valid s) → k < length s.cores
    → run (rule_of (wiring s) ask k) s ≡ accepted a s' → T (valid s')
stays_valid s k ask a s' small v on e = tested (wiring s) s' (rw e at (ask_keeps s k ask small v on))
