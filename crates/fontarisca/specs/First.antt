-- What every call but a set-up is refused for before its rule is looked at, and what the code replies to a call.
use Rattle.std.specs.Prelude.{ℕ, List, ltb, if◌then◌else◌, ◌≡◌}
use Rattle.std.proofs.Math.Option.{Option, none, some}
use Rattle.rules.specs.Numbers.{Refusal, ANSWER, DAMAGED, CORE, Said, no_because, Lent, well_lent}
use Rattle.rules.specs.State.{users}
use Rattle.rules.specs.Packing.{view, k_of}
use Rattle.rules.specs.Soundness.{sound}
use Rattle.rules.specs.Calls as rules
use Rattle.parts.specs.Does.{Does}
use Rattle.requests.specs.Asked.{asked}
use Rattle.fontarisca.specs.declared.Ask.{Ask}
use Rattle.fontarisca.specs.declared.Ask.TheVariants.{Step, Request}

-- what the code is asked, in the rules' terms
abbrev pub asks : Ask → rules.Ask
asks Step = rules.the_step
asks (Request request) = rules.a_request (asked request)

-- "Other calls 25, 26, 27"
abbrev pub first_refusal : List ℕ → Lent → ℕ → Option Refusal
first_refusal t answer k =
    if well_lent answer then (if sound t then (if ltb k (k_of t) then none else some CORE) else some DAMAGED) else some ANSWER

-- "then" what the rule comes to: x is said, and u is the table
abbrev pub Follows : Option Refusal → Type 0 → List ℕ → Said → List ℕ → Type 0
Follows none rule t x u = rule
Follows (some why) rule t x u = (x ≡ no_because why) × (u ≡ t)

abbrev pub Replies : List ℕ → Lent → ℕ → rules.Ask → Said → List ℕ → Type 0
Replies t answer k ask x u = Follows (first_refusal t answer k) (Does (rules.rule_of (users (view t)) ask k) t x u) t x u
