-- What is told of a reply is what the call's definition says.
use Rattle.std.proofs.Common.{ℕ, ◌≡◌, Bool, true, false, List, length, T, ltb, refl, sym, ap, ◌∙◌}
use Rattle.rules.specs.Numbers.{Answer, Said, number_of, Lent, well_lent}
use Rattle.rules.specs.State.{users}
use Rattle.rules.specs.Rule.{Ran, accepted, refused, run}
use Rattle.rules.specs.Packing.{view, k_of}
use Rattle.rules.specs.Soundness.{sound}
use Rattle.rules.specs.Calls.{Ask, rule_of, outcome_of, call}
use Rattle.rules.specs.Claims.{gives, Meets}
use Rattle.answers.specs.Said.{told}
use Rattle.parts.specs.Does.{Comes}
use Rattle.parts.proofs.Card.{k_is}
use Rattle.fontarisca.specs.First.{Replies}

-- what is told of what a rule came to
told_outcome : (ran : Ran Answer) (t u : List ℕ) (answer : Lent) (x : Said) → Comes ran t x u → Meets (outcome_of t answer ran) (gives (number_of x) (told x answer) u)
told_outcome (accepted a s) t u answer x h = record { number = ap number_of h.0; answer = ap (λ (x : Said). told x answer) h.0; table = h.1 }
told_outcome (refused why) t u answer x h = record { number = ap number_of h.0; answer = ap (λ (x : Said). told x answer) h.0; table = h.1 }

module _ (t : List ℕ) (answer : Lent) (k : ℕ) (ask : Ask) (x : Said) (u : List ℕ) (replies : Replies t answer k ask x u) where
  pub told_call : Meets (call t answer k ask) (gives (number_of x) (told x answer) u)
  unfolding call
  told_call = by_tests (well_lent answer) (sound t) (ltb k (k_of t)) refl refl refl
    where
      by_tests : (lent is_sound there : Bool) → well_lent answer ≡ lent → sound t ≡ is_sound → ltb k (k_of t) ≡ there
          → Meets (call t answer k ask) (gives (number_of x) (told x answer) u)
      by_tests true true true f g h =
          let there : ltb k (length (view t).cores) ≡ true = ap (ltb k) (sym (k_is t (rw g tt))) ∙ h in
          rw (f, g, there) (told_outcome (run (rule_of (users (view t)) ask k) (view t)) t u answer x (rw (f, g, h) at replies))
      by_tests true true false f g h =
          let none : ltb k (length (view t).cores) ≡ false = ap (ltb k) (sym (k_is t (rw g tt))) ∙ h in
          let (says, same) = rw (f, g, h) at replies in
          rw (f, g, none) (record { number = ap number_of says; answer = ap (λ (x : Said). told x answer) says; table = same })
      by_tests true false there f g h =
          let (says, same) = rw (f, g) at replies in
          rw (f, g) (record { number = ap number_of says; answer = ap (λ (x : Said). told x answer) says; table = same })
      by_tests false is_sound there f g h =
          let (says, same) = rw f at replies in
          rw f (record { number = ap number_of says; answer = ap (λ (x : Said). told x answer) says; table = same })
