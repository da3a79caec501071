-- The alternation state and the stage with its guards are written after the tests of the rule.
use Rattle.std.proofs.Common.{rules}
use Rattle.requests.proofs.Meets.{choose_refused, choose_does}
use Rattle.requests.proofs.choose.Goals as goal

pub returns-in_err-check_guards : goal.returns-in_err-check_guards
returns-in_err-check_guards c =
    choose_refused c.requires c.args.guards.now (search rules) c.if-guards-gt-GUARD_PLACES.false c.in_err-check_guards.ensures (search rules)

pub returns : goal.returns
returns c = choose_does c.requires c.args.guards.now (search rules) c.if-guards-gt-GUARD_PLACES.false c.in_ok-check_guards.ensures cc
