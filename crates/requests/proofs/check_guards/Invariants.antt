-- What the guards passed leave to be tested is what was to be tested at first.
use Rattle.std.proofs.Common.{◌≡◌, []}
use Rattle.rules.specs.Layout.{channel_reader}
use Rattle.requests.specs.Asked.{check_end, check_guards}
use Rattle.requests.proofs.Guards.{left}
use Rattle.requests.proofs.check_guards.Given as goal

abbrev pub invariant-loop-i : goal.invariant-loop-i
invariant-loop-i l =
    let end = check_end l.t l.p.sizes l.p.number channel_reader in
    check_guards end [] l.guards ≡ left end l.guards l.i
