-- BUSY where no process is found; otherwise the one that is found does what it is asked for.
use Rattle.std.proofs.Common.{rules}
use Rattle.requests.specs.Asked.{asked, Idle}
use Rattle.requests.proofs.Running.{has_running}
use Rattle.requests.proofs.Meets.{busy_does, idle_found, asked_does}
use Rattle.requests.proofs.make.Goals as goal

pub requester-requires : goal.requester-requires
requester-requires c = has_running _ c.args.sizes _ c.requires.card

pub returns-in_err-p : goal.returns-in_err-p
returns-in_err-p c = busy_does c.requires.card c.requires.wired (search rules) (asked c.args.r) (search rules)

pub perform-requires : goal.perform-requires
perform-requires c = idle_found c.requires.card c.requires.wired (search rules)

pub returns : goal.returns
returns c =
    let idle : Idle c.args.t.now c.in_ok-p.p.sizes c.args.core.0 c.in_ok-p.p.number = idle_found c.requires.card c.requires.wired (search rules) in
    asked_does idle (asked c.args.r) _ _ c.perform.ensures
