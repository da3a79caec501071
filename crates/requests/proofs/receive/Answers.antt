-- The stage and the channel are written after the test of the end.
use Rattle.std.proofs.Common.{rules}
use Rattle.requests.proofs.Meets.{receive_refused, receive_does}
use Rattle.requests.proofs.receive.Goals as goal

pub returns-in_err-check_end : goal.returns-in_err-check_end
returns-in_err-check_end c = receive_refused c.requires c.args.c c.in_err-check_end.ensures (search rules)

pub returns : goal.returns
returns c = receive_does c.requires c.args.c c.in_ok-check_end.ensures cc
