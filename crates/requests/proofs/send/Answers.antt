-- The value, the stage and the channel are written after the test of the end.
use Rattle.std.proofs.Common.{rules}
use Rattle.requests.proofs.Meets.{send_refused, send_does}
use Rattle.requests.proofs.send.Goals as goal

pub returns-in_err-check_end : goal.returns-in_err-check_end
returns-in_err-check_end c = send_refused c.requires c.args.c c.args.v c.in_err-check_end.ensures (search rules)

pub returns : goal.returns
returns c = send_does c.requires c.args.c c.args.v c.in_ok-check_end.ensures cc
