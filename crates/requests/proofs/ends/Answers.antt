-- The place and the core are written.
use Rattle.requests.proofs.Meets.{end_does}
use Rattle.requests.proofs.ends.Goals as goal

pub returns : goal.returns
returns c = end_does c.requires cc
