use Rattle.std.proofs.Common.{rules}
use Rattle.script.specs.declared.text.TheConstants.{TEXT_SIZE}
use Rattle.script.proofs.Taken.{taken}
use Rattle.script.proofs.text.read.Goals as goal

pub returns : goal.returns
returns g c = taken TEXT_SIZE _ (g.R.Read.remaining c.args.reader) (search rules)
