use Rattle.std.proofs.Common.{rules}
use Rattle.script.proofs.Decimal.{decimal_value-fold}
use Rattle.script.proofs.number.value.Goals as goal

pub returns : goal.returns
returns c = decimal_value-fold c.args.digits.now _ (search rules)
