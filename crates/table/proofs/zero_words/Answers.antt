-- A part that is filled with zeros is set word by word.
use Rattle.std.proofs.Common.{arith, refl}
use Rattle.table.proofs.Part.{part_zeroed}
use Rattle.table.proofs.zero_words.Goals as goal

pub returns : goal.returns
returns c = rw c.fill.ensures.after (part_zeroed c.args.t.now c.args.at c.args.n _ _ (omega arith) refl (omega arith))
