use Rattle.std.proofs.Common.{sym, ap, ◌∙◌}
use Rattle.rules.specs.Numbers.{lends}
use Rattle.answers.specs.Said.{why_not}
use Rattle.fontarisca.proofs.Refused.{allowed_header}
use Rattle.fontarisca.proofs.reply_to.Goals as goal

pub read-sizes-requires : goal.read-sizes-requires
read-sizes-requires c =
    let a = c.args in
    allowed_header a.table.now (lends a.answer.now) a.core (sym (ap why_not c.in_ok-check_first.was) ∙ c.check_first.ensures)
