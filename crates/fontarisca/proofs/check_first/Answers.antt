use Rattle.std.proofs.Common.{sym, ◌∙◌}
use Rattle.fontarisca.proofs.Refused.{sound_header}
use Rattle.fontarisca.proofs.check_first.Goals as goal

pub read-requires : goal.read-requires
read-requires c = sound_header c.args.table.now (sym c.sound.ensures ∙ c.if-not-sound.false)
