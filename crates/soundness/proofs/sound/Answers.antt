-- A header that fits leaves the rest to decide, and the check's definition is exact.
use Rattle.std.proofs.Common.{sym, ◌∙◌, arith}
use Rattle.soundness.proofs.Sizes.{header_left, header_flaw}
use Rattle.soundness.proofs.sound.Goals as goal

pub returns-then-header_fits : goal.returns-then-header_fits
returns-then-header_fits c =
    c.parts_fit.ensures
    ∙ rw (c.read.ensures.cores, c.read.ensures.processes, c.read.ensures.channels)
    (header_left _ (λ i. omega (arith, c.type_inv.t i)) (sym c.header_fits.ensures ∙ c.if-header_fits.true))

pub returns-else-header_fits : goal.returns-else-header_fits
returns-else-header_fits c =
    c.if-header_fits.false ∙ header_flaw _ (λ i. omega (arith, c.type_inv.t i)) (sym c.header_fits.ensures ∙ c.if-header_fits.false)
