-- `decoder_decide::header::known_checked`: by the open masters' ends, then 17 alone. Assumes nothing.
use mathlib.Core.Path.{sym, ◌∙◌}
use Rattle.decoder_decide.proofs.Fields.{oversized, known_fits}
use Rattle.decoder_decide.proofs.header.known_checked.Goals as goal

pub returns-then-not-fits_inside : goal.returns-then-not-fits_inside
returns-then-not-fits_inside c d e = oversized d e _ _ (sym (c.fits_inside.ensures d e) ∙ c.if-not-fits_inside.true)

pub returns : goal.returns
returns c d e =
    known_fits d e _ _ (sym (c.fits_inside.ensures d e) ∙ c.if-not-fits_inside.false) c.size_checked.ensures
