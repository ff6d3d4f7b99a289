-- `decoder_decide::header::unknown_checked`: by the mode, then by the open masters' ends. Assumes nothing.
use mathlib.Core.Path.{sym, ◌∙◌}
use Rattle.decoder_decide.proofs.Fields.{past_end, unknown_fits, ported_passes}
use Rattle.decoder_decide.proofs.header.unknown_checked.Goals.{else-is_tested-via-then-is_tested+else-not-fits_inside, else-is_tested-via-else-is_tested}
use Rattle.decoder_decide.proofs.header.unknown_checked.Goals as goal

pub returns-then-not-fits_inside : goal.returns-then-not-fits_inside
returns-then-not-fits_inside c d e = past_end d e _ c.if-is_tested.true (sym (c.fits_inside.ensures d e) ∙ c.if-not-fits_inside.true)

pub returns : goal.returns
returns c d e = elim c.else-is_tested.branch [
  | else-is_tested-via-then-is_tested+else-not-fits_inside w ↦ unknown_fits d e _ w.if-is_tested.true (sym (w.fits_inside.ensures d e) ∙ w.if-not-fits_inside.false)
  | else-is_tested-via-else-is_tested w ↦ ported_passes d e _ w.if-is_tested.false
]
