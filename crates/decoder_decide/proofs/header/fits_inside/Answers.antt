-- `decoder_decide::header::fits_inside`: by the setting, then by the least end. Assumes nothing.
use mathlib.Core.Path.{refl, ◌∙◌}
use Rattle.decoder_decide.proofs.Fields.{allowed_fits, least_fits}
use Rattle.decoder_decide.proofs.header.fits_inside.Goals as goal

pub returns-then-view : goal.returns-then-view
returns-then-view c d e = c.if-view.true ∙ allowed_fits d e _ c.if-view.true

pub returns-else-view : goal.returns-else-view
returns-else-view c d e = least_fits d e _ c.requires c.if-view.false refl
