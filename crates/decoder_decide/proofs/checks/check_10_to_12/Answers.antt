-- `decoder_decide::checks::check_10_to_12`: by the test of the table. Assumes nothing.
use mathlib.Core.Path.{◌∙◌}
use Rattle.decoder_rules.specs.OneCall.{check10to12}
use Rattle.decoder_decide.proofs.checks.check_10_to_12.Goals as goal

pub returns-then-not-good_shape : goal.returns-then-not-good_shape
unfolding check10to12
returns-then-not-good_shape c = rw (← c.good_shape.ensures, c.if-not-good_shape.true)

pub returns : goal.returns
unfolding check10to12
returns c = c.check_11_to_12.ensures ∙ rw (← c.good_shape.ensures, c.if-not-good_shape.false)
