-- `decoder_decide::decide::decide`: by the test of the table. Assumes nothing.
use mathlib.Core.Path.{◌∙◌}
use Rattle.decoder_rules.specs.OneCall.{check_record10to12, check10to12}
use Rattle.decoder_rules.proofs.Exits.{refused_decides}
use Rattle.decoder_decide.proofs.decide.decide.Goals as goal

pub returns-then-not-good_shape : goal.returns-then-not-good_shape
unfolding check_record10to12 check10to12
returns-then-not-good_shape c d e shown =
    c.plain.ensures ∙ refused_decides _ _ d _ (rw (← c.good_shape.ensures, c.if-not-good_shape.true))
