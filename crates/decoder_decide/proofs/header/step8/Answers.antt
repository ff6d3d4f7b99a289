-- `decoder_decide::header::step8`: by the test whether the path is walked. Assumes nothing.
use mathlib.Core.Path.{sym, ap, ◌∙◌}
use mathlib.Core.Bool.{not}
use Rattle.spec_util.proofs.PlaceShown.{place_shown}
use Rattle.decoder_decide.proofs.Fields.{not_walked, walked}
use Rattle.decoder_decide.proofs.header.step8.Goals as goal

pub returns-then-not-is_walked : goal.returns-then-not-is_walked
returns-then-not-is_walked c d e shown = ap not c.if-not-is_walked.true ∙ not_walked _ d _ e (sym c.is_walked.ensures ∙ c.if-not-is_walked.true)

pub returns-else-not-is_walked : goal.returns-else-not-is_walked
returns-else-not-is_walked c d e shown =
    let pre = c.requires.count_in_bounds in
    walked _ d _ e (sym c.is_walked.ensures ∙ c.if-not-is_walked.false) c.requires.path_value (c.place_along.ensures ∙ place_shown _ _ _ _ pre.0 pre.1 shown)
