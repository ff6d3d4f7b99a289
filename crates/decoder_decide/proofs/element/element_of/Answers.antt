-- `decoder_decide::element::element_of`, by the size. Assumes nothing.
use mathlib.Core.Path.{◌∙◌}
use Rattle.decoder_rules.specs.OneCall.{element_of}
use Rattle.decoder_decide.proofs.element.element_of.Goals as goal

pub returns-in-Unknown : goal.returns-in-Unknown
unfolding element_of
returns-in-Unknown c = rw c.in-Unknown.is

pub returns-in-Known : goal.returns-in-Known
unfolding element_of
returns-in-Known c = c.read_element.ensures ∙ rw c.in-Known.is
