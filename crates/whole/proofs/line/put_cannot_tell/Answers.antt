-- `whole::line::put_cannot_tell`. Assumes nothing.
use Rattle.numerals.proofs.Putting.{and_then, within}
use native.Mathlib.Omega.{arith}
use Rattle.whole.specs.Line.{verdict_text}
use Rattle.whole.proofs.line.put_cannot_tell.Goals as goal

pub returns : goal.returns
unfolding verdict_text
returns c = within (omega arith) (and_then (and_then c.put_text-after_words.ensures c.put_id-after_start.ensures) c.put_text.ensures)
