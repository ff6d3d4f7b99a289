-- `whole::line::put_refused`. Assumes nothing.
use Rattle.numerals.proofs.Putting.{and_then, within}
use native.Mathlib.Omega.{arith}
use Rattle.whole.specs.Line.{verdict_text}
use Rattle.whole.proofs.line.put_refused.Goals as goal

pub returns : goal.returns
unfolding verdict_text
returns c = within (omega arith) (and_then c.put_number-after_number.ensures c.put_number.ensures)
