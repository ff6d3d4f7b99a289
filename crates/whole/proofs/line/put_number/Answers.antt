-- `whole::line::put_number`. Assumes nothing.
use Rattle.numerals.proofs.Putting.{and_then, within}
use native.Mathlib.Omega.{arith}
use Rattle.whole.proofs.line.put_number.Goals as goal

pub returns : goal.returns
returns c = within (omega arith) (and_then c.put_text-next.ensures c.put_decimal.ensures)
