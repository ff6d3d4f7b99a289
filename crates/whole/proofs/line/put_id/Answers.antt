-- `whole::line::put_id`. Assumes nothing.
use Rattle.numerals.proofs.Putting.{and_then, within}
use native.Mathlib.Omega.{arith}
use Rattle.whole.proofs.line.put_id.Goals as goal

pub returns : goal.returns
returns c = within (omega arith) (and_then c.put_hex-next.ensures c.put_number.ensures)
