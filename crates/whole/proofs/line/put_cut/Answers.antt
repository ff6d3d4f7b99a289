-- `whole::line::put_cut`. Assumes nothing.
use Rattle.numerals.proofs.Putting.{and_then, within}
use native.Mathlib.Omega.{arith}
use Rattle.whole.specs.Line.{verdict_text}
use Rattle.whole.proofs.line.put_cut.Goals as goal

pub returns : goal.returns
unfolding verdict_text
returns c = within (omega arith) (and_then (and_then (and_then (and_then c.put_number-after_position.ensures c.put_text-after_colon.ensures) c.put_root-after_root.ensures) c.put_counted-after_bytes.ensures) c.put_text.ensures)
