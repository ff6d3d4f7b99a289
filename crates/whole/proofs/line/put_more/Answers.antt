-- `whole::line::put_more`. Assumes nothing.
use Rattle.numerals.proofs.Putting.{and_then, within}
use native.Mathlib.Omega.{arith}
use Rattle.whole.specs.Line.{verdict_text}
use Rattle.whole.proofs.line.put_more.Goals as goal

pub returns : goal.returns
unfolding verdict_text
returns c = within (omega arith) (and_then (and_then (and_then c.put_text-after_word.ensures c.put_counted-after_records.ensures) c.put_text-after_comma.ensures) c.put_counts.ensures)
