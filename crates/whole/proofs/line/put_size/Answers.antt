-- `whole::line::put_size`, by whether there is one. Assumes nothing.
use Rattle.numerals.proofs.Putting.{and_then, within}
use native.Mathlib.Omega.{arith}
use Rattle.whole.specs.Line.{size_text}
use Rattle.whole.proofs.line.put_size.Goals as goal

pub returns-in-None : goal.returns-in-None
unfolding size_text
returns-in-None c = rw c.in-None.is (within (omega arith) (c.put_text.ensures))

pub returns-in-Some : goal.returns-in-Some
unfolding size_text
returns-in-Some c = rw c.in-Some.is (within (omega arith) (and_then c.put_number-after_size.ensures c.put_text-in-Some.ensures))
