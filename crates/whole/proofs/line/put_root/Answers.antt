-- `whole::line::put_root`, by whether one is open. Assumes nothing.
use Rattle.numerals.proofs.Putting.{and_then, within, nothing}
use native.Mathlib.Omega.{arith}
use Rattle.whole.specs.Line.{root_text}
use Rattle.whole.proofs.line.put_root.Goals as goal

pub returns-in-None : goal.returns-in-None
unfolding root_text
returns-in-None c = rw c.in-None.is (within (omega arith) (nothing _ _))

pub returns-in-Some : goal.returns-in-Some
unfolding root_text
returns-in-Some c = rw c.in-Some.is (within (omega arith) (and_then (and_then c.put_id-after_start.ensures c.put_text-after_comma.ensures) c.put_size.ensures))
