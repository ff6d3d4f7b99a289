-- `whole::line::put_counted`: the number, a space, the word and, unless there is one, an s. Assumes nothing.
use Rattle.numerals.proofs.Putting.{and_then, within}
use native.Mathlib.Omega.{arith}
use borrow.Author.Tests.{eq-eqb, ne_eqb}
use mathlib.Core.List.{append-nil}
use Rattle.whole.specs.Line.{counted}
use Rattle.whole.proofs.line.put_counted.Goals as goal

pub returns-then-n-eq1 : goal.returns-then-n-eq1
unfolding counted
returns-then-n-eq1 c = rw (eq-eqb _ _ c.if-n-eq1.true, append-nil _) (within (omega arith) (and_then (and_then c.put_decimal-after_number.ensures c.put-after_space.ensures) c.put_text-after_word.ensures))

pub returns : goal.returns
unfolding counted
returns c = rw (ne_eqb _ _ c.if-n-eq1.false) (within (omega arith) (and_then (and_then (and_then c.put_decimal-after_number.ensures c.put-after_space.ensures) c.put_text-after_word.ensures) c.put.ensures))
