-- `named_list::endings::put_finish_word`, by the tests. Assumes nothing.
use native.Mathlib.Omega.{arith}
use Rattle.numerals.proofs.Putting.{within}
use borrow.Author.Tests.{ne_eqb}
use Rattle.named_list.specs.Named.{finish_word}
use Rattle.named_list.proofs.endings.put_finish_word.Goals as goal

pub returns-then-front : goal.returns-then-front
unfolding finish_word
returns-then-front c =
    simp (ne_eqb _ _ c.if-position-eq0.false, c.if-front.true) (within (omega arith) c.put_text-then-front.ensures)

pub returns-then-size : goal.returns-then-size
unfolding finish_word
returns-then-size c =
    simp (ne_eqb _ _ c.if-position-eq0.false, c.if-front.false, c.if-size.true) (within (omega arith) c.put_text-then-size.ensures)
