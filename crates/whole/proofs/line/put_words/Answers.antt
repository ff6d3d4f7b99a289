-- `whole::line::put_words`, by the verdict. Assumes nothing.
use Rattle.numerals.proofs.Putting.{and_then, within}
use native.Mathlib.Omega.{arith}
use Rattle.whole.specs.Line.{verdict_text}
use Rattle.whole.proofs.line.put_words.Goals as goal

pub returns-in-Whole : goal.returns-in-Whole
unfolding verdict_text
returns-in-Whole c = rw c.in-Whole.is (within (omega arith) (and_then c.put_text-after_word.ensures c.put_counts.ensures))

pub returns-in-Empty : goal.returns-in-Empty
unfolding verdict_text
returns-in-Empty c = rw c.in-Empty.is (within (omega arith) (c.put_text.ensures))

pub returns-in-FrontMissing : goal.returns-in-FrontMissing
unfolding verdict_text
returns-in-FrontMissing c = rw c.in-FrontMissing.is (within (omega arith) (c.put_text-in-FrontMissing.ensures))

pub returns-in-TooLarge : goal.returns-in-TooLarge
unfolding verdict_text
returns-in-TooLarge c = rw c.in-TooLarge.is (within (omega arith) (c.put_number.ensures))

pub returns-in-NotEnded : goal.returns-in-NotEnded
unfolding verdict_text
returns-in-NotEnded c = rw c.in-NotEnded.is (within (omega arith) (c.put_text-in-NotEnded.ensures))
