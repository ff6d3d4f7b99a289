-- `named_list::endings::put_too_large`: the position, and then the words. Assumes nothing.
use native.Mathlib.Omega.{arith}
use Rattle.numerals.proofs.Putting.{and_then, within}
use Rattle.named_list.specs.Named.{too_large_text}
use Rattle.named_list.proofs.endings.put_too_large.Goals as goal

pub returns : goal.returns
unfolding too_large_text
returns c = within (omega arith) (and_then c.put_words_number-next.ensures c.put_text.ensures)
