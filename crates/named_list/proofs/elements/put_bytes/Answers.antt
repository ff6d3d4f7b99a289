-- `named_list::elements::put_bytes`: begin, and then end. Assumes nothing.
use native.Mathlib.Omega.{arith}
use Rattle.numerals.proofs.Putting.{and_then, within}
use Rattle.named_list.specs.Named.{bytes_text}
use Rattle.named_list.proofs.elements.put_bytes.Goals as goal

pub returns : goal.returns
unfolding bytes_text
returns c = within (omega arith) (and_then c.put_words_number-next.ensures c.put_words_number.ensures)
