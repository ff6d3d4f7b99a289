-- `named_list::elements::put_words_number`: the words, and then the number. Assumes nothing.
use Rattle.numerals.proofs.Putting.{and_then}
use Rattle.named_list.proofs.elements.put_words_number.Goals as goal

pub returns : goal.returns
returns c = and_then c.put_text-next.ensures c.put_decimal.ensures
