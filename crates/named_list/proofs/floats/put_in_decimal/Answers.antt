-- `named_list::floats::put_in_decimal`: the whole number, and then the eighths. Assumes nothing.
use Rattle.numerals.proofs.Putting.{and_then}
use Rattle.named_list.specs.Floats.{decimal_text}
use Rattle.named_list.proofs.floats.put_in_decimal.Goals as goal

pub returns : goal.returns
unfolding decimal_text
returns c = and_then c.put_decimal-next.ensures c.put_eighths.ensures
