-- `named_list::elements::put_data`: the name, and then the value. Assumes nothing.
use native.Mathlib.Omega.{arith}
use Rattle.numerals.proofs.Putting.{and_then, within}
use Rattle.named_list.proofs.elements.put_data.Goals as goal

pub returns : goal.returns
returns c =
    within (omega arith) (and_then (and_then c.put_name-after_name.ensures c.put-after_space.ensures) c.put_value.ensures)
