-- `event_list::lines::put_data`: the element, and then its value. Assumes nothing.
use Rattle.numerals.proofs.Putting.{and_then}
use Rattle.event_list.proofs.lines.put_data.Goals as goal

pub returns : goal.returns
returns c =
    let k = c.letter_of.ensures in
    and_then (rw k at c.put_element-next.ensures) c.put_value.ensures
