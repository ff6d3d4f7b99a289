-- `event_list::lines::put_element`: kind, ID and offset. Assumes nothing.
use Rattle.event_list.specs.Line.{element_text}
use Rattle.numerals.proofs.Putting.{and_then}
use Rattle.event_list.proofs.lines.put_element.Goals as goal

pub returns : goal.returns
unfolding element_text
returns c = and_then (and_then c.put-after_kind.ensures c.put_id-after_id.ensures) c.put_number.ensures
