-- `event_list::lines::put_range`: begin, and then end. Assumes nothing.
use Rattle.event_list.specs.Line.{range_text}
use Rattle.numerals.proofs.Putting.{and_then}
use Rattle.event_list.proofs.lines.put_range.Goals as goal

pub returns : goal.returns
unfolding range_text
returns c = and_then c.put_number-next.ensures c.put_number.ensures
