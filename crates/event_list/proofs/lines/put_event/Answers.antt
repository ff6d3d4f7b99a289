-- `event_list::lines::put_event`, by the kind of event. Assumes nothing.
use native.Mathlib.Omega.{arith}
use Rattle.event_list.specs.Line.{event_text}
use Rattle.numerals.proofs.Putting.{within}
use Rattle.event_list.proofs.lines.put_event.Goals as goal

pub returns-in-Start : goal.returns-in-Start
unfolding event_text
returns-in-Start c = rw c.in-Start.is (within (omega arith) c.put_element.ensures)

pub returns-in-End : goal.returns-in-End
unfolding event_text
returns-in-End c = rw c.in-End.is (within (omega arith) c.put_element-in-End.ensures)

pub returns-in-Data : goal.returns-in-Data
unfolding event_text
returns-in-Data c = rw c.in-Data.is (within (omega arith) c.put_data.ensures)
