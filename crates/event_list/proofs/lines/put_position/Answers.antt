-- `event_list::lines::put_position`: the letter, and then the position. Assumes nothing.
use Rattle.event_list.specs.Line.{position_text}
use Rattle.numerals.proofs.Putting.{and_then}
use Rattle.event_list.proofs.lines.put_position.Goals as goal

pub returns : goal.returns
unfolding position_text
returns c = and_then c.put-next.ensures c.put_number.ensures
