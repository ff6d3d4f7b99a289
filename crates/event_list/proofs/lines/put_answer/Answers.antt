-- `event_list::lines::put_answer`, by the answer. Assumes nothing.
use mathlib.Core.Path.{◌∙◌, ap}
use native.Mathlib.Omega.{arith}
use Rattle.event_list.specs.Line.{answer_text}
use Rattle.numerals.proofs.Putting.{within}
use Rattle.event_list.proofs.lines.put_answer.Goals as goal
use Rattle.std.specs.Prelude.{Ok}

pub returns-in-Ok-Event : goal.returns-in-Ok-Event
unfolding answer_text
returns-in-Ok-Event c = rw (c.in-Ok-Event.is ∙ ap Ok (rw c.in-Ok-Event.is at c.in-Ok-Event.field-0-is)) c.put_event.ensures

pub returns-in-Ok-NeedMore : goal.returns-in-Ok-NeedMore
unfolding answer_text
returns-in-Ok-NeedMore c = rw (c.in-Ok-NeedMore.is ∙ ap Ok (rw c.in-Ok-NeedMore.is at c.in-Ok-NeedMore.field-0-is)) (within (omega arith) c.put_position.ensures)

pub returns-in-Ok-Finished : goal.returns-in-Ok-Finished
unfolding answer_text
returns-in-Ok-Finished c = rw (c.in-Ok-Finished.is ∙ ap Ok (rw c.in-Ok-Finished.is at c.in-Ok-Finished.field-0-is)) (within (omega arith) c.put_position-in-Ok-Finished.ensures)

pub returns-in-Err : goal.returns-in-Err
unfolding answer_text
returns-in-Err c = rw c.in-Err.is (within (omega arith) c.put_refusal.ensures)
