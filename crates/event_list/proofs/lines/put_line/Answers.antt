-- `event_list::lines::put_line`: the answer, and then the newline. Assumes nothing.
use Rattle.event_list.proofs.Putting.{put_whole, put_none}
use Rattle.event_list.proofs.lines.put_line.Goals as goal

pub returns-then-out-lt-MOST_LINE : goal.returns-then-out-lt-MOST_LINE
returns-then-out-lt-MOST_LINE c = put_none c.args.answer c.args.position c.if-out-lt-MOST_LINE.true

pub returns : goal.returns
returns c =
    put_whole c.args.answer c.args.position c.if-out-lt-MOST_LINE.false c.put_answer-next.ensures c.put.ensures
