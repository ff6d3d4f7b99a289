-- `whole::line::put_verdict`: the words, and then the newline. Assumes nothing.
use Rattle.numerals.proofs.Putting.{and_then}
use Rattle.texts.proofs.Putting.{put_none, put_whole}
use Rattle.whole.specs.Line.{most_line, verdict_line}
use Rattle.whole.proofs.line.put_verdict.Goals as goal

pub returns-then-out-lt-MOST_LINE : goal.returns-then-out-lt-MOST_LINE
returns-then-out-lt-MOST_LINE c = put_none most_line (verdict_line c.args.v) c.if-out-lt-MOST_LINE.true

pub returns : goal.returns
unfolding verdict_line
returns c = put_whole most_line (verdict_line c.args.v) c.if-out-lt-MOST_LINE.false (and_then c.put_words-next.ensures c.put.ensures)
