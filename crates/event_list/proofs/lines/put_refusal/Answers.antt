-- `event_list::lines::put_refusal`: the letter, the number, the place. Assumes nothing.
use Rattle.event_list.specs.Line.{refusal_text}
use Rattle.numerals.proofs.Putting.{and_then}
use Rattle.event_list.proofs.lines.put_refusal.Goals as goal

pub returns : goal.returns
unfolding refusal_text
returns c =
    let n = c.error_number.ensures in
    and_then (and_then c.put-after_letter.ensures (rw n at c.put_number-after_number.ensures)) c.put_number.ensures
