-- `named_list::lines::put_indented`: the spaces, and then the event. Assumes nothing.
use native.Mathlib.Omega.{arith}
use Rattle.numerals.proofs.Putting.{and_then, within}
use Rattle.named_list.proofs.lines.put_indented.Goals as goal

pub returns : goal.returns
returns c =
    within (omega arith) (and_then (rw c.depth_of.ensures.0 at c.put_indentation-next.ensures) c.put_event.ensures)
