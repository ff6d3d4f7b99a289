-- `named_list::lines::put_named_line`: the answer, and then the newline. Assumes nothing.
use native.Mathlib.Omega.{arith}
use Prim.Native.Nat.{◌+◌, ◌*◌}
use lib.ListN.{length}
use Rattle.numerals.proofs.Putting.{and_then, within}
use Rattle.texts.proofs.Putting.{put_whole}
use Rattle.named_list.specs.Named.{named_line, most_named, named_line_out}
use Rattle.named_list.proofs.lines.put_named_line.Goals as goal

pub returns : goal.returns
unfolding named_line_out named_line
returns c =
    let a = c.args in
    put_whole (most_named + 4 * length a.taken.now) (named_line a.answer a.d a.s a.taken.now) (omega arith) (within (omega arith) (and_then c.put_answer-next.ensures c.put.ensures))
