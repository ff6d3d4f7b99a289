-- `named_list::endings::put_finish`, part by part. Assumes nothing.
use native.Mathlib.Omega.{arith}
use Rattle.numerals.proofs.Putting.{and_then, within}
use Rattle.named_list.specs.Named.{finish_text}
use Rattle.named_list.proofs.endings.put_finish.Goals as goal

pub returns : goal.returns
unfolding finish_text
returns c =
    within (omega arith) (and_then (and_then c.put_finish_word-after_word.ensures c.put_decimal-after_position.ensures) c.put_text.ensures)
