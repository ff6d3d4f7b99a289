-- `named_list::elements::put_start`, part by part. Assumes nothing.
use native.Mathlib.Omega.{arith}
use Rattle.numerals.proofs.Putting.{and_then, within}
use Rattle.named_list.specs.Named.{start_text}
use Rattle.named_list.proofs.elements.put_start.Goals as goal

pub returns : goal.returns
unfolding start_text
returns c =
    within (omega arith) (and_then (and_then (and_then c.put_name-after_name.ensures c.put_words_number-after_begin.ensures) c.put_text-after_dots.ensures) c.put_master_end.ensures)
