-- `named_list::endings::put_cut`, part by part. Assumes nothing.
use native.Mathlib.Omega.{arith}
use Rattle.numerals.proofs.Putting.{and_then, within}
use Rattle.named_list.specs.Named.{cut_text}
use Rattle.named_list.proofs.endings.put_cut.Goals as goal

pub returns : goal.returns
unfolding cut_text
returns c =
    within (omega arith) (and_then (and_then (and_then c.put_words_number-after_position.ensures c.put_text-after_number.ensures) c.put_cut_name-after_name.ensures) c.put_words_number.ensures)
