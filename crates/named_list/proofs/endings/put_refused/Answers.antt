-- `named_list::endings::put_refused`, part by part. Assumes nothing.
use native.Mathlib.Omega.{arith}
use Rattle.numerals.proofs.Putting.{and_then, within}
use Rattle.named_list.specs.Named.{refused_text}
use Rattle.named_list.proofs.endings.put_refused.Goals as goal

pub returns : goal.returns
unfolding refused_text
returns c =
    within (omega arith) (and_then (and_then (and_then c.put_words_number-after_place.ensures c.put_words_number-after_number.ensures) c.put_text-after_comma.ensures) c.put_meaning.ensures)
