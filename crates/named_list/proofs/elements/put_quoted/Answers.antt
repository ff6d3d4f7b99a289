-- `named_list::elements::put_quoted`: the text between two marks. Assumes nothing.
use native.Mathlib.Omega.{arith}
use Rattle.numerals.proofs.Putting.{and_then, within}
use Rattle.named_list.specs.Named.{quoted_text}
use Rattle.named_list.proofs.Showing.{range_put}
use Rattle.named_list.proofs.elements.put_quoted.Goals as goal

pub returns : goal.returns
unfolding quoted_text
returns c =
    let a = c.args in
    let part = range_put a.taken.now a.range a.position c.place_of-from.ensures.0 c.place_past-upto.ensures.0 c.put_shown-after_text.ensures in
    within (omega arith) (and_then c.put-after_mark.ensures (and_then part c.put.ensures))
