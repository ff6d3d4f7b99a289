-- `decoder_move::moves::settled_to`. The invariant: the first i parts of the path stand in their places, and the other
-- places are empty. Assumes nothing.
use mathlib.Core.Path.{◌≡◌, ap, ◌∙◌}
use native.Mathlib.Omega.{arith}
use lib.ListN.{length, get_or, take}
use lib.Seq.{take_all}
use Rattle.table.specs.Table.{parts_of, parts_in}
use Rattle.table.specs.declared.types.PathPart.TheVariants.{Id}
use Rattle.spec_util.specs.Walk.{no_tag}
use Rattle.decoder_rules.specs.Record.{implied, with_open, with_notes, settled_to}
use Rattle.basics.proofs.ArrayOf32.{filled_next}
use Rattle.decoder_move.proofs.moves.settled_to.Goals as goal

pub loop-i-init : goal.loop-i-init
unfolding with_open
loop-i-init c = (omega arith, rw c.no_tag-tag.ensures)

pub loop-i-preserved : goal.loop-i-preserved
unfolding with_open
loop-i-preserved c =
    let a = c.args in
    let path = parts_in (parts_of a.parts.now) a.path in
    let i = c.loop-i.i in
    let m : c.implied.result ≡ implied (get_or path i (Id 0)) = c.implied.ensures ∙ ap implied c.path_part.ensures in
    (omega arith, rw (c.loop-i.invariant.1, m, filled_next no_tag implied path i (Id 0) (omega arith) (omega arith)))

pub returns : goal.returns
unfolding with_open with_notes settled_to
returns c =
    let a = c.args in
    let path = parts_in (parts_of a.parts.now) a.path in
    let e : length path ≡ c.path_length-count.result = omega arith in
    let t : take c.loop-i.i path ≡ path = take_all c.loop-i.i path (omega arith) in
    c.loop-i.invariant.1 ∙ rw (t, e)
