-- `tag_writer::asking::reads_back`. Assumes nothing.
use Prim.Native.Nat.{◌-◌}
use mathlib.Core.Path.{sym, ap, ◌∙◌}
use native.Mathlib.Omega.{arith}
use borrow.Author.Tests.{eq-eqb, ne_eqb}
use Rattle.tag_writer.specs.Write.{is_this_id}
use Rattle.tag_writer.proofs.HeaderPut.{id_part}
use Rattle.tag_writer.proofs.Tests.{and_then, and_else}
use Rattle.tag_writer.proofs.PlaceLaws.{reads_is}
use Rattle.tag_writer.proofs.WidthLaws.{no_less}
use Rattle.tag_writer.proofs.asking.reads_back.Goals as goal

pub returns-in-NeedMore : goal.returns-in-NeedMore
returns-in-NeedMore c =
    let x = c.args.id in
    let w = c.byte_width-width.result in
    let ew = c.byte_width-width.ensures.0 ∙ no_less x 7 1 in
    let last = id_part x w _ ew c.to_be_bytes-bytes.ensures (8 - (8 - w)) (omega (arith, c.byte_width-width.ensures.1)) in
    ap (is_this_id x w) (sym c.in-NeedMore.is) ∙ reads_is x w _ ew last c.read_tag_id.result c.read_tag_id.ensures

pub returns-then-x-id : goal.returns-then-x-id
returns-then-x-id c =
    let x = c.args.id in
    let w = c.byte_width-width.result in
    let ew = c.byte_width-width.ensures.0 ∙ no_less x 7 1 in
    let last = id_part x w _ ew c.to_be_bytes-bytes.ensures (8 - (8 - w)) (omega (arith, c.byte_width-width.ensures.1)) in
    and_then (eq-eqb _ _ c.if-x-id.true) ∙ ap (is_this_id x w) (sym c.in-Complete.is) ∙ reads_is x w _ ew last c.read_tag_id.result c.read_tag_id.ensures

pub returns-else-x-id : goal.returns-else-x-id
returns-else-x-id c =
    let x = c.args.id in
    let w = c.byte_width-width.result in
    let ew = c.byte_width-width.ensures.0 ∙ no_less x 7 1 in
    let last = id_part x w _ ew c.to_be_bytes-bytes.ensures (8 - (8 - w)) (omega (arith, c.byte_width-width.ensures.1)) in
    and_else _ (ne_eqb _ _ c.if-x-id.false) ∙ ap (is_this_id x w) (sym c.in-Complete.is) ∙ reads_is x w _ ew last c.read_tag_id.result c.read_tag_id.ensures
