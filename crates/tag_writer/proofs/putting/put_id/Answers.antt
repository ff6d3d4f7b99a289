-- `tag_writer::putting::put_id`: the last bytes of its eight. Assumes nothing.
use mathlib.Core.Path.{sym, ◌∙◌}
use native.Mathlib.Omega.{arith}
use Rattle.tag_writer.proofs.HeaderPut.{id_part, id_room}
use Rattle.tag_writer.proofs.PutLaws.{put_is}
use Rattle.tag_writer.proofs.WidthLaws.{no_less, id_length_lem}
use Rattle.tag_writer.proofs.putting.put_id.Goals as goal

pub put_part-requires : goal.put_part-requires
put_part-requires c =
    let x = c.args.id in
    let w = c.byte_width-width.result in
    let ew = c.byte_width-width.ensures.0 ∙ no_less x 7 1 in
    let n = id_room x w _ ew c.to_be_bytes.ensures in
    (omega (arith, n, c.byte_width-width.ensures.1), omega (arith, id_length_lem x, ew, c.requires))

pub returns : goal.returns
returns c =
    let a = c.args in
    let w = c.byte_width-width.result in
    let ew = c.byte_width-width.ensures.0 ∙ no_less a.id 7 1 in
    let last = id_part a.id w _ ew c.to_be_bytes.ensures w (omega arith) in
    let q = put_is (sym last) (ew ∙ sym (id_length_lem a.id)) c.put_part.ensures in
    (q.place, q.bytes)
