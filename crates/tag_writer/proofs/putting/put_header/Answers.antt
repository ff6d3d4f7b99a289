-- `tag_writer::putting::put_header`: the ID and the size. Assumes nothing.
use Prim.Native.Nat.{ℕ}
use mathlib.Core.Path.{ap, ◌∙◌}
use native.Mathlib.Omega.{arith}
use lib.ListN.{length}
use lib.Seq.{paste, length-paste}
use Rattle.tools.specs.Vint.{vint_width, vint_bytes}
use Rattle.tag_writer.specs.Document.{id_bytes}
use Rattle.tag_writer.proofs.HeaderPut.{header_puts}
use Rattle.tag_writer.proofs.WidthLaws.{header_length_lem}
use Rattle.tag_writer.proofs.putting.put_header.Goals as goal

pub put_id-middle-requires : goal.put_id-middle-requires
put_id-middle-requires c =
    omega (arith, c.requires.1, header_length_lem c.args.id c.args.n)

pub put_size-requires : goal.put_size-requires
put_size-requires c =
    let a = c.args in
    let h = header_length_lem a.id a.n in
    let l = length (id_bytes a.id) in
    let same = ap length c.put_id-middle.ensures.1 ∙ length-paste a.out.now a.at (id_bytes a.id) l (omega (arith, c.requires.1, h)) (omega arith) in
    (c.requires.0, omega (arith, same, c.put_id-middle.ensures.0, c.requires.1, h))

pub returns : goal.returns
returns c =
    let a = c.args in
    let h = header_length_lem a.id a.n in
    let second = c.put_size.ensures.1 ∙ ap (λ (m : ℕ). paste c.put_id-middle.new.out m (vint_bytes (vint_width a.n) a.n) (vint_width a.n)) c.put_id-middle.ensures.0 in (
      omega (arith, c.put_size.ensures.0, c.put_id-middle.ensures.0, h),
      header_puts a.out.now c.put_id-middle.new.out c.put_size.new.out a.at a.id a.n c.requires.1 c.put_id-middle.ensures.1 second,
    )
