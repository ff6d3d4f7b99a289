-- `tag_writer::widths::header_size`. Assumes nothing.
use mathlib.Core.Path.{◌≡◌, sym, ◌∙◌}
use native.Mathlib.Omega.{arith}
use lib.ListN.{length}
use Rattle.tag_writer.specs.Document.{id_bytes}
use Rattle.tag_writer.proofs.WidthLaws.{no_less, id_length_lem, header_length_lem}
use Rattle.tag_writer.proofs.widths.header_size.Goals as goal

pub returns : goal.returns
returns c =
    let a = c.args in
    let i : c.byte_width.result ≡ length (id_bytes a.id) = c.byte_width.ensures.0 ∙ no_less a.id 7 1 ∙ sym (id_length_lem a.id) in (
      omega (arith, c.wide.ensures, i, c.vint_width.ensures.0, header_length_lem a.id a.n),
      omega (arith, c.wide.ensures, c.byte_width.ensures.1, c.vint_width.ensures.1),
    )
