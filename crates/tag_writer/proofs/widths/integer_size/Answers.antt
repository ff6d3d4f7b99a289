-- `tag_writer::widths::integer_size`. Assumes nothing.
use mathlib.Core.Path.{◌∙◌}
use Rattle.tag_writer.proofs.WidthLaws.{integer_none, integer_some}
use Rattle.tag_writer.proofs.widths.integer_size.Goals as goal

pub returns-then-bits-eq0 : goal.returns-then-bits-eq0
returns-then-bits-eq0 c = integer_none c.args.bits c.if-bits-eq0.true

pub returns : goal.returns
returns c =
    c.wide.ensures ∙ integer_some c.args.bits c.mag_bits.result c.byte_width.result c.if-bits-eq0.false c.ranges.bits.fits c.mag_bits.ensures c.byte_width.ensures.0
