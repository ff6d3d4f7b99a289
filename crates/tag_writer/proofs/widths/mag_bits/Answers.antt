-- `tag_writer::widths::mag_bits`. Assumes nothing.
use Rattle.tag_writer.proofs.WidthLaws.{mag_low, mag_high}
use Rattle.tag_writer.proofs.widths.mag_bits.Goals as goal

pub returns-then-bits-lt9223372036854775808 : goal.returns-then-bits-lt9223372036854775808
returns-then-bits-lt9223372036854775808 c = mag_low c.args.bits c.if-bits-lt9223372036854775808.true

pub returns : goal.returns
returns c = mag_high c.args.bits c.if-bits-lt9223372036854775808.false
