-- `tag_writer::widths::vint_width`. Assumes nothing.
use mathlib.Core.Path.{refl}
use native.Mathlib.Omega.{arith}
use Rattle.tag_writer.proofs.HeaderPut.{size_short, size_is, size_never}
use Rattle.tag_writer.proofs.widths.vint_width.Goals as goal

pub returns-in-Ok : goal.returns-in-Ok
returns-in-Ok c =
    let e = size_is c.args.n _ _ _ c.requires refl c.as_vint.ensures c.in-Ok.is in
    (e, omega (arith, e, (size_short c.args.n).1))

pub returns-in-Err : goal.returns-in-Err
returns-in-Err c =
    absurd (size_never c.args.n _ _ _ c.requires refl c.as_vint.ensures c.in-Err.is)
