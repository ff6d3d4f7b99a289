-- `ebml::numbers::ebml_read_signed_vint`, by the answer of `read_signed_vint`. Assumes nothing.
use mathlib.Core.Path.{◌≡◌, sym, ap, ◌∙◌}
use native.Mathlib.Omega.{arith}
use Rattle.tools.specs.SignedVint.{read_signed_vint, signed_vint_missing}
use Rattle.tools.proofs.Missing.{signed_missing_few}
use Rattle.ebml.proofs.numbers.ebml_read_signed_vint.Goals as goal
use Rattle.std.specs.Prelude.{Ok}

pub need_more-requires : goal.need_more-requires
need_more-requires c =
    let s = c.args.buffer.now in
    let e : c.in-Ok-NeedMore.bytes ≡ signed_vint_missing (read_signed_vint s) = ap signed_vint_missing (sym (c.in-Ok-NeedMore.is ∙ ap Ok c.in-Ok-NeedMore.field-0-is) ∙ c.read_signed_vint.ensures) in
    omega (arith, signed_missing_few s)
