-- `ebml::numbers::ebml_read_vint`, by the answer of `read_vint`. Assumes nothing.
use mathlib.Core.Path.{◌≡◌, sym, ap, ◌∙◌}
use native.Mathlib.Omega.{arith}
use Rattle.tools.specs.Vint.{read_vint, vint_missing}
use Rattle.tools.proofs.Missing.{missing_few}
use Rattle.ebml.proofs.numbers.ebml_read_vint.Goals as goal
use Rattle.std.specs.Prelude.{Ok}

pub need_more-requires : goal.need_more-requires
need_more-requires c =
    let s = c.args.buffer.now in
    let e : c.in-Ok-NeedMore.missing ≡ vint_missing (read_vint s) = ap vint_missing (sym (c.in-Ok-NeedMore.is ∙ ap Ok c.in-Ok-NeedMore.field-0-is) ∙ c.read_vint.ensures) in
    omega (arith, missing_few s)
