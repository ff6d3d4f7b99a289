-- `spec_util::place::left_open`. The invariant: each master above the first n closes. Assumes nothing.
use mathlib.Core.Path.{sym, ◌∙◌}
use native.Mathlib.Omega.{arith}
use Rattle.spec_util.proofs.Tops.{top_stays, top_closes}
use Rattle.spec_util.proofs.place.left_open.Goals as goal

pub returns-else-unknown_and_ended : goal.returns-else-unknown_and_ended
returns-else-unknown_and_ended c l shown =
    let no = sym c.unknown_and_ended.ensures ∙ c.if-unknown_and_ended.false in
    top_stays shown (c.loop-n.invariant.1 l shown) c.loop-n-test.true no

pub loop-n-preserved : goal.loop-n-preserved
loop-n-preserved c =
    let yes = sym c.unknown_and_ended.ensures ∙ c.if-unknown_and_ended.true in
    (omega arith, λ l shown. top_closes shown (c.loop-n.invariant.1 l shown) c.loop-n-test.true yes)
