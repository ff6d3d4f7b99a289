-- `decoder_decide::element::read_element`: the payload is not there, or is read. Assumes nothing.
use Prim.Native.Nat.{◌+◌, ◌-◌}
use mathlib.Core.Path.{◌≡◌, ◌∙◌}
use native.Mathlib.Omega.{arith}
use borrow.Author.Tests.{lt-ltb, le-ltb}
use Rattle.decoder_rules.specs.OneCall.{read_element}
use Rattle.decoder_decide.proofs.element.read_element.Goals as goal

pub returns-then-input-total : goal.returns-then-input-total
unfolding read_element
returns-then-input-total c = rw (lt-ltb _ _ c.if-input-total.true)

pub returns : goal.returns
unfolding read_element
returns c =
    let a = c.args in
    let e : a.h.len + a.n - a.h.len ≡ a.n = omega arith in
    rw (le-ltb _ _ c.if-input-total.false) (c.data_or.ensures ∙ rw (c.value_of.ensures, e))
