-- `tag_writer::widths::byte_width`. The invariant: no width passed holds m, so the least from here on is the least of
-- all. Assumes nothing.
use Prim.Native.Nat.{◌+◌, ◌-◌, ◌*◌, ◌^◌, ◌≤◌, ◌<◌}
use mathlib.Core.Path.{◌≡◌, sym, ◌∙◌}
use native.Mathlib.Omega.{arith}
use borrow.Author.Tests.{lt-ltb, le-ltb}
use Rattle.tools.specs.Vint.{least_from}
use Rattle.tools.proofs.Least.{least_here, least_next}
use Rattle.tag_writer.proofs.widths.byte_width.Invariants.{test}
use Rattle.tag_writer.proofs.widths.byte_width.Goals as goal

pub returns-then-m-pow2 : goal.returns-then-m-pow2
returns-then-m-pow2 c =
    let l = c.loop-width in
    let a = c.args in
    let h : a.m < 2 ^ (8 * l.width - a.less) = rw (← c.pow2.ensures) c.if-m-pow2.true in
    (sym (least_here (test a.less a.m) (8 - l.width) l.width (omega arith) (lt-ltb _ _ h)) ∙ l.invariant.2, l.invariant.1)

pub loop-width-preserved : goal.loop-width-preserved
loop-width-preserved c =
    let l = c.loop-width in
    let a = c.args in
    let h : 2 ^ (8 * l.width - a.less) ≤ a.m = rw (← c.pow2.ensures) c.if-m-pow2.false in
    let e : 8 - (l.width + 1) ≡ 8 - l.width - 1 = omega arith in (
      omega arith,
      omega arith,
      rw e (sym (least_next (test a.less a.m) (8 - l.width) l.width (omega arith) (le-ltb _ _ h)) ∙ l.invariant.2),
    )

pub returns : goal.returns
unfolding least_from
returns c =
    let l = c.loop-width in
    let e : l.width ≡ 8 = omega arith in
    (rw e at l.invariant.2, omega arith)
