use Rattle.std.proofs.Common.{◌≤◌, arith, sym, ◌∙◌, length, drop, length-drop}
use Rattle.std.proofs.Math.ListN.{drop_of_length-le}
use Rattle.utf8.specs.Rfc3629.{text_after}
use Rattle.utf8.proofs.Text.{stop, passed_more, passed_char}
use Rattle.utf8.proofs.is_utf8.Goals as goal

pub returns-then-n-eq0 : goal.returns-then-n-eq0
returns-then-n-eq0 c =
    let s = c.args.s.now in
    let i = c.loop-i.i in
    sym (stop (drop i s) (omega (arith, length-drop i s)) (sym c.char_length-n.ensures ∙ c.if-n-eq0.true)) ∙ c.loop-i.invariant.same

-- the character that was found
pub overflow_add-i-else-s-i-lt128 : goal.overflow_add-i-else-s-i-lt128
overflow_add-i-else-s-i-lt128 c =
    let p = passed_char c.args.s.now c.loop-i.i c.char_length-n.result (omega arith) (sym c.char_length-n.ensures) (omega arith) in
    omega arith

pub loop-i-preserved : goal.loop-i-preserved
loop-i-preserved c =
    passed_more c.loop-i.invariant (passed_char _ _ _ (omega arith) (sym c.char_length-n.ensures) (omega arith))

pub returns : goal.returns
unfolding text_after
returns c =
    let s = c.args.s.now in
    let i = c.loop-i.i in
    let end : length s ≤ i = omega arith in
    rw (drop_of_length-le s end) at c.loop-i.invariant.same
