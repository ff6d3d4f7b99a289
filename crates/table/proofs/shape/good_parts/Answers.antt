-- `table::shape::good_parts`. The invariant: each part passed is good. Assumes nothing.
use Prim.Native.Nat.{◌<◌}
use mathlib.Core.Path.{◌≡◌, sym, ◌∙◌}
use mathlib.Core.List.{List}
use mathlib.Core.Bool.{Bool, true}
use native.Mathlib.Omega.{arith}
use lib.ListN.{length, get_or}
use Rattle.table.specs.Table.{threes}
use Rattle.table.specs.Shape.{good_part}
use Rattle.table.proofs.Words.{length-threes, threes_at}
use Rattle.basics.proofs.Loops.{every_fails, every_next}
use Rattle.table.proofs.shape.good_parts.Goals as goal

pub returns-then-not-good_part_at : goal.returns-then-not-good_part_at
returns-then-not-good_part_at c =
    let tests : List Bool = threes good_part c.args.parts.now in
    let reach : c.loop-i.i < length tests = rw (length-threes good_part c.args.parts.now) (omega arith) in
    let read : get_or tests c.loop-i.i true ≡ c.good_part_at.result = threes_at good_part _ _ true (omega arith) ∙ sym c.good_part_at.ensures in
    sym (c.loop-i.invariant ∙ every_fails _ _ true _ reach (read ∙ c.if-not-good_part_at.true))

pub loop-i-preserved : goal.loop-i-preserved
loop-i-preserved c =
    let tests : List Bool = threes good_part c.args.parts.now in
    let reach : c.loop-i.i < length tests = rw (length-threes good_part c.args.parts.now) (omega arith) in
    let read : get_or tests c.loop-i.i true ≡ c.good_part_at.result = threes_at good_part _ _ true (omega arith) ∙ sym c.good_part_at.ensures in
    c.loop-i.invariant ∙ every_next _ _ true _ reach (read ∙ c.if-not-good_part_at.false)
