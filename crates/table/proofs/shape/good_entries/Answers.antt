-- `table::shape::good_entries`. The invariant: each entry passed is good. Assumes nothing.
use Prim.Native.Nat.{◌<◌}
use mathlib.Core.Path.{◌≡◌, sym, ◌∙◌}
use mathlib.Core.List.{List}
use mathlib.Core.Bool.{Bool, true}
use native.Mathlib.Omega.{arith}
use lib.ListN.{length, get_or}
use Rattle.table.specs.Table.{fours}
use Rattle.table.proofs.Words.{length-fours, fours_at}
use Rattle.basics.proofs.Loops.{every_fails, every_next}
use Rattle.table.proofs.shape.good_entries.Invariants.{good}
use Rattle.table.proofs.shape.good_entries.Goals as goal

pub returns-then-not-good_entry_at : goal.returns-then-not-good_entry_at
returns-then-not-good_entry_at c =
    let tests : List Bool = fours (good c.args.all) c.args.entries.now in
    let reach : c.loop-i.i < length tests = rw (length-fours (good c.args.all) c.args.entries.now) (omega arith) in
    let read : get_or tests c.loop-i.i true ≡ c.good_entry_at.result = fours_at (good c.args.all) _ _ true (omega arith) ∙ sym c.good_entry_at.ensures in
    sym (c.loop-i.invariant ∙ every_fails _ _ true _ reach (read ∙ c.if-not-good_entry_at.true))

pub loop-i-preserved : goal.loop-i-preserved
loop-i-preserved c =
    let tests : List Bool = fours (good c.args.all) c.args.entries.now in
    let reach : c.loop-i.i < length tests = rw (length-fours (good c.args.all) c.args.entries.now) (omega arith) in
    let read : get_or tests c.loop-i.i true ≡ c.good_entry_at.result = fours_at (good c.args.all) _ _ true (omega arith) ∙ sym c.good_entry_at.ensures in
    c.loop-i.invariant ∙ every_next _ _ true _ reach (read ∙ c.if-not-good_entry_at.false)
