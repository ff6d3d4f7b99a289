-- `spec_util::walk::walk_global`: by the tests in their order. Assumes nothing.
use Prim.Native.Nat.{◌+◌}
use mathlib.Core.Path.{◌≡◌}
use mathlib.Core.Bool.{cond}
use native.Mathlib.Omega.{arith}
use Rattle.table.specs.Table.{parts_of, parts_in}
use Rattle.table.proofs.Ranges.{length_path}
use Rattle.spec_util.specs.Walk.{under_min, walk_global}
use Rattle.spec_util.specs.declared.types.Walk.{Walk}
use Rattle.spec_util.specs.declared.types.Walk.TheVariants.{Refuse, On}
use Rattle.spec_util.proofs.walk.walk_global.Goals as goal

pub returns-then-over_max : goal.returns-then-over_max
unfolding walk_global
returns-then-over_max c = rw (← c.over_max.ensures, c.if-over_max.true)

pub returns-then-not-is_id_at : goal.returns-then-not-is_id_at
unfolding walk_global
returns-then-not-is_id_at c =
    let n = c.if-not-is_id_at.true in
    rw (← c.over_max.ensures, c.if-over_max.false, ← c.is_id_at.ensures, n)

pub returns-then-under_min : goal.returns-then-under_min
unfolding walk_global
returns-then-under_min c =
    let walked : Walk =
    let a = c.args in
    walk_global (parts_in (parts_of a.parts.now) a.path) a.master_id a.marker a.n a.least a.most in
    let bounded : Walk = cond (under_min c.args.n c.args.least) Refuse (On (c.args.marker + 2) 0) in
    let matched : walked ≡ bounded =
    let y = c.if-not-is_id_at.false in
    rw (← c.over_max.ensures, c.if-over_max.false, ← c.is_id_at.ensures, y) in
    rw (matched, ← c.under_min.ensures, c.if-under_min.true)

pub overflow_add-result : goal.overflow_add-result
overflow_add-result c = let a = c.args in omega (arith, length_path a.parts.now a.path)

pub returns : goal.returns
unfolding walk_global
returns c =
    let walked : Walk =
    let a = c.args in
    walk_global (parts_in (parts_of a.parts.now) a.path) a.master_id a.marker a.n a.least a.most in
    let bounded : Walk = cond (under_min c.args.n c.args.least) Refuse (On (c.args.marker + 2) 0) in
    let matched : walked ≡ bounded =
    let y = c.if-not-is_id_at.false in
    rw (← c.over_max.ensures, c.if-over_max.false, ← c.is_id_at.ensures, y) in
    rw (matched, ← c.under_min.ensures, c.if-under_min.false)
