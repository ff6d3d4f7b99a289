-- `spec_util::place::place_along`: by the mode; strictly over the masters that the ID leaves open. Assumes nothing.
use Prim.Native.Nat.{◌≤◌}
use mathlib.Core.Path.{◌≡◌}
use mathlib.Core.Bool.{true}
use native.Mathlib.Omega.{arith}
use lib.ListN.{length}
use Rattle.table.specs.Table.{table_of}
use Rattle.spec_util.specs.Walk.{left_open, masters_shown, place_along}
use Rattle.spec_util.proofs.Shown.{shows_those_read, left_shown}
use Rattle.spec_util.proofs.place.place_along.Goals as goal

pub returns-then-not-strict : goal.returns-then-not-strict
unfolding place_along
returns-then-not-strict c = rw c.if-not-strict.true c.walk_along.ensures

pub ends_none-requires : goal.ends_none-requires
ends_none-requires c =
    let within : let a = c.args in (c.least_of-count.result ≤ length a.ids.now) × (c.least_of-count.result ≤ length a.knowns.now) = let e = c.least_of-count.ensures in (omega arith, omega arith) in
    let a = c.args in
    let w = within in
    let k = c.left_open-kept.ensures _ (shows_those_read a.ids.now a.knowns.now c.least_of-count.result w.0 w.1) in
    (omega arith, omega arith)

pub returns-else-ends_none : goal.returns-else-ends_none
unfolding place_along
returns-else-ends_none c =
    let within : let a = c.args in (c.least_of-count.result ≤ length a.ids.now) × (c.least_of-count.result ≤ length a.knowns.now) = let e = c.least_of-count.ensures in (omega arith, omega arith) in
    let left : let a = c.args in left_open true (table_of a.entries.now a.parts.now) a.id (masters_shown a.ids.now a.knowns.now a.n) ≡ masters_shown a.ids.now a.knowns.now c.left_open-kept.result =
    let a = c.args in
    let w = within in
    left_shown true _ _ _ _ _ _ _ c.least_of-count.ensures (c.left_open-kept.ensures _ (shows_those_read a.ids.now a.knowns.now c.least_of-count.result w.0 w.1)) in
    rw (c.if-not-strict.false, left, ← c.ends_none.ensures, c.if-ends_none.false)

pub returns-then-ends_none : goal.returns-then-ends_none
unfolding place_along
returns-then-ends_none c =
    let within : let a = c.args in (c.least_of-count.result ≤ length a.ids.now) × (c.least_of-count.result ≤ length a.knowns.now) = let e = c.least_of-count.ensures in (omega arith, omega arith) in
    let left : let a = c.args in left_open true (table_of a.entries.now a.parts.now) a.id (masters_shown a.ids.now a.knowns.now a.n) ≡ masters_shown a.ids.now a.knowns.now c.left_open-kept.result =
    let a = c.args in
    let w = within in
    left_shown true _ _ _ _ _ _ _ c.least_of-count.ensures (c.left_open-kept.ensures _ (shows_those_read a.ids.now a.knowns.now c.least_of-count.result w.0 w.1)) in
    rw (c.if-not-strict.false, left, ← c.ends_none.ensures, c.if-ends_none.true) c.walk_along-then-ends_none.ensures
