-- `spec_util::walk::walk_along`. The invariant: no master passed has decided, and the counter counts at most those.
-- Assumes nothing.
use Prim.Native.Nat.{◌-◌, ◌^◌, ◌≤◌, ◌<◌, min}
use mathlib.Core.Path.{◌≡◌, sym, ◌∙◌}
use mathlib.Core.List.{List}
use native.Mathlib.Omega.{arith}
use lib.ListN.{length, get_or}
use Rattle.table.specs.Table.{Entry, parts_of, parts_in, table_of}
use Rattle.table.specs.declared.types.PathPart.{PathPart}
use Rattle.spec_util.specs.Walk.{no_tag, walk_master, masters_shown}
use Rattle.spec_util.specs.declared.types.OpenTag.{OpenTag}
use Rattle.spec_util.proofs.Shown.{length-shown, shown_id, shown_known}
use Rattle.spec_util.proofs.Walking.{walk_accepts, walk_refuses, walk_goes_on, walk_ends, counter_grows}
use Rattle.spec_util.proofs.walk.walk_along.Goals as goal

pub returns-in-Accept : goal.returns-in-Accept
returns-in-Accept c =
    let table : List Entry = table_of c.args.entries.now c.args.parts.now in
    let path_read : List PathPart = parts_in (parts_of c.args.parts.now) c.args.path in
    let masters : List OpenTag = masters_shown c.args.ids.now c.args.knowns.now c.args.n in
    let many : length masters ≡ c.least_of-count.result = length-shown _ _ _ ∙ sym c.least_of-count.ensures in
    let in_reach : c.loop-i.i < length masters = omega (arith, many) in
    let told : walk_master c.args.strict table path_read c.args.id (get_or masters c.loop-i.i no_tag).id (get_or masters c.loop-i.i no_tag).known c.loop-i.marker c.loop-i.counter ≡ c.walk_master.result =
    let h = in_reach in
    let a = c.args in
    let n : min c.loop-i.counter (2 ^ 64 - 2) ≡ c.loop-i.counter = omega arith in
    rw (shown_id a.ids.now a.knowns.now a.n _ h, shown_known a.ids.now a.knowns.now a.n _ h) (sym (rw n at c.walk_master.ensures)) in
    sym (c.loop-i.invariant.2 ∙ walk_accepts _ _ _ _ _ _ _ _ in_reach (told ∙ c.in-Accept.is))

pub returns-in-Refuse : goal.returns-in-Refuse
returns-in-Refuse c =
    let table : List Entry = table_of c.args.entries.now c.args.parts.now in
    let path_read : List PathPart = parts_in (parts_of c.args.parts.now) c.args.path in
    let masters : List OpenTag = masters_shown c.args.ids.now c.args.knowns.now c.args.n in
    let many : length masters ≡ c.least_of-count.result = length-shown _ _ _ ∙ sym c.least_of-count.ensures in
    let in_reach : c.loop-i.i < length masters = omega (arith, many) in
    let told : walk_master c.args.strict table path_read c.args.id (get_or masters c.loop-i.i no_tag).id (get_or masters c.loop-i.i no_tag).known c.loop-i.marker c.loop-i.counter ≡ c.walk_master.result =
    let h = in_reach in
    let a = c.args in
    let n : min c.loop-i.counter (2 ^ 64 - 2) ≡ c.loop-i.counter = omega arith in
    rw (shown_id a.ids.now a.knowns.now a.n _ h, shown_known a.ids.now a.knowns.now a.n _ h) (sym (rw n at c.walk_master.ensures)) in
    sym (c.loop-i.invariant.2 ∙ walk_refuses _ _ _ _ _ _ _ _ in_reach (told ∙ c.in-Refuse.is))

pub loop-i-preserved : goal.loop-i-preserved
loop-i-preserved c =
    let table : List Entry = table_of c.args.entries.now c.args.parts.now in
    let path_read : List PathPart = parts_in (parts_of c.args.parts.now) c.args.path in
    let masters : List OpenTag = masters_shown c.args.ids.now c.args.knowns.now c.args.n in
    let many : length masters ≡ c.least_of-count.result = length-shown _ _ _ ∙ sym c.least_of-count.ensures in
    let in_reach : c.loop-i.i < length masters = omega (arith, many) in
    let told : walk_master c.args.strict table path_read c.args.id (get_or masters c.loop-i.i no_tag).id (get_or masters c.loop-i.i no_tag).known c.loop-i.marker c.loop-i.counter ≡ c.walk_master.result =
    let h = in_reach in
    let a = c.args in
    let n : min c.loop-i.counter (2 ^ 64 - 2) ≡ c.loop-i.counter = omega arith in
    rw (shown_id a.ids.now a.knowns.now a.n _ h, shown_known a.ids.now a.knowns.now a.n _ h) (sym (rw n at c.walk_master.ensures)) in
    let on = told ∙ c.in-On.is in (
      omega arith,
      omega (arith, counter_grows _ _ _ _ _ _ _ _ on),
      c.loop-i.invariant.2 ∙ walk_goes_on _ _ _ _ _ _ _ _ in_reach on,
    )

pub returns : goal.returns
returns c =
    let masters : List OpenTag = masters_shown c.args.ids.now c.args.knowns.now c.args.n in
    let many : length masters ≡ c.least_of-count.result = length-shown _ _ _ ∙ sym c.least_of-count.ensures in
    let past : length masters ≤ c.loop-i.i = omega (arith, many) in
    c.walk_end.ensures ∙ sym (c.loop-i.invariant.2 ∙ walk_ends _ _ _ _ _ _ _ _ past)
