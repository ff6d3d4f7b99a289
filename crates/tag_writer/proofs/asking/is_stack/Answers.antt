-- `tag_writer::asking::is_stack`. The invariant: the parts passed are the IDs passed, so the rests decide. Assumes
-- nothing.
use Prim.Native.Nat.{◌≤◌}
use mathlib.Core.Path.{sym, ap, ◌∙◌}
use native.Mathlib.Omega.{arith}
use lib.ListN.{length, get_or}
use Rattle.table.specs.Table.{parts_of, parts_in, same_part}
use Rattle.table.specs.declared.types.PathPart.TheVariants.{Id}
use Rattle.tag_writer.proofs.PlaceLaws.{other_count, stack_fails, stack_next, stack_end}
use Rattle.tag_writer.proofs.asking.is_stack.Goals as goal

pub returns-then-path_length-depth : goal.returns-then-path_length-depth
returns-then-path_length-depth c =
    let a = c.args in
    let there : a.depth ≤ length a.ids.now = c.requires in
    other_count (parts_in (parts_of a.parts.now) a.path) a.ids.now a.depth there (λ z. c.if-path_length-depth.true (c.path_length.ensures ∙ z))

pub returns-then-not-is_id : goal.returns-then-not-is_id
returns-then-not-is_id c =
    let l = c.loop-i in
    let a = c.args in
    let path = parts_in (parts_of a.parts.now) a.path in
    let there : a.depth ≤ length a.ids.now = c.requires in
    let count = sym c.path_length.ensures ∙ c.if-path_length-depth.false in
    let part = ap (λ q. same_part q (Id (get_or a.ids.now l.i 0))) (sym c.path_part.ensures) ∙ sym c.is_id.ensures in
    sym (l.invariant.1 ∙ stack_fails path a.ids.now a.depth there count l.i (omega arith) (part ∙ c.if-not-is_id.true))

pub loop-i-preserved : goal.loop-i-preserved
loop-i-preserved c =
    let l = c.loop-i in
    let a = c.args in
    let path = parts_in (parts_of a.parts.now) a.path in
    let there : a.depth ≤ length a.ids.now = c.requires in
    let count = sym c.path_length.ensures ∙ c.if-path_length-depth.false in
    let part = ap (λ q. same_part q (Id (get_or a.ids.now l.i 0))) (sym c.path_part.ensures) ∙ sym c.is_id.ensures in
    (omega arith, l.invariant.1 ∙ stack_next path a.ids.now a.depth there count l.i (omega arith) (part ∙ c.if-not-is_id.false))

pub returns : goal.returns
returns c =
    let l = c.loop-i in
    let a = c.args in
    let path = parts_in (parts_of a.parts.now) a.path in
    let there : a.depth ≤ length a.ids.now = c.requires in
    sym (l.invariant.1 ∙ stack_end path a.ids.now a.depth there l.i (sym c.path_length.ensures ∙ c.if-path_length-depth.false) (omega arith))
