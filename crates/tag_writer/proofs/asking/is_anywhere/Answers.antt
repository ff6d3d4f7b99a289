-- `tag_writer::asking::is_anywhere`. Assumes nothing.
use Prim.Native.Nat.{ℕ}
use mathlib.Core.Path.{◌≡◌, refl, sym, ap, ◌∙◌}
use mathlib.Core.Bool.{Bool, true, false, not, ◌&&◌}
use Rattle.table.specs.Table.{parts_of, parts_in, same_bound, same_part}
use Rattle.table.specs.declared.types.PathPart.{PathPart}
use Rattle.table.specs.declared.types.PathPart.TheVariants.{Global}
use Rattle.tag_writer.proofs.PlaceLaws.{not_one, one_part}
use Rattle.tag_writer.proofs.asking.is_anywhere.Goals as goal
use Rattle.std.specs.Prelude.{None, Some, Option}
use Rattle.std.specs.Option.{is_some}
use Rattle.tag_writer.proofs.Tests.{and_then, and_else}

two : {a b c d : Bool} → a ≡ c → b ≡ d → (a && b) ≡ (c && d)
two e f = rw (e, f)

bound_none : (b : Option ℕ) (r : Bool) → is_some b ≡ not r → r ≡ same_bound b None
unfolding same_bound
bound_none None true e = refl
bound_none None false e = e
bound_none (Some x) true e = e
bound_none (Some x) false e = refl

pub returns-then-path_length-ne1 : goal.returns-then-path_length-ne1
returns-then-path_length-ne1 c =
    let a = c.args in
    not_one (parts_in (parts_of a.parts.now) a.path) (λ z. c.if-path_length-ne1.true (c.path_length.ensures ∙ z))

pub returns-in-Id : goal.returns-in-Id
unfolding same_part
returns-in-Id c =
    let a = c.args in
    ap (λ (q : PathPart). same_part q (Global None None)) (sym c.in-Id.is ∙ c.path_part.ensures) ∙ one_part (parts_in (parts_of a.parts.now) a.path) (sym c.path_length.ensures ∙ c.if-path_length-ne1.false)

pub returns-then-is_none : goal.returns-then-is_none
unfolding same_part
returns-then-is_none c =
    let a = c.args in
    and_then c.if-is_none.true ∙ two (bound_none c.in-Global.min c.is_none.result c.is_none.ensures) (bound_none c.in-Global.max c.is_none-then-is_none.result c.is_none-then-is_none.ensures)
    ∙ ap (λ (q : PathPart). same_part q (Global None None)) (sym c.in-Global.is ∙ c.path_part.ensures) ∙ one_part (parts_in (parts_of a.parts.now) a.path) (sym c.path_length.ensures ∙ c.if-path_length-ne1.false)

pub returns-else-is_none : goal.returns-else-is_none
unfolding same_part
returns-else-is_none c =
    let a = c.args in
    and_else (same_bound c.in-Global.max None) c.if-is_none.false ∙ two (bound_none c.in-Global.min c.is_none.result c.is_none.ensures) refl
    ∙ ap (λ (q : PathPart). same_part q (Global None None)) (sym c.in-Global.is ∙ c.path_part.ensures) ∙ one_part (parts_in (parts_of a.parts.now) a.path) (sym c.path_length.ensures ∙ c.if-path_length-ne1.false)
