-- `spec_util::ended::is_ended_by`: one law of the definition for each answer. Assumes nothing.
use mathlib.Core.Path.{sym, ◌∙◌}
use borrow.Author.Tests.{ne_eqb}
use native.Mathlib.Omega.{arith}
use Rattle.spec_util.proofs.Endings.{by_parent, by_sibling, by_none, by_root}
use Rattle.spec_util.proofs.ended.is_ended_by.Goals as goal

pub returns-then-has_id : goal.returns-then-has_id
returns-then-has_id c = sym (by_parent _ _ _ _ c.get_path_by_id-current.ensures (sym c.has_id.ensures ∙ c.if-has_id.true))

pub returns-then-same_path : goal.returns-then-same_path
returns-then-same_path c =
    let parent = sym c.has_id.ensures ∙ c.if-has_id.false in
    c.if-same_path.true ∙ sym (by_sibling _ _ _ _ c.get_path_by_id-current.ensures parent c.look_up-test.ensures (sym c.same_path.ensures ∙ c.if-same_path.true))

pub returns-then-depth-eq0 : goal.returns-then-depth-eq0
returns-then-depth-eq0 c =
    let parent = sym c.has_id.ensures ∙ c.if-has_id.false in
    let sibling = sym c.same_path.ensures ∙ c.if-same_path.false in
    c.is_typed.ensures ∙ sym (by_root _ _ _ _ c.get_path_by_id-current.ensures parent c.look_up-test.ensures sibling (omega arith))

pub returns-else-depth-eq0 : goal.returns-else-depth-eq0
returns-else-depth-eq0 c =
    let parent = sym c.has_id.ensures ∙ c.if-has_id.false in
    let sibling = sym c.same_path.ensures ∙ c.if-same_path.false in
    ne_eqb _ _ c.if-depth-eq0.false ∙ sym (by_none _ _ _ _ c.get_path_by_id-current.ensures parent c.look_up-test.ensures sibling (omega arith))
