-- `tag_writer::asking::goes_in`. Assumes nothing.
use mathlib.Core.Path.{sym, ◌∙◌}
use lib.ListN.{take}
use Rattle.tag_writer.proofs.PlaceLaws.{goes_anywhere, goes_there}
use Rattle.tag_writer.proofs.asking.goes_in.Goals as goal

pub returns-then-is_anywhere : goal.returns-then-is_anywhere
returns-then-is_anywhere c =
    let a = c.args in
    c.if-is_anywhere.true ∙ goes_anywhere a.entries.now a.parts.now (take a.depth a.ids.now) a.id c.get_path_by_id-path.result c.get_path_by_id-path.ensures (sym c.is_anywhere.ensures ∙ c.if-is_anywhere.true)

pub returns-else-is_anywhere : goal.returns-else-is_anywhere
returns-else-is_anywhere c =
    let a = c.args in
    goes_there a.entries.now a.parts.now (take a.depth a.ids.now) a.id c.get_path_by_id-path.result c.get_path_by_id-path.ensures c.is_stack.result (sym c.is_anywhere.ensures ∙ c.if-is_anywhere.false) c.is_stack.ensures
