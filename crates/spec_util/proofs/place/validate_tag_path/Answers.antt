-- `spec_util::place::validate_tag_path`: the parts in the range that is looked up are the path. Assumes nothing.
use Rattle.table.proofs.Entries.{path_of_lem}
use Rattle.spec_util.specs.Walk.{validate_tag_path}
use Rattle.spec_util.proofs.place.validate_tag_path.Goals as goal

pub returns : goal.returns
unfolding validate_tag_path
returns c =
    let a = c.args in
    rw (← (path_of_lem a.entries.now a.parts.now _ c.get_path_by_id-path.ensures)) c.place_along.ensures
