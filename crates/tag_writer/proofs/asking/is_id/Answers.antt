-- `tag_writer::asking::is_id`. Assumes nothing.
use Rattle.table.specs.Table.{same_part}
use Rattle.tag_writer.proofs.asking.is_id.Goals as goal

pub returns-in-Id : goal.returns-in-Id
unfolding same_part
returns-in-Id c = rw c.in-Id.is

pub returns-in-Global : goal.returns-in-Global
unfolding same_part
returns-in-Global c = rw c.in-Global.is
