-- `tag_writer::sizes::size_of_element` and `size_of_run`, which call each other: the items left fall, and at the same
-- item a run stands above its first element.
use Rattle.std.proofs.Common.{◌+◌, ◌-◌, ◌*◌, ◌/◌, length}
use Rattle.tag_writer.proofs.sizes.+size_of_element_size_of_run.Given as goal

abbrev pub decreases-size_of_element : goal.decreases-size_of_element
decreases-size_of_element l = 2 * (length l.items.now / 4 - l.at)

abbrev pub decreases-size_of_run : goal.decreases-size_of_run
decreases-size_of_run l = 2 * (length l.items.now / 4 - l.at) + 1
