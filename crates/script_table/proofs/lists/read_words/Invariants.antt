-- `script_table::lists::read_words` meets its contract. The invariant: the lent words keep their number, and the count is
-- within them. Assumes nothing.
use Rattle.std.proofs.Common.{◌≤◌, length, ◌≡◌}
use Rattle.script_table.proofs.lists.read_words.Given as goal

abbrev pub invariant-loop-item : goal.invariant-loop-item
invariant-loop-item l = (length l.into ≡ length l.initial.into) × (l.count ≤ length l.initial.into)
