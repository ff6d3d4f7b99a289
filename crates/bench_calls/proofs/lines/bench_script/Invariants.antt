-- `bench_calls::lines::bench_script` meets its contract. The invariant: the lent bytes keep their number, the filled ones
-- are within them, and so are the table's words within the lent ones; it tells the shape of its words. Assumes nothing.
use Rattle.std.proofs.Common.{◌≡◌, ◌≤◌, length}
use Rattle.script_table.specs.HeldIn.{HeldIn, ShapeTold}
use Rattle.bench_calls.proofs.lines.bench_script.Given as goal

abbrev pub invariant-loop-line : goal.invariant-loop-line
invariant-loop-line l =
    (goal.iterator-loop-line).can_next l.line-iterator
    × (goal.iterator-loop-line).is_finite l.line-iterator
    × (length l.out ≡ length l.initial.out)
    × (l.filled ≤ length l.initial.out)
    × HeldIn l.session.table l.entries l.parts
    × ShapeTold l.session.table l.entries l.parts
