-- `named_list::words::put_shown`. The invariant: the octets passed are stored as they are shown. The measure is how many
-- are left. Assumes nothing.
use Prim.Native.Nat.{◌*◌, ◌≤◌}
use mathlib.Core.Path.{◌≡◌}
use lib.ListN.{length}
use Rattle.numerals.specs.Puts.{Puts}
use Rattle.named_list.specs.Words.{shown_up_to}
use Rattle.named_list.proofs.words.put_shown.Given as goal

abbrev pub invariant-loop-i : goal.invariant-loop-i
invariant-loop-i l = (l.i ≤ length l.text) × Puts (4 * l.i) l.to l.out l.initial.out l.at (shown_up_to l.text l.i) × (length l.out ≡ length l.initial.out)
