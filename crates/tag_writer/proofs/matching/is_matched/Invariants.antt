-- `tag_writer::matching::is_matched`. The invariant: what is left matches in the Starts on the stack where all matches
-- in none. Assumes nothing.
use Prim.Native.Nat.{ℕ, ◌/◌, ◌≤◌}
use mathlib.Core.Path.{◌≡◌}
use mathlib.Core.List.{List, []}
use lib.ListN.{length, drop}
use Rattle.tag_writer.specs.Items.{marks_of, matched}
use Rattle.tag_writer.proofs.MatchLaws.{top_down}
use Rattle.tag_writer.proofs.matching.is_matched.Given as goal

abbrev pub invariant-loop-i : goal.invariant-loop-i
invariant-loop-i l =
    (l.i ≤ length l.items / 4) × (l.depth ≤ l.i) × (length l.open ≡ 512) × ((vals : List ℕ) → matched (top_down l.open l.depth) (drop l.i (marks_of vals l.items)) ≡ matched [] (marks_of vals l.items))
