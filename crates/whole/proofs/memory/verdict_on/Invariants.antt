-- `whole::memory::verdict_on`. The invariant: the place is within the input, whose length is a `usize`, and the verdict
-- on what is left, with what is kept, is that on all of it. The measure is how far the end is. Assumes nothing.
use Prim.Native.Nat.{◌^◌, ◌≤◌, ◌<◌}
use mathlib.Core.Path.{◌≡◌}
use lib.ListN.{length, drop}
use Rattle.whole.specs.Checking.{verdict_after, verdict_of}
use Rattle.whole.specs.Night.{answers_to}
use Rattle.whole.proofs.InMemory.{ahead, all_from}
use Rattle.whole.proofs.memory.verdict_on.Given as goal

abbrev pub invariant-loop-r : goal.invariant-loop-r
invariant-loop-r l =
    (l.at ≤ length l.input)
    × (length l.input < 2 ^ 63)
    × (verdict_after l.seen (all_from l.entries l.parts l.decoder (drop l.at l.input)) ≡ verdict_of (answers_to l.strict l.entries l.parts l.input))

abbrev pub decreases-loop-r : goal.decreases-loop-r
decreases-loop-r l = ahead l.decoder (drop l.at l.input)
