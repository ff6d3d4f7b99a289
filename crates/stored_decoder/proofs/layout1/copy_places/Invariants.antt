-- `stored_decoder::layout1::copy_places`. The invariant: the first i places are written, each with a 0 behind it.
-- Assumes nothing.
use Prim.Native.Nat.{◌≤◌}
use mathlib.Core.Path.{◌≡◌}
use mathlib.Core.List.{[], ◌∷◌, ◌++◌, flat_map}
use lib.ListN.{length, take, drop}
use Rattle.basics.specs.Lists.{array_places}
use Rattle.stored_decoder.specs.Words.{word_count, places}
use Rattle.stored_decoder.specs.Writing.{over}
use Rattle.stored_decoder.proofs.layout1.copy_places.Given as goal

abbrev pub invariant-loop-i : goal.invariant-loop-i
invariant-loop-i l = (l.i ≤ array_places) × (length l.out ≡ word_count) × (l.out ≡ over l.to (flat_map (λ v. v ++ (0 ∷ [])) (take l.i (places l.size array_places (drop l.from l.words)))) l.initial.out)
