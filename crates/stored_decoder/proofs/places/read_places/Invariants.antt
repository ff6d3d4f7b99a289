-- `stored_decoder::places::read_places`. The invariant: the first i places are read. Assumes nothing.
use mathlib.Core.Path.{◌≡◌}
use mathlib.Core.List.{map}
use lib.ListN.{length, take, drop}
use Rattle.basics.specs.Lists.{array_places}
use Rattle.stored_decoder.specs.Words.{places}
use Rattle.stored_decoder.specs.Writing.{over}
use Rattle.stored_decoder.proofs.places.read_places.Given as goal

abbrev pub invariant-loop-i : goal.invariant-loop-i
invariant-loop-i g l = (length l.out ≡ array_places) × (l.out ≡ over 0 (map g.P.Place.place_of (take l.i (places g.P.Place.SIZE array_places (drop l.from l.words)))) l.initial.out)
