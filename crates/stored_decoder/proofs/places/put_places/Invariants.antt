-- `stored_decoder::places::put_places`. The invariant: the words of the first i places are written. Assumes nothing.
use mathlib.Core.Path.{◌≡◌}
use mathlib.Core.List.{flat_map}
use lib.ListN.{length, take}
use Rattle.basics.specs.Lists.{filled}
use Rattle.stored_decoder.specs.Writing.{over}
use Rattle.stored_decoder.proofs.places.put_places.Given as goal

abbrev pub invariant-loop-i : goal.invariant-loop-i
invariant-loop-i g l = (length l.words ≡ length l.initial.words) × (l.words ≡ over l.from (flat_map g.P.Place.words_of (take l.i (filled g.P.Place.unused (take l.count l.places)))) l.initial.words)
