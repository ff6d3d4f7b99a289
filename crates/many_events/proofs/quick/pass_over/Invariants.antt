-- `many_events::quick::pass_over`. The invariant: some turns were made, what was seen is what the tests ask of the
-- record, the lent words show its masters, no End waits, where the record was found clean its other places are empty,
-- and `around` is the least end of the masters around the top one, or 0. Assumes nothing.
use Prim.Native.Nat.{◌-◌}
use Rattle.many_events.proofs.Ends.{Around}
use Rattle.many_events.proofs.Passing.{Going}
use Rattle.many_events.proofs.Tidy.{Tidy}
use Rattle.many_events.proofs.quick.pass_over.Given as goal

abbrev pub invariant-loop-n : goal.invariant-loop-n
invariant-loop-n l = Going l.entries l.parts l.input l.initial.events l.initial.d l.initial.n l.initial.at l.at l.events l.n l.d l.ids l.knowns l.k × Tidy l.clean l.d × Around l.around l.d

abbrev pub decreases-loop-n : goal.decreases-loop-n
decreases-loop-n l = l.room - l.n
