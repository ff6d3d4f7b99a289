-- `many_events::run::run`. The invariant: what was handed out, joined to the calls from here on with the room that is left,
-- is what all the calls answer; `pass_over` keeps it, and so does a call. Assumes nothing.
use Prim.Native.Nat.{◌-◌}
use lib.ListN.{length}
use Rattle.many_events.specs.Many.{one_call, many_events}
use Rattle.many_events.specs.Turns.{Turning}
use Rattle.many_events.proofs.run.run.Given as goal

abbrev pub invariant-loop-n : goal.invariant-loop-n
invariant-loop-n l = Turning (one_call l.eof l.entries l.parts) l.input l.room (length l.initial.events) (many_events l.eof l.entries l.parts l.initial.d l.input l.initial.events) l.events l.d l.n l.at

abbrev pub decreases-loop-n : goal.decreases-loop-n
decreases-loop-n l = l.room - l.n
