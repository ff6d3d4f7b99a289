-- `event_list::listing::move_unread_to_front`: the two ends, and then the move. Assumes nothing.
use native.Mathlib.Omega.{arith}
use Rattle.event_list.proofs.Buffers.{moved_to_front_is}
use Rattle.event_list.proofs.listing.move_unread_to_front.Goals as goal

pub returns : goal.returns
returns c =
    (moved_to_front_is c.args.l c.args.buffer.now c.min-upto.ensures c.min-from.ensures c.shift.ensures, omega arith)
