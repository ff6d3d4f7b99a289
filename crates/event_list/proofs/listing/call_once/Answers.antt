-- `event_list::listing::call_once`: the two ends, the call, and what follows from its answer. Assumes nothing.
use Rattle.std.proofs.Common.{◌-◌, arith}
use Rattle.event_list.proofs.Buffers.{call_once_is}
use Rattle.event_list.proofs.Taking.{part_takes}
use Rattle.event_list.proofs.listing.call_once.Goals as goal

pub overflow_add-result : goal.overflow_add-result
overflow_add-result c =
    let a = c.args in
    let u = c.min-upto.result in
    let n = part_takes a.l.ended a.l.decoder a.buffer.now (u - c.min-from.result) c.min-from.result (λ i. (c.type_inv.buffer i).fits) c.call-answer.ensures in
    omega arith

pub returns : goal.returns
returns c =
    call_once_is c.args.l c.args.buffer.now c.min-upto.ensures c.min-from.ensures c.call-answer.ensures c.next_of.ensures
