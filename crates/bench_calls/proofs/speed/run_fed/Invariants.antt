-- `bench_calls::speed::run_fed` meets its contract. The invariant: the stream's bytes are those that were lent. Each turn
-- has an event more, or more of the stream. Assumes nothing.
use Rattle.std.proofs.Common.{◌≡◌, ◌+◌, ◌-◌, length}
use Rattle.bench_calls.proofs.speed.run_fed.Given as goal

abbrev pub invariant-loop-tally : goal.invariant-loop-tally
invariant-loop-tally l = l.stream.bytes ≡ l.initial.stream.bytes

abbrev pub decreases-loop-tally : goal.decreases-loop-tally
decreases-loop-tally l = (0x1000_0000_0000_0000 - l.tally.events) + (length l.stream.bytes.now - l.stream.fed)
