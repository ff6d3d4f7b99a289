-- `bench_calls::speed::run_end` ends: each turn has an event more, up to the bound. Assumes nothing.
use Rattle.std.proofs.Common.{◌-◌}
use Rattle.bench_calls.proofs.speed.run_end.Given as goal

abbrev pub decreases-loop-tally : goal.decreases-loop-tally
decreases-loop-tally l = 0x1000_0000_0000_0000 - l.tally.events
