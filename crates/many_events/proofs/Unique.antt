-- No second answer meets the contract of `run`, as the checker reads it: two answers, and two lists of events at exit,
-- that it allows for the same arguments are equal. Assumes nothing.
use borrow.Fn.Kinds.{Dens}
use contract.Lifetimes.{Lfts}
use Rattle.basics.specs.Unique.{OneAnswer, answer_and}
use Rattle.basics.proofs.Unique.{one_answer}
use Rattle.tools.proofs.Unique.{given}
use Rattle.many_events.proofs.run.run.Reads as run
use Rattle.many_events.proofs.run.run.Kinds as run-kinds

pub run_one : (κs : Lfts 4) (a : Dens κs run-kinds.ps) → OneAnswer (run.Post κs a) (answer_and (λ e. e.1.1.1.1.1.0.now))
run_one κs a = one_answer (λ r e p. given p)
