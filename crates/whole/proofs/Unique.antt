-- No second answer meets the contract of a public function, as the checker reads it: the answer and every lent byte are
-- fixed, whatever the exit. Assumes nothing.
use borrow.Fn.Kinds.{Dens}
use contract.Lifetimes.{Lfts}
use Rattle.basics.specs.Unique.{OneAnswer, answer, answer_and}
use Rattle.basics.proofs.Unique.{one_answer}
use Rattle.tools.proofs.Unique.{given}
use Rattle.whole.proofs.check.start.Reads as start
use Rattle.whole.proofs.check.start.Kinds as start-kinds
use Rattle.whole.proofs.check.seen_after.Reads as seen-after
use Rattle.whole.proofs.check.seen_after.Kinds as seen-after-kinds
use Rattle.whole.proofs.check.verdict_at.Reads as verdict-at
use Rattle.whole.proofs.check.verdict_at.Kinds as verdict-at-kinds
use Rattle.whole.proofs.line.put_verdict.Reads as put-verdict
use Rattle.whole.proofs.line.put_verdict.Kinds as put-verdict-kinds
use Rattle.whole.proofs.memory.verdict_on.Reads as verdict_on
use Rattle.whole.proofs.memory.verdict_on.Kinds as verdict-on-kinds
use Rattle.whole.proofs.numbers.numbers_of.Reads as Numbers-of
use Rattle.whole.proofs.numbers.numbers_of.Kinds as numbers-of-kinds

pub start_one : (κs : Lfts 0) (a : Dens κs start-kinds.ps) → OneAnswer (start.Post κs a) answer
start_one κs a = one_answer (λ r e p. p)

pub seen_after_one : (κs : Lfts 0) (a : Dens κs seen-after-kinds.ps) → OneAnswer (seen-after.Post κs a) answer
seen_after_one κs a = one_answer (λ r e p. p)

pub verdict_at_one : (κs : Lfts 0) (a : Dens κs verdict-at-kinds.ps) → OneAnswer (verdict-at.Post κs a) answer
verdict_at_one κs a = one_answer (λ r e p. p)

pub put_verdict_one : (κs : Lfts 1) (a : Dens κs put-verdict-kinds.ps) → OneAnswer (put-verdict.Post κs a) (answer_and (λ e. e.1.0.now))
put_verdict_one κs a = one_answer (λ r e p. given p.0)

pub verdict_on_one : (κs : Lfts 3) (a : Dens κs verdict-on-kinds.ps) → OneAnswer (verdict_on.Post κs a) answer
verdict_on_one κs a = one_answer (λ r e p. p)

pub numbers_of_one : (κs : Lfts 0) (a : Dens κs numbers-of-kinds.ps) → OneAnswer (Numbers-of.Post κs a) answer
numbers_of_one κs a = one_answer (λ r e p. p)
