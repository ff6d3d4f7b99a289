-- No second answer meets the contract of a public function, as the checker reads it: the answer and every lent byte are
-- fixed, whatever the exit. Assumes nothing.
use borrow.Fn.Kinds.{Dens}
use contract.Lifetimes.{Lfts}
use Rattle.basics.specs.Unique.{OneAnswer, answer, answer_and}
use Rattle.basics.proofs.Unique.{one_answer}
use Rattle.tools.proofs.Unique.{given}
use Rattle.named_list.proofs.lines.put_named_line.Reads as put-named-line
use Rattle.named_list.proofs.lines.put_named_line.Kinds as put-named-line-kinds
use Rattle.named_list.proofs.seen.nothing_seen.Reads as nothing_Seen
use Rattle.named_list.proofs.seen.nothing_seen.Kinds as nothing-seen-kinds
use Rattle.named_list.proofs.seen.seen_after.Reads as seen-after
use Rattle.named_list.proofs.seen.seen_after.Kinds as seen-after-kinds

pub nothing_seen_one : (κs : Lfts 0) (a : Dens κs nothing-seen-kinds.ps) → OneAnswer (nothing_Seen.Post κs a) answer
nothing_seen_one κs a = one_answer (λ r e p. p)

pub seen_after_one : (κs : Lfts 0) (a : Dens κs seen-after-kinds.ps) → OneAnswer (seen-after.Post κs a) answer
seen_after_one κs a = one_answer (λ r e p. p)

pub put_named_line_one : (κs : Lfts 2) (a : Dens κs put-named-line-kinds.ps) → OneAnswer (put-named-line.Post κs a) (answer_and (λ e. e.1.1.1.1.0.now))
put_named_line_one κs a = one_answer (λ r e p. given p.0)
