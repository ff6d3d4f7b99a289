-- No second answer meets the contract of `put_text`, as the checker reads it: the place after the text and every lent
-- byte are fixed. Assumes nothing.
use borrow.Fn.Kinds.{Dens}
use contract.Lifetimes.{Lfts}
use Rattle.basics.specs.Unique.{OneAnswer, answer_and}
use Rattle.basics.proofs.Unique.{one_answer}
use Rattle.numerals.proofs.Unique.{put_there}
use Rattle.texts.proofs.put_text.Reads as put-text
use Rattle.texts.proofs.put_text.Kinds as put-text-kinds

pub put_text_one : (κs : Lfts 2) (a : Dens κs put-text-kinds.ps) → OneAnswer (put-text.Post κs a) (answer_and (λ e. e.1.0.now))
put_text_one κs a = one_answer (λ r e p. put_there p)
