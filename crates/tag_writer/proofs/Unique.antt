-- No second answer meets a public contract, as the checker reads it: two results, and two lists of lent bytes at exit,
-- that it allows for the same arguments are equal. Assumes nothing.
use borrow.Fn.Kinds.{Dens}
use contract.Lifetimes.{Lfts}
use Rattle.basics.specs.Unique.{OneAnswer, answer, answer_and}
use Rattle.basics.proofs.Unique.{one_answer}
use Rattle.tools.proofs.Unique.{given}
use Rattle.tag_writer.proofs.errors.error_number.Reads as error-number
use Rattle.tag_writer.proofs.errors.error_number.Kinds as error-number-kinds
use Rattle.tag_writer.proofs.errors.number_and_place.Reads as number-and-place
use Rattle.tag_writer.proofs.errors.number_and_place.Kinds as number-and-place-kinds
use Rattle.tag_writer.proofs.writing.write.Reads as write
use Rattle.tag_writer.proofs.writing.write.Kinds as write-kinds

pub write_one : (κs : Lfts 5) (a : Dens κs write-kinds.ps) → OneAnswer (write.Post κs a) (answer_and (λ e. e.1.1.1.1.0.now))
write_one κs a = one_answer (λ r e p. given p)

pub error_number_one : (κs : Lfts 0) (a : Dens κs error-number-kinds.ps) → OneAnswer (error-number.Post κs a) answer
error_number_one κs a = one_answer (λ r e p. p)

pub number_and_place_one : (κs : Lfts 0) (a : Dens κs number-and-place-kinds.ps) → OneAnswer (number-and-place.Post κs a) answer
number_and_place_one κs a = one_answer (λ r e p. p)
