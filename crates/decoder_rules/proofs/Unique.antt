-- No second answer meets the contract of a refusal's number, or of the refusal for what reading an element refuses, as the
-- checker reads it. Assumes nothing.
use borrow.Fn.Kinds.{Dens}
use contract.Lifetimes.{Lfts}
use Rattle.basics.specs.Unique.{OneAnswer, answer}
use Rattle.basics.proofs.Unique.{one_answer}
use Rattle.decoder_rules.proofs.errors.DecodeErrorFromParseError.from.Reads as parse-error
use Rattle.decoder_rules.proofs.errors.DecodeErrorFromParseError.from.Kinds as parse-error-kinds
use Rattle.decoder_rules.proofs.errors.error_number.Reads as error-number
use Rattle.decoder_rules.proofs.errors.error_number.Kinds as error-number-kinds

pub error_number_one : (κs : Lfts 0) (a : Dens κs error-number-kinds.ps) → OneAnswer (error-number.Post κs a) answer
error_number_one κs a = one_answer (λ r e p. p)

pub parse_error_one : (κs : Lfts 0) (a : Dens κs parse-error-kinds.ps) → OneAnswer (parse-error.Post κs a) answer
parse_error_one κs a = one_answer (λ r e p. p)
