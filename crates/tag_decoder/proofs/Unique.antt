-- No second answer meets the contract of a public call, as the checker reads it: the answer, the count of bytes taken
-- and every place of the new record are fixed, whatever the exit. What is lent is lent to be read alone. Assumes
-- nothing.
use borrow.Fn.Kinds.{Dens}
use contract.Lifetimes.{Lfts}
use Rattle.basics.specs.Unique.{OneAnswer, answer}
use Rattle.basics.proofs.Unique.{one_answer}
use Rattle.tag_decoder.proofs.calls.decode.Reads as decode
use Rattle.tag_decoder.proofs.calls.decode.Kinds as decode-kinds
use Rattle.tag_decoder.proofs.calls.decode_eof.Reads as decode-eof
use Rattle.tag_decoder.proofs.calls.decode_eof.Kinds as decode-eof-kinds
use Rattle.tag_decoder.proofs.recovery.try_recover.Reads as try-recover
use Rattle.tag_decoder.proofs.recovery.try_recover.Kinds as try-recover-kinds
use Rattle.tag_decoder.proofs.settings.new.Reads as new
use Rattle.tag_decoder.proofs.settings.new.Kinds as new-kinds
use Rattle.tag_decoder.proofs.settings.allow_errors.Reads as allow-errors
use Rattle.tag_decoder.proofs.settings.allow_errors.Kinds as allow-errors-kinds
use Rattle.tag_decoder.proofs.settings.set_max_allowable_tag_size.Reads as set-max
use Rattle.tag_decoder.proofs.settings.set_max_allowable_tag_size.Kinds as set-max-kinds
use Rattle.tag_decoder.proofs.settings.position.Reads as position
use Rattle.tag_decoder.proofs.settings.position.Kinds as position-kinds
use Rattle.tag_decoder.proofs.settings.is_finished.Reads as is-finished
use Rattle.tag_decoder.proofs.settings.is_finished.Kinds as is-finished-kinds

pub decode_one : (κs : Lfts 3) (a : Dens κs decode-kinds.ps) → OneAnswer (decode.Post κs a) answer
decode_one κs a = one_answer (λ r e p. p)

pub decode_eof_one : (κs : Lfts 3) (a : Dens κs decode-eof-kinds.ps) → OneAnswer (decode-eof.Post κs a) answer
decode_eof_one κs a = one_answer (λ r e p. p)

pub try_recover_one : (κs : Lfts 3) (a : Dens κs try-recover-kinds.ps) → OneAnswer (try-recover.Post κs a) answer
try_recover_one κs a = one_answer (λ r e p. p)

pub new_one : (κs : Lfts 0) (a : Dens κs new-kinds.ps) → OneAnswer (new.Post κs a) answer
new_one κs a = one_answer (λ r e p. p)

pub allow_errors_one : (κs : Lfts 0) (a : Dens κs allow-errors-kinds.ps) → OneAnswer (allow-errors.Post κs a) answer
allow_errors_one κs a = one_answer (λ r e p. p)

pub set-max_one : (κs : Lfts 0) (a : Dens κs set-max-kinds.ps) → OneAnswer (set-max.Post κs a) answer
set-max_one κs a = one_answer (λ r e p. p)

pub position_one : (κs : Lfts 0) (a : Dens κs position-kinds.ps) → OneAnswer (position.Post κs a) answer
position_one κs a = one_answer (λ r e p. p)

pub is_finished_one : (κs : Lfts 0) (a : Dens κs is-finished-kinds.ps) → OneAnswer (is-finished.Post κs a) answer
is_finished_one κs a = one_answer (λ r e p. p)
