-- No second answer meets a contract, as the checker reads it: two results, and two lists of what is lent at exit, that
-- a public function's contract allows for the same arguments are equal. Assumes nothing.
use borrow.Fn.Kinds.{Dens}
use contract.Lifetimes.{Lfts}
use Rattle.basics.specs.Unique.{OneAnswer, answer, answer_and}
use Rattle.basics.proofs.Unique.{one_answer}
use Rattle.tools.proofs.Unique.{given}
use Rattle.stored_decoder.proofs.errors.error_number.Reads as error-number
use Rattle.stored_decoder.proofs.errors.error_number.Kinds as error-number-kinds
use Rattle.stored_decoder.proofs.errors.number_and_place.Reads as number-and-place
use Rattle.stored_decoder.proofs.errors.number_and_place.Kinds as number-and-place-kinds
use Rattle.stored_decoder.proofs.words.record_of.Reads as record_of
use Rattle.stored_decoder.proofs.words.record_of.Kinds as record-of-kinds
use Rattle.stored_decoder.proofs.taken.good_state.Reads as good_state_lem
use Rattle.stored_decoder.proofs.taken.good_state.Kinds as good-state-kinds
use Rattle.stored_decoder.proofs.taken.check_words.Reads as check-words
use Rattle.stored_decoder.proofs.taken.check_words.Kinds as check-words-kinds
use Rattle.stored_decoder.proofs.blocks.store_words.Reads as store_words_lem
use Rattle.stored_decoder.proofs.blocks.store_words.Kinds as store-words-kinds
use Rattle.stored_decoder.proofs.blocks.store.Reads as store
use Rattle.stored_decoder.proofs.blocks.store.Kinds as store-kinds
use Rattle.stored_decoder.proofs.blocks.restore_words.Reads as restore-words
use Rattle.stored_decoder.proofs.blocks.restore_words.Kinds as restore-words-kinds
use Rattle.stored_decoder.proofs.blocks.restore.Reads as restore
use Rattle.stored_decoder.proofs.blocks.restore.Kinds as restore-kinds

pub error_number_one : (κs : Lfts 0) (a : Dens κs error-number-kinds.ps) → OneAnswer (error-number.Post κs a) answer
error_number_one κs a = one_answer (λ r e p. p)

pub number_and_place_one : (κs : Lfts 0) (a : Dens κs number-and-place-kinds.ps) → OneAnswer (number-and-place.Post κs a) answer
number_and_place_one κs a = one_answer (λ r e p. p)

pub record-of-one : (κs : Lfts 1) (a : Dens κs record-of-kinds.ps) → OneAnswer (record_of.Post κs a) answer
record-of-one κs a = one_answer (λ r e p. p)

pub good_state_one : (κs : Lfts 0) (a : Dens κs good-state-kinds.ps) → OneAnswer (good_state_lem.Post κs a) answer
good_state_one κs a = one_answer (λ r e p. p)

pub check_words_one : (κs : Lfts 1) (a : Dens κs check-words-kinds.ps) → OneAnswer (check-words.Post κs a) answer
check_words_one κs a = one_answer (λ r e p. p)

pub store_words_one : (κs : Lfts 1) (a : Dens κs store-words-kinds.ps) → OneAnswer (store_words_lem.Post κs a) (answer_and (λ e. e.1.0.now))
store_words_one κs a = one_answer (λ r e p. given p)

pub store_one : (κs : Lfts 1) (a : Dens κs store-kinds.ps) → OneAnswer (store.Post κs a) (answer_and (λ e. e.1.0.now))
store_one κs a = one_answer (λ r e p. given p)

pub restore_words_one : (κs : Lfts 1) (a : Dens κs restore-words-kinds.ps) → OneAnswer (restore-words.Post κs a) answer
restore_words_one κs a = one_answer (λ r e p. p)

pub restore_one : (κs : Lfts 1) (a : Dens κs restore-kinds.ps) → OneAnswer (restore.Post κs a) answer
restore_one κs a = one_answer (λ r e p. p)
