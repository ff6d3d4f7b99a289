-- No second answer meets a contract, as the checker reads it: two results, and two lists of what is lent at exit, that
-- a public function's contract allows for the same arguments are equal. Assumes nothing.
use Prim.Native.Nat.{ℕ}
use mathlib.Core.List.{List}
use borrow.Fn.Kinds.{Dens}
use contract.Lifetimes.{Lfts}
use Rattle.basics.specs.Unique.{OneAnswer, answer, answer_and}
use Rattle.basics.proofs.Unique.{one_answer}
use Rattle.tools.proofs.Unique.{given}
use Rattle.decoder_words.proofs.Answered.{given_three}
use Rattle.decoder_words.proofs.settings.new.Reads as new
use Rattle.decoder_words.proofs.settings.new.Kinds as new-kinds
use Rattle.decoder_words.proofs.settings.allow_errors.Reads as allow-errors
use Rattle.decoder_words.proofs.settings.allow_errors.Kinds as allow-errors-kinds
use Rattle.decoder_words.proofs.settings.set_strict.Reads as set-strict
use Rattle.decoder_words.proofs.settings.set_strict.Kinds as set-strict-kinds
use Rattle.decoder_words.proofs.settings.set_max_allowable_tag_size.Reads as set-max
use Rattle.decoder_words.proofs.settings.set_max_allowable_tag_size.Kinds as set-max-kinds
use Rattle.decoder_words.proofs.settings.position.Reads as position
use Rattle.decoder_words.proofs.settings.position.Kinds as position-kinds
use Rattle.decoder_words.proofs.settings.is_finished.Reads as is-finished
use Rattle.decoder_words.proofs.settings.is_finished.Kinds as is-finished-kinds
use Rattle.decoder_words.proofs.calls.decode_many.Reads as decode-many
use Rattle.decoder_words.proofs.calls.decode_many.Kinds as decode-many-kinds
use Rattle.decoder_words.proofs.calls.try_recover.Reads as try-recover
use Rattle.decoder_words.proofs.calls.try_recover.Kinds as try-recover-kinds
use Rattle.decoder_words.proofs.blocks.store.Reads as store
use Rattle.decoder_words.proofs.blocks.store.Kinds as store-kinds
use Rattle.decoder_words.proofs.blocks.restore.Reads as restore
use Rattle.decoder_words.proofs.blocks.restore.Kinds as restore-kinds

pub new_one : (κs : Lfts 1) (a : Dens κs new-kinds.ps) → OneAnswer (new.Post κs a) (answer_and (λ e. e.0.now))
new_one κs a = one_answer (λ r e p. given p)

pub allow_errors_one : (κs : Lfts 1) (a : Dens κs allow-errors-kinds.ps) → OneAnswer (allow-errors.Post κs a) (answer_and (λ e. e.0.now))
allow_errors_one κs a = one_answer (λ r e p. given p)

pub set_strict_one : (κs : Lfts 1) (a : Dens κs set-strict-kinds.ps) → OneAnswer (set-strict.Post κs a) (answer_and (λ e. e.0.now))
set_strict_one κs a = one_answer (λ r e p. given p)

pub set-max_one : (κs : Lfts 1) (a : Dens κs set-max-kinds.ps) → OneAnswer (set-max.Post κs a) (answer_and (λ e. e.0.now))
set-max_one κs a = one_answer (λ r e p. given p)

pub position_one : (κs : Lfts 1) (a : Dens κs position-kinds.ps) → OneAnswer (position.Post κs a) answer
position_one κs a = one_answer (λ r e p. p)

pub is_finished_one : (κs : Lfts 1) (a : Dens κs is-finished-kinds.ps) → OneAnswer (is-finished.Post κs a) answer
is_finished_one κs a = one_answer (λ r e p. p)

pub decode_many_one : (κs : Lfts 5) (a : Dens κs decode-many-kinds.ps) → OneAnswer (decode-many.Post κs a) (answer_and {B = List ℕ × List ℕ} (λ e. (e.1.1.1.0.now, e.1.1.1.1.1.0.now)))
decode_many_one κs a = one_answer (λ r e p. given_three p)

pub try_recover_one : (κs : Lfts 4) (a : Dens κs try-recover-kinds.ps) → OneAnswer (try-recover.Post κs a) (answer_and (λ e. e.1.1.0.now))
try_recover_one κs a = one_answer (λ r e p. given p)

pub store_one : (κs : Lfts 2) (a : Dens κs store-kinds.ps) → OneAnswer (store.Post κs a) (answer_and (λ e. e.1.0.now))
store_one κs a = one_answer (λ r e p. given p)

pub restore_one : (κs : Lfts 2) (a : Dens κs restore-kinds.ps) → OneAnswer (restore.Post κs a) (answer_and (λ e. e.0.now))
restore_one κs a = one_answer (λ r e p. given p)
