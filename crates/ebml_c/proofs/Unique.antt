-- No second answer meets the contract of an exported call, as the checker reads it: two result numbers, and two lists of
-- lent bytes at exit, that it allows for the same arguments are equal. Assumes nothing.
use Prim.Native.Nat.{ℕ}
use mathlib.Core.List.{List}
use borrow.Fn.Kinds.{Dens}
use contract.Lifetimes.{Lfts}
use Rattle.basics.specs.Unique.{OneAnswer, answer, answer_and}
use Rattle.basics.proofs.Unique.{one_answer}
use Rattle.tools.proofs.Unique.{given}
use Rattle.decoder_words.proofs.Answered.{given_three}
use Rattle.ebml_c.proofs.checks.ebml_check_table.Reads as ebml-check-table
use Rattle.ebml_c.proofs.checks.ebml_check_table.Kinds as ebml-check-table-kinds
use Rattle.ebml_c.proofs.numbers.ebml_read_vint.Reads as ebml-read-vint
use Rattle.ebml_c.proofs.numbers.ebml_read_vint.Kinds as ebml-read-vint-kinds
use Rattle.ebml_c.proofs.numbers.ebml_read_signed_vint.Reads as ebml-read-signed-vint
use Rattle.ebml_c.proofs.numbers.ebml_read_signed_vint.Kinds as ebml-read-signed-vint-kinds
use Rattle.ebml_c.proofs.numbers.ebml_as_vint.Reads as ebml-as-vint
use Rattle.ebml_c.proofs.numbers.ebml_as_vint.Kinds as ebml-as-vint-kinds
use Rattle.ebml_c.proofs.numbers.ebml_as_vint_with_length.Reads as ebml-as-vint-with-length
use Rattle.ebml_c.proofs.numbers.ebml_as_vint_with_length.Kinds as ebml-as-vint-with-length-kinds
use Rattle.ebml_c.proofs.numbers.ebml_as_signed_vint.Reads as ebml-as-signed-vint
use Rattle.ebml_c.proofs.numbers.ebml_as_signed_vint.Kinds as ebml-as-signed-vint-kinds
use Rattle.ebml_c.proofs.numbers.ebml_as_signed_vint_with_length.Reads as ebml-as-signed-vint-with-length
use Rattle.ebml_c.proofs.numbers.ebml_as_signed_vint_with_length.Kinds as ebml-as-signed-vint-with-length-kinds
use Rattle.ebml_c.proofs.numbers.ebml_is_vint.Reads as ebml-is-vint
use Rattle.ebml_c.proofs.numbers.ebml_is_vint.Kinds as ebml-is-vint-kinds
use Rattle.ebml_c.proofs.numbers.ebml_is_element_id.Reads as ebml-is-element-id
use Rattle.ebml_c.proofs.numbers.ebml_is_element_id.Kinds as ebml-is-element-id-kinds
use Rattle.ebml_c.proofs.numbers.ebml_arr_to_u64.Reads as ebml-arr-to-u64
use Rattle.ebml_c.proofs.numbers.ebml_arr_to_u64.Kinds as ebml-arr-to-u64-kinds
use Rattle.ebml_c.proofs.numbers.ebml_arr_to_i64.Reads as ebml-arr-to-i64
use Rattle.ebml_c.proofs.numbers.ebml_arr_to_i64.Kinds as ebml-arr-to-i64-kinds
use Rattle.ebml_c.proofs.numbers.ebml_arr_to_f64.Reads as ebml-arr-to-f64
use Rattle.ebml_c.proofs.numbers.ebml_arr_to_f64.Kinds as ebml-arr-to-f64-kinds
use Rattle.ebml_c.proofs.text.ebml_is_utf8.Reads as ebml-is-utf8
use Rattle.ebml_c.proofs.text.ebml_is_utf8.Kinds as ebml-is-utf8-kinds
use Rattle.ebml_c.proofs.writer.ebml_write.Reads as ebml-write
use Rattle.ebml_c.proofs.writer.ebml_write.Kinds as ebml-write-kinds
use Rattle.ebml_c.proofs.decoder.ebml_decoder_new.Reads as ebml-decoder-new
use Rattle.ebml_c.proofs.decoder.ebml_decoder_new.Kinds as ebml-decoder-new-kinds
use Rattle.ebml_c.proofs.decoder.ebml_allow_errors.Reads as ebml-allow-errors
use Rattle.ebml_c.proofs.decoder.ebml_allow_errors.Kinds as ebml-allow-errors-kinds
use Rattle.ebml_c.proofs.decoder.ebml_set_strict.Reads as ebml-set-strict
use Rattle.ebml_c.proofs.decoder.ebml_set_strict.Kinds as ebml-set-strict-kinds
use Rattle.ebml_c.proofs.decoder.ebml_set_max_allowable_tag_size.Reads as ebml-set-max-allowable-tag-size
use Rattle.ebml_c.proofs.decoder.ebml_set_max_allowable_tag_size.Kinds as ebml-set-max-allowable-tag-size-kinds
use Rattle.ebml_c.proofs.decoder.ebml_position.Reads as ebml-position
use Rattle.ebml_c.proofs.decoder.ebml_position.Kinds as ebml-position-kinds
use Rattle.ebml_c.proofs.decoder.ebml_is_finished.Reads as ebml-is-finished
use Rattle.ebml_c.proofs.decoder.ebml_is_finished.Kinds as ebml-is-finished-kinds
use Rattle.ebml_c.proofs.record.ebml_is_whole.Reads as ebml-is-whole
use Rattle.ebml_c.proofs.record.ebml_is_whole.Kinds as ebml-is-whole-kinds
use Rattle.ebml_c.proofs.decoder.ebml_decode.Reads as ebml-decode
use Rattle.ebml_c.proofs.decoder.ebml_decode.Kinds as ebml-decode-kinds
use Rattle.ebml_c.proofs.decoder.ebml_decode_eof.Reads as ebml-decode-eof
use Rattle.ebml_c.proofs.decoder.ebml_decode_eof.Kinds as ebml-decode-eof-kinds
use Rattle.ebml_c.proofs.decoder.ebml_decode_many.Reads as ebml-decode-many
use Rattle.ebml_c.proofs.decoder.ebml_decode_many.Kinds as ebml-decode-many-kinds
use Rattle.ebml_c.proofs.decoder.ebml_decode_many_eof.Reads as ebml-decode-many-eof
use Rattle.ebml_c.proofs.decoder.ebml_decode_many_eof.Kinds as ebml-decode-many-eof-kinds
use Rattle.ebml_c.proofs.decoder.ebml_try_recover.Reads as ebml-try-recover
use Rattle.ebml_c.proofs.decoder.ebml_try_recover.Kinds as ebml-try-recover-kinds
use Rattle.ebml_c.proofs.decoder.ebml_store.Reads as ebml-store
use Rattle.ebml_c.proofs.decoder.ebml_store.Kinds as ebml-store-kinds
use Rattle.ebml_c.proofs.decoder.ebml_restore.Reads as ebml-restore
use Rattle.ebml_c.proofs.decoder.ebml_restore.Kinds as ebml-restore-kinds
use Rattle.ebml.proofs.Laws.{given_both}

pub ebml_read_vint_one : (κs : Lfts 2) (a : Dens κs ebml-read-vint-kinds.ps) → OneAnswer (ebml-read-vint.Post κs a) (answer_and (λ e. e.1.0.now))
ebml_read_vint_one κs a = one_answer (λ r e p. given p)

pub ebml_read_signed_vint_one : (κs : Lfts 2) (a : Dens κs ebml-read-signed-vint-kinds.ps) → OneAnswer (ebml-read-signed-vint.Post κs a) (answer_and (λ e. e.1.0.now))
ebml_read_signed_vint_one κs a = one_answer (λ r e p. given p)

pub ebml_as_vint_one : (κs : Lfts 1) (a : Dens κs ebml-as-vint-kinds.ps) → OneAnswer (ebml-as-vint.Post κs a) (answer_and (λ e. e.1.0.now))
ebml_as_vint_one κs a = one_answer (λ r e p. given p)

pub ebml_as_vint_with_length_one : (κs : Lfts 1) (a : Dens κs ebml-as-vint-with-length-kinds.ps) → OneAnswer (ebml-as-vint-with-length.Post κs a) (answer_and (λ e. e.1.1.0.now))
ebml_as_vint_with_length_one κs a = one_answer (λ r e p. given p)

pub ebml_as_signed_vint_one : (κs : Lfts 1) (a : Dens κs ebml-as-signed-vint-kinds.ps) → OneAnswer (ebml-as-signed-vint.Post κs a) (answer_and (λ e. e.1.0.now))
ebml_as_signed_vint_one κs a = one_answer (λ r e p. given p)

pub ebml_as_signed_vint_with_length_one : (κs : Lfts 1) (a : Dens κs ebml-as-signed-vint-with-length-kinds.ps) → OneAnswer (ebml-as-signed-vint-with-length.Post κs a) (answer_and (λ e. e.1.1.0.now))
ebml_as_signed_vint_with_length_one κs a = one_answer (λ r e p. given p)

pub ebml_is_vint_one : (κs : Lfts 0) (a : Dens κs ebml-is-vint-kinds.ps) → OneAnswer (ebml-is-vint.Post κs a) answer
ebml_is_vint_one κs a = one_answer (λ r e p. p)

pub ebml_is_element_id_one : (κs : Lfts 0) (a : Dens κs ebml-is-element-id-kinds.ps) → OneAnswer (ebml-is-element-id.Post κs a) answer
ebml_is_element_id_one κs a = one_answer (λ r e p. p)

pub ebml_arr_to_u64_one : (κs : Lfts 2) (a : Dens κs ebml-arr-to-u64-kinds.ps) → OneAnswer (ebml-arr-to-u64.Post κs a) (answer_and (λ e. e.1.0.now))
ebml_arr_to_u64_one κs a = one_answer (λ r e p. given p)

pub ebml_arr_to_i64_one : (κs : Lfts 2) (a : Dens κs ebml-arr-to-i64-kinds.ps) → OneAnswer (ebml-arr-to-i64.Post κs a) (answer_and (λ e. e.1.0.now))
ebml_arr_to_i64_one κs a = one_answer (λ r e p. given p)

pub ebml_arr_to_f64_one : (κs : Lfts 2) (a : Dens κs ebml-arr-to-f64-kinds.ps) → OneAnswer (ebml-arr-to-f64.Post κs a) (answer_and (λ e. e.1.0.now))
ebml_arr_to_f64_one κs a = one_answer (λ r e p. given p)

pub ebml_check_table_one : (κs : Lfts 2) (a : Dens κs ebml-check-table-kinds.ps) → OneAnswer (ebml-check-table.Post κs a) answer
ebml_check_table_one κs a = one_answer (λ r e p. p)

pub ebml_is_utf8_one : (κs : Lfts 1) (a : Dens κs ebml-is-utf8-kinds.ps) → OneAnswer (ebml-is-utf8.Post κs a) answer
ebml_is_utf8_one κs a = one_answer (λ r e p. p)

pub ebml_write_one : (κs : Lfts 6) (a : Dens κs ebml-write-kinds.ps) → OneAnswer (ebml-write.Post κs a) (answer_and {B = List ℕ × List ℕ} (λ e. (e.1.1.1.1.0.now, e.1.1.1.1.1.0.now)))
ebml_write_one κs a = one_answer (λ r e p. given_both p)

pub ebml_decoder_new_one : (κs : Lfts 1) (a : Dens κs ebml-decoder-new-kinds.ps) → OneAnswer (ebml-decoder-new.Post κs a) (answer_and (λ e. e.0.now))
ebml_decoder_new_one κs a = one_answer (λ r e p. given p)

pub ebml_allow_errors_one : (κs : Lfts 1) (a : Dens κs ebml-allow-errors-kinds.ps) → OneAnswer (ebml-allow-errors.Post κs a) (answer_and (λ e. e.0.now))
ebml_allow_errors_one κs a = one_answer (λ r e p. given p)

pub ebml_set_strict_one : (κs : Lfts 1) (a : Dens κs ebml-set-strict-kinds.ps) → OneAnswer (ebml-set-strict.Post κs a) (answer_and (λ e. e.0.now))
ebml_set_strict_one κs a = one_answer (λ r e p. given p)

pub ebml_set-max_allowable_tag_size_one : (κs : Lfts 1) (a : Dens κs ebml-set-max-allowable-tag-size-kinds.ps) → OneAnswer (ebml-set-max-allowable-tag-size.Post κs a) (answer_and (λ e. e.0.now))
ebml_set-max_allowable_tag_size_one κs a = one_answer (λ r e p. given p)

pub ebml_position_one : (κs : Lfts 1) (a : Dens κs ebml-position-kinds.ps) → OneAnswer (ebml-position.Post κs a) answer
ebml_position_one κs a = one_answer (λ r e p. p)

pub ebml_is_finished_one : (κs : Lfts 1) (a : Dens κs ebml-is-finished-kinds.ps) → OneAnswer (ebml-is-finished.Post κs a) answer
ebml_is_finished_one κs a = one_answer (λ r e p. p)

pub ebml_decode_one : (κs : Lfts 5) (a : Dens κs ebml-decode-kinds.ps) → OneAnswer (ebml-decode.Post κs a) (answer_and {B = List ℕ × List ℕ} (λ e. (e.0.now, e.1.1.1.1.0.now)))
ebml_decode_one κs a = one_answer (λ r e p. given_three p)

pub ebml_decode_eof_one : (κs : Lfts 5) (a : Dens κs ebml-decode-eof-kinds.ps) → OneAnswer (ebml-decode-eof.Post κs a) (answer_and {B = List ℕ × List ℕ} (λ e. (e.0.now, e.1.1.1.1.0.now)))
ebml_decode_eof_one κs a = one_answer (λ r e p. given_three p)

pub ebml_decode_many_one : (κs : Lfts 5) (a : Dens κs ebml-decode-many-kinds.ps) → OneAnswer (ebml-decode-many.Post κs a) (answer_and {B = List ℕ × List ℕ} (λ e. (e.0.now, e.1.1.1.1.0.now)))
ebml_decode_many_one κs a = one_answer (λ r e p. given_three p)

pub ebml_decode_many_eof_one : (κs : Lfts 5) (a : Dens κs ebml-decode-many-eof-kinds.ps) → OneAnswer (ebml-decode-many-eof.Post κs a) (answer_and {B = List ℕ × List ℕ} (λ e. (e.0.now, e.1.1.1.1.0.now)))
ebml_decode_many_eof_one κs a = one_answer (λ r e p. given_three p)

pub ebml_try_recover_one : (κs : Lfts 4) (a : Dens κs ebml-try-recover-kinds.ps) → OneAnswer (ebml-try-recover.Post κs a) (answer_and (λ e. e.0.now))
ebml_try_recover_one κs a = one_answer (λ r e p. given p)

pub ebml_store_one : (κs : Lfts 2) (a : Dens κs ebml-store-kinds.ps) → OneAnswer (ebml-store.Post κs a) (answer_and (λ e. e.1.0.now))
ebml_store_one κs a = one_answer (λ r e p. given p)

pub ebml_restore_one : (κs : Lfts 2) (a : Dens κs ebml-restore-kinds.ps) → OneAnswer (ebml-restore.Post κs a) (answer_and (λ e. e.0.now))
ebml_restore_one κs a = one_answer (λ r e p. given p)

pub ebml_is_whole_one : (κs : Lfts 3) (a : Dens κs ebml-is-whole-kinds.ps) → OneAnswer (ebml-is-whole.Post κs a) answer
ebml_is_whole_one κs a = one_answer (λ r e p. p)
