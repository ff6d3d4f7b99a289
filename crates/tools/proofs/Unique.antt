-- No second answer meets a contract, as the checker reads it: two results, and two lists of lent bytes at exit, that a
-- public routine's contract allows for the same arguments are equal. Assumes nothing.
use Prim.Native.Nat.{ℕ}
use mathlib.Core.Path.{◌≡◌, ap₂}
use mathlib.Core.List.{List}
use borrow.Fn.Kinds.{Dens}
use contract.Lifetimes.{Lfts}
use Rattle.basics.specs.Unique.{OneAnswer, answer, answer_and}
use Rattle.basics.proofs.Unique.{one_answer}
pub use Rattle.basics.proofs.Unique.{same}
use Rattle.tools.specs.Answers.{Gives}
use Rattle.tools.proofs.page.length_on_page.Reads as length-on-page
use Rattle.tools.proofs.page.length_on_page.Kinds as length-on-page-kinds
use Rattle.tools.proofs.vint.read_vint.Reads as read-vint
use Rattle.tools.proofs.vint.read_vint.Kinds as read-vint-kinds
use Rattle.tools.proofs.vint.as_vint.Reads as as-vint
use Rattle.tools.proofs.vint.as_vint.Kinds as as-vint-kinds
use Rattle.tools.proofs.vint.as_vint_with_length.Reads as as-vint-with-length
use Rattle.tools.proofs.vint.as_vint_with_length.Kinds as as-vint-with-length-kinds
use Rattle.tools.proofs.vint.is_vint.Reads as is-vint
use Rattle.tools.proofs.vint.is_vint.Kinds as is-vint-kinds
use Rattle.tools.proofs.element_id.element_id_length.Reads as element-id-length
use Rattle.tools.proofs.element_id.element_id_length.Kinds as element-id-length-kinds
use Rattle.tools.proofs.element_id.is_element_id.Reads as is-element-id
use Rattle.tools.proofs.element_id.is_element_id.Kinds as is-element-id-kinds
use Rattle.tools.proofs.signed_vint.read_signed_vint.Reads as read-signed-vint
use Rattle.tools.proofs.signed_vint.read_signed_vint.Kinds as read-signed-vint-kinds
use Rattle.tools.proofs.signed_vint.as_signed_vint.Reads as as-signed-vint
use Rattle.tools.proofs.signed_vint.as_signed_vint.Kinds as as-signed-vint-kinds
use Rattle.tools.proofs.signed_vint.as_signed_vint_with_length.Reads as as-signed-vint-with-length
use Rattle.tools.proofs.signed_vint.as_signed_vint_with_length.Kinds as as-signed-vint-with-length-kinds
use Rattle.tools.proofs.integer.absolute_value.Reads as absolute-value
use Rattle.tools.proofs.integer.absolute_value.Kinds as absolute-value-kinds
use Rattle.tools.proofs.integer.unsigned_of.Reads as Unsigned-of
use Rattle.tools.proofs.integer.unsigned_of.Kinds as unsigned-of-kinds
use Rattle.tools.proofs.integer.integer_of.Reads as integer_of_lem
use Rattle.tools.proofs.integer.integer_of.Kinds as integer-of-kinds
use Rattle.tools.proofs.integer.arr_to_u64.Reads as arr-to-u64
use Rattle.tools.proofs.integer.arr_to_u64.Kinds as arr-to-u64-kinds
use Rattle.tools.proofs.integer.arr_to_i64.Reads as arr-to-i64
use Rattle.tools.proofs.integer.arr_to_i64.Kinds as arr-to-i64-kinds
use Rattle.tools.proofs.integer.u64_to_arr.Reads as u64-to-arr
use Rattle.tools.proofs.integer.u64_to_arr.Kinds as u64-to-arr-kinds
use Rattle.tools.proofs.integer.i64_to_arr.Reads as i64-to-arr
use Rattle.tools.proofs.integer.i64_to_arr.Kinds as i64-to-arr-kinds
use Rattle.tools.proofs.float.arr_to_f64.Reads as arr-to-f64
use Rattle.tools.proofs.float.arr_to_f64.Kinds as arr-to-f64-kinds
use Rattle.tools.proofs.errors.number.Reads as number
use Rattle.tools.proofs.errors.number.Kinds as number-kinds
use Rattle.tools.proofs.errors.number_and_place.Reads as number-and-place
use Rattle.tools.proofs.errors.number_and_place.Kinds as number-and-place-kinds

-- what `Gives` fixes, as a pair
pub given : {A : Type 0} {r : A} {o : List ℕ} {p : A × List ℕ} → Gives r o p → (r, o) ≡ p
given g = ap₂ (λ r o. (r, o)) g.answer g.bytes

pub gives_same : {A : Type 0} {r r' : A} {o o' : List ℕ} {p : A × List ℕ} → Gives r o p → Gives r' o' p → (r ≡ r') × (o ≡ o')
gives_same g h = (same g.answer h.answer, same g.bytes h.bytes)

pub length_on_page_one : (κs : Lfts 0) (a : Dens κs length-on-page-kinds.ps) → OneAnswer (length-on-page.Post κs a) answer
length_on_page_one κs a = one_answer (λ r e p. p.ruled)

pub read_vint_one : (κs : Lfts 1) (a : Dens κs read-vint-kinds.ps) → OneAnswer (read-vint.Post κs a) answer
read_vint_one κs a = one_answer (λ r e p. p)

pub as_vint_one : (κs : Lfts 1) (a : Dens κs as-vint-kinds.ps) → OneAnswer (as-vint.Post κs a) (answer_and (λ e. e.1.0.now))
as_vint_one κs a = one_answer (λ r e p. given p)

pub as_vint_with_length_one : (κs : Lfts 1) (a : Dens κs as-vint-with-length-kinds.ps) → OneAnswer (as-vint-with-length.Post κs a) (answer_and (λ e. e.1.1.0.now))
as_vint_with_length_one κs a = one_answer (λ r e p. given p)

pub is_vint_one : (κs : Lfts 0) (a : Dens κs is-vint-kinds.ps) → OneAnswer (is-vint.Post κs a) answer
is_vint_one κs a = one_answer (λ r e p. p)

pub element_id_length_one : (κs : Lfts 0) (a : Dens κs element-id-length-kinds.ps) → OneAnswer (element-id-length.Post κs a) answer
element_id_length_one κs a = one_answer (λ r e p. p)

pub is_element_id_one : (κs : Lfts 0) (a : Dens κs is-element-id-kinds.ps) → OneAnswer (is-element-id.Post κs a) answer
is_element_id_one κs a = one_answer (λ r e p. p)

pub read_signed_vint_one : (κs : Lfts 1) (a : Dens κs read-signed-vint-kinds.ps) → OneAnswer (read-signed-vint.Post κs a) answer
read_signed_vint_one κs a = one_answer (λ r e p. p)

pub as_signed_vint_one : (κs : Lfts 1) (a : Dens κs as-signed-vint-kinds.ps) → OneAnswer (as-signed-vint.Post κs a) (answer_and (λ e. e.1.0.now))
as_signed_vint_one κs a = one_answer (λ r e p. given p)

pub as_signed_vint_with_length_one : (κs : Lfts 1) (a : Dens κs as-signed-vint-with-length-kinds.ps) → OneAnswer (as-signed-vint-with-length.Post κs a) (answer_and (λ e. e.1.1.0.now))
as_signed_vint_with_length_one κs a = one_answer (λ r e p. given p)

pub absolute_value_one : (κs : Lfts 0) (a : Dens κs absolute-value-kinds.ps) → OneAnswer (absolute-value.Post κs a) answer
absolute_value_one κs a = one_answer (λ r e p. p)

pub unsigned_of_one : (κs : Lfts 1) (a : Dens κs unsigned-of-kinds.ps) → OneAnswer (Unsigned-of.Post κs a) answer
unsigned_of_one κs a = one_answer (λ r e p. p)

pub integer_of_one : (κs : Lfts 1) (a : Dens κs integer-of-kinds.ps) → OneAnswer (integer_of_lem.Post κs a) answer
integer_of_one κs a = one_answer (λ r e p. p)

pub arr_to_u64_one : (κs : Lfts 1) (a : Dens κs arr-to-u64-kinds.ps) → OneAnswer (arr-to-u64.Post κs a) answer
arr_to_u64_one κs a = one_answer (λ r e p. p)

pub arr_to_i64_one : (κs : Lfts 1) (a : Dens κs arr-to-i64-kinds.ps) → OneAnswer (arr-to-i64.Post κs a) answer
arr_to_i64_one κs a = one_answer (λ r e p. p)

pub u64_to_arr_one : (κs : Lfts 1) (a : Dens κs u64-to-arr-kinds.ps) → OneAnswer (u64-to-arr.Post κs a) (answer_and (λ e. e.1.0.now))
u64_to_arr_one κs a = one_answer (λ r e p. given p)

pub i64_to_arr_one : (κs : Lfts 1) (a : Dens κs i64-to-arr-kinds.ps) → OneAnswer (i64-to-arr.Post κs a) (answer_and (λ e. e.1.0.now))
i64_to_arr_one κs a = one_answer (λ r e p. given p)

pub arr_to_f64_one : (κs : Lfts 1) (a : Dens κs arr-to-f64-kinds.ps) → OneAnswer (arr-to-f64.Post κs a) answer
arr_to_f64_one κs a = one_answer (λ r e p. p)

pub number_one : (κs : Lfts 0) (a : Dens κs number-kinds.ps) → OneAnswer (number.Post κs a) answer
number_one κs a = one_answer (λ r e p. p)

pub number_and_place_one : (κs : Lfts 0) (a : Dens κs number-and-place-kinds.ps) → OneAnswer (number-and-place.Post κs a) answer
number_and_place_one κs a = one_answer (λ r e p. p)
