-- No second answer meets a contract, as the checker reads it: two places, and two lists of lent bytes at exit, that the
-- contract allows for the same arguments are equal. Assumes nothing.
use Prim.Native.Nat.{ℕ, ◌+◌}
use mathlib.Core.Path.{◌≡◌, ap₂}
use mathlib.Core.List.{List}
use borrow.Fn.Kinds.{Dens}
use contract.Lifetimes.{Lfts}
use lib.ListN.{length}
use lib.Seq.{sets}
use Rattle.basics.specs.Unique.{OneAnswer, answer_and}
use Rattle.basics.proofs.Unique.{one_answer}
use Rattle.numerals.specs.Puts.{Puts}
use Rattle.numerals.proofs.put.Reads as put
use Rattle.numerals.proofs.put.Kinds as put-kinds
use Rattle.numerals.proofs.put_hex.Reads as put-hex
use Rattle.numerals.proofs.put_hex.Kinds as put-hex-kinds
use Rattle.numerals.proofs.put_hex16.Reads as put-hex16
use Rattle.numerals.proofs.put_hex16.Kinds as put-hex16-kinds
use Rattle.numerals.proofs.put_decimal.Reads as put-decimal
use Rattle.numerals.proofs.put_decimal.Kinds as put-decimal-kinds
use Rattle.numerals.proofs.put_signed.Reads as put-signed
use Rattle.numerals.proofs.put_signed.Kinds as put-signed-kinds

-- what `Puts` fixes, as a pair
pub put_there : {most r at : ℕ} {o o₀ s : List ℕ} → Puts most r o o₀ at s → ◌≡◌ {A = ℕ × List ℕ} (r, o) (at + length s, sets o₀ at s)
put_there p = ap₂ (λ r o. (r, o)) p.place p.bytes

pub put_one : (κs : Lfts 1) (a : Dens κs put-kinds.ps) → OneAnswer (put.Post κs a) (answer_and (λ e. e.1.0.now))
put_one κs a = one_answer (λ r e p. put_there p)

pub put_hex_one : (κs : Lfts 1) (a : Dens κs put-hex-kinds.ps) → OneAnswer (put-hex.Post κs a) (answer_and (λ e. e.1.0.now))
put_hex_one κs a = one_answer (λ r e p. put_there p)

pub put_hex16_one : (κs : Lfts 1) (a : Dens κs put-hex16-kinds.ps) → OneAnswer (put-hex16.Post κs a) (answer_and (λ e. e.1.0.now))
put_hex16_one κs a = one_answer (λ r e p. put_there p)

pub put_decimal_one : (κs : Lfts 1) (a : Dens κs put-decimal-kinds.ps) → OneAnswer (put-decimal.Post κs a) (answer_and (λ e. e.1.0.now))
put_decimal_one κs a = one_answer (λ r e p. put_there p)

pub put_signed_one : (κs : Lfts 1) (a : Dens κs put-signed-kinds.ps) → OneAnswer (put-signed.Post κs a) (answer_and (λ e. e.1.0.now))
put_signed_one κs a = one_answer (λ r e p. put_there p)
