-- A header, and a value with its header, put in two parts; the bytes of a number that a routine leaves in an array of
-- 8. Assumes nothing.
use Prim.Native.Nat.{ℕ, zero, suc, ◌+◌, ◌-◌, ◌*◌, ◌^◌, ◌≤◌, ◌<◌}
use mathlib.Core.Path.{◌≡◌, refl, ap, ◌∙◌}
use mathlib.Core.List.{List, ◌++◌}
use native.Mathlib.Omega.{arith}
use borrow.Author.Tests.{le-ltb, ne_eqb, lt-leb}
use lib.Dec.{ltb}
use lib.ListN.{length, take, drop, length-append, length-drop}
use lib.Seq.{paste, take_all, take_at}
use native.Mathlib.Nat.{div-one}
use Rattle.std.specs.Int.{w64, to_be_bytes}
use Rattle.tools.specs.Answers.{Gives}
use Rattle.tools.specs.Bytes.{be_bytes}
use Rattle.tools.specs.Vint.{vint_width, vint_bytes, as_vint, as_vint_with_length}
use Rattle.tools.specs.declared.errors.ToolError.{ToolError}
use Rattle.tools.proofs.BigEndian.{length-be_bytes}
use Rattle.tools.proofs.Cases.{least_written}
use Rattle.tools.proofs.Least.{least}
use Rattle.tools.proofs.Rfc8794.{least_below_lem}
use Rattle.tag_writer.specs.Document.{id_width, id_bytes, header_bytes}
use Rattle.tag_writer.proofs.PutLaws.{paste_both}
use Rattle.tag_writer.proofs.WidthLaws.{id_length_lem, header_length_lem}
use Rattle.std.specs.Prelude.{Err, Ok, Result}

-- two parts of known lengths
pub two_puts : (out o1 o2 a b : List ℕ) (at la lb : ℕ) → length a ≡ la → length b ≡ lb → at + (la + lb) ≤ length out
    → o1 ≡ paste out at a la → o2 ≡ paste o1 (at + la) b lb → o2 ≡ paste out at (a ++ b) (length (a ++ b))
two_puts out o1 o2 a b at la lb ea eb h p q =
    q ∙ ap (λ (o : List ℕ). paste o (at + la) b lb) p ∙ rw (← ea, ← eb) (paste_both out a b at (omega arith))

-- ---- an ID: the last of the eight bytes of its number

-- the lowest bytes of a number stand last
pub lowest_last : (j k n : ℕ) → drop j (be_bytes (j + k) n) ≡ be_bytes k n
unfolding be_bytes
lowest_last zero k n = let e : 0 + k ≡ k = omega arith in rw e
lowest_last (suc j) k n = let e : suc j + k ≡ suc (j + k) = omega arith in rw e (lowest_last j k n)

module _ (x w : ℕ) (o : List ℕ) (ew : w ≡ id_width x) (put : o ≡ to_be_bytes w64 x) where
  id_short : w ≤ 8
  id_short = omega (arith, (least (λ k. ltb x (2 ^ (8 * k))) 7 1).hi)

  all_eight : o ≡ be_bytes 8 x
  unfolding be_bytes
  all_eight = put ∙ rw div-one refl

  pub id_last : drop (8 - w) o ≡ id_bytes x
  unfolding id_bytes
  id_last =
      let e : 8 ≡ 8 - w + w = omega (arith, id_short) in
      ap (drop (8 - w)) all_eight ∙ ap (λ (k : ℕ). drop (8 - w) (be_bytes k x)) e ∙ lowest_last (8 - w) w x ∙ ap (λ (k : ℕ). be_bytes k x) ew

  pub id_part : (k : ℕ) → w ≤ k → take k (drop (8 - w) o) ≡ id_bytes x
  id_part k h = ap (take k) id_last ∙ take_all k (id_bytes x) (omega (arith, id_length_lem x))

  pub id_room : length o ≡ 8
  id_room = ap length all_eight ∙ length-be_bytes 8 x

-- ---- a size

pub size_short : (n : ℕ) → (1 ≤ vint_width n) × (vint_width n ≤ 8)
size_short n = let l = least (λ L. ltb n (2 ^ (7 * L) - 1)) 7 1 in (l.lo, l.hi)

module _ (n : ℕ) (z o : List ℕ) (r : Result ℕ ToolError) (small : n < 2 ^ 56) (room : length z ≡ 8) (put : Gives r o (as_vint n z)) where
  written_so : as_vint n z ≡ (Ok (vint_width n), vint_bytes (vint_width n) n ++ drop (vint_width n) z)
  unfolding as_vint_with_length
  written_so =
      let w = vint_width n in
      least_written n z small
      ∙ rw (ne_eqb w 0 (λ e. omega (arith, (size_short n).0)), le-ltb 8 w (size_short n).1, lt-leb (2 ^ (7 * w)) n (least_below_lem n small), le-ltb (length z) w (omega (arith, (size_short n).1)))

  pub size_answer : r ≡ Ok (vint_width n)
  size_answer = put.answer ∙ ap (λ (p : Result ℕ ToolError × List ℕ). p.0) written_so

  pub size_is : {w : ℕ} → r ≡ Ok w → w ≡ vint_width n
  size_is {w} e = let a = size_answer in cc

  pub size_never : {x : ToolError} → r ≡ Err x → ⊥
  size_never {x} e = let a = size_answer in let q : ◌≡◌ {A = ℕ} 0 1 = cc in omega arith

  pub size_bytes : o ≡ vint_bytes (vint_width n) n ++ drop (vint_width n) z
  size_bytes = put.bytes ∙ ap (λ (p : Result ℕ ToolError × List ℕ). p.1) written_so

  pub size_first : take (vint_width n) (drop 0 o) ≡ vint_bytes (vint_width n) n
  size_first = ap (take (vint_width n)) size_bytes ∙ take_at (vint_bytes (vint_width n) n) (drop (vint_width n) z) (vint_width n) (length-be_bytes (vint_width n) (2 ^ (7 * vint_width n) + n))

  pub size_room : length o ≡ 8
  size_room =
      ap length size_bytes
      ∙ (omega (arith, length-append (vint_bytes (vint_width n) n) (drop (vint_width n) z), length-be_bytes (vint_width n) (2 ^ (7 * vint_width n) + n), length-drop (vint_width n) z, (size_short n).1))

-- ---- both

pub header_puts : (out o1 o2 : List ℕ) (at x n : ℕ) → at + length (header_bytes x n) ≤ length out → o1 ≡ paste out at (id_bytes x) (length (id_bytes x))
    → o2 ≡ paste o1 (at + length (id_bytes x)) (vint_bytes (vint_width n) n) (vint_width n) → o2 ≡ paste out at (header_bytes x n) (length (header_bytes x n))
unfolding header_bytes
header_puts out o1 o2 at x n room p q =
    two_puts out o1 o2 (id_bytes x) (vint_bytes (vint_width n) n) at (length (id_bytes x)) (vint_width n) refl (length-be_bytes (vint_width n) (2 ^ (7 * vint_width n) + n)) (omega (arith, header_length_lem x n)) p q
