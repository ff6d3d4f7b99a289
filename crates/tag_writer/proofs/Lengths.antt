-- A size is the count of the bytes, and no element is without any. Assumes nothing.
use Prim.Native.Nat.{ℕ, ◌+◌, ◌*◌, ◌^◌, ◌≤◌}
use mathlib.Core.Path.{◌≡◌, refl, ap, ◌∙◌}
use native.Mathlib.Omega.{arith}
use lib.ListN.{length, length-append}
use lib.Dec.{ltb}
use Rattle.tools.specs.Bytes.{be_bytes}
use Rattle.tools.specs.Vint.{vint_width, vint_bytes}
use Rattle.tools.proofs.BigEndian.{length-be_bytes}
use Rattle.tools.proofs.Least.{least}
use Rattle.tag_writer.specs.Document.{Element, value, master, Run, none, then, payload, id_width, id_bytes, header_bytes, size_of_element, size_of_run, element_bytes, run_bytes}

-- a header has a byte
pub header_some : (x n : ℕ) → 1 ≤ length (header_bytes x n)
unfolding header_bytes id_bytes
header_some x n =
    let one : 1 ≤ id_width x = (least (λ k. ltb x (2 ^ (8 * k))) 7 1).lo in
    omega (arith, length-append (be_bytes (id_width x) x) (vint_bytes (vint_width n) n), length-be_bytes (id_width x) x)

-- a size is the count of the bytes
mutual
  unfolding size_of_element element_bytes

  pub element_length : (e : Element) → length (element_bytes e) ≡ size_of_element e
  element_length (value x v) = length-append (header_bytes x (length (payload v))) (payload v)
  element_length (master x r) =
      length-append (header_bytes x (size_of_run r)) (run_bytes r) ∙ ap (λ (n : ℕ). length (header_bytes x (size_of_run r)) + n) (run_length r)

  pub run_length : (r : Run) → length (run_bytes r) ≡ size_of_run r
  run_length none = refl
  run_length (then e r) = length-append (element_bytes e) (run_bytes r) ∙ rw (element_length e, run_length r)

-- so has an element
pub element_some : (e : Element) → 1 ≤ size_of_element e
unfolding size_of_element
element_some (value x v) = omega (arith, header_some x (length (payload v)))
element_some (master x r) = omega (arith, header_some x (size_of_run r))
