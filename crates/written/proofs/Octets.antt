-- What is written are octets, where the values that are handed over are. Assumes nothing.
use Prim.Native.Nat.{ℕ, zero, suc, ◌+◌, ◌*◌, ◌^◌}
use mathlib.Core.Path.{◌≡◌, sym, subst}
use mathlib.Core.Bool.{Bool, true, false, cond}
use mathlib.Core.List.{List, [], ◌∷◌, ◌++◌}
use native.Mathlib.Omega.{arith}
use lib.Dec.{leb, eqb}
use lib.IntN.{ℤ, pos, negsuc}
use lib.ListN.{length}
use Rattle.basics.proofs.Bools.{pick}
use Rattle.tools.specs.Bytes.{Octets}
use Rattle.tools.specs.Vint.{vint_width, vint_bytes}
use Rattle.tools.proofs.BigEndian.{octets_be_bytes, octets_take, octets_append}
use Rattle.table.specs.Table.{fours}
use Rattle.tag_parse.proofs.Cases.{octets_drop}
use Rattle.tag_writer.specs.Document.{Value, Element, value, master, Run, none, then, payload, integer_bytes, id_width, id_bytes, header_bytes, size_of_run, element_bytes, run_bytes}
use Rattle.tag_writer.specs.Items.{Mark, start, end, datum, raw_at, value_of, value_at, mark_of, marks_of, run_of, element_marks, run_marks}
use Rattle.tag_writer.specs.Write.{write}
use Rattle.tag_writer.proofs.Marks.{matched_marks}
use Rattle.tag_writer.proofs.RoundTrip.{is_written}
use Rattle.written.specs.Cut.{written}
use Rattle.written.proofs.Cut.{written_bytes}
use Rattle.std.specs.Prelude.{Ok}

-- ---- of lists

none_octets : Octets []
none_octets i = omega arith

-- ---- of values

integer_octets : (z : ℤ) → Octets (integer_bytes z)
unfolding integer_bytes
integer_octets (pos zero) = none_octets
integer_octets (pos (suc n)) = octets_be_bytes _ _
integer_octets (negsuc n) = octets_be_bytes _ _

module _ (raw : List ℕ) (byte : Octets raw) where
  value_octets : (kind : ℕ) → Octets (payload (value_of kind raw))
  unfolding value_of payload
  value_octets kind =
      let P : Value → Type 0 = λ v. Octets (payload v) in
      pick P (eqb kind 1) _ _ (λ e. pick P (eqb (length raw) 8) _ _ (λ f. octets_be_bytes _ _) (λ f. none_octets))
      (λ e. pick P (eqb kind 2) _ _ (λ e. pick P (eqb (length raw) 8) _ _ (λ f. integer_octets _) (λ f. none_octets))
      (λ e. pick P (eqb kind 3) _ _ (λ e. byte)
      (λ e. pick P (eqb kind 4) _ _ (λ e. byte)
      (λ e. pick P (eqb kind 5) _ _ (λ e. pick P (eqb (length raw) 8) _ _ (λ f. octets_be_bytes _ _) (λ f. none_octets)) (λ e. none_octets)))))

-- ---- of marks

-- the payload of a mark, where it has one, is of octets
abbrev OctetsMark : Mark → Type 0
OctetsMark (start x) = Unit {0}
OctetsMark (end x) = Unit {0}
OctetsMark (datum x v) = Octets (payload v)

-- and of each of these
unfoldable OctetsMarks : List Mark → Type 0
OctetsMarks [] = Unit {0}
OctetsMarks (m ∷ ms) = OctetsMark m × OctetsMarks ms

module _ (vals : List ℕ) (byte : Octets vals) where
  at_octets : (kind offset n : ℕ) → Octets (payload (value_at vals kind offset n))
  unfolding value_at payload
  at_octets kind offset n =
      let P : Value → Type 0 = λ v. Octets (payload v) in
      pick P (leb (offset + n) (length vals)) _ _ (λ e. value_octets (raw_at vals offset n) (octets_take n _ (octets_drop offset vals byte)) kind) (λ e. none_octets)

  mark_octets : (kind x offset n : ℕ) → OctetsMark (mark_of vals kind x offset n)
  unfolding mark_of
  mark_octets kind x offset n = by (eqb kind 0) (eqb kind 6)
    where
      by : (a b : Bool) → OctetsMark (cond a (start x) (cond b (end x) (datum x (value_at vals kind offset n))))
      by true b = tt
      by false true = tt
      by false false = at_octets kind offset n

  fours_octets : (ws : List ℕ) → OctetsMarks (fours (mark_of vals) ws)
  unfolding fours OctetsMarks
  fours_octets [] = tt
  fours_octets (a ∷ []) = tt
  fours_octets (a ∷ b ∷ []) = tt
  fours_octets (a ∷ b ∷ c ∷ []) = tt
  fours_octets (a ∷ b ∷ c ∷ d ∷ ws) = (mark_octets a b c d, fours_octets ws)

-- ---- of the document

mark_parts : (ms more : List Mark) → OctetsMarks (ms ++ more) → OctetsMarks ms × OctetsMarks more
unfolding OctetsMarks
mark_parts [] more f = (tt, f)
mark_parts (m ∷ ms) more f = let r = mark_parts ms more f.1 in ((f.0, r.0), r.1)

header_octets : (x n : ℕ) → Octets (header_bytes x n)
unfolding header_bytes id_bytes
header_octets x n = octets_append (id_bytes x) (vint_bytes (vint_width n) n) (octets_be_bytes (id_width x) x) (octets_be_bytes (vint_width n) (2 ^ (7 * vint_width n) + n))

mutual
  unfolding element_bytes element_marks OctetsMarks

  element_octets : (e : Element) → OctetsMarks (element_marks e) → Octets (element_bytes e)
  element_octets (value x v) f = octets_append (header_bytes x (length (payload v))) (payload v) (header_octets x (length (payload v))) f.0
  element_octets (master x r) f =
      octets_append (header_bytes x (size_of_run r)) (run_bytes r) (header_octets x (size_of_run r)) (run_octets r (mark_parts (run_marks r) (end x ∷ []) f.1).0)

  run_octets : (r : Run) → OctetsMarks (run_marks r) → Octets (run_bytes r)
  run_octets none f = none_octets
  run_octets (then e r) f =
      let p = mark_parts (element_marks e) (run_marks r) f in
      octets_append (element_bytes e) (run_bytes r) (element_octets e p.0) (run_octets r p.1)

-- what is written are octets
pub written_octets : (es ps items vals out : List ℕ) (n : ℕ) → (write es ps items vals out).0 ≡ Ok n → Octets vals → Octets (written es ps items vals out n)
unfolding marks_of
written_octets es ps items vals out n e byte =
    let w = is_written es ps items vals out n e in
    let ms = marks_of vals items in
    let marks : OctetsMarks (run_marks (run_of ms)) = subst OctetsMarks (sym (matched_marks ms w.match)) (fours_octets vals byte items) in
    subst Octets (sym (written_bytes es ps items vals out n e)) (run_octets (run_of ms) marks)
