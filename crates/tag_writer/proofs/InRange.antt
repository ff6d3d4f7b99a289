-- The values that are handed over are in range: eight octets hold a number below 2 ^ 64. So are those of the document
-- that a matched list says, and what is taken of the list is taken of it. Assumes nothing.
use Prim.Native.Nat.{ℕ, ◌+◌, ◌*◌, ◌^◌, ◌<◌}
use mathlib.Core.Path.{◌≡◌, refl, subst}
use mathlib.Core.Bool.{Bool, true, false, cond}
use mathlib.Core.List.{List, [], ◌∷◌, ◌++◌}
use native.Mathlib.Omega.{arith}
use borrow.Author.Tests.{eqb-true}
use lib.Dec.{leb, eqb}
use lib.ListN.{length}
use lib.Signed.{mag}
use Rattle.basics.specs.Lists.{every}
use Rattle.basics.proofs.Bools.{pick, both, and_both}
use Rattle.tools.specs.Bytes.{Octets, be_number}
use Rattle.tools.specs.Twos.{signed_of}
use Rattle.tools.proofs.BigEndian.{be_lt, octets_take}
use Rattle.tools.proofs.Signed.{payload_range}
use Rattle.table.specs.Table.{fours}
use Rattle.tag_parse.proofs.Cases.{octets_drop}
use Rattle.decoder_rules.specs.OneCall.{good_form}
use Rattle.tag_writer.specs.Document.{Element, value, master, Run, none, then}
use Rattle.tag_writer.specs.Items.{Mark, start, end, datum, raw_at, value_of, value_at, mark_of, marks_of, element_marks, run_marks}
use Rattle.tag_writer.specs.ReadBack.{is_taken}
use Rattle.tag_writer.proofs.Reading.{FitsElement, FitsRun}
use Rattle.tag_writer.proofs.ValueBack.{Fits}

-- ---- of marks

-- the value of a mark, where it has one, is in range
abbrev pub FitsMark : Mark → Type 0
FitsMark (start x) = Unit {0}
FitsMark (end x) = Unit {0}
FitsMark (datum x v) = Fits v

-- and of each of these
unfoldable pub FitsMarks : List Mark → Type 0
FitsMarks [] = Unit {0}
FitsMarks (m ∷ ms) = FitsMark m × FitsMarks ms

-- as ported each is taken
pub all_taken : (ms : List Mark) → every (is_taken false) ms ≡ true
unfolding every is_taken good_form
all_taken [] = refl
all_taken (start x ∷ ms) = all_taken ms
all_taken (end x ∷ ms) = all_taken ms
all_taken (datum x v ∷ ms) = all_taken ms

-- ---- of the document

fits_parts : (ms more : List Mark) → FitsMarks (ms ++ more) → FitsMarks ms × FitsMarks more
unfolding FitsMarks
fits_parts [] more f = (tt, f)
fits_parts (m ∷ ms) more f = let r = fits_parts ms more f.1 in ((f.0, r.0), r.1)

taken_parts : (strict : Bool) (ms more : List Mark) → every (is_taken strict) (ms ++ more) ≡ true → (every (is_taken strict) ms ≡ true) × (every (is_taken strict) more ≡ true)
unfolding every
taken_parts strict [] more e = (refl, e)
taken_parts strict (m ∷ ms) more e =
    let b = both (is_taken strict m) (every (is_taken strict) (ms ++ more)) e in
    let r = taken_parts strict ms more b.right in
    (and_both b.left r.0, r.1)

module _ (strict : Bool) where
  mutual
    unfolding FitsElement FitsMarks element_marks every

    fits_element : (e : Element) → FitsMarks (element_marks e) → every (is_taken strict) (element_marks e) ≡ true → FitsElement strict e
    fits_element (value x v) f e = (f.0, (both (is_taken strict (datum x v)) true e).left)
    fits_element (master x r) f e =
        let b = both (is_taken strict (start x)) (every (is_taken strict) (run_marks r ++ (end x ∷ []))) e in
        (b.left, fits_run r (fits_parts (run_marks r) (end x ∷ []) f.1).0 (taken_parts strict (run_marks r) (end x ∷ []) b.right).0)

    -- a document whose marks are in range and taken
    pub fits_run : (r : Run) → FitsMarks (run_marks r) → every (is_taken strict) (run_marks r) ≡ true → FitsRun strict r
    fits_run none f e = tt
    fits_run (then d r) f e =
        let p = fits_parts (element_marks d) (run_marks r) f in
        let q = taken_parts strict (element_marks d) (run_marks r) e in
        (fits_element d p.0 q.0, fits_run r p.1 q.1)

-- ---- of what is handed over

module _ (raw : List ℕ) (byte : Octets raw) where
  number : eqb (length raw) 8 ≡ true → be_number raw < 2 ^ 64
  number e = let n = eqb-true (length raw) 8 e in subst (λ (k : ℕ). be_number raw < 2 ^ (8 * k)) n (be_lt raw byte)

  signed : eqb (length raw) 8 ≡ true → mag (signed_of 64 (be_number raw)) < 2 ^ 63
  signed e =
      let n = eqb-true (length raw) 8 e in
      rw n at (payload_range raw byte (omega arith))

  -- a value that bytes say is in range
  pub value_fits : (kind : ℕ) → Fits (value_of kind raw)
  unfolding value_of
  value_fits kind =
      pick Fits (eqb kind 1) _ _ (λ e. pick Fits (eqb (length raw) 8) _ _ number (λ f. tt))
      (λ e. pick Fits (eqb kind 2) _ _ (λ e. pick Fits (eqb (length raw) 8) _ _ signed (λ f. tt))
      (λ e. pick Fits (eqb kind 3) _ _ (λ e. tt)
      (λ e. pick Fits (eqb kind 4) _ _ (λ e. tt)
      (λ e. pick Fits (eqb kind 5) _ _ (λ e. pick Fits (eqb (length raw) 8) _ _ number (λ f. tt)) (λ e. tt)))))

module _ (vals : List ℕ) (byte : Octets vals) where
  at_fits : (kind offset n : ℕ) → Fits (value_at vals kind offset n)
  unfolding value_at
  at_fits kind offset n =
      pick Fits (leb (offset + n) (length vals)) _ _ (λ e. value_fits (raw_at vals offset n) (octets_take n _ (octets_drop offset vals byte)) kind) (λ e. tt)

  mark_fits : (kind x offset n : ℕ) → FitsMark (mark_of vals kind x offset n)
  unfolding mark_of
  mark_fits kind x offset n = by (eqb kind 0) (eqb kind 6)
    where
      by : (a b : Bool) → FitsMark (cond a (start x) (cond b (end x) (datum x (value_at vals kind offset n))))
      by true b = tt
      by false true = tt
      by false false = at_fits kind offset n

  fours_fit : (ws : List ℕ) → FitsMarks (fours (mark_of vals) ws)
  unfolding fours FitsMarks
  fours_fit [] = tt
  fours_fit (a ∷ []) = tt
  fours_fit (a ∷ b ∷ []) = tt
  fours_fit (a ∷ b ∷ c ∷ []) = tt
  fours_fit (a ∷ b ∷ c ∷ d ∷ ws) = (mark_fits a b c d, fours_fit ws)

  -- the marks of items are in range
  pub marks_fit : (items : List ℕ) → FitsMarks (marks_of vals items)
  unfolding marks_of
  marks_fit items = fours_fit items
