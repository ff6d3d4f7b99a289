-- A matched list is the document that it says: its marks, read off the document, are the list. Assumes nothing.
use Prim.Native.Nat.{ℕ, ◌+◌, ◌*◌, ◌^◌, ◌≤◌}
use mathlib.Core.Path.{◌≡◌, refl, sym, ap, subst, ◌∙◌}
use mathlib.Core.Bool.{Bool, true, false≢true}
use mathlib.Core.List.{List, [], ◌∷◌, ◌++◌, append_assoc}
use native.Mathlib.Omega.{arith}
use borrow.Author.Tests.{eqb-true}
use lib.Dec.{eqb}
use lib.ListN.{length, length-append}
use Rattle.table.specs.Table.{Entry}
use Rattle.tools.proofs.BigEndian.{length-be_bytes}
use Rattle.tools.proofs.Least.{least}
use Rattle.tools.specs.Vint.{vint_width, vint_bytes}
use Rattle.basics.proofs.Bools.{both}
use Rattle.tag_writer.specs.Document.{Element, value, master, Run, none, then, payload, id_width, id_bytes, header_bytes, size_of_element, size_of_run}
use Rattle.tag_writer.specs.Items.{Mark, start, end, datum, matched, Levels, outermost, inside, before, begun, levels, innermost, run_of, element_marks, run_marks}
use Rattle.tag_writer.specs.Write.{good_element, good_run}
use Rattle.tag_writer.proofs.Asked.{asked_value, asked_master, asked_run}

-- these levels, in open Starts of these IDs, innermost first, have these marks
abbrev pub Says : List ℕ → Levels → List Mark → Type 0
Says [] (outermost r) ms = ms ≡ run_marks r
Says [] (inside r ls) ms = ⊥
Says (y ∷ ys) (outermost r) ms = ⊥
Says (y ∷ ys) (inside r ls) ms = (later : List Mark) × (ms ≡ run_marks r ++ (end y ∷ later)) × Says ys ls later

before_says : (e : Element) (ys : List ℕ) (ls : Levels) (ms : List Mark) → Says ys ls ms → Says ys (before e ls) (element_marks e ++ ms)
unfolding run_marks
before_says e [] (outermost r) ms s = ap (λ (l : List Mark). element_marks e ++ l) s
before_says e [] (inside r ls) ms s = s
before_says e (y ∷ ys) (outermost r) ms s = s
before_says e (y ∷ ys) (inside r ls) ms s =
    (s.0, ap (λ (l : List Mark). element_marks e ++ l) s.1 ∙ sym (append_assoc (element_marks e) (run_marks r) (end y ∷ s.0)), s.2)

begun_says : (x : ℕ) (ys : List ℕ) (ls : Levels) (ms : List Mark) → Says (x ∷ ys) ls ms → Says ys (begun x ls) (start x ∷ ms)
unfolding element_marks
begun_says x ys (outermost r) ms s = absurd s
begun_says x ys (inside r ls) ms s =
    subst (λ (l : List Mark). Says ys (before (master x r) ls) (start x ∷ l)) (append_assoc (run_marks r) (end x ∷ []) s.0 ∙ sym s.1)
    (before_says (master x r) ys ls s.0 s.2)

pub says : (ys : List ℕ) (ms : List Mark) → matched ys ms ≡ true → Says ys (levels ms) ms
unfolding matched levels element_marks
says [] [] m = refl
says (y ∷ ys) [] m = absurd (false≢true m)
says ys (start x ∷ ms) m = begun_says x ys (levels ms) ms (says (x ∷ ys) ms m)
says [] (end x ∷ ms) m = absurd (false≢true m)
says (y ∷ ys) (end x ∷ ms) m =
    let b = both (eqb x y) (matched ys ms) m in
    (ms, ap (λ (z : ℕ). end z ∷ ms) (eqb-true x y b.left), says ys ms b.right)
says ys (datum x v ∷ ms) m = before_says (value x v) ys (levels ms) ms (says ys ms m)

pub matched_marks : (ms : List Mark) → matched [] ms ≡ true → run_marks (run_of ms) ≡ ms
matched_marks ms m = by (levels ms) (says [] ms m)
  where
    by : (ls : Levels) → Says [] ls ms → run_marks (innermost ls) ≡ ms
    by (outermost r) s = sym s
    by (inside r ls) s = absurd s

-- and nothing stands outside it
pub matched_top : (ms : List Mark) → matched [] ms ≡ true → (test : Levels → Bool) → ((r : Run) → test (outermost r) ≡ true) → test (levels ms) ≡ true
matched_top ms m test h = by (levels ms) (says [] ms m)
  where
    by : (ls : Levels) → Says [] ls ms → test ls ≡ true
    by (outermost r) s = h r
    by (inside r ls) s = absurd s

-- ---- a document of so many marks has at most so many bytes

pub header_most : (x n : ℕ) → length (header_bytes x n) ≤ 16
unfolding header_bytes id_bytes
header_most x n =
    let a : id_width x ≤ 8 = (least _ 7 1).hi in
    let b : vint_width n ≤ 8 = (least _ 7 1).hi in
    omega (arith, length-append (id_bytes x) (vint_bytes (vint_width n) n), length-be_bytes (id_width x) x, length-be_bytes (vint_width n) (2 ^ (7 * vint_width n) + n))

mutual
  unfolding size_of_element element_marks

  size_element : (t : List Entry) (opened : List ℕ) (e : Element) → good_element t opened e ≡ true → size_of_element e ≤ length (element_marks e) * 4_000_000_016
  size_element t opened (value x v) g =
      let n = (asked_value t opened x v g).size in
      omega (arith, header_most x (length (payload v)))
  size_element t opened (master x r) g =
      let b = size_run t (opened ++ (x ∷ [])) r (asked_master t opened x r g).children in
      omega (arith, header_most x (size_of_run r), length-append (run_marks r) (end x ∷ []))

  pub size_run : (t : List Entry) (opened : List ℕ) (r : Run) → good_run t opened r ≡ true → size_of_run r ≤ length (run_marks r) * 4_000_000_016
  size_run t opened none g = omega arith
  size_run t opened (then e r) g =
      let b = asked_run t opened e r g in
      omega (arith, size_element t opened e b.0, size_run t opened r b.1, length-append (element_marks e) (run_marks r))
