-- What the list from an item on says, by its first mark: an element that begins there, and the run after it. Assumes
-- nothing.
use Prim.Native.Nat.{ℕ, ◌+◌, ◌-◌, ◌*◌, ◌/◌, ◌≤◌, ◌<◌}
use mathlib.Core.Path.{◌≡◌, refl, sym, ap, subst, ◌∙◌}
use mathlib.Core.Bool.{Bool, true, false, false≢true, true≢false}
use mathlib.Core.List.{List, [], ◌∷◌, ◌++◌, append_assoc, head-eq_of_cons-eq, tail-eq_of_cons-eq}
use native.Mathlib.Numerals.{add-one}
use native.Mathlib.Omega.{arith}
use borrow.Author.Tests.{eq-eqb, ne_eqb, leb-true}
use lib.Dec.{leb}
use lib.ListN.{length, get_or, drop, length-append, length-drop}
use lib.Seq.{drop-cons, drop-drop, drop_at}
use Rattle.basics.specs.Lists.{every}
use Rattle.table.specs.Table.{fours}
use Rattle.table.proofs.Words.{length-fours, fours_at}
use Rattle.basics.proofs.Bools.{both}
use Rattle.basics.proofs.Every.{every_drop}
use Rattle.tag_writer.specs.Document.{Value, Element, value, master, Run, none, then, payload, size_of_element, size_of_run}
use Rattle.tag_writer.specs.Items.{Mark, start, end, datum, value_at, mark_of, marks_of, element_marks, run_marks}
use Rattle.tag_writer.specs.Sizing.{is_small, Sizable, stops}
use Rattle.tag_writer.proofs.Marks.{header_most}

never : {A : Type 0} → ◌≡◌ {A = ℕ} 0 1 → A
never e = absurd (omega arith)

-- ---- the first mark

module _ (vals items : List ℕ) where
  pub marks_count : length (marks_of vals items) ≡ length items / 4
  unfolding marks_of
  marks_count = length-fours (mark_of vals) items

  pub mark_here : (at : ℕ) → at < length items / 4
      → drop at (marks_of vals items)
      ≡ mark_of vals (get_or items (4 * at) 0) (get_or items (4 * at + 1) 0) (get_or items (4 * at + 2) 0) (get_or items (4 * at + 3) 0) ∷ drop (at + 1) (marks_of vals items)
  unfolding marks_of
  mark_here at h =
      let l : at < length (fours (mark_of vals) items) = rw (length-fours (mark_of vals) items) h in
      drop-cons (fours (mark_of vals) items) at (end 0) l ∙ rw (add-one at, fours_at (mark_of vals) items at (end 0) h)

module _ (vals : List ℕ) (kind x offset n : ℕ) where
  pub mark_start : kind ≡ 0 → mark_of vals kind x offset n ≡ start x
  unfolding mark_of
  mark_start e = rw (eq-eqb _ _ e)

  pub mark_end : kind ≡ 6 → mark_of vals kind x offset n ≡ end x
  unfolding mark_of
  mark_end e = rw e

  pub mark_value : (kind ≡ 0 → ⊥) → (kind ≡ 6 → ⊥) → mark_of vals kind x offset n ≡ datum x (value_at vals kind offset n)
  unfolding mark_of
  mark_value a b = rw (ne_eqb _ _ a, ne_eqb _ _ b)

-- an End is no Start, nor is a value
pub end_no_start : {x y : ℕ} {l k : List Mark} → end x ∷ l ≡ start y ∷ k → ⊥
end_no_start q = let f = head-eq_of_cons-eq q in let z : ◌≡◌ {A = ℕ} 0 1 = cc in never z

pub value_no_start : {x y : ℕ} {v : Value} {l k : List Mark} → datum x v ∷ l ≡ start y ∷ k → ⊥
value_no_start q = let f = head-eq_of_cons-eq q in let z : ◌≡◌ {A = ℕ} 0 1 = cc in never z

-- ---- an element

-- one that begins with a Start is a master
pub record AsMaster (x : ℕ) (ms : List Mark) (e : Element) (tail : List Mark) : Type 0 where
  pub children : Run
  pub element : e ≡ master x children
  pub inside : ms ≡ run_marks children ++ (end x ∷ tail)

pub as_master : (x : ℕ) (ms : List Mark) (e : Element) (tail : List Mark) → start x ∷ ms ≡ element_marks e ++ tail → AsMaster x ms e tail
unfolding element_marks
as_master x ms (value y v) tail q = let f = head-eq_of_cons-eq q in let z : ◌≡◌ {A = ℕ} 0 1 = cc in never z
as_master x ms (master y r) tail q =
    let f = head-eq_of_cons-eq q in
    let g : y ≡ x = cc in
    record {
      children = r;
      element = ap (λ (z : ℕ). master z r) g;
      inside = tail-eq_of_cons-eq q ∙ append_assoc (run_marks r) (end y ∷ []) tail ∙ ap (λ (z : ℕ). run_marks r ++ (end z ∷ tail)) g;
    }

-- one that begins with a value is that value
pub as_value : (x : ℕ) (v : Value) (ms : List Mark) (e : Element) (tail : List Mark) → datum x v ∷ ms ≡ element_marks e ++ tail → e ≡ value x v
unfolding element_marks
as_value x v ms (value y u) tail q =
    let f = head-eq_of_cons-eq q in
    let g : y ≡ x = cc in
    let h : u ≡ v = cc in
    cc
as_value x v ms (master y r) tail q = let f = head-eq_of_cons-eq q in let z : ◌≡◌ {A = ℕ} 0 1 = cc in never z

-- and none begins with an End
pub no_end : (x : ℕ) (ms : List Mark) (e : Element) (tail : List Mark) → end x ∷ ms ≡ element_marks e ++ tail → ⊥
unfolding element_marks
no_end x ms (value y u) tail q = let f = head-eq_of_cons-eq q in let z : ◌≡◌ {A = ℕ} 0 1 = cc in never z
no_end x ms (master y r) tail q = let f = head-eq_of_cons-eq q in let z : ◌≡◌ {A = ℕ} 0 1 = cc in never z

-- ---- a run

goes_on : (e : Element) (ms : List Mark) → stops (element_marks e ++ ms) ≡ false
unfolding element_marks
goes_on (value x v) ms = refl
goes_on (master x r) ms = refl

-- before an End or the end of the list there is none
pub as_none : (l : List Mark) (run : Run) (tail : List Mark) → stops l ≡ true → l ≡ run_marks run ++ tail → run ≡ none
unfolding run_marks
as_none l none tail s q = refl
as_none l (then e r) tail s q =
    absurd (false≢true (sym (goes_on e (run_marks r ++ tail)) ∙ ap stops (sym (append_assoc (element_marks e) (run_marks r) tail) ∙ sym q) ∙ s))

-- before anything else there is an element, and then the rest of the run
pub record AsThen (l : List Mark) (run : Run) (tail : List Mark) : Type 0 where
  pub first : Element
  pub others : Run
  pub is : run ≡ then first others
  pub split : l ≡ element_marks first ++ (run_marks others ++ tail)

pub as_then : (l : List Mark) (run : Run) (tail : List Mark) → stops l ≡ false → stops tail ≡ true → l ≡ run_marks run ++ tail → AsThen l run tail
unfolding run_marks
as_then l none tail s t q = absurd (true≢false (sym t ∙ ap stops (sym q) ∙ s))
as_then l (then e r) tail s t q = record { first = e; others = r; is = refl; split = q ∙ append_assoc (element_marks e) (run_marks r) tail }

-- what stands after an element or a run
pub drop_more : (ms : List Mark) (at : ℕ) (front tail : List Mark) → drop at ms ≡ front ++ tail → drop (at + length front) ms ≡ tail
drop_more ms at front tail q = sym (drop-drop (length front) at ms) ∙ ap (drop (length front)) q ∙ drop_at front tail (length front) refl

pub element_some : (e : Element) → 1 ≤ length (element_marks e)
unfolding element_marks
element_some (value x v) = omega arith
element_some (master x r) = omega arith

-- ---- so many marks, so many bytes

pub every_front : (test : Mark → Bool) (l k : List Mark) → every test (l ++ k) ≡ true → (every test l ≡ true) × (every test k ≡ true)
unfolding every
every_front test [] k e = (refl, e)
every_front test (m ∷ l) k e =
    let b = both (test m) (every test (l ++ k)) e in
    let r = every_front test l k b.right in
    (rw (b.left, r.0), r.1)

mutual
  unfolding size_of_element element_marks every

  pub small_element : (e : Element) → every is_small (element_marks e) ≡ true → size_of_element e ≤ length (element_marks e) * 4_000_000_016
  small_element (value x v) s =
      let b = both (leb (length (payload v)) 4_000_000_000) true s in
      let n : length (payload v) ≤ 4_000_000_000 = leb-true _ _ b.left in
      omega (arith, header_most x (length (payload v)))
  small_element (master x r) s =
      let b = small_run r (every_front is_small (run_marks r) (end x ∷ []) s).0 in
      omega (arith, header_most x (size_of_run r), length-append (run_marks r) (end x ∷ []))

  pub small_run : (r : Run) → every is_small (run_marks r) ≡ true → size_of_run r ≤ length (run_marks r) * 4_000_000_016
  small_run none s = omega arith
  small_run (then e r) s =
      let b = every_front is_small (element_marks e) (run_marks r) s in
      omega (arith, small_element e b.0, small_run r b.1, length-append (element_marks e) (run_marks r))

module _ (ms : List Mark) (able : Sizable ms) (at : ℕ) where
  pub run_bound : (r : Run) (tail : List Mark) → drop at ms ≡ run_marks r ++ tail → (size_of_run r ≤ 2_050_000_000_000) × (at ≤ 512 → at + length (run_marks r) + length tail ≤ 1024) × (length (run_marks r) ≤ 512)
  run_bound r tail q =
      let s = (every_front is_small (run_marks r) tail (subst (λ (l : List Mark). every is_small l ≡ true) q (every_drop is_small at ms able.small))).0 in
      let n : length (run_marks r) + length tail ≡ length ms - at = sym (length-append (run_marks r) tail) ∙ ap length (sym q) ∙ length-drop at ms in
      let m : length (run_marks r) ≤ 512 = omega (arith, able.few) in
      (omega (arith, small_run r s), (λ h. omega (arith, able.few)), m)
