-- The list item by item says what the document says: refusal 43, and the bytes. Assumes nothing.
use Prim.Native.Nat.{ℕ, ◌-◌}
use mathlib.Core.Path.{◌≡◌, refl, sym, ap, ◌∙◌}
use mathlib.Core.Bool.{Bool, true, false, ◌&&◌}
use mathlib.Core.List.{List, [], ◌∷◌, ◌++◌, append_assoc, append-nil}
use native.Mathlib.Omega.{arith}
use lib.Dec.{leb}
use lib.ListN.{length, take, length-append}
use lib.Seq.{take_at}
use Rattle.table.specs.Table.{Entry, data_type_of, is_master}
use Rattle.tag_writer.specs.Document.{Element, value, master, Run, none, then, payload, header_bytes, size_of_run, element_bytes, run_bytes}
use Rattle.tag_writer.specs.Flat.{asked, all_asked, marks_bytes}
use Rattle.tag_writer.specs.Items.{Mark, start, end, datum, matched, Levels, outermost, inside, before, begun, levels, innermost, run_of, element_marks, run_marks}
use Rattle.tag_writer.specs.Sizing.{element_fits, run_fits}
use Rattle.tag_writer.specs.Write.{reads_back, goes_in, greatest_size, good_element, good_run}
use Rattle.tag_writer.proofs.Marks.{matched_marks, matched_top}

-- ---- the bytes

abbrev level_bytes : Levels → List ℕ
level_bytes (outermost r) = run_bytes r
level_bytes (inside r ls) = run_bytes r ++ level_bytes ls

before_bytes : (e : Element) (ls : Levels) → level_bytes (before e ls) ≡ element_bytes e ++ level_bytes ls
unfolding run_bytes
before_bytes e (outermost r) = refl
before_bytes e (inside r ls) = append_assoc (element_bytes e) (run_bytes r) (level_bytes ls)

begun-bytes : (x : ℕ) (ls : Levels) → level_bytes (begun x ls) ≡ header_bytes x (size_of_run (innermost ls)) ++ level_bytes ls
unfolding element_bytes
begun-bytes x (outermost r) = append-nil (header_bytes x (size_of_run r) ++ run_bytes r)
begun-bytes x (inside r ls) = before_bytes (master x r) ls ∙ append_assoc (header_bytes x (size_of_run r)) (run_bytes r) (level_bytes ls)

level_bytes_lem : (ms : List Mark) → marks_bytes ms ≡ level_bytes (levels ms)
unfolding marks_bytes levels element_bytes
level_bytes_lem [] = refl
level_bytes_lem (start x ∷ ms) = ap (λ (l : List ℕ). header_bytes x (size_of_run (run_of ms)) ++ l) (level_bytes_lem ms) ∙ sym (begun-bytes x (levels ms))
level_bytes_lem (end x ∷ ms) = level_bytes_lem ms
level_bytes_lem (datum x v ∷ ms) =
    ap (λ (l : List ℕ). header_bytes x (length (payload v)) ++ (payload v ++ l)) (level_bytes_lem ms)
    ∙ sym (append_assoc (header_bytes x (length (payload v))) (payload v) (level_bytes (levels ms)))
    ∙ sym (before_bytes (value x v) (levels ms))

-- ---- 43

last_gone : (opened : List ℕ) (x : ℕ) → take (length (opened ++ (x ∷ [])) - 1) (opened ++ (x ∷ [])) ≡ opened
last_gone opened x = let n : length (opened ++ (x ∷ [])) - 1 ≡ length opened = omega (arith, length-append opened (x ∷ [])) in rw n (take_at opened (x ∷ []) (length opened) refl)

and-true : (a : Bool) → (a && true) ≡ a
and-true true = refl
and-true false = refl

and-false : (a : Bool) → (a && false) ≡ false
and-false true = refl
and-false false = refl

and_assoc : (a b c : Bool) → ((a && b) && c) ≡ (a && (b && c))
and_assoc true b c = refl
and_assoc false b c = refl

-- a Start is asked, its children, and its size
in_master : (s p l f g r : Bool) → (p && f) ≡ (g && r) → ((s && p) && (l && f)) ≡ (((s && l) && g) && r)
in_master false p l f g r e = refl
in_master true p false f g r e = and-false p
in_master true p true f g r e = e

-- an element, and the others
in_run : (x f y h g k r : Bool) → (x && f) ≡ (g && y) → (y && h) ≡ (k && r) → (x && (f && h)) ≡ ((g && k) && r)
in_run x f y h g k r a b = sym (and_assoc x f h) ∙ ap (λ (z : Bool). z && h) a ∙ and_assoc g y h ∙ ap (λ (z : Bool). g && z) b ∙ sym (and_assoc g k r)

mutual
  unfolding all_asked asked element_marks element_fits good_element

  flat_element : (t : List Entry) (opened : List ℕ) (e : Element) (ms : List Mark)
      → (all_asked t opened (element_marks e ++ ms) && element_fits e) ≡ (good_element t opened e && all_asked t opened ms)
  flat_element t opened (value x v) ms = and-true _
  flat_element t opened (master x r) ms =
      let into = opened ++ (x ∷ []) in
      let back : all_asked t into (end x ∷ ms) ≡ all_asked t opened ms = ap (λ (o : List ℕ). all_asked t o ms) (last_gone opened x) in
      let kids : (all_asked t into (run_marks r ++ (end x ∷ ms)) && run_fits r) ≡ (good_run t into r && all_asked t opened ms) = flat_run t into r (end x ∷ ms) ∙ ap (λ (z : Bool). good_run t into r && z) back in
      let same : (run_marks r ++ (end x ∷ [])) ++ ms ≡ run_marks r ++ (end x ∷ ms) = append_assoc (run_marks r) (end x ∷ []) ms in
      ap (λ (l : List Mark). (reads_back x && goes_in t opened x && is_master (data_type_of t x) && all_asked t into l) && (leb (size_of_run r) greatest_size && run_fits r)) same
      ∙ in_master (reads_back x && goes_in t opened x && is_master (data_type_of t x)) (all_asked t into (run_marks r ++ (end x ∷ ms))) (leb (size_of_run r) greatest_size) (run_fits r) (good_run t into r) (all_asked t opened ms) kids

  flat_run : (t : List Entry) (opened : List ℕ) (r : Run) (ms : List Mark)
      → (all_asked t opened (run_marks r ++ ms) && run_fits r) ≡ (good_run t opened r && all_asked t opened ms)
  flat_run t opened none ms = and-true _
  flat_run t opened (then e r) ms =
      ap (λ (l : List Mark). all_asked t opened l && (element_fits e && run_fits r)) (append_assoc (element_marks e) (run_marks r) ms)
      ∙ in_run (all_asked t opened (element_marks e ++ (run_marks r ++ ms))) (element_fits e) (all_asked t opened (run_marks r ++ ms)) (run_fits r) (good_element t opened e) (good_run t opened r) (all_asked t opened ms)
      (flat_element t opened e (run_marks r ++ ms)) (flat_run t opened r ms)

-- ---- of a matched list

abbrev is_top : Levels → Bool
is_top (outermost r) = true
is_top (inside r ls) = false

module _ (ms : List Mark) (match : matched [] ms ≡ true) where
  whole : run_marks (run_of ms) ++ [] ≡ ms
  whole = append-nil (run_marks (run_of ms)) ∙ matched_marks ms match

  pub flat_good : (t : List Entry) → good_run t [] (run_of ms) ≡ (all_asked t [] ms && run_fits (run_of ms))
  unfolding all_asked
  flat_good t =
      sym (and-true (good_run t [] (run_of ms))) ∙ sym (flat_run t [] (run_of ms) []) ∙ ap (λ (l : List Mark). all_asked t [] l && run_fits (run_of ms)) whole

  pub flat_bytes : marks_bytes ms ≡ run_bytes (run_of ms)
  flat_bytes = level_bytes_lem ms ∙ top (levels ms) (matched_top ms match is_top (λ r. refl))
    where
      top : (ls : Levels) → is_top ls ≡ true → level_bytes ls ≡ run_bytes (innermost ls)
      top (outermost r) e = refl
      top (inside r ls) e = let z : ◌≡◌ {A = ℕ} 0 1 = cc in absurd (omega arith)
