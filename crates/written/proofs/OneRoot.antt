-- A list that begins with a Start whose End is the last of it says a document of one root. Assumes nothing.
use Prim.Native.Nat.{ℕ}
use mathlib.Core.Path.{◌≡◌, refl, sym, ap, ◌∙◌}
use mathlib.Core.Bool.{true}
use mathlib.Core.List.{List, [], ◌∷◌, ◌++◌, append_assoc, append-nil}
use Rattle.tag_writer.specs.Document.{Element, value, master, Run, none, then}
use Rattle.tag_writer.specs.Items.{Mark, start, end, matched, Levels, outermost, inside, before, begun, levels, innermost, run_of, element_marks, run_marks}
use Rattle.tag_writer.proofs.Marks.{matched_marks}
use Rattle.written.specs.Cut.{is_one_root}

-- a run in front
unfoldable in_front : Run → Levels → Levels
in_front none ls = ls
in_front (then e r) ls = before e (in_front r ls)

inside_front : (r : Run) (ls : Levels) → in_front r (inside none ls) ≡ inside r ls
unfolding in_front
inside_front none ls = refl
inside_front (then e r) ls = ap (before e) (inside_front r ls)

mutual
  unfolding levels element_marks in_front

  element_levels : (e : Element) (ms : List Mark) → levels (element_marks e ++ ms) ≡ before e (levels ms)
  element_levels (value x v) ms = refl
  element_levels (master x r) ms =
      ap (λ (l : List Mark). begun x (levels l)) (append_assoc (run_marks r) (end x ∷ []) ms)
      ∙ ap (begun x) (run_levels r (end x ∷ ms) ∙ inside_front r (levels ms))

  run_levels : (r : Run) (ms : List Mark) → levels (run_marks r ++ ms) ≡ in_front r (levels ms)
  run_levels none ms = refl
  run_levels (then e r) ms = ap levels (append_assoc (element_marks e) (run_marks r) ms) ∙ element_levels e (run_marks r ++ ms) ∙ ap (before e) (run_levels r ms)

-- a Start, what is matched, and its End: one root
pub one_root : (x : ℕ) (ms : List Mark) → matched [] ms ≡ true → is_one_root (run_of (start x ∷ (ms ++ (end x ∷ [])))) ≡ true
unfolding levels element_marks
one_root x ms m =
    let e : Element = master x (run_of ms) in
    let marks : element_marks e ≡ start x ∷ (ms ++ (end x ∷ [])) = ap (λ (l : List Mark). start x ∷ (l ++ (end x ∷ []))) (matched_marks ms m) in
    let all : levels (start x ∷ (ms ++ (end x ∷ []))) ≡ outermost (then e none) = ap levels (sym marks ∙ sym (append-nil (element_marks e))) ∙ element_levels e [] in
    ap (λ (ls : Levels). is_one_root (innermost ls)) all
