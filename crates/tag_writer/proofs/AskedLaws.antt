-- What is asked of one item and of the items in turn, as the code goes. Assumes nothing.
use Prim.Native.Nat.{ℕ, ◌+◌, ◌-◌, ◌*◌, ◌/◌, ◌≤◌, ◌<◌}
use mathlib.Core.Path.{◌≡◌, refl, sym, ap, ◌∙◌}
use mathlib.Core.Bool.{Bool, true, false, ◌&&◌, false≢true}
use mathlib.Core.List.{List, [], ◌∷◌, ◌++◌}
use native.Mathlib.Decide.{dec_le}
use native.Mathlib.Numerals.{add-one}
use native.Mathlib.Omega.{arith}
use lib.Dec.{leb, eqb}
use lib.ListN.{length, get_or, take, drop, set, drop_of_length-le}
use lib.Seq.{take-suc-set, take-take, length-take-le}
use Rattle.table.specs.Table.{Entry, data_type_of, is_master}
use Rattle.basics.proofs.Bools.{both}
use Rattle.tag_writer.specs.Document.{payload}
use Rattle.tag_writer.specs.Flat.{asked, opened_after, all_asked}
use Rattle.tag_writer.specs.Items.{Mark, end, value_at, mark_of, marks_of, matched}
use Rattle.tag_writer.specs.Write.{reads_back, goes_in, is_of_kind, greatest_size}
use Rattle.tag_writer.proofs.MatchLaws.{top_down, top_less, mark_is, end_here, end_none}
use Rattle.tag_writer.proofs.Shapes.{marks_count, mark_start, mark_end, mark_value}

and_assoc : (a b c : Bool) → ((a && b) && c) ≡ (a && (b && c))
and_assoc true b c = refl
and_assoc false b c = refl

module _ (t : List Entry) (opened vals : List ℕ) (kind x offset n : ℕ) where
  abbrev M : Mark
  M = mark_of vals kind x offset n

  abbrev third : Bool
  third = is_of_kind (data_type_of t x) (value_at vals kind offset n) && leb (length (payload (value_at vals kind offset n))) greatest_size

  pub item_end : kind ≡ 6 → true ≡ asked t opened M
  unfolding asked
  item_end e = sym (ap (asked t opened) (mark_end vals kind x offset n e))

  start_is : kind ≡ 0 → asked t opened M ≡ ((reads_back x && goes_in t opened x) && is_master (data_type_of t x))
  unfolding asked
  start_is e = ap (asked t opened) (mark_start vals kind x offset n e)

  value_is : (kind ≡ 0 → ⊥) → (kind ≡ 6 → ⊥) → asked t opened M ≡ ((reads_back x && goes_in t opened x) && third)
  unfolding asked
  value_is a b = ap (asked t opened) (mark_value vals kind x offset n a b) ∙ and_assoc (reads_back x && goes_in t opened x) (is_of_kind (data_type_of t x) (value_at vals kind offset n)) _

  module _ (not6 : kind ≡ 6 → ⊥) where
    refused : (reads_back x && goes_in t opened x) ≡ false → false ≡ asked t opened M
    refused e = by (dec_le 1 kind)
      where
        by : Dec (1 ≤ kind) → false ≡ asked t opened M
        by (yes h) = sym (value_is (λ z. omega arith) not6 ∙ ap (λ (b : Bool). b && third) e)
        by (no f) = sym (start_is (omega arith) ∙ ap (λ (b : Bool). b && is_master (data_type_of t x)) e)

    pub item_back : reads_back x ≡ false → false ≡ asked t opened M
    item_back e = refused (ap (λ (b : Bool). b && goes_in t opened x) e)

    module _ (back : reads_back x ≡ true) where
      pub item_place : goes_in t opened x ≡ false → false ≡ asked t opened M
      item_place e = refused (rw (back, e))

      module _ (goes : goes_in t opened x ≡ true) where
        pub item_master : (m : Bool) → kind ≡ 0 → m ≡ is_master (data_type_of t x) → m ≡ asked t opened M
        item_master m e f = f ∙ sym (start_is e ∙ rw (back, goes))

        pub item_value : (g : Bool) → (kind ≡ 0 → ⊥) → g ≡ third → g ≡ asked t opened M
        item_value g a f = f ∙ sym (value_is a not6 ∙ rw (back, goes))

-- ---- the items in turn

module _ (t : List Entry) (vals items : List ℕ) (i : ℕ) where
  abbrev ms : List Mark
  ms = marks_of vals items

  abbrev word : ℕ → ℕ
  word k = get_or items (4 * i + k) 0

  abbrev here : Mark
  here = mark_of vals (word 0) (word 1) (word 2) (word 3)

  pub asked_done : (opened : List ℕ) → length items / 4 ≤ i → all_asked t opened (drop i ms) ≡ true
  unfolding all_asked
  asked_done opened h = let n : length ms ≤ i = omega (arith, marks_count vals items) in ap (all_asked t opened) (drop_of_length-le ms n)

  module _ (there : i < length items / 4) (opened : List ℕ) where
    step : all_asked t opened (drop i ms) ≡ (asked t opened here && all_asked t (opened_after opened here) (drop (i + 1) ms))
    unfolding all_asked
    step = ap (all_asked t opened) (mark_is vals items i there)

    pub asked_false : asked t opened here ≡ false → all_asked t opened (drop i ms) ≡ false
    asked_false e = step ∙ ap (λ (b : Bool). b && all_asked t (opened_after opened here) (drop (i + 1) ms)) e

    module _ (yes-asked : asked t opened here ≡ true) where
      on : all_asked t opened (drop i ms) ≡ all_asked t (opened_after opened here) (drop (i + 1) ms)
      on = step ∙ ap (λ (b : Bool). b && all_asked t (opened_after opened here) (drop (i + 1) ms)) yes-asked

      pub asked_start : word 0 ≡ 0 → all_asked t opened (drop i ms) ≡ all_asked t (opened ++ (word 1 ∷ [])) (drop (i + 1) ms)
      asked_start e = on ∙ ap (λ (m : Mark). all_asked t (opened_after opened m) (drop (i + 1) ms)) (mark_start vals (word 0) (word 1) (word 2) (word 3) e)

      pub asked_end : word 0 ≡ 6 → all_asked t opened (drop i ms) ≡ all_asked t (take (length opened - 1) opened) (drop (i + 1) ms)
      asked_end e = on ∙ ap (λ (m : Mark). all_asked t (opened_after opened m) (drop (i + 1) ms)) (mark_end vals (word 0) (word 1) (word 2) (word 3) e)

      pub asked_value : (word 0 ≡ 0 → ⊥) → (word 0 ≡ 6 → ⊥) → all_asked t opened (drop i ms) ≡ all_asked t opened (drop (i + 1) ms)
      asked_value a b = on ∙ ap (λ (m : Mark). all_asked t (opened_after opened m) (drop (i + 1) ms)) (mark_value vals (word 0) (word 1) (word 2) (word 3) a b)

pub take_more : (l : List ℕ) (d x : ℕ) → d < length l → take d l ++ (x ∷ []) ≡ take (d + 1) (set l d x)
take_more l d x h = sym (rw (add-one d) (take-suc-set l d x h))

pub take_less : (l : List ℕ) (d : ℕ) → d ≤ length l → take (length (take d l) - 1) (take d l) ≡ take (d - 1) l
take_less l d h = let n : length (take d l) ≡ d = length-take-le d l h in rw n (take-take (d - 1) d l (omega arith))

-- a matched End has its Start
pub record Closed (vals items : List ℕ) (i : ℕ) (stack : List ℕ) (depth : ℕ) : Type 0 where
  pub some : 1 ≤ depth
  pub rest : matched (top_down stack (depth - 1)) (drop (i + 1) (marks_of vals items)) ≡ true

pub end_closed : (vals items : List ℕ) (i : ℕ) → i < length items / 4 → (stack : List ℕ) (depth : ℕ) → depth ≤ length stack → get_or items (4 * i + 0) 0 ≡ 6
    → matched (top_down stack depth) (drop i (marks_of vals items)) ≡ true → Closed vals items i stack depth
unfolding matched
end_closed vals items i there stack depth h e m = by (dec_le 1 depth)
  where
    by : Dec (1 ≤ depth) → Closed vals items i stack depth
    by (yes l) =
        let k : depth - 1 + 1 ≡ depth = omega arith in
        let x = get_or items (4 * i + 1) 0 in
        let y = get_or stack (depth - 1) 0 in
        let q : (eqb x y && matched (top_down stack (depth - 1)) (drop (i + 1) (marks_of vals items))) ≡ true =
        sym (ap (matched (top_down stack depth)) (end_here vals items i there e) ∙ ap (λ (ys : List ℕ). matched ys (end x ∷ drop (i + 1) (marks_of vals items))) (top_less stack (depth - 1) depth k h)) ∙ m in
        record { some = l; rest = (both (eqb x y) (matched (top_down stack (depth - 1)) (drop (i + 1) (marks_of vals items))) q).right }
    by (no f) = absurd (false≢true (sym (end_none vals items i there stack depth e (omega arith)) ∙ m))
