-- The turns of the loop that matches Starts and Ends: the stack of IDs, read from its top, is what `matched` is given.
-- Assumes nothing.
use Prim.Native.Nat.{ℕ, ◌+◌, ◌*◌, ◌/◌, ◌≤◌, ◌<◌}
use mathlib.Core.Path.{◌≡◌, sym, ap, ◌∙◌}
use mathlib.Core.Bool.{false}
use mathlib.Core.List.{List, [], ◌∷◌, reverse, reverse-append}
use native.Mathlib.Numerals.{add-one}
use native.Mathlib.Omega.{arith}
use borrow.Author.Tests.{eq-eqb, ne_eqb}
use lib.Dec.{eqb}
use lib.ListN.{length, get_or, take, drop, set, drop_of_length-le}
use lib.Seq.{take-suc, take-suc-set}
use Rattle.tag_writer.specs.Items.{Mark, start, end, datum, value_at, mark_of, marks_of, matched}
use Rattle.tag_writer.proofs.Shapes.{marks_count, mark_here, mark_start, mark_end, mark_value}

-- the open Starts, innermost first
abbrev pub top_down : List ℕ → ℕ → List ℕ
top_down stack depth = reverse (take depth stack)

pub top_more : (stack : List ℕ) (depth x : ℕ) → depth < length stack → top_down (set stack depth x) (depth + 1) ≡ x ∷ top_down stack depth
top_more stack depth x h = rw (add-one depth, take-suc-set stack depth x h) (reverse-append (take depth stack) (x ∷ []))

pub top_less : (stack : List ℕ) (k depth : ℕ) → k + 1 ≡ depth → depth ≤ length stack → top_down stack depth ≡ get_or stack k 0 ∷ top_down stack k
top_less stack k depth e h =
    let l : k < length stack = omega arith in
    ap (top_down stack) (sym e) ∙ rw (add-one k, take-suc stack k 0 l) (reverse-append (take k stack) (get_or stack k 0 ∷ []))

module _ (vals items : List ℕ) (i : ℕ) where
  abbrev ms : List Mark
  ms = marks_of vals items

  abbrev word : ℕ → ℕ
  word k = get_or items (4 * i + k) 0

  pub done_matched : (ys : List ℕ) (depth : ℕ) → length items / 4 ≤ i → length ys ≡ depth → matched ys (drop i ms) ≡ eqb depth 0
  unfolding matched
  done_matched ys depth h e =
      let n : length ms ≤ i = omega (arith, marks_count vals items) in
      rw (drop_of_length-le ms n) (by ys e)
    where
      by : (ys : List ℕ) → length ys ≡ depth → matched ys [] ≡ eqb depth 0
      by [] e = sym (eq-eqb depth 0 (sym e))
      by (y ∷ ys) e = sym (ne_eqb depth 0 (λ z. omega arith))

  module _ (there : i < length items / 4) where
    pub mark_is : drop i ms ≡ mark_of vals (word 0) (word 1) (word 2) (word 3) ∷ drop (i + 1) ms
    mark_is = let z : 4 * i ≡ 4 * i + 0 = omega arith in rw (← z) (mark_here vals items i there)

    pub start_here : word 0 ≡ 0 → drop i ms ≡ start (word 1) ∷ drop (i + 1) ms
    start_here e = mark_is ∙ ap (λ (m : Mark). m ∷ drop (i + 1) ms) (mark_start vals (word 0) (word 1) (word 2) (word 3) e)

    pub end_here : word 0 ≡ 6 → drop i ms ≡ end (word 1) ∷ drop (i + 1) ms
    end_here e = mark_is ∙ ap (λ (m : Mark). m ∷ drop (i + 1) ms) (mark_end vals (word 0) (word 1) (word 2) (word 3) e)

    pub value_here : (word 0 ≡ 0 → ⊥) → (word 0 ≡ 6 → ⊥) → drop i ms ≡ datum (word 1) (value_at vals (word 0) (word 2) (word 3)) ∷ drop (i + 1) ms
    value_here a b = mark_is ∙ ap (λ (m : Mark). m ∷ drop (i + 1) ms) (mark_value vals (word 0) (word 1) (word 2) (word 3) a b)

    pub start_matched : (stack : List ℕ) (depth : ℕ) → word 0 ≡ 0 → depth < length stack
        → matched (top_down (set stack depth (word 1)) (depth + 1)) (drop (i + 1) ms) ≡ matched (top_down stack depth) (drop i ms)
    unfolding matched
    start_matched stack depth e h = rw (start_here e, top_more stack depth (word 1) h)

    pub value_matched : (ys : List ℕ) → (word 0 ≡ 0 → ⊥) → (word 0 ≡ 6 → ⊥) → matched ys (drop (i + 1) ms) ≡ matched ys (drop i ms)
    unfolding matched
    value_matched ys a b = rw (mark_is, mark_value vals (word 0) (word 1) (word 2) (word 3) a b)

    pub end_none : (stack : List ℕ) (depth : ℕ) → word 0 ≡ 6 → depth ≡ 0 → matched (top_down stack depth) (drop i ms) ≡ false
    unfolding matched
    end_none stack depth e z = rw (end_here e, z)

    pub end_other : (stack : List ℕ) (k depth : ℕ) → word 0 ≡ 6 → k + 1 ≡ depth → depth ≤ length stack → (get_or stack k 0 ≡ word 1 → ⊥) → matched (top_down stack depth) (drop i ms) ≡ false
    unfolding matched
    end_other stack k depth e d h n = rw (end_here e, top_less stack k depth d h, ne_eqb (word 1) (get_or stack k 0) (λ z. n (sym z)))

    pub end_same : (stack : List ℕ) (k depth : ℕ) → word 0 ≡ 6 → k + 1 ≡ depth → depth ≤ length stack → get_or stack k 0 ≡ word 1
        → matched (top_down stack k) (drop (i + 1) ms) ≡ matched (top_down stack depth) (drop i ms)
    unfolding matched
    end_same stack k depth e d h n = rw (end_here e, top_less stack k depth d h, eq-eqb (word 1) (get_or stack k 0) (sym n))
