-- What `any`, `all` and `position` answer, as the tests over the elements of a list that the definitions use; over the
-- indices of a list too. Assumes nothing.
use Prim.Native.Nat.{ℕ, zero, suc, ◌+◌, ◌<◌, ◌≤◌}
use mathlib.Core.Path.{◌≡◌, refl, sym, ap, ap₂, ◌∙◌}
use mathlib.Core.Bool.{Bool, true, false, cond, ◌&&◌, ◌||◌}
use mathlib.Core.List.{List, [], ◌∷◌}
use native.Mathlib.Omega.{arith}
use lib.ListN.{length, get_or}
use lib.Dec.{ltb}
use Rattle.std.specs.Prelude.{Option, Some, None}
use Rattle.std.specs.Option.{unwrap_or}
use Rattle.std.specs.List.{list_any, list_all, range_with_len, position_or_len}
use Rattle.std.proofs.lemmas.Bool.{ltb-false}
use Rattle.std.proofs.lemmas.List.Recursion.{is_position_or_len}
use Rattle.basics.proofs.Bools.{either}
use Rattle.basics.specs.Lists.{every, any, first_index}

module _ {A : Type 0} (test : A → Bool) where
  pub any_is : (l : List A) → list_any test l ≡ any test l
  unfolding any
  any_is [] = refl
  any_is (x ∷ l) = ap (◌||◌ (test x)) (any_is l)

  pub all_is : (l : List A) → list_all test l ≡ every test l
  unfolding every
  all_is [] = refl
  all_is (x ∷ l) = ap (◌&&◌ (test x)) (all_is l)

  first_most : (l : List A) → first_index test l ≤ length l
  unfolding first_index
  first_most [] = omega arith
  first_most (x ∷ l) = either (λ (n : ℕ). n ≤ suc (length l)) (test x) 0 (first_index test l + 1) (omega arith) (omega (arith, first_most l))

  first_is : (l : List A) → first_index test l ≡ position_or_len test l
  unfolding first_index
  first_is = is_position_or_len (first_index test) test refl (λ x xs. ap (λ (n : ℕ). cond (test x) 0 n) (omega arith))

  -- where `position` answers none, all stand before
  pub position_is : (l : List A) (n : ℕ) (r : Option ℕ) → length l ≡ n → r ≡ cond (ltb (position_or_len test l) (length l)) (Some (position_or_len test l)) None → unwrap_or r n ≡ first_index test l
  position_is l n r e p = ap (λ (o : Option ℕ). unwrap_or o n) p ∙ by (ltb (position_or_len test l) (length l)) refl
    where
      by : (b : Bool) → ltb (position_or_len test l) (length l) ≡ b → unwrap_or (cond b (Some (position_or_len test l)) None) n ≡ first_index test l
      by true q = sym (first_is l)
      by false q = let h = ltb-false (position_or_len test l) (length l) q in omega (arith, first_is l, first_most l, h, e)

-- a test of the index that is one of the element there: from a on, and then from the first on
module _ {A : Type 0} (test : A → Bool) (z : A) (by_index : ℕ → Bool) where
  pub any_from : (l : List A) (a n : ℕ) → length l ≡ n → ((i : ℕ) → i < n → by_index (a + i) ≡ test (get_or l i z)) → list_any by_index (range_with_len a n) ≡ any test l
  unfolding any
  any_from [] a zero e same = refl
  any_from [] a (suc n) e same = absurd (omega arith)
  any_from (x ∷ l) a zero e same = absurd (omega arith)
  any_from (x ∷ l) a (suc n) e same =
      let here : by_index a ≡ test x = ap by_index (omega arith) ∙ same 0 (omega arith) in
      ap₂ ◌||◌ here (any_from l (a + 1) n (omega arith) (λ i h. ap by_index (omega arith) ∙ same (suc i) (omega arith)))

  pub all_from : (l : List A) (a n : ℕ) → length l ≡ n → ((i : ℕ) → i < n → by_index (a + i) ≡ test (get_or l i z)) → list_all by_index (range_with_len a n) ≡ every test l
  unfolding every
  all_from [] a zero e same = refl
  all_from [] a (suc n) e same = absurd (omega arith)
  all_from (x ∷ l) a zero e same = absurd (omega arith)
  all_from (x ∷ l) a (suc n) e same =
      let here : by_index a ≡ test x = ap by_index (omega arith) ∙ same 0 (omega arith) in
      ap₂ ◌&&◌ here (all_from l (a + 1) n (omega arith) (λ i h. ap by_index (omega arith) ∙ same (suc i) (omega arith)))

  pub any_over : (l : List A) (n : ℕ) → length l ≡ n → ((i : ℕ) → i < n → by_index i ≡ test (get_or l i z)) → list_any by_index (range_with_len 0 n) ≡ any test l
  any_over l n e same = any_from l 0 n e (λ i h. ap by_index (omega arith) ∙ same i h)

  pub all_over : (l : List A) (n : ℕ) → length l ≡ n → ((i : ℕ) → i < n → by_index i ≡ test (get_or l i z)) → list_all by_index (range_with_len 0 n) ≡ every test l
  all_over l n e same = all_from l 0 n e (λ i h. ap by_index (omega arith) ∙ same i h)
