-- Loops that test the elements of a list in turn: what is left from place i on, where the element there passes, where
-- it fails, and at the end. Then loops over the first n elements of an array l, which are `take n l`: upwards, to the
-- first that passes or fails a test, and downwards from the top. Assumes nothing.
use Prim.Native.Nat.{ℕ, suc, ◌+◌, ◌-◌, ◌≤◌, ◌<◌}
use mathlib.Core.Path.{◌≡◌, sym, ap, ◌∙◌}
use mathlib.Core.Bool.{Bool, true, false}
use mathlib.Core.List.{List, [], ◌∷◌, map, reverse, reverse-append}
use native.Mathlib.Numerals.{add-one}
use native.Mathlib.Omega.{arith}
use lib.ListN.{length, get_or, take, drop, length-map, drop_of_length-le}
use lib.Seq.{drop-cons, take-suc, get_or-take, length-take-le}
use Rattle.basics.specs.Lists.{every, any, first_index}

-- ---- a list from place i on

module _ {A : Type 0} (test : A → Bool) (l : List A) (z : A) (i : ℕ) where
  pub every_fails : i < length l → test (get_or l i z) ≡ false → every test (drop i l) ≡ false
  unfolding every
  every_fails h e = rw (drop-cons l i z h, e)

  pub every_next : i < length l → test (get_or l i z) ≡ true → every test (drop i l) ≡ every test (drop (i + 1) l)
  unfolding every
  every_next h e = rw (add-one, drop-cons l i z h, e)

  pub any_here : i < length l → test (get_or l i z) ≡ true → any test (drop i l) ≡ true
  unfolding any
  any_here h e = rw (drop-cons l i z h, e)

  pub any_next : i < length l → test (get_or l i z) ≡ false → any test (drop i l) ≡ any test (drop (i + 1) l)
  unfolding any
  any_next h e = rw (add-one, drop-cons l i z h, e)

module _ {A : Type 0} (test : A → Bool) (l : List A) (i : ℕ) (h : length l ≤ i) where
  pub every_end : every test (drop i l) ≡ true
  unfolding every
  every_end = rw (drop_of_length-le l h)

  pub any_end : any test (drop i l) ≡ false
  unfolding any
  any_end = rw (drop_of_length-le l h)

-- ---- the elements in use

module _ {A : Type 0} (l : List A) (n : ℕ) (h : n ≤ length l) where
  in_use : (i : ℕ) → i < n → i < length (take n l)
  in_use i k = rw (length-take-le n l h) k

  past_use : (i : ℕ) → n ≤ i → length (take n l) ≤ i
  past_use i k = rw (length-take-le n l h) k

  -- from the top down: the last of them, and what stands below it
  pub reverse_used : (z : A) → 0 < n → reverse (take n l) ≡ get_or l (n - 1) z ∷ reverse (take (n - 1) l)
  reverse_used z k =
      let e : n ≡ suc (n - 1) = omega arith in
      ap (λ (m : ℕ). reverse (take m l)) e ∙ ap reverse (take-suc l (n - 1) z (omega arith)) ∙ reverse-append (take (n - 1) l) (get_or l (n - 1) z ∷ [])

-- ---- a test of each

module _ {A : Type 0} (test : A → Bool) (l : List A) (n : ℕ) (h : n ≤ length l) (i : ℕ) where
  module _ (z : A) (k : i < n) where
    pub used_fails : test (get_or l i z) ≡ false → every test (drop i (take n l)) ≡ false
    used_fails e = every_fails test (take n l) z i (in_use l n h i k) (rw (get_or-take n l i z k) e)

    pub used_next : test (get_or l i z) ≡ true → every test (drop i (take n l)) ≡ every test (drop (i + 1) (take n l))
    used_next e = every_next test (take n l) z i (in_use l n h i k) (rw (get_or-take n l i z k) e)

  pub used_end : n ≤ i → every test (drop i (take n l)) ≡ true
  used_end k = every_end test (take n l) i (past_use l n h i k)

-- ---- the first that passes

-- none of the first i passes
abbrev pub NoneBefore : {A : Type 0} → (A → Bool) → List A → ℕ → ℕ → Type 0
NoneBefore test l n i = first_index test (take n l) ≡ i + first_index test (drop i (take n l))

module _ {A : Type 0} (test : A → Bool) (l : List A) (n : ℕ) (h : n ≤ length l) (i : ℕ) (passed : NoneBefore test l n i) where
  module _ (z : A) (k : i < n) where
    pub first_found : test (get_or l i z) ≡ true → i ≡ first_index test (take n l)
    unfolding first_index
    first_found e =
        let f : first_index test (drop i (take n l)) ≡ 0 = rw (drop-cons (take n l) i z (in_use l n h i k), get_or-take n l i z k, e) in
        omega arith

    pub first_next : test (get_or l i z) ≡ false → NoneBefore test l n (i + 1)
    unfolding first_index
    first_next e =
        let f : first_index test (drop i (take n l)) ≡ first_index test (drop (i + 1) (take n l)) + 1 = rw (add-one i, drop-cons (take n l) i z (in_use l n h i k), get_or-take n l i z k, e) in
        omega arith

  pub first_none : n ≤ i → i ≤ n → n ≡ first_index test (take n l)
  unfolding first_index
  first_none k g =
      let f : first_index test (drop i (take n l)) ≡ 0 = rw (drop_of_length-le (take n l) (past_use l n h i k)) in
      omega arith
