-- What `every` and `any` of a list say of its members, of what stands at each place, and of lists made of it. Assumes
-- nothing.
use Prim.Native.Nat.{ℕ, zero, suc, ◌+◌, ◌<◌}
use mathlib.Core.Path.{◌≡◌, refl, ap, ◌∙◌}
use mathlib.Core.Bool.{Bool, true, false, ◌&&◌, ◌||◌, true≢false, and-eq-true_iff}
use mathlib.Core.List.{List, [], ◌∷◌, ◌++◌, map, reverse, reverse-cons, Memᴰ}
use native.Mathlib.Nat.{add-zero, zero-add, add-suc, suc-add}
use native.Mathlib.Omega.{arith}
use lib.ListN.{length, get_or, take, drop}
use Rattle.basics.specs.Lists.{every, any}
use Rattle.basics.proofs.Bools.{both, and_both}

or_none : (a b : Bool) → (a || b) ≡ false → (a ≡ false) × (b ≡ false)
or_none true b e = absurd (true≢false e)
or_none false b e = (refl, e)

or_yes : (a b : Bool) → b ≡ true → (a || b) ≡ true
or_yes true b e = refl
or_yes false b e = e

module _ {A : Type 0} (test : A → Bool) where
  pub every_member : {a : A} {l : List A} → every test l ≡ true → Memᴰ a l → test a ≡ true
  unfolding every
  every_member e (Memᴰ.head {x} {xs} q) = ap test q ∙ ((and-eq-true_iff (test x) (every test xs)).0 e).0
  every_member e (Memᴰ.tail {x} {xs} m) = every_member ((and-eq-true_iff (test x) (every test xs)).0 e).1 m

  pub every_of : (l : List A) → ((a : A) → Memᴰ a l → test a ≡ true) → every test l ≡ true
  unfolding every
  every_of [] h = refl
  every_of (a ∷ l) h =
      (and-eq-true_iff (test a) (every test l)).1 (h a (Memᴰ.head refl), every_of l (λ b m. h b (Memᴰ.tail m)))

  pub every_at : (l : List A) (z : A) → every test l ≡ true → ((j : ℕ) → j < length l → test (get_or l j z) ≡ true)
  unfolding every
  every_at [] z e j h = absurd (omega arith)
  every_at (a ∷ l) z e zero h = ((and-eq-true_iff (test a) (every test l)).0 e).0
  every_at (a ∷ l) z e (suc j) h = every_at l z ((and-eq-true_iff (test a) (every test l)).0 e).1 j (omega arith)

  pub any_none : (l : List A) (z : A) → any test l ≡ false → ((j : ℕ) → j < length l → test (get_or l j z) ≡ false)
  unfolding any
  any_none [] z e j h = absurd (omega arith)
  any_none (a ∷ l) z e zero h = (or_none (test a) (any test l) e).0
  any_none (a ∷ l) z e (suc j) h = any_none l z (or_none (test a) (any test l) e).1 j (omega arith)

  pub any_at : (l : List A) (z : A) (j : ℕ) → j < length l → test (get_or l j z) ≡ true → any test l ≡ true
  unfolding any
  any_at [] z j h e = absurd (omega arith)
  any_at (a ∷ l) z zero h e = rw e
  any_at (a ∷ l) z (suc j) h e = or_yes (test a) (any test l) (any_at l z j (omega arith) e)

  pub any_of_none : (l : List A) (z : A) → ((j : ℕ) → j < length l → test (get_or l j z) ≡ false) → any test l ≡ false
  unfolding any
  any_of_none [] z h = refl
  any_of_none (a ∷ l) z h = rw (h 0 (omega arith)) (any_of_none l z (λ j k. h (suc j) (omega arith)))

-- ---- a test of what stands at each place, together with the place

-- each element passes at its place, counted from i
unfoldable pub every_place : {A : Type 0} → (ℕ → A → Bool) → ℕ → List A → Bool
every_place test i [] = true
every_place test i (a ∷ l) = test i a && every_place test (suc i) l

module _ {A : Type 0} (test : ℕ → A → Bool) where
  place_from : (i : ℕ) (l : List A) (z : A) → every_place test i l ≡ true → (j : ℕ) → j < length l → test (i + j) (get_or l j z) ≡ true
  unfolding every_place
  place_from i [] z e j h = absurd (omega arith)
  place_from i (a ∷ l) z e zero h = rw add-zero (both (test i a) (every_place test (suc i) l) e).left
  place_from i (a ∷ l) z e (suc j) h =
      rw (add-suc, ← suc-add) (place_from (suc i) l z (both (test i a) (every_place test (suc i) l) e).right j (omega arith))

  -- so one test of the whole list is the rule at each of its places
  pub every_place_at : (l : List A) (z : A) → every_place test 0 l ≡ true → (j : ℕ) → j < length l → test j (get_or l j z) ≡ true
  every_place_at l z e j h = rw zero-add at (place_from 0 l z e j h)

-- ---- of a list made of others

module _ {A : Type 0} (test : A → Bool) where
  pub every_append : (l m : List A) → every test l ≡ true → every test m ≡ true → every test (l ++ m) ≡ true
  unfolding every
  every_append [] m p q = q
  every_append (a ∷ l) m p q = let b = both (test a) (every test l) p in and_both b.left (every_append l m b.right q)

  -- the front of two lists
  pub every_front : (l m : List A) → every test (l ++ m) ≡ true → every test l ≡ true
  unfolding every
  every_front [] m e = refl
  every_front (a ∷ l) m e = let b = both (test a) (every test (l ++ m)) e in and_both b.left (every_front l m b.right)

  pub every_take : (n : ℕ) (l : List A) → every test l ≡ true → every test (take n l) ≡ true
  unfolding every
  every_take zero l p = refl
  every_take (suc n) [] p = refl
  every_take (suc n) (a ∷ l) p = let b = both (test a) (every test l) p in and_both b.left (every_take n l b.right)

  pub every_drop : (n : ℕ) (l : List A) → every test l ≡ true → every test (drop n l) ≡ true
  unfolding every
  every_drop zero l p = p
  every_drop (suc n) [] p = refl
  every_drop (suc n) (a ∷ l) p = every_drop n l (both (test a) (every test l) p).right

  -- what each element becomes passes another test
  pub every_map : {B : Type 0} (f : A → B) (other : B → Bool) → ((a : A) → test a ≡ true → other (f a) ≡ true) → (l : List A)
      → every test l ≡ true → every other (map f l) ≡ true
  unfolding every
  every_map f other h [] p = refl
  every_map f other h (a ∷ l) p = let b = both (test a) (every test l) p in and_both (h a b.left) (every_map f other h l b.right)

  pub every_other : (other : A → Bool) → ((a : A) → test a ≡ true → other a ≡ true) → (l : List A) → every test l ≡ true → every other l ≡ true
  unfolding every
  every_other other h [] p = refl
  every_other other h (a ∷ l) p = let b = both (test a) (every test l) p in and_both (h a b.left) (every_other other h l b.right)

  -- what passes from the front passes from the back
  pub every_reversed : (l : List A) → every test l ≡ true → every test (reverse l) ≡ true
  unfolding every
  every_reversed [] e = refl
  every_reversed (a ∷ l) e =
      let b = both (test a) (every test l) e in
      rw (reverse-cons a l) (every_append (reverse l) (a ∷ []) (every_reversed l b.right) (and_both b.left refl))

  -- the last of a list
  pub every_last : (l : List A) (a : A) → every test (l ++ (a ∷ [])) ≡ true → test a ≡ true
  unfolding every
  every_last [] a e = (both (test a) true e).left
  every_last (b ∷ l) a e = every_last l a (both (test b) (every test (l ++ (a ∷ []))) e).right
