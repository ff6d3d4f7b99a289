-- A list that is mapped, its front, its rest and its other end, and what tests make of it. Assumes nothing.
use Prim.Native.Nat.{ℕ, zero, suc, ◌+◌}
use mathlib.Core.Path.{◌≡◌, refl, sym, ap, ◌∙◌}
use mathlib.Core.Bool.{Bool, cond, ◌&&◌}
use mathlib.Core.List.{List, [], ◌∷◌, ◌++◌, map, reverse, reverse-cons, map-append}
use lib.ListN.{get_or, take, drop, get_or-map}
use Rattle.basics.specs.Lists.{every, first_index}

-- a list from its other end
pub map_reversed : {A B : Type 0} (f : A → B) (l : List A) → map f (reverse l) ≡ reverse (map f l)
map_reversed f [] = refl
map_reversed f (a ∷ l) =
    ap (map f) (reverse-cons a l) ∙ map-append f (reverse l) (a ∷ []) ∙ ap (λ (k : List _). k ++ (f a ∷ [])) (map_reversed f l)
    ∙ sym (reverse-cons (f a) (map f l))

-- the first of what a list becomes
pub take-map : {A B : Type 0} (f : A → B) (n : ℕ) (l : List A) → take n (map f l) ≡ map f (take n l)
take-map f zero l = refl
take-map f (suc n) [] = refl
take-map f (suc n) (a ∷ l) = ap (λ (k : List _). f a ∷ k) (take-map f n l)

-- the rest of what a list becomes
pub drop-map : {A B : Type 0} (f : A → B) (n : ℕ) (l : List A) → drop n (map f l) ≡ map f (drop n l)
drop-map f zero l = refl
drop-map f (suc n) [] = refl
drop-map f (suc n) (a ∷ l) = drop-map f n l

module _ {A : Type 0} (f : A → A) where
  -- what a list becomes does not change once more, where no element does
  pub map_twice : ((a : A) → f (f a) ≡ f a) → (l : List A) → map f (map f l) ≡ map f l
  map_twice h [] = refl
  map_twice h (a ∷ l) = rw (h a) (ap (λ (k : List A). f a ∷ k) (map_twice h l))

  -- an element of it, where what stands for a missing one stays as it is
  pub map_at : (z : A) → f z ≡ z → (l : List A) (i : ℕ) → get_or (map f l) i z ≡ f (get_or l i z)
  map_at z e l i = ap (get_or (map f l) i) (sym e) ∙ get_or-map f l i z

module _ {A B : Type 0} (f : A → B) (test : B → Bool) (other : A → Bool) (same : (a : A) → test (f a) ≡ other a) where
  -- every element of it passes where every one of the list does
  pub every_mapped : (l : List A) → every test (map f l) ≡ every other l
  unfolding every
  every_mapped [] = refl
  every_mapped (a ∷ l) = rw (same a) (ap (λ (b : Bool). other a && b) (every_mapped l))

  -- and the first that passes stands where it does in the list
  pub first_mapped : (l : List A) → first_index test (map f l) ≡ first_index other l
  unfolding first_index
  first_mapped [] = refl
  first_mapped (a ∷ l) = rw (same a) (ap (λ (n : ℕ). cond (other a) 0 (n + 1)) (first_mapped l))
