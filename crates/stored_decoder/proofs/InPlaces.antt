-- Words in places of the same size: what stands in each, and that they are the words again. Assumes nothing.
use Prim.Native.Nat.{ℕ, zero, suc, ◌+◌, ◌*◌, ◌≤◌, ◌<◌}
use mathlib.Core.Path.{◌≡◌, refl, sym, ap, ap₂, ◌∙◌}
use mathlib.Core.Bool.{true, ◌&&◌}
use mathlib.Core.List.{List, [], ◌∷◌, ◌++◌, map, flat_map, append_assoc}
use native.Mathlib.Nat.{mul-suc, mul-zero}
use native.Mathlib.Omega.{arith}
use borrow.Author.Tests.{eqb-true}
use lib.Dec.{eqb}
use lib.ListN.{length, get_or, take, drop, replicate, length-take, length-drop}
use lib.Seq.{take_at, drop_at, take-add, drop-drop, get_or-take, get_or-drop}
use Rattle.std.specs.List.{list_all}
use Rattle.std.specs.Simd.{first_chunks}
use Rattle.basics.specs.Lists.{every}
use Rattle.basics.proofs.Bools.{both}
use Rattle.stored_decoder.specs.Words.{places}
use Rattle.stored_decoder.specs.Check.{all_zero}
use Rattle.stored_decoder.proofs.Overwriting.{reach}

-- ---- the places

pub places-length : (size n : ℕ) (w : List ℕ) → length (places size n w) ≡ n
unfolding places
places-length size zero w = refl
places-length size (suc n) w = ap suc (places-length size n (drop size w))

-- the library's chunks are places
pub chunks_are_places : (size n : ℕ) (w : List ℕ) → first_chunks size n w ≡ places size n w
unfolding places
chunks_are_places size zero w = refl
chunks_are_places size (suc n) w = ap (λ (l : List (List ℕ)). take size w ∷ l) (chunks_are_places size n (drop size w))

-- what stands in place i
pub place_at : (size n : ℕ) (w : List ℕ) (i : ℕ) → i < n → get_or (places size n w) i [] ≡ take size (drop (size * i) w)
unfolding places
place_at size zero w i h = absurd (omega arith)
place_at size (suc n) w zero h = rw (mul-zero size)
place_at size (suc n) w (suc i) h =
    let e : size + size * i ≡ size * suc i = omega (arith, mul-suc size i) in
    place_at size n (drop size w) i (omega arith) ∙ ap (take size) (drop-drop (size * i) size w) ∙ ap (λ (k : ℕ). take size (drop k w)) e

-- the same, of words that begin later
pub place_from : (o size n : ℕ) (w : List ℕ) (i : ℕ) → i < n → get_or (places size n (drop o w)) i [] ≡ take size (drop (o + size * i) w)
place_from o size n w i h = place_at size n (drop o w) i h ∙ ap (take size) (drop-drop (size * i) o w)

-- word k of a place
pub word_at : (size o : ℕ) (w : List ℕ) (k : ℕ) → k < size → get_or (take size (drop o w)) k 0 ≡ get_or w (o + k) 0
word_at size o w k h = get_or-take size (drop o w) k 0 h ∙ get_or-drop o w k 0

-- joined they are the words
pub places-joined : (size n : ℕ) (w : List ℕ) → flat_map (λ v. v) (places size n w) ≡ take (size * n) w
unfolding places flat_map
places-joined size zero w = rw (mul-zero size)
places-joined size (suc n) w =
    let e : size * suc n ≡ size + size * n = omega (arith, mul-suc size n) in
    rw (places-joined size n (drop size w), e) (sym (take-add size (size * n) w))

-- the places of lists that were joined
pub places_of : {A : Type 0} (f : A → List ℕ) (size : ℕ) → ((a : A) → length (f a) ≡ size) → (l : List A) (r : List ℕ)
    → places size (length l) (flat_map f l ++ r) ≡ map f l
unfolding places flat_map
places_of f size each [] r = refl
places_of f size each (a ∷ l) r =
    let e : f a ++ flat_map f l ++ r ≡ f a ++ (flat_map f l ++ r) = append_assoc (f a) (flat_map f l) r in
    rw (e, take_at (f a) (flat_map f l ++ r) size (each a), drop_at (f a) (flat_map f l ++ r) size (each a), places_of f size each l r)

-- ---- zeros

pub all_zero_lem : (w : List ℕ) → all_zero w ≡ true → w ≡ replicate (length w) 0
unfolding every
all_zero_lem [] e = refl
all_zero_lem (x ∷ w) e = let b = both (eqb x 0) (all_zero w) e in ap₂ (λ (y : ℕ) (l : List ℕ). y ∷ l) (eqb-true x 0 b.left) (all_zero_lem w b.right)

-- the library's word for it
pub all_zero_is : (w : List ℕ) → all_zero w ≡ list_all (λ x. eqb x 0) w
unfolding every
all_zero_is [] = refl
all_zero_is (x ∷ w) = ap (λ b. eqb x 0 && b) (all_zero_is w)

pub zeros_zero : (n : ℕ) → all_zero (replicate n 0) ≡ true
unfolding every
zeros_zero zero = refl
zeros_zero (suc n) = zeros_zero n

-- each of them is whole
pub place_size : (o size n : ℕ) (w : List ℕ) (i : ℕ) → i < n → o + size * n ≤ length w → length (get_or (places size n (drop o w)) i []) ≡ size
place_size o size n w i h k =
    let r = reach o size i n (length w) h k in
    rw (place_from o size n w i h) (simp (length-take, length-drop) (omega arith))
