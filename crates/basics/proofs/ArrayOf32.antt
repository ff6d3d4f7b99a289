-- An array of 32 places as a list: a shorter list that fills its front, and the loops that write it a place at a time.
-- Assumes nothing.
use Prim.Native.Nat.{ℕ, zero, suc, ◌+◌, ◌-◌, ◌≤◌, ◌<◌}
use mathlib.Core.Path.{◌≡◌, refl, sym, ap, ◌∙◌}
use mathlib.Core.List.{List, [], ◌∷◌, ◌++◌, map, reverse, append_assoc, append-nil, map-append, reverse-cons, reverse-append}
use native.Mathlib.Decide.{dec_lt}
use native.Mathlib.Numerals.{add-one}
use native.Mathlib.Omega.{arith}
use lib.ListN.{length, get_or, take, drop, set, replicate, length-append, length-take, length-drop, length-map, length-reverse, length-replicate, get_or-replicate, replicate-append-replicate, drop_of_length-le, get_or-append, get_or-eq_default}
use lib.Seq.{length-take-le, take_all, take-nil, take-suc, drop-cons, take_at, drop_at, set_at, take-append-le, get_or_at, get_or-append-add, get_or-take, get_or-drop, drop-append-le}
use Rattle.basics.specs.Lists.{array_places, filled}

-- what the type says of an array of structs, for its list
pub length_of_map : (X Y : Type 0) (f : X → Y) (l : List X) (n : ℕ) → length (map f l) ≡ n → length l ≡ n
length_of_map X Y f l n h = sym (length-map l f) ∙ h

-- an array whose every element is mapped, an empty place to an empty place
module _ {A : Type 0} (f : A → A) (none : A) (stays : f none ≡ none) where
  map_empty : (n : ℕ) → map f (replicate n none) ≡ replicate n none
  map_empty zero = refl
  map_empty (suc n) = rw (stays, map_empty n)

  pub map-filled : (l : List A) → map f (filled none l) ≡ filled none (map f l)
  map-filled l =
      map-append f l (replicate (array_places - length l) none)
      ∙ ap (λ (k : List A). map f l ++ k) (map_empty (array_places - length l) ∙ ap (λ (n : ℕ). replicate (array_places - n) none) (sym (length-map l f)))

module _ {A : Type 0} (none : A) where
  -- ---- a list at the front, the other places empty

  pub filled-length : (l : List A) → length l ≤ array_places → length (filled none l) ≡ array_places
  filled-length l h = simp (length-append, length-replicate) (omega arith)

  pub filled_whole : (l : List A) → length l ≡ array_places → filled none l ≡ l
  filled_whole l h = rw h (append-nil l)

  pub filled-take : (l : List A) (n : ℕ) → n ≤ length l → take n (filled none l) ≡ take n l
  filled-take l n h = take-append-le n l _ h

  pub filled_front : (l : List A) (n : ℕ) → length l ≡ n → take n (filled none l) ≡ l
  filled_front l n h = take_at l _ n h

  pub filled_back : (l : List A) (n : ℕ) → length l ≡ n → drop n (filled none l) ≡ replicate (array_places - n) none
  filled_back l n h = rw (drop_at l (replicate (array_places - length l) none) n h, h)

  pub filled_at : (l : List A) (i : ℕ) (z : A) → i < length l → get_or (filled none l) i z ≡ get_or l i z
  filled_at l i z h = get_or-append l _ z i h

  pub filled_at_empty : (l : List A) (i : ℕ) → length l ≤ i → get_or (filled none l) i none ≡ none
  filled_at_empty l i h = go (dec_lt (i - length l) (array_places - length l))
    where
      e : i ≡ length l + (i - length l)
      e = omega arith

      go : Dec (i - length l < array_places - length l) → get_or (filled none l) i none ≡ none
      go (yes k) = ap (λ (j : ℕ). get_or (filled none l) j none) e ∙ get_or-append-add l _ (i - length l) none ∙ get_or-replicate (array_places - length l) (i - length l) none none k
      go (no f) =
          ap (λ (j : ℕ). get_or (filled none l) j none) e ∙ get_or-append-add l _ (i - length l) none
          ∙ get_or-eq_default (replicate (array_places - length l) none) none {n = i - length l} (rw length-replicate (omega arith))

  -- one list for each count
  pub filled_one : (l m : List A) → length l ≡ length m → filled none l ≡ filled none m → l ≡ m
  filled_one l m n e = sym (filled_front l (length m) n) ∙ ap (take (length m)) e ∙ filled_front m (length m) refl

  -- one more at the front
  pub filled_more : (l : List A) (n : ℕ) (x : A) → length l ≡ n → n < array_places → set (filled none l) n x ≡ filled none (l ++ (x ∷ []))
  filled_more l n x e h =
      let r : array_places - length l ≡ suc (array_places - (length l + 1)) = omega arith in
      let s : length (l ++ (x ∷ [])) ≡ length l + 1 = length-append l (x ∷ []) in
      rw (s, r, set_at l none (replicate (array_places - (length l + 1)) none) x n e) (sym (append_assoc l (x ∷ []) (replicate (array_places - (length l + 1)) none)))

  -- one less at the front
  pub filled_less : (l : List A) (n : ℕ) (x : A) → length l ≡ n → n < array_places → set (filled none (l ++ (x ∷ []))) n none ≡ filled none l
  filled_less l n x e h =
      let r : array_places - length l ≡ suc (array_places - (length l + 1)) = omega arith in
      let s : length (l ++ (x ∷ [])) ≡ length l + 1 = length-append l (x ∷ []) in
      rw (s, r, append_assoc l (x ∷ []) (replicate (array_places - (length l + 1)) none), set_at l x (replicate (array_places - (length l + 1)) none) none n e)

  -- the first gone, the others moved down
  pub filled_shift : (l : List A) → length l ≤ array_places → drop 1 (filled none l) ++ (none ∷ []) ≡ filled none (drop 1 l)
  filled_shift [] h = refl
  filled_shift (x ∷ l) h =
      let e : array_places - suc (length l) + 1 ≡ array_places - length l = omega arith in
      append_assoc l (replicate (array_places - suc (length l)) none) (none ∷ []) ∙ rw (replicate-append-replicate (array_places - suc (length l)) 1 none, e)

  -- ---- loops that fill places from the front

  -- with the first elements of a list in turn
  pub filled_next : {B : Type 0} (f : B → A) (l : List B) (i : ℕ) (z : B) → i < length l → length l ≤ array_places
      → set (filled none (map f (take i l))) i (f (get_or l i z)) ≡ filled none (map f (take (i + 1) l))
  filled_next f l i z h k =
      let n : length (map f (take i l)) ≡ i = simp (length-map, length-take) (omega arith) in
      rw (filled_more (map f (take i l)) i (f (get_or l i z)) n (omega arith), add-one, take-suc l i z h, map-append f (take i l) (get_or l i z ∷ []))

  -- with the first n elements of a list, the last of them first; i is the place before, j this one
  pub filled_reversed : {B : Type 0} (f : B → A) (l : List B) (n i j : ℕ) (z : B) → i ≡ j + 1 → j < n → n ≤ length l → n ≤ array_places
      → set (filled none (map f (reverse (drop i (take n l))))) (n - j - 1) (f (get_or l j z)) ≡ filled none (map f (reverse (drop j (take n l))))
  filled_reversed {B} f l n i j z e h k m =
      let t = take n l in
      let x = get_or l j z in
      let r = reverse (drop (suc j) t) in
      let len : length t ≡ n = length-take-le n l k in
      let s : length (map f r) ≡ n - j - 1 = simp (length-map, length-reverse, length-drop) (omega arith) in
      let c : drop j t ≡ x ∷ drop (suc j) t = drop-cons t j z (omega arith) ∙ ap (λ (y : B). y ∷ drop (suc j) t) (get_or-take n l j z h) in
      rw (e, add-one, filled_more (map f r) (n - j - 1) (f x) s (omega arith), c, reverse-cons x (drop (suc j) t), map-append f r (x ∷ []))

  -- the places of a list from the last one on made empty
  pub filled_shorter : (l : List A) (i j : ℕ) → i ≡ j + 1 → j < length l → length l ≤ array_places → set (filled none (take i l)) j none ≡ filled none (take j l)
  filled_shorter l i j e h k = rw (e, add-one, take-suc l j none h) (filled_less (take j l) j (get_or l j none) (length-take-le j l (omega arith)) (omega arith))

-- ---- the first n of a list

-- the front of the rest is the rest of the front
pub take_rest : {A : Type 0} (n : ℕ) (l : List A) → take (n - 1) (drop 1 l) ≡ drop 1 (take n l)
take_rest zero l = refl
take_rest (suc n) [] = take-nil (suc n - 1)
take_rest (suc n) (a ∷ l) = let e : suc n - 1 ≡ n = omega arith in rw e

-- the first of them gone, whatever comes at the end
pub take_shift : {A : Type 0} (l : List A) (n : ℕ) (z : A) → n ≤ length l → take (n - 1) (drop 1 l ++ (z ∷ [])) ≡ drop 1 (take n l)
take_shift l zero z h = refl
take_shift [] (suc n) z h = absurd (omega arith)
take_shift (x ∷ l) (suc n) z h =
    let e : suc n - 1 ≡ n = omega arith in
    rw e (take-append-le n l (z ∷ []) (omega arith))

module _ {A : Type 0} (l : List A) where
  -- where the first n elements are passed, both are empty
  pub drop_past : (n i j : ℕ) → n ≤ i → n ≤ j → drop i (take n l) ≡ drop j (take n l)
  drop_past n i j h k =
      let s : length (take n l) ≤ n = simp length-take (omega arith) in
      drop_of_length-le (take n l) {i = i} (omega arith) ∙ sym (drop_of_length-le (take n l) {i = j} (omega arith))

  -- without the last of the first m
  pub reversed_rest : {B : Type 0} (f : A → B) (m n k : ℕ) (z : A) → m ≡ n + 1 → k ≤ n → n < length l
      → drop 1 (map f (reverse (drop k (take m l)))) ≡ map f (reverse (drop k (take n l)))
  reversed_rest f m n k z e h s =
      let t = take n l in
      let x = get_or l n z in
      let len : k ≤ length t = rw (length-take-le n l (omega arith)) h in
      rw (e, add-one, take-suc l n z s, drop-append-le k t (x ∷ []) len, reverse-append (drop k t) (x ∷ []))

  -- and its first
  pub reversed_head : {B : Type 0} (f : A → B) (m n k : ℕ) (z : A) (w : B) → m ≡ n + 1 → k ≤ n → n < length l
      → get_or (map f (reverse (drop k (take m l)))) 0 w ≡ f (get_or l n z)
  reversed_head f m n k z w e h s =
      let t = take n l in
      let x = get_or l n z in
      let len : k ≤ length t = rw (length-take-le n l (omega arith)) h in
      rw (e, add-one, take-suc l n z s, drop-append-le k t (x ∷ []) len, reverse-append (drop k t) (x ∷ []))

-- ---- a loop that changes each element in its place: after i turns

module _ {A : Type 0} (f : A → A) where
  unfoldable pub changed : ℕ → List A → List A
  changed i l = map f (take i l) ++ drop i l

  pub changed_length : (i : ℕ) (l : List A) → length (changed i l) ≡ length l
  unfolding changed
  changed_length i l = simp (length-append, length-map, length-take, length-drop) (omega arith)

  pub changed_at : (i : ℕ) (l : List A) (z : A) → i < length l → get_or (changed i l) i z ≡ get_or l i z
  unfolding changed
  changed_at i l z h = rw (drop-cons l i z h) (get_or_at (map f (take i l)) (get_or l i z) (drop (suc i) l) z i (simp (length-map, length-take) (omega arith)))

  pub changed_next : (i : ℕ) (l : List A) (z : A) → i < length l → set (changed i l) i (f (get_or l i z)) ≡ changed (i + 1) l
  unfolding changed
  changed_next i l z h =
      let p = map f (take i l) in
      rw (drop-cons l i z h, set_at p (get_or l i z) (drop (suc i) l) (f (get_or l i z)) i (simp (length-map, length-take) (omega arith)), add-one, take-suc l i z h, map-append f (take i l) (get_or l i z ∷ []))
      (sym (append_assoc p (f (get_or l i z) ∷ []) (drop (suc i) l)))

-- ---- a loop that moves each element one place down: after i turns

module _ {A : Type 0} where
  unfoldable pub moved : ℕ → List A → List A
  moved i l = take i (drop 1 l) ++ drop i l

  pub moved_length : (i : ℕ) (l : List A) → i < length l → length (moved i l) ≡ length l
  unfolding moved
  moved_length i l h = simp (length-append, length-take, length-drop) (omega arith)

  pub moved_at : (i : ℕ) (l : List A) (z : A) → i + 1 < length l → get_or (moved i l) (i + 1) z ≡ get_or l (i + 1) z
  unfolding moved
  moved_at i l z h =
      let p = take i (drop 1 l) in
      let n : length p ≡ i = simp (length-take, length-drop) (omega arith) in
      ap (λ (j : ℕ). get_or (p ++ drop i l) (j + 1) z) (sym n) ∙ get_or-append-add p (drop i l) 1 z ∙ get_or-drop i l 1 z

  pub moved_next : (i : ℕ) (l : List A) (z : A) → i + 1 < length l → set (moved i l) i (get_or l (i + 1) z) ≡ moved (i + 1) l
  unfolding moved
  moved_next i l z h =
      let p = take i (drop 1 l) in
      let n : length p ≡ i = simp (length-take, length-drop) (omega arith) in
      let m : i < length (drop 1 l) = simp length-drop (omega arith) in
      let o : 1 + i ≡ suc i = omega arith in
      rw (drop-cons l i z (omega arith), set_at p (get_or l i z) (drop (suc i) l) (get_or l (i + 1) z) i n)
      (sym (rw (add-one, take-suc (drop 1 l) i z m, get_or-drop 1 l i z, o) (append_assoc p (get_or l (suc i) z ∷ []) (drop (suc i) l))))

  pub moved_last : (l : List A) (n : ℕ) (none : A) → length l ≡ n + 1 → set (moved n l) n none ≡ drop 1 l ++ (none ∷ [])
  unfolding moved
  moved_last l n none h =
      let m : length (drop 1 l) ≡ n = simp length-drop (omega arith) in
      rw (take_all n (drop 1 l) (omega arith), drop-cons l n none (omega arith), set_at (drop 1 l) (get_or l n none) (drop (suc n) l) none n m, drop_of_length-le l {i = suc n} (omega arith))
