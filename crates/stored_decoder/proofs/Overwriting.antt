-- A list that is written over another from some place on: in parts, one after the other, and place by place. Assumes
-- nothing.
use Prim.Native.Nat.{ℕ, zero, suc, ◌+◌, ◌*◌, ◌-◌, ◌≤◌, ◌<◌}
use mathlib.Core.Path.{◌≡◌, refl, sym, ap, ◌∙◌}
use mathlib.Core.List.{List, [], ◌∷◌, ◌++◌, map, flat_map, append_assoc, append-nil, map-append}
use native.Mathlib.Nat.{mul-zero, mul-suc, mul-le-mul_left, add-zero}
use native.Mathlib.Numerals.{add-one}
use native.Mathlib.Omega.{arith}
use borrow.Rule.Slice.PartMut.{put_mid}
use lib.ListN.{length, get_or, set, take, drop, replicate, length-append, length-take, length-drop, length-map, drop_of_length-le, take-append-drop, replicate-append-replicate, length-replicate}
use lib.Seq.{sets, sets-eq, set_split, take_at, take-suc, take_all, drop-drop, drop-append-add, length-take-le}
use Rattle.stored_decoder.specs.Words.{word_count, rest_count}
use Rattle.stored_decoder.specs.Writing.{over}

module _ {A : Type 0} where
  -- nothing written
  pub over_none : (i : ℕ) (m : List A) → m ≡ over i [] m
  unfolding over
  over_none i m = rw (add-zero i) (sym (take-append-drop i m))

  -- what is written keeps the length
  pub over-length : (i : ℕ) (l m : List A) → i + length l ≤ length m → length (over i l m) ≡ length m
  unfolding over
  over-length i l m h = simp (length-append, length-take, length-drop) (omega arith)

  -- a second list written behind the first
  pub over_join : (i j : ℕ) (l k m : List A) → j ≡ i + length l → j + length k ≤ length m → over j k (over i l m) ≡ over i (l ++ k) m
  unfolding over
  over_join i j l k m e h =
      let p = take i m ++ l in
      let n : length p ≡ j = length-append (take i m) l ∙ rw (length-take-le i m (omega arith)) (sym e) in
      let whole : take i m ++ (l ++ drop (i + length l) m) ≡ p ++ drop j m = sym (append_assoc (take i m) l _) ∙ ap (λ (x : ℕ). p ++ drop x m) (sym e) in
      let front : take j (p ++ drop j m) ≡ p = take_at p (drop j m) j n in
      let back : drop (j + length k) (p ++ drop j m) ≡ drop (j + length k) m =
      ap (λ (x : ℕ). drop (x + length k) (p ++ drop j m)) (sym n) ∙ drop-append-add p (drop j m) (length k) ∙ drop-drop (length k) j m in
      let last : j + length k ≡ i + length (l ++ k) = rw (length-append l k) (omega arith) in
      rw (whole, front, back, last, append_assoc (take i m) l (k ++ drop (i + length (l ++ k)) m))
      (ap (λ (x : List A). take i m ++ x) (sym (append_assoc l k (drop (i + length (l ++ k)) m))))

  -- one element
  pub over-set : (i : ℕ) (x : A) (m : List A) → i < length m → set m i x ≡ over i (x ∷ []) m
  unfolding over
  over-set i x m h = set_split m i x h ∙ ap (λ (n : ℕ). take i m ++ x ∷ drop n m) (sym (add-one i))

  -- some elements in a row
  pub over_sets : (i : ℕ) (l m : List A) → i + length l ≤ length m → sets m i l ≡ over i l m
  unfolding over
  over_sets i l m h = sets-eq l m i h ∙ append_assoc (take i m) l (drop (i + length l) m)

  -- a list of the same length replaces the other
  pub over_whole : (l m : List A) → length l ≡ length m → over 0 l m ≡ l
  unfolding over
  over_whole l m e = ap (λ (x : List A). l ++ x) (drop_of_length-le m {i = 0 + length l} (omega arith)) ∙ append-nil l

  -- one element more behind those written
  pub over_more : (i j : ℕ) (l : List A) (x : A) (m : List A) → j ≡ i + length l → j < length m → set (over i l m) j x ≡ over i (l ++ (x ∷ [])) m
  over_more i j l x m e h =
      let n : length (over i l m) ≡ length m = over-length i l m (omega arith) in
      over-set j x (over i l m) (rw n h) ∙ over_join i j l (x ∷ []) m e (omega arith)

  -- one 0 more of a row of the same
  pub over_same : (i n : ℕ) (x : A) (m : List A) → i + n < length m → set (over i (replicate n x) m) (i + n) x ≡ over i (replicate (n + 1) x) m
  over_same i n x m h =
      over_more i (i + n) (replicate n x) x m (simp length-replicate) h ∙ ap (λ (l : List A). over i l m) (replicate-append-replicate n 1 x)

-- ---- lists joined

module _ {A B : Type 0} (f : A → List B) where
  pub flat_append : (l m : List A) → flat_map f (l ++ m) ≡ flat_map f l ++ flat_map f m
  unfolding flat_map
  flat_append [] m = refl
  flat_append (a ∷ l) m = ap (λ (x : List B). f a ++ x) (flat_append l m) ∙ sym (append_assoc (f a) (flat_map f l) (flat_map f m))

  -- one more of a list's elements
  pub flat_next : (l : List A) (i : ℕ) (z : A) → i < length l → flat_map f (take (i + 1) l) ≡ flat_map f (take i l) ++ f (get_or l i z)
  unfolding flat_map
  flat_next l i z h = rw (add-one i, take-suc l i z h, flat_append (take i l) (get_or l i z ∷ []), append-nil (f (get_or l i z)))

-- each element of a list becomes so many
module _ {A B : Type 0} (f : A → List B) (n : ℕ) (l : List A) (z : A) (each : (j : ℕ) → j < length l → length (f (get_or l j z)) ≡ n) where
  pub flat_front : (i : ℕ) → i ≤ length l → length (flat_map f (take i l)) ≡ n * i
  unfolding flat_map
  flat_front zero h = sym (mul-zero n)
  flat_front (suc i) h =
      let k : i < length l = omega arith in
      let e : flat_map f (take (suc i) l) ≡ flat_map f (take i l) ++ f (get_or l i z) = ap (λ (j : ℕ). flat_map f (take j l)) (sym (add-one i)) ∙ flat_next f l i z k in
      rw (e, length-append (flat_map f (take i l)) (f (get_or l i z)), flat_front i (omega arith), each i k, mul-suc n i)

  pub flat_length : length (flat_map f l) ≡ n * length l
  flat_length = ap (λ (k : List A). length (flat_map f k)) (sym (take_all (length l) l (omega arith))) ∙ flat_front (length l) (omega arith)

  -- a turn of a loop that writes them in their places
  pub over_next : (o i : ℕ) (m : List B) → i < length l → o + n * length l ≤ length m
      → over (o + n * i) (f (get_or l i z)) (over o (flat_map f (take i l)) m) ≡ over o (flat_map f (take (i + 1) l)) m
  over_next o i m h k =
      let s = flat_front i (omega arith) in
      let t : n * suc i ≤ n * length l = mul-le-mul_left n (omega arith) in
      let u = mul-suc n i in
      let v = each i h in
      over_join o (o + n * i) (flat_map f (take i l)) (f (get_or l i z)) m (omega arith) (omega arith) ∙ ap (λ (x : List B). over o x m) (sym (flat_next f l i z h))

-- a turn of a loop that writes what each element of a list becomes
pub over_mapped : {A B : Type 0} (f : A → B) (l : List A) (i : ℕ) (z : A) (m : List B) → i < length l → length l ≤ length m
    → set (over 0 (map f (take i l)) m) i (f (get_or l i z)) ≡ over 0 (map f (take (i + 1) l)) m
over_mapped {A} {B} f l i z m h k =
    let n : length (map f (take i l)) ≡ i = length-map (take i l) f ∙ length-take-le i l (omega arith) in
    over_more 0 i (map f (take i l)) (f (get_or l i z)) m (omega arith) (omega arith)
    ∙ ap (λ (x : List B). over 0 x m) (sym (map-append f (take i l) (get_or l i z ∷ [])) ∙ ap (map f) (sym (ap (λ (j : ℕ). take j l) (add-one i) ∙ take-suc l i z h)))

-- one element more of a list that is copied
pub over_copied : {A : Type 0} (o : ℕ) (l : List A) (i : ℕ) (z : A) (m : List A) → i < length l → o + i < length m
    → set (over o (take i l) m) (o + i) (get_or l i z) ≡ over o (take (i + 1) l) m
over_copied {A} o l i z m h k =
    let n : length (take i l) ≡ i = length-take-le i l (omega arith) in
    over_more o (o + i) (take i l) (get_or l i z) m (omega arith) k ∙ ap (λ (x : List A). over o x m) (sym (ap (λ (j : ℕ). take j l) (add-one i) ∙ take-suc l i z h))

-- a list written over the front of a part that is lent
pub over_part : {A : Type 0} (o : ℕ) (l m : List A) → o + length l ≤ length m
    → take o m ++ ((l ++ drop (length l) (take (length m - o) (drop o m))) ++ drop (length m - o) (drop o m)) ≡ over o l m
unfolding over
over_part o l m h =
    let n : length (drop o m) ≡ length m - o = length-drop o m in
    rw (take_all (length m - o) (drop o m) (omega arith), drop_of_length-le (drop o m) {i = length m - o} (omega arith), append-nil (l ++ drop (length l) (drop o m)), drop-drop (length l) o m)

-- a list put in place of a part of its length
pub over_put : {A : Type 0} (o n : ℕ) (l m : List A) → length l ≡ n → put_mid o n m l ≡ over o l m
unfolding over
over_put o n l m e = ap (λ (x : _). take o m ++ (l ++ x)) (drop-drop n o m ∙ ap (λ (k : ℕ). drop (o + k) m) (sym e))

-- zeros over the words from word 300 on, however many these are said to be
pub zeros_put : (n : ℕ) (w z : List ℕ) → z ≡ replicate (length (take n (drop 300 w))) 0 → n ≡ rest_count → length w ≡ word_count
    → put_mid 300 n w z ≡ over 300 (replicate rest_count 0) w
zeros_put n w z zeros rest whole =
    let cleared : length (take n (drop 300 w)) ≡ rest_count = simp (length-take, length-drop) (omega (arith, rest, whole)) in
    ap (put_mid 300 n w) (zeros ∙ ap (λ (k : ℕ). replicate k 0) cleared) ∙ over_put 300 n (replicate rest_count 0) w (omega (arith, rest))

-- so many places of so many lie within
pub reach : (o n i k most : ℕ) → i < k → o + n * k ≤ most → o + n * i + n ≤ most
reach o n i k most h m = let t : n * suc i ≤ n * k = mul-le-mul_left n (omega arith) in let u = mul-suc n i in omega arith
