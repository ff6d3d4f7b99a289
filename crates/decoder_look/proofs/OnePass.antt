-- One pass over the masters l, from the top down: what is known of those from place i on. Assumes nothing.
use Prim.Native.Nat.{ℕ, suc, ◌+◌, ◌-◌, ◌^◌, min, ◌≤◌, ◌<◌}
use mathlib.Core.Path.{◌≡◌, sym, ap, ◌∙◌}
use mathlib.Core.Bool.{Bool, true, false, cond, ◌&&◌}
use mathlib.Core.List.{List, ◌∷◌, ◌++◌, map}
use native.Mathlib.Decide.{dec_le, dec_lt}
use native.Mathlib.Omega.{arith}
use lib.ListN.{length, get_or, set, drop, drop_of_length-le, length-map, length-append, length-drop, get_or-append, get_or-map}
use lib.Seq.{drop-cons, get_or-set_same, get_or-set_other, get_or-append-add, get_or-drop, ext_get_or}
use Rattle.basics.specs.Lists.{every, first_index}
use Rattle.spec_util.specs.Walk.{no_tag}
use Rattle.spec_util.specs.declared.types.OpenTag.{OpenTag}
use Rattle.decoder_rules.specs.OneCall.{good_open, is_full}
use Rattle.decoder_look.specs.Summary.{shown_end, least_end}

-- ---- what is found

-- what was found of the masters from the place i on
pub record Found (p : ℕ) (l : List OpenTag) (sound : Bool) (done least i : ℕ) : Type 0 where
  pub sound_is : sound ≡ every (good_open p) (drop i l)
  pub done_is : done ≡ i + first_index (is_full p) (drop i l)
  pub least_is : least ≡ least_end (drop i l)

module _ (p : ℕ) (l : List OpenTag) where
  -- at the top nothing was looked at yet
  pub found_none : (n : ℕ) → n ≡ length l → Found p l true n (2 ^ 64 - 1) n
  unfolding every first_index least_end
  found_none n e =
      let d = drop_of_length-le l {i = n} (omega arith) in
      let f : first_index (is_full p) (drop n l) ≡ 0 = rw d in
      record { sound_is = rw d; done_is = omega arith; least_is = rw d }

  module _ {i : ℕ} (k : 0 < i) (h : i ≤ length l) (m : OpenTag) (e : m ≡ get_or l (i - 1) no_tag) where
    top : drop (i - 1) l ≡ m ∷ drop i l
    top =
        let n : suc (i - 1) ≡ i = omega arith in
        drop-cons l (i - 1) no_tag (omega arith) ∙ rw (n, ← e)

    -- one master more, below those looked at
    pub found_next : {sound sound2 : Bool} {done done2 least least2 : ℕ} → Found p l sound done least i → sound2 ≡ (good_open p m && sound) → done2 ≡ cond (is_full p m) (i - 1) done
        → least2 ≡ min (shown_end m) least → Found p l sound2 done2 least2 (i - 1)
    unfolding every first_index least_end
    found_next {done = done} f s d t = record {
      sound_is = s ∙ rw (top, f.sound_is);
      done_is = d ∙ go (is_full p m) ∙ rw top;
      least_is = t ∙ rw (top, f.least_is);
    }
      where
        go : (b : Bool) → cond b (i - 1) done ≡ (i - 1) + cond b 0 (first_index (is_full p) (drop i l) + 1)
        go true = omega arith
        go false = omega (arith, f.done_is)

  -- at the bottom it holds of all: whether each is good
  pub found_sound : {sound : Bool} {done least i : ℕ} → Found p l sound done least i → i ≤ 0 → sound ≡ every (good_open p) l
  found_sound {i = i} f z =
      let e : i ≡ 0 = omega arith in
      f.sound_is ∙ ap (λ (n : ℕ). every (good_open p) (drop n l)) e

  -- which is the outermost that is full
  pub found_done : {sound : Bool} {done least i : ℕ} → Found p l sound done least i → i ≤ 0 → done ≡ first_index (is_full p) l
  found_done {i = i} f z =
      let e : i ≡ 0 = omega arith in
      let g : first_index (is_full p) (drop i l) ≡ first_index (is_full p) l = ap (λ (n : ℕ). first_index (is_full p) (drop n l)) e in
      omega (arith, f.done_is)

  -- and the least of their ends
  pub found_least : {sound : Bool} {done least i : ℕ} → Found p l sound done least i → i ≤ 0 → least ≡ least_end l
  found_least {i = i} f z =
      let e : i ≡ 0 = omega arith in
      f.least_is ∙ ap (λ (n : ℕ). least_end (drop n l)) e

-- ---- what is written

-- the places from i on hold a value of each master
abbrev pub Written : {A : Type 0} → (OpenTag → A) → A → List OpenTag → List A → ℕ → Type 0
Written f z l xs i = (j : ℕ) → i ≤ j → j < length l → get_or xs j z ≡ f (get_or l j no_tag)

module _ {A : Type 0} (f : OpenTag → A) (z : A) (l : List OpenTag) (xs : List A) where
  -- at the top nothing is written yet
  pub written_none : (n : ℕ) → n ≡ length l → Written f z l xs n
  written_none n e j a b = absurd (omega arith)

  -- one master more, below those written
  pub written_next : {i : ℕ} → 0 < i → i ≤ length xs → (m : OpenTag) → m ≡ get_or l (i - 1) no_tag → Written f z l xs i → Written f z l (set xs (i - 1) (f m)) (i - 1)
  written_next {i} k h m e w j a b = go (dec_le i j)
    where
      go : Dec (i ≤ j) → get_or (set xs (i - 1) (f m)) j z ≡ f (get_or l j no_tag)
      go (yes g) = get_or-set_other xs (i - 1) j (f m) z (λ q. absurd (omega (arith, q))) ∙ w j g b
      go (no n) =
          let q : j ≡ i - 1 = omega (arith, n) in
          ap (λ (x : ℕ). get_or (set xs (i - 1) (f m)) x z) q ∙ get_or-set_same xs (i - 1) (f m) z (omega arith) ∙ ap f (e ∙ ap (λ (x : ℕ). get_or l x no_tag) (sym q))

-- the places past the masters are as they were
abbrev pub KeptPast : {A : Type 0} → A → List OpenTag → List A → List A → Type 0
KeptPast z l before xs = (j : ℕ) → length l ≤ j → get_or xs j z ≡ get_or before j z

module _ {A : Type 0} (f : OpenTag → A) (z : A) (l : List OpenTag) (before xs : List A) where
  -- one master more is written below them
  pub kept_next : {i : ℕ} → 0 < i → i ≤ length l → (a : A) → KeptPast z l before xs → KeptPast z l before (set xs (i - 1) a)
  kept_next {i} k h a kept j b = get_or-set_other xs (i - 1) j a z (λ q. absurd (omega (arith, q))) ∙ kept j b

  -- at the bottom the masters stand in front of what was past them
  pub written_all : {i : ℕ} → z ≡ f no_tag → i ≤ 0 → length l ≤ length before → length xs ≡ length before → Written f z l xs i → KeptPast z l before xs
      → xs ≡ map f l ++ drop (length l) before
  written_all {i} none e short long w kept = ext_get_or z xs (map f l ++ drop (length l) before) (long ∙ sym all) (λ j b. go j (dec_lt j (length l)))
    where
      n : length (map f l) ≡ length l
      n = length-map l f

      all : length (map f l ++ drop (length l) before) ≡ length before
      all = length-append (map f l) (drop (length l) before) ∙ omega (arith, n, length-drop (length l) before)

      go : (j : ℕ) → Dec (j < length l) → get_or xs j z ≡ get_or (map f l ++ drop (length l) before) j z
      go j (yes h) =
          w j (omega arith) h ∙ sym (get_or-map f l j no_tag) ∙ ap (λ (x : A). get_or (map f l) j x) (sym none)
          ∙ sym (get_or-append (map f l) (drop (length l) before) z j (omega (arith, n)))
      go j (no g) =
          let q : length (map f l) + (j - length l) ≡ j = omega (arith, n, g) in
          let k : length l + (j - length l) ≡ j = omega (arith, g) in
          kept j (omega (arith, g)) ∙ ap (λ (x : ℕ). get_or before x z) (sym k) ∙ sym (get_or-drop (length l) before (j - length l) z)
          ∙ sym (get_or-append-add (map f l) (drop (length l) before) (j - length l) z) ∙ ap (λ (x : ℕ). get_or (map f l ++ drop (length l) before) x z) q
