-- A record's words and the record of words: words that are taken are the words of the record that they hold, and a
-- record's words are taken and hold the record, cleaned. Assumes nothing.
use Prim.Native.Nat.{ℕ, zero, suc, ◌+◌, ◌*◌, ◌-◌, ◌≤◌, ◌<◌}
use mathlib.Core.Path.{◌≡◌, refl, sym, ap, ap₂, ◌∙◌}
use mathlib.Core.Bool.{Bool, true, false, ◌&&◌}
use mathlib.Core.List.{List, [], ◌∷◌, ◌++◌, map, flat_map}
use native.Mathlib.Nat.{mul-suc, mul-zero}
use native.Mathlib.Omega.{arith}
use borrow.Author.Tests.{leb-true, eqb-true, ne_eqb}
use lib.Dec.{eqb}
use lib.ListN.{length, get_or, take, drop, replicate, length-take, length-drop, length-map, drop_of_length-le, take-append-drop}
use lib.Seq.{take-add, drop-cons, drop-drop, length-take-le}
use Rattle.basics.specs.Lists.{array_places, every}
use Rattle.basics.proofs.Bools.{both, and_both}
use Rattle.basics.proofs.Every.{every_at}
use Rattle.spec_util.specs.Walk.{no_tag}
use Rattle.spec_util.specs.declared.types.OpenTag.{OpenTag}
use Rattle.decoder_rules.specs.Record.{no_end}
use Rattle.decoder_rules.specs.declared.types.TagDecoder.{TagDecoder}
use Rattle.decoder_rules.specs.declared.types.WaitingEnd.{WaitingEnd}
use Rattle.stored_decoder.specs.Words.{word_count, rest_count, yes_no, present, master_words, end_words, front_words, decoder_words, places, masters_in, ends_in, is_yes, master_of, end_of, settings_of, record_of, clean_tag}
use Rattle.stored_decoder.specs.Check.{is_yes_no, all_zero, good_value, good_front, good_master, good_end, good_places, good_words}
use Rattle.stored_decoder.proofs.InPlaces.{word_at, places-length, all_zero_lem, zeros_zero}
use Rattle.stored_decoder.proofs.Written.{front_of, masters_of, ends_of}

-- ---- yes or no, there or not

-- a yes-or-no word that is at most 1 is that of what it says
yes_no_back : (w : ℕ) → is_yes_no w ≡ true → yes_no (is_yes w) ≡ w
yes_no_back zero e = refl
yes_no_back (suc zero) e = refl
yes_no_back (suc (suc n)) e = absurd (omega (arith, leb-true (suc (suc n)) 1 e))

-- and a value beside it that is unused where it says no
value_back : (w v : ℕ) → good_value w v ≡ true → present (is_yes w) v ≡ v
unfolding good_value
value_back zero v e = sym (eqb-true v 0 e)
value_back (suc n) v e = let f : eqb (suc n) 0 ≡ false = ne_eqb (suc n) 0 (λ q. omega arith) in rw f

-- the other way
pub yes_of_no : (b : Bool) → is_yes (yes_no b) ≡ b
yes_of_no true = refl
yes_of_no false = refl

pub yes_no_good : (b : Bool) → is_yes_no (yes_no b) ≡ true
yes_no_good true = refl
yes_no_good false = refl

pub value_good : (b : Bool) (v : ℕ) → good_value (yes_no b) (present b v) ≡ true
unfolding good_value
value_good true v = refl
value_good false v = refl

-- ---- the first words of a list, by their places

firsts : ℕ → ℕ → List ℕ → List ℕ
firsts zero i w = drop i w
firsts (suc n) i w = get_or w i 0 ∷ firsts n (suc i) w

firsts_all : (n i : ℕ) (w : List ℕ) → i + n ≤ length w → drop i w ≡ firsts n i w
unfolding firsts
firsts_all zero i w h = refl
firsts_all (suc n) i w h = drop-cons w i 0 (omega arith) ∙ ap (λ (l : List ℕ). get_or w i 0 ∷ l) (firsts_all n (suc i) w (omega arith))

-- ---- one place

master_back : (v : List ℕ) → length v ≡ 6 → good_master v ≡ true → master_words (master_of v) ≡ v
unfolding master_words master_of good_master firsts
master_back v h e =
    let b = both (is_yes_no (get_or v 1 0)) (good_value (get_or v 1 0) (get_or v 2 0)) e in
    rw (yes_no_back (get_or v 1 0) b.left, value_back (get_or v 1 0) (get_or v 2 0) b.right)
    (sym (firsts_all 6 0 v (omega arith) ∙ ap (λ (l : List ℕ). get_or v 0 0 ∷ get_or v 1 0 ∷ get_or v 2 0 ∷ get_or v 3 0 ∷ get_or v 4 0 ∷ get_or v 5 0 ∷ l) (drop_of_length-le v {i = 6} (omega arith))))

end_back : (v : List ℕ) → length v ≡ 3 → good_end v ≡ true → end_words (end_of v) ≡ v
unfolding end_words end_of firsts
end_back v h e = sym (firsts_all 3 0 v (omega arith) ∙ ap (λ (l : List ℕ). get_or v 0 0 ∷ get_or v 1 0 ∷ get_or v 2 0 ∷ l) (drop_of_length-le v {i = 3} (omega arith)))

pub master_good : (m : OpenTag) → good_master (master_words m) ≡ true
unfolding master_words good_master
master_good m = and_both (yes_no_good m.known) (value_good m.known m.size)

pub master_of_lem : (m : OpenTag) → master_of (master_words m) ≡ clean_tag m
unfolding master_words master_of clean_tag
master_of_lem m = rw (yes_of_no m.known)

pub end_of_lem : (e : WaitingEnd) → end_of (end_words e) ≡ e
unfolding end_words end_of
end_of_lem e = refl

-- ---- 32 places, of which n are in use

module _ {A : Type 0} (words : A → List ℕ) (of : List ℕ → A) (none : A) (test : List ℕ → Bool) (size : ℕ) (empty : words none ≡ replicate size 0) where
  module _ (back : (v : List ℕ) → length v ≡ size → test v ≡ true → words (of v) ≡ v) where
    -- places that are taken are those of what they hold; r of them are not in use
    places_back : (k n r : ℕ) (w : List ℕ) → length (take n (map of (places size k w))) + r ≡ k → size * k ≤ length w → good_places test n (places size k w) ≡ true
        → flat_map words (take n (map of (places size k w)) ++ replicate r none) ≡ take (size * k) w
    unfolding flat_map places good_places every
    places_back zero zero zero w q h e = rw (mul-zero size)
    places_back zero zero (suc r) w q h e = absurd (omega arith)
    places_back zero (suc n) zero w q h e = rw (mul-zero size)
    places_back zero (suc n) (suc r) w q h e = absurd (omega arith)
    places_back (suc k) zero zero w q h e = absurd (omega arith)
    places_back (suc k) zero (suc r) w q h e =
        let s = mul-suc size k in
        let b = both (all_zero (take size w)) (every all_zero (places size k (drop size w))) e in
        let z : take size w ≡ replicate size 0 = all_zero_lem (take size w) b.left ∙ ap (λ (j : ℕ). replicate j 0) (length-take-le size w (omega arith)) in
        let m : size + size * k ≡ size * suc k = omega arith in
        ap₂ (λ (x y : List ℕ). x ++ y) (empty ∙ sym z) (places_back k zero r (drop size w) (omega arith) (simp length-drop (omega arith)) b.right)
        ∙ sym (take-add size (size * k) w) ∙ ap (λ (j : ℕ). take j w) m
    places_back (suc k) (suc n) r w q h e =
        let s = mul-suc size k in
        let b = both (test (take size w) && every test (take n (places size k (drop size w)))) (every all_zero (drop n (places size k (drop size w)))) e in
        let t = both (test (take size w)) (every test (take n (places size k (drop size w)))) b.left in
        let m : size + size * k ≡ size * suc k = omega arith in
        ap₂ (λ (x y : List ℕ). x ++ y) (back (take size w) (length-take-le size w (omega arith)) t.left) (places_back k n r (drop size w) (omega arith) (simp length-drop (omega arith)) (and_both t.right b.right))
        ∙ sym (take-add size (size * k) w) ∙ ap (λ (j : ℕ). take j w) m

  module _ (good : (a : A) → test (words a) ≡ true) where
    none_zero : (k : ℕ) → every all_zero (map words (replicate k none)) ≡ true
    unfolding every
    none_zero zero = refl
    none_zero (suc k) = and_both (ap all_zero empty ∙ zeros_zero size) (none_zero k)

    -- places of which the first n hold something are taken; r of them are not in use
    pub places_good : (n : ℕ) (l : List A) (r : ℕ) → length (take n l) + r ≡ length l → good_places test n (map words (take n l ++ replicate r none)) ≡ true
    unfolding good_places every
    places_good zero l r q = none_zero r
    places_good (suc n) [] zero q = refl
    places_good (suc n) [] (suc r) q = absurd (omega arith)
    places_good (suc n) (a ∷ l) r q =
        let m = map words (take n l ++ replicate r none) in
        let b = both (every test (take n m)) (every all_zero (drop n m)) (places_good n l r (omega arith)) in
        and_both (and_both (good a) b.left) b.right

-- ---- the groups

pub masters_empty : master_words no_tag ≡ replicate 6 0
unfolding master_words
masters_empty = refl

pub ends_empty : end_words no_end ≡ replicate 3 0
unfolding end_words
ends_empty = refl

-- what the test of words gives of each group
pub record GoodWords (w : List ℕ) : Type 0 where
  pub front : good_front w ≡ true
  pub masters : good_places good_master (get_or w 10 0) (masters_in w) ≡ true
  pub ends : good_places good_end (get_or w 203 0) (ends_in w) ≡ true
  pub rest : all_zero (drop 300 w) ≡ true

-- where it is passed
pub good_words_lem : (w : List ℕ) → good_words w ≡ true → GoodWords w
unfolding good_words
good_words_lem w e =
    let m = good_places good_master (get_or w 10 0) (masters_in w) in
    let n = good_places good_end (get_or w 203 0) (ends_in w) in
    let r = all_zero (drop 300 w) in
    let a = both (good_front w) (m && (n && r)) e in
    let b = both m (n && r) a.right in
    let c = both n r b.right in
    record { front = a.left; masters = b.left; ends = c.left; rest = c.right }

-- and what makes it pass
pub is_good_words : (w : List ℕ) → GoodWords w → good_words w ≡ true
unfolding good_words
is_good_words w g = and_both g.front (and_both g.masters (and_both g.ends g.rest))

-- the groups of a record's words
pub grouped : (d : TagDecoder) → decoder_words d ≡ front_of d ++ (masters_of d ++ (d.waiting_count ∷ (ends_of d ++ replicate rest_count 0)))
unfolding decoder_words
grouped d = refl

module _ (w : List ℕ) (long : length w ≡ word_count) (good : GoodWords w) where
  -- what each group is
  masters_back : masters_of (record_of w) ≡ take 192 (drop 11 w)
  unfolding record_of
  masters_back =
      let l = map master_of (masters_in w) in
      let n : length l ≡ array_places = length-map (masters_in w) master_of ∙ places-length 6 array_places (drop 11 w) in
      let m : length (take (get_or w 10 0) l) ≤ array_places = simp length-take (omega arith) in
      places_back master_words master_of no_tag good_master 6 masters_empty master_back array_places (get_or w 10 0) (array_places - length (take (get_or w 10 0) l)) (drop 11 w) (omega arith) (simp length-drop (omega arith)) good.masters

  ends_back : ends_of (record_of w) ≡ take 96 (drop 204 w)
  unfolding record_of
  ends_back =
      let l = map end_of (ends_in w) in
      let n : length l ≡ array_places = length-map (ends_in w) end_of ∙ places-length 3 array_places (drop 204 w) in
      let m : length (take (get_or w 203 0) l) ≤ array_places = simp length-take (omega arith) in
      places_back end_words end_of no_end good_end 3 ends_empty end_back array_places (get_or w 203 0) (array_places - length (take (get_or w 203 0) l)) (drop 204 w) (omega arith) (simp length-drop (omega arith)) good.ends

  rest_back : replicate rest_count 0 ≡ drop 300 w
  rest_back =
      let n : rest_count ≡ length (drop 300 w) = omega (arith, length-drop 300 w) in
      ap (λ (k : ℕ). replicate k 0) n ∙ sym (all_zero_lem (drop 300 w) good.rest)

  -- each of n words from o on is yes or no
  yes_no_at : (n o j : ℕ) → j < n → o + n ≤ length w → every is_yes_no (take n (drop o w)) ≡ true → is_yes_no (get_or w (o + j) 0) ≡ true
  yes_no_at n o j h k e =
      let m : length (take n (drop o w)) ≡ n = simp (length-take, length-drop) (omega arith) in
      ap is_yes_no (sym (word_at n o w j h)) ∙ every_at is_yes_no (take n (drop o w)) 0 e j (omega arith)

  front_back : get_or w 0 0 ≡ 2 → front_of (record_of w) ++ drop 11 w ≡ w
  unfolding front_words record_of settings_of good_front firsts
  front_back two =
      let y = every is_yes_no (take 5 (drop 1 w)) in
      let z = every is_yes_no (take 2 (drop 8 w)) in
      let v = good_value (get_or w 5 0) (get_or w 6 0) in
      let a = both (y && z) v good.front in
      let b = both y z a.left in
      let f : w ≡ firsts 11 0 w = firsts_all 11 0 w (omega arith) in
      let w1 = yes_no_back (get_or w 1 0) (yes_no_at 5 1 0 (omega arith) (omega arith) b.left) in
      let w2 = yes_no_back (get_or w 2 0) (yes_no_at 5 1 1 (omega arith) (omega arith) b.left) in
      let w3 = yes_no_back (get_or w 3 0) (yes_no_at 5 1 2 (omega arith) (omega arith) b.left) in
      let w4 = yes_no_back (get_or w 4 0) (yes_no_at 5 1 3 (omega arith) (omega arith) b.left) in
      let w5 = yes_no_back (get_or w 5 0) (yes_no_at 5 1 4 (omega arith) (omega arith) b.left) in
      let w6 = value_back (get_or w 5 0) (get_or w 6 0) a.right in
      let w8 = yes_no_back (get_or w 8 0) (yes_no_at 2 8 0 (omega arith) (omega arith) b.right) in
      let w9 = yes_no_back (get_or w 9 0) (yes_no_at 2 8 1 (omega arith) (omega arith) b.right) in
      cc

  -- words that are taken are the words of the record that they hold
  pub words_own : get_or w 0 0 ≡ 2 → decoder_words (record_of w) ≡ w
  unfolding record_of
  words_own two =
      let last : take 96 (drop 204 w) ++ drop 300 w ≡ drop 204 w = ap (λ (l : List ℕ). take 96 (drop 204 w) ++ l) (sym (drop-drop 96 204 w)) ∙ take-append-drop 96 (drop 204 w) in
      let next : get_or w 203 0 ∷ drop 204 w ≡ drop 203 w = sym (drop-cons w 203 0 (omega arith)) in
      let more : take 192 (drop 11 w) ++ drop 203 w ≡ drop 11 w = ap (λ (l : List ℕ). take 192 (drop 11 w) ++ l) (sym (drop-drop 192 11 w)) ∙ take-append-drop 192 (drop 11 w) in
      grouped (record_of w) ∙ ap₂ (λ (x y : List ℕ). front_of (record_of w) ++ (x ++ y)) masters_back (ap₂ (λ (x y : List ℕ). get_or w 203 0 ∷ (x ++ y)) ends_back rest_back ∙ ap (λ (l : List ℕ). get_or w 203 0 ∷ l) last ∙ next)
      ∙ ap (λ (l : List ℕ). front_of (record_of w) ++ l) more ∙ front_back two
