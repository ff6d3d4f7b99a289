-- Masters whose IDs stand in lent words. Assumes nothing.
use Prim.Native.Nat.{ℕ, zero, suc, ◌≤◌, ◌<◌}
use mathlib.Core.Path.{◌≡◌, refl, sym, ap, ◌∙◌}
use mathlib.Core.Bool.{Bool}
use mathlib.Core.List.{List, [], ◌∷◌, ◌++◌, map}
use native.Mathlib.Omega.{arith}
use lib.ListN.{length, get_or, take, drop, length-map, get_or-map, get_or-append}
use lib.Seq.{length-take-le, get_or-take, ext_get_or}
use Rattle.basics.specs.Lists.{every}
use Rattle.spec_util.specs.Walk.{no_tag, ShownIds, Shown}
use Rattle.spec_util.specs.declared.types.OpenTag.{OpenTag}
use Rattle.decoder_look.specs.Summary.{ShownInFront}

module _ {A : Type 0} (f : OpenTag → A) (l : List OpenTag) {n : ℕ} (many : length l ≡ n) (past xs : List A) (left : xs ≡ map f l ++ past) where
  -- words with a value of each master in front show it at each place
  in_front_lem : (i : ℕ) → i < n → get_or xs i (f no_tag) ≡ f (get_or l i no_tag)
  in_front_lem i h =
      let k : i < length (map f l) = omega (arith, many, length-map l f) in
      ap (λ (x : List A). get_or x i (f no_tag)) left ∙ get_or-append (map f l) past (f no_tag) i k ∙ get_or-map f l i no_tag

-- masters in front of lent words are shown by them
pub shown_in_front : {ids ids' : List ℕ} {knowns knowns' : List Bool} {n : ℕ} {l : List OpenTag} → ShownInFront ids ids' knowns knowns' n l → Shown ids' knowns' n l
shown_in_front {ids' = ids'} {knowns' = knowns'} {l = l} s =
    record {
      shown_ids = record { many = s.many; ids_are = in_front_lem (λ m. m.id) l s.many _ ids' s.ids_left };
      knowns_are = in_front_lem (λ m. m.known) l s.many _ knowns' s.knowns_left;
    }

abbrev id_of : OpenTag → ℕ
id_of m = m.id

-- the first n words are the masters' IDs
shown_are : {ids : List ℕ} {n : ℕ} {l : List OpenTag} → n ≤ length ids → ShownIds ids n l → take n ids ≡ map id_of l
shown_are {ids} {n} {l} h shown =
    let many : length (take n ids) ≡ n = length-take-le n ids h in
    ext_get_or 0 (take n ids) (map id_of l) (many ∙ sym (length-map l id_of ∙ shown.many))
    (λ i k. let j = rw many at k in get_or-take n ids i 0 j ∙ shown.ids_are i j ∙ sym (get_or-map id_of l i no_tag))

-- a test of the IDs above the first k is one of the masters
every_id : (test : ℕ → Bool) (k : ℕ) (l : List OpenTag) → every test (drop k (map id_of l)) ≡ every (λ m. test m.id) (drop k l)
unfolding every
every_id test zero [] = refl
every_id test zero (m ∷ l) = rw (every_id test zero l)
every_id test (suc k) [] = refl
every_id test (suc k) (m ∷ l) = every_id test k l

-- a test of the IDs above the first k is that of the masters
pub every_shown : (test : ℕ → Bool) (k : ℕ) {ids : List ℕ} {n : ℕ} {l : List OpenTag} → n ≤ length ids → ShownIds ids n l
    → every test (drop k (take n ids)) ≡ every (λ m. test m.id) (drop k l)
every_shown test k {l = l} h shown = rw (shown_are h shown) (every_id test k l)
