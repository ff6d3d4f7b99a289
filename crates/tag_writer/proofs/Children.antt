-- One child more in the innermost of the open masters, and so many of them, on the masters as a list. Assumes nothing.
use Prim.Native.Nat.{ℕ, zero, suc, ◌+◌, ◌-◌}
use mathlib.Core.Path.{◌≡◌, refl, sym, ap, ◌∙◌}
use mathlib.Core.List.{List, [], ◌∷◌, ◌++◌}
use native.Mathlib.Omega.{arith}
use lib.ListN.{length, replicate}
use Rattle.basics.specs.Lists.{array_places, filled}
use Rattle.spec_util.specs.Walk.{no_tag}
use Rattle.spec_util.specs.declared.types.OpenTag.{OpenTag}
use Rattle.decoder_rules.specs.Record.{with_one_more, counted_last}
use Rattle.tag_writer.proofs.Placing.{ids_of}
use Rattle.tag_writer.proofs.Standing.{All}

-- these masters with one child more in the innermost, which is the last of them
abbrev pub once_more : List OpenTag → List OpenTag
once_more st = counted_last (length st) st

-- with n children more
unfoldable pub times_more : ℕ → List OpenTag → List OpenTag
times_more zero st = st
times_more (suc n) st = times_more n (once_more st)

-- a master with another count
abbrev pub with_count : ℕ → OpenTag → OpenTag
with_count n m = record { id = m.id; known = m.known; size = m.size; tag_start = m.tag_start; data_start = m.data_start; count = n }

-- ---- one child more

-- the last of them has it
pub more_last : (st : List OpenTag) (m : OpenTag) → once_more (st ++ (m ∷ [])) ≡ st ++ (with_one_more m ∷ [])
unfolding counted_last
more_last [] m = refl
more_last (x ∷ []) m = refl
more_last (x ∷ y ∷ st) m = ap (λ (l : List OpenTag). x ∷ l) (more_last (y ∷ st) m)

-- they are as many
pub more_length : (st : List OpenTag) → length (once_more st) ≡ length st
unfolding counted_last
more_length [] = refl
more_length (x ∷ []) = refl
more_length (x ∷ y ∷ st) = ap suc (more_length (y ∷ st))

-- and have the same IDs
pub more_ids : (st : List OpenTag) → ids_of (once_more st) ≡ ids_of st
unfolding counted_last with_one_more
more_ids [] = refl
more_ids (x ∷ []) = refl
more_ids (x ∷ y ∷ st) = ap (λ (l : List ℕ). x.id ∷ l) (more_ids (y ∷ st))

-- what holds of each after it
pub more_all : {P Q : OpenTag → Type 0} → ((m : OpenTag) → P m → Q m) → ((m : OpenTag) → P m → Q (with_one_more m)) → (st : List OpenTag) → All P st → All Q (once_more st)
unfolding counted_last All
more_all other one [] a = tt
more_all other one (x ∷ []) a = (one x a.0, tt)
more_all other one (x ∷ y ∷ st) a = (other x a.0, more_all other one (y ∷ st) a.1)

more_append : (st r : List OpenTag) → counted_last (length st) (st ++ r) ≡ once_more st ++ r
unfolding counted_last
more_append [] r = refl
more_append (x ∷ []) r = refl
more_append (x ∷ y ∷ st) r = ap (λ (l : List OpenTag). x ∷ l) (more_append (y ∷ st) r)

-- it is so on the record's places
pub more_filled : (st : List OpenTag) → counted_last (length st) (filled no_tag st) ≡ filled no_tag (once_more st)
more_filled st =
    more_append st (replicate (array_places - length st) no_tag)
    ∙ ap (λ (n : ℕ). once_more st ++ replicate (array_places - n) no_tag) (sym (more_length st))

-- ---- n children more

-- the last of them has them
pub times_last : (n : ℕ) (st : List OpenTag) (m : OpenTag) → times_more n (st ++ (m ∷ [])) ≡ st ++ (with_count (m.count + n) m ∷ [])
unfolding times_more with_one_more
times_last zero st m =
    let e : m.count ≡ m.count + 0 = omega arith in
    ap (λ (c : ℕ). st ++ (with_count c m ∷ [])) e
times_last (suc n) st m =
    let e : m.count + 1 + n ≡ m.count + suc n = omega arith in
    ap (times_more n) (more_last st m) ∙ times_last n st (with_one_more m) ∙ ap (λ (c : ℕ). st ++ (with_count c m ∷ [])) e

-- where it had none, it has n
pub times_new : (n : ℕ) (st : List OpenTag) (m : OpenTag) → m.count ≡ 0 → times_more n (st ++ (m ∷ [])) ≡ st ++ (with_count n m ∷ [])
times_new n st m z =
    let e : m.count + n ≡ n = omega arith in
    times_last n st m ∙ ap (λ (c : ℕ). st ++ (with_count c m ∷ [])) e
