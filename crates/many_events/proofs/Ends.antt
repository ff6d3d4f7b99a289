-- The masters' ends: the outermost master that is full, by the least of the ends, and the least end of the masters
-- around the top one. Assumes nothing.
use Prim.Native.Nat.{ℕ, ◌+◌, ◌-◌, ◌≤◌, ◌<◌, min}
use mathlib.Core.Bool.{Bool, true, false, cond, ◌&&◌}
use mathlib.Core.List.{List, [], ◌∷◌, ◌++◌, map}
use mathlib.Core.Path.{◌≡◌, refl, sym, ap, ◌∙◌}
use native.Mathlib.Numerals.{add-one}
use native.Mathlib.Omega.{arith}
use borrow.Author.Tests.{lt-leb, le-leb}
use lib.Dec.{leb}
use lib.ListN.{length, get_or, take}
use lib.Seq.{length-take-le, take_all, take-suc}
use Rattle.basics.specs.Lists.{first_index}
use Rattle.basics.proofs.Maps.{take-map}
use Rattle.spec_util.specs.Walk.{no_tag}
use Rattle.spec_util.specs.declared.types.OpenTag.{OpenTag}
use Rattle.decoder_rules.specs.Record.{opens, end_of}
use Rattle.decoder_rules.specs.OneCall.{is_full}
use Rattle.decoder_rules.specs.declared.types.TagDecoder.{TagDecoder}
use Rattle.decoder_look.specs.Summary.{unbounded, shown_end, least_end}

-- a master that ends beyond is not full
not_full : (q : ℕ) (m : OpenTag) → q < shown_end m → is_full q m ≡ false
unfolding shown_end is_full
not_full q m h = go m.known h
  where
    go : (b : Bool) → q < cond b (min (end_of m) unbounded) unbounded → (b && leb (end_of m) q) ≡ false
    go true k = lt-leb (end_of m) q (omega arith)
    go false k = refl

-- one that does not is
full : (q : ℕ) (m : OpenTag) → shown_end m ≤ q → q < unbounded → is_full q m ≡ true
unfolding shown_end is_full
full q m h u = go m.known h
  where
    go : (b : Bool) → cond b (min (end_of m) unbounded) unbounded ≤ q → (b && leb (end_of m) q) ≡ true
    go true k = le-leb (end_of m) q (omega arith)
    go false k = absurd (omega arith)

-- before the least end none is full
pub none_full : (q : ℕ) (l : List OpenTag) → q < least_end l → first_index (is_full q) l ≡ length l
unfolding first_index least_end
none_full q [] h = refl
none_full q (m ∷ l) h = rw (not_full q m (omega arith), none_full q l (omega arith)) (omega arith)

-- the least of numbers
least_of : List ℕ → ℕ
least_of [] = unbounded
least_of (n ∷ l) = min n (least_of l)

least_of_lem : (l : List OpenTag) → least_end l ≡ least_of (map shown_end l)
unfolding least_end least_of
least_of_lem [] = refl
least_of_lem (m ∷ l) = rw (least_of_lem l)

-- of masters with the same ends
pub least_same : (l k : List OpenTag) → map shown_end l ≡ map shown_end k → least_end l ≡ least_end k
least_same l k e = least_of_lem l ∙ ap least_of e ∙ sym (least_of_lem k)

pub front_same : (i : ℕ) (l k : List OpenTag) → map shown_end l ≡ map shown_end k → least_end (take i l) ≡ least_end (take i k)
front_same i l k e = least_same (take i l) (take i k) (sym (take-map shown_end i l) ∙ ap (take i) e ∙ take-map shown_end i k)

-- ---- the top master

least_more : (l : List OpenTag) (m : OpenTag) → least_end (l ++ (m ∷ [])) ≡ min (least_end l) (shown_end m)
unfolding least_end
least_more [] m = omega arith
least_more (x ∷ l) m = rw (least_more l m) (omega arith)

first_last : (q : ℕ) (l : List OpenTag) (m : OpenTag) → q < least_end l → is_full q m ≡ true → first_index (is_full q) (l ++ (m ∷ [])) ≡ length l
unfolding first_index least_end
first_last q [] m h f = rw f
first_last q (x ∷ l) m h f = rw (not_full q x (omega arith), first_last q l m (omega arith) f) (omega arith)

-- it is the only one that is full, before the least end of those around it
pub top_full : (q : ℕ) (l : List OpenTag) (n : ℕ) → length l ≡ n + 1 → q < least_end (take n l) → least_end l ≤ q → q < unbounded → first_index (is_full q) l ≡ n
top_full q l n e h k u =
    let x = get_or l n no_tag in
    let split : take (n + 1) l ≡ take n l ++ (x ∷ []) = rw add-one (take-suc l n no_tag (omega arith)) in
    let whole : l ≡ take n l ++ (x ∷ []) = sym (take_all (n + 1) l (omega arith)) ∙ split in
    let least : least_end l ≡ min (least_end (take n l)) (shown_end x) = ap least_end whole ∙ least_more (take n l) x in
    ap (first_index (is_full q)) whole ∙ first_last q (take n l) x h (full q x (omega arith) u) ∙ length-take-le n l (omega arith)

-- the least end of the masters around the top one, where it is not 0: then there is a top one
pub record Around (o : ℕ) (d : TagDecoder) : Type 0 where
  pub some : 0 < o → 0 < d.open_count
  pub least : 0 < o → o ≡ least_end (take (d.open_count - 1) (opens d))

-- 0 tells nothing
pub around_none : (d : TagDecoder) → Around 0 d
around_none d = record { some = λ h. absurd (omega arith); least = λ h. absurd (omega arith) }
