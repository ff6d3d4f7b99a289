-- The outermost Start of known size of a list: what becomes of it as Ends are handed out, as masters close, and as a
-- recovery passes over bytes. Assumes nothing.
use Prim.Native.Nat.{ℕ, ◌+◌, ◌-◌}
use mathlib.Core.Path.{◌≡◌, refl, sym, ap, ◌∙◌}
use mathlib.Core.Bool.{Bool, true}
use mathlib.Core.List.{List, [], ◌∷◌, ◌++◌, map, reverse, reverse-cons, map-append}
use native.Mathlib.Numerals.{add-one}
use native.Mathlib.Omega.{arith}
use borrow.Author.Tests.{leb-true, le-leb}
use lib.ListN.{length, take, drop}
use lib.Seq.{take-nil}
use Rattle.basics.specs.Lists.{every}
use Rattle.spec_util.specs.declared.types.OpenTag.{OpenTag}
use Rattle.decoder_rules.specs.Record.{opens, end_of}
use Rattle.decoder_rules.specs.declared.types.TagDecoder.{TagDecoder}
use Rattle.basics.proofs.Bools.{both}
use Rattle.basics.proofs.Every.{every_append, every_take}
use Rattle.basics.proofs.Maps.{take-map}
use Rattle.guarantees.specs.History.{Started, later_end, later, first_end, outermost_end, left_by_end}
use Rattle.guarantees.proofs.Ends.{known_end, ended_by, first_known, FullBatch, take_reversed}
use Rattle.guarantees.proofs.Tied.{as_started, parent_of, stack, all_ended}
use Rattle.std.specs.Prelude.{None, Option, Some}

-- ---- where nothing waits

-- none waits, so none of those that wait is open
pub none_batch : (w : ℕ) → w ≡ 0 → (p : ℕ) (l : List Started) → ended_by p (outermost_end (take w l)) ≡ true
unfolding outermost_end
none_batch w e p l = rw e

-- ---- an End takes the first away

one_less : (p : ℕ) (m : Started) (l : List Started) → ended_by p (outermost_end (m ∷ l)) ≡ true → ended_by p (outermost_end l) ≡ true
unfolding outermost_end
one_less p m l e = go (outermost_end l) e
  where
    go : (g : Option ℕ) → ended_by p (first_end g m.end) ≡ true → ended_by p g ≡ true
    go None f = refl
    go (Some n) f = f

-- those that wait once the first End is handed out
pub batch_less : (starts : List Started) (left : List ℕ) (w p : ℕ) → ended_by p (outermost_end (take (w + 1) (stack starts left))) ≡ true
    → ended_by p (outermost_end (take w (stack (drop 1 starts) (left_by_end starts left)))) ≡ true
unfolding outermost_end
batch_less [] [] w p e = rw (take-nil w)
batch_less [] (x ∷ left) w p e = one_less p (parent_of x) (take w (map parent_of left)) (rw add-one at e)
batch_less (m ∷ starts) left w p e = one_less p m (take w (stack starts left)) (rw add-one at e)

-- ---- all are full

-- where all have ended, the outermost has
pub all_outermost : (p : ℕ) (l : List Started) → all_ended p l ≡ true → ended_by p (outermost_end l) ≡ true
unfolding every outermost_end
all_outermost p [] e = refl
all_outermost p (m ∷ l) e =
    let b = both (ended_by p m.end) (all_ended p l) e in
    go (outermost_end l) b.left (all_outermost p l b.right)
  where
    go : (g : Option ℕ) → ended_by p m.end ≡ true → ended_by p g ≡ true → ended_by p (first_end g m.end) ≡ true
    go None h f = h
    go (Some n) h f = f

parents_ended : (p : ℕ) (left : List ℕ) → all_ended p (map parent_of left) ≡ true
unfolding every
parents_ended p [] = refl
parents_ended p (x ∷ left) = parents_ended p left

-- so have those that wait
pub all_batch : (p w : ℕ) (starts : List Started) (left : List ℕ) → all_ended p starts ≡ true → ended_by p (outermost_end (take w (stack starts left))) ≡ true
all_batch p w starts left e =
    let test : Started → Bool = λ m. ended_by p m.end in
    all_outermost p (take w (stack starts left)) (every_take test w (stack starts left) (every_append test starts (map parent_of left) e (parents_ended p left)))

-- ---- masters close

outermost_last : (l : List Started) (m : Started) → outermost_end (l ++ (m ∷ [])) ≡ first_end m.end (outermost_end l)
unfolding outermost_end
outermost_last [] m = nothing-first m.end
  where
    nothing-first : (g : Option ℕ) → g ≡ first_end g None
    nothing-first None = refl
    nothing-first (Some e) = refl
outermost_last (a ∷ l) m = ap (λ (g : Option ℕ). first_end g a.end) (outermost_last l m) ∙ two m.end (outermost_end l) a.end
  where
    two : (f g h : Option ℕ) → first_end (first_end f g) h ≡ first_end f (first_end g h)
    two None g h = refl
    two (Some e) g h = refl

-- the outermost of the open masters, from the top down
pub outermost_known : (l : List OpenTag) → outermost_end (map as_started (reverse l)) ≡ first_known l
unfolding outermost_end first_known
outermost_known [] = refl
outermost_known (m ∷ l) =
    ap (λ (k : List OpenTag). outermost_end (map as_started k)) (reverse-cons m l)
    ∙ ap outermost_end (map-append as_started (reverse l) (m ∷ []))
    ∙ outermost_last (map as_started (reverse l)) (as_started m)
    ∙ ap (first_end (known_end m.known (end_of m))) (outermost_known l)

-- the masters above the first n close: their Ends, with the one that is handed out at once, are w
pub batch_closed : (d : TagDecoder) (l : List Started) (n w : ℕ) → l ≡ map as_started (reverse (opens d)) → length (opens d) - n ≡ w → FullBatch d n
    → ended_by d.position (outermost_end (take w l)) ≡ true
batch_closed d l n w e h f =
    let q : take w l ≡ map as_started (reverse (drop n (opens d))) =
    ap (take w) e ∙ take-map as_started w (reverse (opens d)) ∙ ap (map as_started) (ap (λ (i : ℕ). take i (reverse (opens d))) (sym h) ∙ take_reversed (opens d) n) in
    rw (q, outermost_known (drop n (opens d))) f

-- ---- a recovery passes over n bytes

outermost_later : (n : ℕ) (l : List Started) → outermost_end (map (later n) l) ≡ later_end n (outermost_end l)
unfolding outermost_end later
outermost_later n [] = refl
outermost_later n (m ∷ l) = ap (λ (g : Option ℕ). first_end g (later_end n m.end)) (outermost_later n l) ∙ go (outermost_end l) m.end
  where
    go : (g h : Option ℕ) → first_end (later_end n g) (later_end n h) ≡ later_end n (first_end g h)
    go None h = refl
    go (Some e) h = refl

-- an end that has come has come n bytes on
pub ended_grown : (p n : ℕ) (g : Option ℕ) → ended_by p g ≡ true → ended_by (p + n) (later_end n g) ≡ true
ended_grown p n None e = refl
ended_grown p n (Some f) e = le-leb (f + n) (p + n) (omega (arith, leb-true f p e))

-- so it is with those that wait
pub batch_later : (p n w : ℕ) (l m : List Started) → m ≡ map (later n) l → ended_by p (outermost_end (take w l)) ≡ true → ended_by (p + n) (outermost_end (take w m)) ≡ true
batch_later p n w l m q e = rw (q, take-map (later n) w l, outermost_later n (take w l)) (ended_grown p n (outermost_end (take w l)) e)
