-- RFC 3629: `is_text` is true exactly of the encodings of lists of code points (`sound`, `complete`), and octets after a
-- text are a text where they are one by themselves (`concatenation`). Assumes nothing.
use Prim.Native.Nat.{ℕ, zero, suc, ◌≤◌, ◌<◌}
use mathlib.Core.Path.{◌≡◌, refl, sym, ap, ◌∙◌}
use mathlib.Core.Bool.{Bool, true, false, cond, ◌&&◌, ◌||◌, true≢false, and-eq-true_iff}
use mathlib.Core.Logic.{◌⊎◌, ⊎_elim}
use mathlib.Core.List.{List, [], ◌∷◌, ◌++◌, map, flatten, append-nil, append_assoc}
use native.Mathlib.Omega.{arith}
use native.Mathlib.Decide.{dec_le}
use borrow.Author.Tests.{eqb-true}
use lib.Dec.{eqb}
use lib.ListN.{length, drop, length-drop}
use lib.Seq.{drop-append_seam}
use Rattle.utf8.specs.Rfc3629.{CodePoint, CodePoints, encode, IsText, Range, fits, rows, first_fit, char_length, text_after, is_text}
use Rattle.utf8.proofs.Rows.{least_of, greatest_of, regular, Front, row_sound, row_complete, one_of}
use Rattle.utf8.proofs.Decoding.{encode_one, encode_some}
use Rattle.utf8.proofs.Text.{stop, pass}

-- ---- one character

-- n is the first number of the row, or only surrogates stand between
abbrev goes_on : ℕ → List Range → Bool
goes_on n r = eqb (least_of r) n || (eqb n 0xD800 && eqb (least_of r) 0xE000)

-- every row is regular, and the rows' numbers follow one another from n to 10FFFF, with no gap but the surrogates
abbrev complete_from : ℕ → List (List Range) → Bool
complete_from n [] = eqb n 0x110000
complete_from n (r ∷ t) = regular r && goes_on n r && complete_from (suc (greatest_of r)) t

pub rows_complete : complete_from 0 rows ≡ true
unfolding rows
rows_complete = refl

fit_sound : (t : List (List Range)) (n : ℕ) (s : List ℕ) → complete_from n t ≡ true → 0 < first_fit t s → Front (first_fit t s) s
unfolding first_fit
fit_sound [] n s g h = absurd (omega arith)
fit_sound (r ∷ t) n s g h =
    let u = (and-eq-true_iff _ _).0 g in
    let v = (and-eq-true_iff _ _).0 u.0 in
    go v.0 (fits r s) refl h (fit_sound t _ s u.1)
  where
    go : regular r ≡ true → (x : Bool) → fits r s ≡ x → 0 < cond (fits r s) (length r) (first_fit t s)
        → (0 < first_fit t s → Front (first_fit t s) s) → Front (cond (fits r s) (length r) (first_fit t s)) s
    go w true e h f = rw e (row_sound r s w e).0
    go w false e h f = rw e (f (rw e at h))

-- a character that is found is the encoding of a code point
pub char_sound : (s : List ℕ) → 0 < char_length s → Front (char_length s) s
char_sound s h = fit_sound rows 0 s rows_complete h

-- a code point from n on is no less than the next row's first number
begins : (n c : ℕ) (r : List Range) → goes_on n r ≡ true → n ≤ c → CodePoint c → least_of r ≤ c
begins n c r g l p = ⊎_elim first (λ e. past ((and-eq-true_iff _ _).0 e) p.no_surrogate) (one_of _ _ g)
  where
    first : eqb (least_of r) n ≡ true → least_of r ≤ c
    first e = omega (arith, eqb-true (least_of r) n e)

    past : (eqb n 0xD800 ≡ true) × (eqb (least_of r) 0xE000 ≡ true) → (c < 0xD800) ⊎ (0xDFFF < c) → least_of r ≤ c
    past w o =
        let a = eqb-true n 0xD800 w.0 in
        let b = eqb-true (least_of r) 0xE000 w.1 in
        ⊎_elim (λ (x : c < 0xD800). omega arith) (λ (x : 0xDFFF < c). omega arith) o

-- so it lies in one of the rows
fit_some : (t : List (List Range)) (n c : ℕ) (s : List ℕ) → complete_from n t ≡ true → n ≤ c → CodePoint c → 0 < first_fit t (encode c ++ s)
unfolding first_fit
fit_some [] n c s g l p = absurd (omega (arith, eqb-true n 0x110000 g, p.at_most))
fit_some (r ∷ t) n c s g l p =
    let u = (and-eq-true_iff _ _).0 g in
    let v = (and-eq-true_iff _ _).0 u.0 in
    go v.0 (begins n c r v.1 l p) (dec_le c (greatest_of r)) (λ h. fit_some t (suc (greatest_of r)) c s u.1 h p)
  where
    some : (r : List Range) (x : Bool) (m : ℕ) → regular r ≡ true → 0 < m → 0 < cond x (length r) m
    some [] x m w h = absurd (true≢false (sym w))
    some (f ∷ rs) true m w h = omega arith
    some (f ∷ rs) false m w h = h

    go : regular r ≡ true → least_of r ≤ c → Dec (c ≤ greatest_of r) → (greatest_of r < c → 0 < first_fit t (encode c ++ s))
        → 0 < cond (fits r (encode c ++ s)) (length r) (first_fit t (encode c ++ s))
    go w l (yes h) f = rw (row_complete r c s w l h) (some r true 1 w (omega arith))
    go w l (no h) f = some r (fits r (encode c ++ s)) (first_fit t (encode c ++ s)) w (f (omega arith))

-- the encoding of a code point is found, whatever follows it
pub char_complete : (c : ℕ) (s : List ℕ) → CodePoint c → char_length (encode c ++ s) ≡ length (encode c)
char_complete c s p =
    let f = char_sound (encode c ++ s) (fit_some rows 0 c s rows_complete (omega arith) p) in
    let o = encode_one c f.point s _ p.at_most f.code.at_most f.octets in
    sym (ap (λ (x : ℕ). length (encode x)) o.0 ∙ f.count)

-- ---- texts

char_passed : (c : ℕ) (s : List ℕ) → CodePoint c → is_text (encode c ++ s) ≡ is_text s
char_passed c s p =
    pass (encode c ++ s) (length (encode c)) (char_complete c s p) (encode_some c p.at_most) ∙ ap is_text (drop-append_seam (encode c) s)

points_passed : (cs s : List ℕ) → CodePoints cs → is_text (flatten (map encode cs) ++ s) ≡ is_text s
unfolding flatten
points_passed [] s v = refl
points_passed (c ∷ cs) s v =
    rw (append_assoc (encode c) (flatten (map encode cs)) s) (char_passed c _ v.0 ∙ points_passed cs s v.1)

-- what is a text by section 3 is one by section 4
pub complete : (s : List ℕ) → IsText s → is_text s ≡ true
unfolding text_after
complete s i = ap is_text (sym i.octets ∙ sym (append-nil (flatten (map encode i.points)))) ∙ points_passed i.points [] i.valid

empty : IsText []
unfolding flatten
empty = record { points = []; valid = tt; octets = refl }

-- by induction over a bound of the length
sound_in : (n : ℕ) (s : List ℕ) → length s ≤ n → is_text s ≡ true → IsText s
unfolding flatten
sound_in zero [] l e = empty
sound_in zero (b ∷ s) l e = absurd (omega arith)
sound_in (suc n) [] l e = empty
sound_in (suc n) (b ∷ s) l e = go (dec_le 1 (char_length (b ∷ s))) (sound_in n)
  where
    go : Dec (1 ≤ char_length (b ∷ s)) → ((t : List ℕ) → length t ≤ n → is_text t ≡ true → IsText t) → IsText (b ∷ s)
    go (no h) rest =
        let z : char_length (b ∷ s) ≡ 0 = omega arith in
        absurd (true≢false (sym e ∙ stop (b ∷ s) (omega arith) z))
    go (yes h) rest =
        let k = char_length (b ∷ s) in
        let f = char_sound (b ∷ s) h in
        let i = rest (drop k (b ∷ s)) (omega (arith, length-drop k (b ∷ s))) (sym (pass (b ∷ s) k refl h) ∙ e) in
        record {
          points = f.point ∷ i.points;
          valid = (f.code, i.valid);
          octets = ap (λ (t : List ℕ). encode f.point ++ t) i.octets ∙ sym f.octets;
        }

-- what is a text by section 4 is one by section 3
pub sound : (s : List ℕ) → is_text s ≡ true → IsText s
sound s e = sound_in (length s) s (omega arith) e

pub concatenation : (a b : List ℕ) → is_text a ≡ true → is_text (a ++ b) ≡ is_text b
concatenation a b e =
    let i = sound a e in
    ap (λ (x : List ℕ). is_text (x ++ b)) (sym i.octets) ∙ points_passed i.points b i.valid
