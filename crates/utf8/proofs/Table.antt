-- Section 4's table by a first octet: the row that begins with it decides, and where no row does there is no character.
-- Assumes nothing.
use Prim.Native.Nat.{ℕ, suc, ◌+◌, ◌≤◌, ◌<◌}
use mathlib.Core.Path.{◌≡◌, refl, sym, ap, ◌∙◌}
use mathlib.Core.Bool.{Bool, true, false, cond, ◌&&◌, ◌||◌, false≢true, and-eq-true_iff}
use mathlib.Core.List.{List, [], ◌∷◌, ◌++◌, append-nil}
use native.Mathlib.Omega.{arith}
use native.Mathlib.Numerals.{add-one}
use borrow.Author.Tests.{ltb-true}
use lib.Dec.{ltb}
use lib.ListN.{length, get_or, take, drop}
use lib.Seq.{drop-cons}
use Rattle.utf8.specs.Rfc3629.{Range, within, fits, rows, first_fit, char_length, tail}
use Rattle.utf8.specs.Helpers.{following}
use Rattle.utf8.proofs.Fits.{inside, below, above, bounds, length_following}

-- no row begins with an octet of the range
abbrev pub clear : Range → List (List Range) → Bool
clear f [] = true
clear f ([] ∷ t) = false
clear f ((g ∷ gs) ∷ t) = (ltb g.1 f.0 || ltb f.1 g.0) && clear f t

-- an octet of one range is none of a range apart from it
apart : (f g : Range) (b : ℕ) → (ltb g.1 f.0 || ltb f.1 g.0) ≡ true → within f b ≡ true → within g b ≡ false
apart f g b e w = go (bounds f b w) (ltb g.1 f.0) refl e
  where
    go : (f.0 ≤ b) × (b ≤ f.1) → (t : Bool) → ltb g.1 f.0 ≡ t → (t || ltb f.1 g.0) ≡ true → within g b ≡ false
    go h true l e = above g b (omega (arith, ltb-true g.1 f.0 l))
    go h false l e = below g b (omega (arith, ltb-true f.1 g.0 e))

module _ (f : Range) (b : ℕ) (s : List ℕ) (w : within f b ≡ true) where
  skip : (p t : List (List Range)) → clear f p ≡ true → first_fit (p ++ t) (b ∷ s) ≡ first_fit t (b ∷ s)
  unfolding first_fit fits
  skip [] t e = refl
  skip ([] ∷ p) t e = absurd (false≢true e)
  skip ((g ∷ gs) ∷ p) t e =
      let h = (and-eq-true_iff (ltb g.1 f.0 || ltb f.1 g.0) (clear f p)).0 e in
      rw (apart f g b h.0 w) (skip p t h.1)

  none : (t : List (List Range)) → clear f t ≡ true → first_fit t (b ∷ s) ≡ 0
  unfolding first_fit
  none t e = ap (λ (x : List (List Range)). first_fit x (b ∷ s)) (sym (append-nil t)) ∙ skip t [] e

  row : (p t : List (List Range)) (rs : List Range) → clear f p ≡ true → clear f t ≡ true
      → first_fit (p ++ (f ∷ rs) ∷ t) (b ∷ s) ≡ cond (fits rs s) (suc (length rs)) 0
  unfolding first_fit fits
  row p t rs a z = skip p ((f ∷ rs) ∷ t) a ∙ rw (w, none t z)

-- the octet at i lies in the range f
module _ (s : List ℕ) (i : ℕ) (here : i < length s) (f : Range) (low : f.0 ≤ get_or s i 0) (high : get_or s i 0 ≤ f.1) where
  has : within f (get_or s i 0) ≡ true
  has = inside f (get_or s i 0) low high

  pub in_gap : clear f rows ≡ true → char_length (drop i s) ≡ 0
  in_gap e = rw (drop-cons s i 0 here) (none f (get_or s i 0) (drop (suc i) s) has rows e)

  pub in_row : (k n : ℕ) (r : Range) → take k rows ++ (f ∷ following n r) ∷ drop (suc k) rows ≡ rows
      → clear f (take k rows) ≡ true → clear f (drop (suc k) rows) ≡ true
      → char_length (drop i s) ≡ cond (fits (following n r) (drop (i + 1) s)) (n + 1) 0
  in_row k n r e a z =
      rw (add-one i, add-one n, drop-cons s i 0 here, ← e)
      (row f (get_or s i 0) (drop (suc i) s) has (take k rows) (drop (suc k) rows) (following n r) a z
      ∙ rw (length_following n r))

pub ascii_char : (s : List ℕ) (i : ℕ) → i < length s → get_or s i 0 < 0x80 → char_length (drop i s) ≡ 1
unfolding rows following fits
ascii_char s i here low = in_row s i here (0x00, 0x7F) (omega arith) (omega arith) 0 0 tail refl refl refl

-- each row and each gap by the first octet, as the code tells them apart
module _ (s : List ℕ) (i : ℕ) (here : i < length s) where
  pub gap_low : 0x80 ≤ get_or s i 0 → get_or s i 0 < 0xC2 → char_length (drop i s) ≡ 0
  unfolding rows
  gap_low l h = in_gap s i here (0x80, 0xC1) (omega arith) (omega arith) refl

  pub two_octets : 0xC2 ≤ get_or s i 0 → get_or s i 0 < 0xE0 → char_length (drop i s) ≡ cond (fits (following 1 tail) (drop (i + 1) s)) 2 0
  unfolding rows following
  two_octets l h = in_row s i here (0xC2, 0xDF) (omega arith) (omega arith) 1 1 tail refl refl refl

  pub three_first : get_or s i 0 ≡ 0xE0 → char_length (drop i s) ≡ cond (fits (following 2 (0xA0, 0xBF)) (drop (i + 1) s)) 3 0
  unfolding rows following
  three_first e = in_row s i here (0xE0, 0xE0) (omega arith) (omega arith) 2 2 (0xA0, 0xBF) refl refl refl

  pub three_low : 0xE1 ≤ get_or s i 0 → get_or s i 0 < 0xED → char_length (drop i s) ≡ cond (fits (following 2 tail) (drop (i + 1) s)) 3 0
  unfolding rows following
  three_low l h = in_row s i here (0xE1, 0xEC) (omega arith) (omega arith) 3 2 tail refl refl refl

  pub three_no_surrogate : get_or s i 0 ≡ 0xED → char_length (drop i s) ≡ cond (fits (following 2 (0x80, 0x9F)) (drop (i + 1) s)) 3 0
  unfolding rows following
  three_no_surrogate e = in_row s i here (0xED, 0xED) (omega arith) (omega arith) 4 2 (0x80, 0x9F) refl refl refl

  pub three_high : 0xEE ≤ get_or s i 0 → get_or s i 0 < 0xF0 → char_length (drop i s) ≡ cond (fits (following 2 tail) (drop (i + 1) s)) 3 0
  unfolding rows following
  three_high l h = in_row s i here (0xEE, 0xEF) (omega arith) (omega arith) 5 2 tail refl refl refl

  pub four_first : get_or s i 0 ≡ 0xF0 → char_length (drop i s) ≡ cond (fits (following 3 (0x90, 0xBF)) (drop (i + 1) s)) 4 0
  unfolding rows following
  four_first e = in_row s i here (0xF0, 0xF0) (omega arith) (omega arith) 6 3 (0x90, 0xBF) refl refl refl

  pub four_octets : 0xF1 ≤ get_or s i 0 → get_or s i 0 < 0xF4 → char_length (drop i s) ≡ cond (fits (following 3 tail) (drop (i + 1) s)) 4 0
  unfolding rows following
  four_octets l h = in_row s i here (0xF1, 0xF3) (omega arith) (omega arith) 7 3 tail refl refl refl

  pub four_last : get_or s i 0 ≡ 0xF4 → char_length (drop i s) ≡ cond (fits (following 3 (0x80, 0x8F)) (drop (i + 1) s)) 4 0
  unfolding rows following
  four_last e = in_row s i here (0xF4, 0xF4) (omega arith) (omega arith) 8 3 (0x80, 0x8F) refl refl refl

  pub gap_high : 0xF5 ≤ get_or s i 0 → get_or s i 0 < 0x100 → char_length (drop i s) ≡ 0
  unfolding rows
  gap_high l h = in_gap s i here (0xF5, 0xFF) (omega arith) (omega arith) refl

pub ruleset characters = (ascii_char, gap_low, two_octets, three_first, three_low, three_no_surrogate, three_high, four_first, four_octets, four_last, gap_high)
