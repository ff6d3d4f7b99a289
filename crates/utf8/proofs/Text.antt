-- `is_text` goes by characters: where none stands in front there is no text, else the text goes on after it (`Passed`,
-- by index). Assumes nothing.
use Prim.Native.Nat.{ℕ, zero, suc, ◌+◌, ◌-◌, ◌≤◌, ◌<◌}
use mathlib.Core.Path.{◌≡◌, refl, sym, ap, ◌∙◌}
use mathlib.Core.Bool.{Bool, true, false, cond}
use mathlib.Core.List.{List, [], ◌∷◌}
use native.Mathlib.Omega.{arith}
use lib.Dec.{ltb}
use native.Mathlib.Nat.{add-zero}
use borrow.Author.Tests.{lt-ltb, ltb-true}
use lib.ListN.{length, get_or, take, drop, length-take, length-drop}
use Rattle.std.specs.List.{fold}
use Rattle.std.specs.Prelude.{bit_or}
use Rattle.std.proofs.lemmas.Nat.{le_or_l, le_or_r}
use Rattle.std.proofs.lemmas.List.{get_or-take, get_or-drop}
use lib.Seq.{drop-drop}
use Rattle.utf8.specs.Rfc3629.{Range, fits, rows, first_fit, char_length, text_after, is_text}
use Rattle.utf8.specs.Helpers.{Passed}
use Rattle.utf8.proofs.Fits.{fits_within}
use Rattle.utf8.proofs.Table.{ascii_char}

after_drop : (k : ℕ) (s : List ℕ) → k ≤ length s → text_after k s ≡ is_text (drop k s)
unfolding text_after
after_drop zero s h = refl
after_drop (suc k) [] h = absurd (omega arith)
after_drop (suc k) (b ∷ s) h = after_drop k s (omega arith)

fit_within : (t : List (List Range)) (s : List ℕ) → first_fit t s ≤ length s
unfolding first_fit
fit_within [] s = omega arith
fit_within (r ∷ t) s = go (fits r s) refl (fit_within t s)
  where
    go : (x : Bool) → fits r s ≡ x → first_fit t s ≤ length s → cond (fits r s) (length r) (first_fit t s) ≤ length s
    go true e h = rw e (fits_within r s e)
    go false e h = rw e h

-- where no character stands in front
pub stop : (s : List ℕ) → 0 < length s → char_length s ≡ 0 → is_text s ≡ false
unfolding text_after
stop [] some e = absurd (omega arith)
stop (b ∷ s) some e = rw e

-- a character in front is passed over
pub pass : (s : List ℕ) (n : ℕ) → char_length s ≡ n → 0 < n → is_text s ≡ is_text (drop n s)
unfolding text_after
pass s zero e some = absurd (omega arith)
pass [] (suc k) e some = absurd (omega (arith, fit_within rows []))
pass (b ∷ s) (suc k) e some =
    let o : suc k - 1 ≡ k = omega arith in
    rw (e, lt-ltb 0 (suc k) (omega arith), o) (after_drop k s (omega (arith, fit_within rows (b ∷ s))))

-- ---- by index

pub passed_none : (s : List ℕ) (i : ℕ) → i ≤ length s → Passed s i i
passed_none s i h = record { forward = omega arith; inside = h; same = refl }

pub passed_more : {s : List ℕ} {i j k : ℕ} → Passed s i j → Passed s j k → Passed s i k
passed_more p q = record { forward = omega arith; inside = q.inside; same = q.same ∙ p.same }

pub passed_char : (s : List ℕ) (i n : ℕ) → i < length s → char_length (drop i s) ≡ n → 0 < n → Passed s i (i + n)
passed_char s i n here e some = record {
  forward = omega arith;
  inside = omega (arith, fit_within rows (drop i s), length-drop i s);
  same = sym (pass (drop i s) n e some ∙ ap is_text (drop-drop n i s));
}

-- octets of UTF8-1 are characters
pub passed_ascii : (s : List ℕ) (i n : ℕ) → i + n ≤ length s → ((k : ℕ) → k < n → get_or s (i + k) 0 < 0x80) → Passed s i (i + n)
passed_ascii s i zero l h = rw add-zero (passed_none s i (omega arith))
passed_ascii s i (suc n) l h =
    let here : i + n < length s = omega arith in
    let low : get_or s (i + n) 0 < 0x80 = h n (omega arith) in
    let one : char_length (drop (i + n) s) ≡ 1 = ascii_char s (i + n) here low in
    let e : i + n + 1 ≡ i + suc n = omega arith in
    passed_more (passed_ascii s i n (omega arith) (λ k b. h k (omega arith))) (rw (← e) (passed_char s (i + n) 1 here one (omega arith)))

-- octets whose bits together are below 0x80
below_fold : (s : List ℕ) (a : ℕ) → a ≤ fold bit_or a s
below_fold [] a = omega arith
below_fold (b ∷ s) a = omega (arith, le_or_l a b, below_fold s (bit_or a b))

ascii_from_fold : (s : List ℕ) (a : ℕ) → fold bit_or a s < 0x80 → (k : ℕ) → k < length s → get_or s k 0 < 0x80
ascii_from_fold [] a h k l = absurd (omega arith)
ascii_from_fold (b ∷ s) a h zero l = omega (arith, le_or_r a b, below_fold s (bit_or a b))
ascii_from_fold (b ∷ s) a h (suc k) l = ascii_from_fold s (bit_or a b) h k (omega arith)

-- n octets from i on that are so
pub passed_run : (s : List ℕ) (i n : ℕ) → i + n ≤ length s → ltb (fold bit_or 0 (take n (drop i s))) 0x80 ≡ true → Passed s i (i + n)
passed_run s i n h e =
    let few : length (take n (drop i s)) ≡ n = omega (arith, length-take n (drop i s), length-drop i s) in
    let low = ascii_from_fold (take n (drop i s)) 0 (ltb-true _ _ e) in
    passed_ascii s i n h (λ k l. omega (arith, low k (omega arith), get_or-take n (drop i s) k 0 l, get_or-drop i s k 0))
