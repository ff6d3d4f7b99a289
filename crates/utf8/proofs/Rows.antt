-- A row of section 4 and the table of section 3 say the same: what fits a row are the encodings of the numbers from its
-- least to its greatest, both computed from the row's ranges. One law for every row, over what `regular` tests of it.
-- Assumes nothing.
use Prim.Native.Nat.{ℕ, zero, suc, ◌+◌, ◌-◌, ◌*◌, ◌/◌, ◌%◌, ◌^◌, ◌≤◌, ◌<◌}
use mathlib.Core.Path.{◌≡◌, refl, sym, ap, ◌∙◌}
use mathlib.Core.Bool.{Bool, true, false, ◌&&◌, ◌||◌, false≢true, and-eq-true_iff}
use mathlib.Core.Logic.{◌⊎◌, inl, inr, ⊎_elim}
use mathlib.Core.List.{List, [], ◌∷◌, ◌++◌}
use native.Mathlib.Omega.{arith}
use borrow.Author.Tests.{leb-true, ltb-true, eqb-true, le-leb, lt-leb}
use lib.Dec.{leb, ltb, eqb}
use lib.ListN.{length, drop}
use lib.Pow.{shr-shr}
use Rattle.utf8.specs.Rfc3629.{CodePoint, tails, encode, Range, within, fits, tail}
use Rattle.utf8.proofs.Fits.{inside, bounds}

pub one_of : (a b : Bool) → (a || b) ≡ true → (a ≡ true) ⊎ (b ≡ true)
one_of true b e = inl refl
one_of false b e = inr e

-- ---- six bits at a time

pub shift : (c k : ℕ) → c / 2 ^ (6 * suc k) ≡ c / 2 ^ (6 * k) / 64
shift c k =
    let e : 6 * k + 6 ≡ 6 * suc k = omega arith in
    sym (shr-shr c (6 * k) 6 ∙ ap (λ (x : ℕ). c / 2 ^ x) e)

-- ---- the octets after the first

-- x followed by the least octet of each range, and by the greatest
abbrev pub least : ℕ → List Range → ℕ
least x [] = x
least x (r ∷ rs) = least (x * 64 + (r.0 - 0x80)) rs

abbrev pub greatest : ℕ → List Range → ℕ
greatest y [] = y
greatest y (r ∷ rs) = greatest (y * 64 + (r.1 - 0x80)) rs

-- each octet is a tail, and has all 64 values where more than one number, x to y, stands before it
abbrev pub unbroken : ℕ → ℕ → List Range → Bool
unbroken x y [] = true
unbroken x y (r ∷ rs) =
    within tail r.0 && within tail r.1 && (eqb x y || (leb r.0 0x80 && leb 0xBF r.1))
    && unbroken (x * 64 + (r.0 - 0x80)) (y * 64 + (r.1 - 0x80)) rs

record Unbroken (x y : ℕ) (r : Range) (rs : List Range) : Type 0 where
  low : (0x80 ≤ r.0) × (r.0 ≤ 0xBF)
  high : (0x80 ≤ r.1) × (r.1 ≤ 0xBF)
  all : (x ≡ y) ⊎ ((r.0 ≤ 0x80) × (0xBF ≤ r.1))
  rest : unbroken (x * 64 + (r.0 - 0x80)) (y * 64 + (r.1 - 0x80)) rs ≡ true

unbroken_is : (x y : ℕ) (r : Range) (rs : List Range) → unbroken x y (r ∷ rs) ≡ true → Unbroken x y r rs
unbroken_is x y r rs e =
    let t = (and-eq-true_iff _ _).0 e in
    let u = (and-eq-true_iff _ _).0 t.0 in
    let v = (and-eq-true_iff _ _).0 u.0 in
    record {
      low = bounds tail r.0 v.0;
      high = bounds tail r.1 v.1;
      all = ⊎_elim (λ q. inl (eqb-true _ _ q)) (λ q. inr (both q)) (one_of _ _ u.1);
      rest = t.1;
    }
  where
    both : (leb r.0 0x80 && leb 0xBF r.1) ≡ true → (r.0 ≤ 0x80) × (0xBF ≤ r.1)
    both q = let w = (and-eq-true_iff _ _).0 q in (leb-true _ _ w.0, leb-true _ _ w.1)

-- octets that fit are the last ones of a number whose first bits are v
record Ends (x y v : ℕ) (rs : List Range) (s : List ℕ) : Type 0 where
  point : ℕ
  begins : point / 2 ^ (6 * length rs) ≡ v
  from : least x rs ≤ point
  to : point ≤ greatest y rs
  octets : s ≡ tails (length rs) point ++ drop (length rs) s

-- with one octet more in front
ends_more : (x y v b : ℕ) (r : Range) (rs : List Range) (s : List ℕ) → 0x80 ≤ b → b ≤ 0xBF
    → Ends (x * 64 + (r.0 - 0x80)) (y * 64 + (r.1 - 0x80)) (v * 64 + (b - 0x80)) rs s → Ends x y v (r ∷ rs) (b ∷ s)
unfolding tails
ends_more x y v b r rs s l h t =
    let q : (v * 64 + (b - 0x80)) / 64 ≡ v = omega arith in
    let o : 0x80 + (v * 64 + (b - 0x80)) % 64 ≡ b = omega arith in
    record {
      point = t.point;
      begins = shift t.point (length rs) ∙ rw t.begins q;
      from = t.from;
      to = t.to;
      octets = rw (t.begins, o) (ap {B = List ℕ} (λ z. b ∷ z) t.octets);
    }

tails_sound : (rs : List Range) (s : List ℕ) (x y v : ℕ) → unbroken x y rs ≡ true → x ≤ v → v ≤ y → fits rs s ≡ true → Ends x y v rs s
unfolding fits tails
tails_sound [] s x y v u l h e = record { point = v; begins = omega arith; from = l; to = h; octets = refl }
tails_sound (r ∷ rs) [] x y v u l h e = absurd (false≢true e)
tails_sound (r ∷ rs) (b ∷ s) x y v u l h e =
    let w = (and-eq-true_iff (within r b) (fits rs s)).0 e in
    let i = bounds r b w.0 in
    let k = unbroken_is x y r rs u in
    ends_more x y v b r rs s (omega arith) (omega arith)
    (tails_sound rs s _ _ (v * 64 + (b - 0x80)) k.rest (omega arith) (omega arith) w.1)

-- and the last octets of a number from the least to the greatest fit
record Fitting (x y c : ℕ) (rs : List Range) (t : List ℕ) : Type 0 where
  from : x ≤ c / 2 ^ (6 * length rs)
  to : c / 2 ^ (6 * length rs) ≤ y
  fit : fits rs (tails (length rs) c ++ t) ≡ true

-- one octet of it: q is the number up to that octet
digit : (x y q : ℕ) (r : Range) (rs : List Range) → Unbroken x y r rs → x * 64 + (r.0 - 0x80) ≤ q → q ≤ y * 64 + (r.1 - 0x80)
    → (x ≤ q / 64) × (q / 64 ≤ y) × (r.0 ≤ 0x80 + q % 64) × (0x80 + q % 64 ≤ r.1)
digit x y q r rs k l h = ⊎_elim (λ one. omega arith) (λ all. omega arith) k.all

tails_complete : (rs : List Range) (c x y : ℕ) (t : List ℕ) → unbroken x y rs ≡ true → least x rs ≤ c → c ≤ greatest y rs → Fitting x y c rs t
unfolding fits tails
tails_complete [] c x y t u l h = record { from = omega arith; to = omega arith; fit = refl }
tails_complete (r ∷ rs) c x y t u l h =
    let k = unbroken_is x y r rs u in
    let f = tails_complete rs c (x * 64 + (r.0 - 0x80)) (y * 64 + (r.1 - 0x80)) t k.rest l h in
    let d = digit x y (c / 2 ^ (6 * length rs)) r rs k f.from f.to in
    record {
      from = rw (shift c (length rs)) d.0;
      to = rw (shift c (length rs)) d.1;
      fit = rw (inside r (0x80 + c / 2 ^ (6 * length rs) % 64) d.2 d.3) f.fit;
    }

-- ---- whole characters

-- the lines of section 3's table, by the number k of octets after the first: the bits set in the first octet, and the
-- first and the last number
abbrev pub mark : ℕ → ℕ
mark zero = 0
mark (suc zero) = 0xC0
mark (suc (suc zero)) = 0xE0
mark (suc (suc (suc k))) = 0xF0

abbrev pub first : ℕ → ℕ
first zero = 0
first (suc zero) = 0x80
first (suc (suc zero)) = 0x800
first (suc (suc (suc k))) = 0x10000

abbrev pub last : ℕ → ℕ
last zero = 0x7F
last (suc zero) = 0x7FF
last (suc (suc zero)) = 0xFFFF
last (suc (suc (suc k))) = 0x10FFFF

pub encode_in : (k c : ℕ) → k ≤ 3 → first k ≤ c → c ≤ last k → encode c ≡ (mark k + c / 2 ^ (6 * k)) ∷ tails k c
unfolding encode tails
encode_in zero c w l h = let e : 0 + c / 1 ≡ c = omega arith in simp (le-leb c 0x7F h, e)
encode_in (suc zero) c w l h = simp (lt-leb c 0x7F (omega arith), le-leb c 0x7FF h)
encode_in (suc (suc zero)) c w l h = simp (lt-leb c 0x7F (omega arith), lt-leb c 0x7FF (omega arith), le-leb c 0xFFFF h)
encode_in (suc (suc (suc zero))) c w l h = simp (lt-leb c 0x7F (omega arith), lt-leb c 0x7FF (omega arith), lt-leb c 0xFFFF (omega arith))
encode_in (suc (suc (suc (suc k)))) c w l h = absurd (omega arith)

-- the least and the greatest number whose octets fit a row
abbrev pub least_of : List Range → ℕ
least_of [] = 0
least_of (f ∷ rs) = least (f.0 - mark (length rs)) rs

abbrev pub greatest_of : List Range → ℕ
greatest_of [] = 0
greatest_of (f ∷ rs) = greatest (f.1 - mark (length rs)) rs

-- a row of one line of section 3's table, unbroken and with no surrogate
abbrev pub regular : List Range → Bool
regular [] = false
regular (f ∷ rs) =
    leb (length rs) 3 && leb (mark (length rs)) f.0 && leb (mark (length rs)) f.1
    && unbroken (f.0 - mark (length rs)) (f.1 - mark (length rs)) rs
    && leb (first (length rs)) (least_of (f ∷ rs)) && leb (greatest_of (f ∷ rs)) (last (length rs))
    && (ltb (greatest_of (f ∷ rs)) 0xD800 || ltb 0xDFFF (least_of (f ∷ rs)))

record Regular (f : Range) (rs : List Range) : Type 0 where
  width : length rs ≤ 3
  low : mark (length rs) ≤ f.0
  high : mark (length rs) ≤ f.1
  after : unbroken (f.0 - mark (length rs)) (f.1 - mark (length rs)) rs ≡ true
  from : first (length rs) ≤ least_of (f ∷ rs)
  to : greatest_of (f ∷ rs) ≤ last (length rs)
  no_surrogate : (greatest_of (f ∷ rs) < 0xD800) ⊎ (0xDFFF < least_of (f ∷ rs))

regular_is : (f : Range) (rs : List Range) → regular (f ∷ rs) ≡ true → Regular f rs
regular_is f rs e =
    let g = (and-eq-true_iff _ _).0 e in
    let t = (and-eq-true_iff _ _).0 g.0 in
    let u = (and-eq-true_iff _ _).0 t.0 in
    let v = (and-eq-true_iff _ _).0 u.0 in
    let w = (and-eq-true_iff _ _).0 v.0 in
    let z = (and-eq-true_iff _ _).0 w.0 in
    record {
      width = leb-true _ _ z.0;
      low = leb-true _ _ z.1;
      high = leb-true _ _ w.1;
      after = v.1;
      from = leb-true _ _ u.1;
      to = leb-true _ _ t.1;
      no_surrogate = ⊎_elim (λ q. inl (ltb-true _ _ q)) (λ q. inr (ltb-true _ _ q)) (one_of _ _ g.1);
    }

-- the encoding of a code point stands in front, n octets long
pub record Front (n : ℕ) (s : List ℕ) : Type 0 where
  pub point : ℕ
  pub code : CodePoint point
  pub octets : s ≡ encode point ++ drop n s
  pub count : length (encode point) ≡ n

length-tails : (k c : ℕ) → length (tails k c) ≡ k
unfolding tails
length-tails zero c = refl
length-tails (suc k) c = ap suc (length-tails k c)

-- no line goes past 10FFFF
last_most : (k : ℕ) → last k ≤ 0x10FFFF
last_most zero = omega arith
last_most (suc zero) = omega arith
last_most (suc (suc zero)) = omega arith
last_most (suc (suc (suc k))) = omega arith

code_in : (x y c : ℕ) → x ≤ c → c ≤ y → y ≤ 0x10FFFF → (y < 0xD800) ⊎ (0xDFFF < x) → CodePoint c
code_in x y c l h m o = record { at_most = omega arith; no_surrogate = ⊎_elim (λ q. inl (omega arith)) (λ q. inr (omega arith)) o }

-- what fits a row is the encoding of a number from the row's least to its greatest
pub row_sound : (r : List Range) (s : List ℕ) → regular r ≡ true → fits r s ≡ true
    → (f : Front (length r) s) × (least_of r ≤ f.point) × (f.point ≤ greatest_of r)
unfolding fits
row_sound [] s g e = absurd (false≢true g)
row_sound (f ∷ rs) [] g e = absurd (false≢true e)
row_sound (f ∷ rs) (b ∷ s) g e =
    let k = length rs in
    let R = regular_is f rs g in
    let w = (and-eq-true_iff (within f b) (fits rs s)).0 e in
    let i = bounds f b w.0 in
    let t = tails_sound rs s (f.0 - mark k) (f.1 - mark k) (b - mark k) R.after (omega arith) (omega arith) w.1 in
    let o : mark k + t.point / 2 ^ (6 * k) ≡ b = omega (arith, t.begins) in
    let c = encode_in k t.point R.width (omega arith) (omega arith) in
    let most = last_most k in (
      record {
        point = t.point;
        code = code_in (least_of (f ∷ rs)) (greatest_of (f ∷ rs)) t.point t.from t.to (omega arith) R.no_surrogate;
        octets = rw (c, o) (ap {B = List ℕ} (λ z. b ∷ z) t.octets);
        count = rw c (ap suc (length-tails k t.point));
      },
      t.from,
      t.to,
    )

-- and the encoding of each such number fits
pub row_complete : (r : List Range) (c : ℕ) (t : List ℕ) → regular r ≡ true → least_of r ≤ c → c ≤ greatest_of r → fits r (encode c ++ t) ≡ true
unfolding fits
row_complete [] c t g l h = absurd (false≢true g)
row_complete (f ∷ rs) c t g l h =
    let R = regular_is f rs g in
    let k = tails_complete rs c _ _ t R.after l h in
    let e = encode_in (length rs) c R.width (omega arith) (omega arith) in
    rw (e, inside f (mark (length rs) + c / 2 ^ (6 * length rs)) (omega arith) (omega arith)) k.fit
