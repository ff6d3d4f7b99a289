-- A text has one reading: a first octet tells how many follow it, and the octets tell the number. Assumes nothing.
use Prim.Native.Nat.{ℕ, zero, suc, ◌+◌, ◌*◌, ◌/◌, ◌^◌, ◌≤◌, ◌<◌}
use mathlib.Core.Path.{◌≡◌, refl, sym, ap, ap₂, ◌∙◌}
use mathlib.Core.Bool.{cond}
use mathlib.Core.List.{List, [], ◌∷◌, ◌++◌, map, flatten, head-eq_of_cons-eq, tail-eq_of_cons-eq}
use native.Mathlib.Omega.{arith}
use native.Mathlib.Decide.{dec_le}
use borrow.Author.Tests.{le-leb, lt-leb}
use lib.Dec.{leb}
use lib.ListN.{length, length-append}
use Rattle.utf8.specs.Rfc3629.{CodePoints, tails, encode, IsText}
use Rattle.utf8.proofs.Rows.{shift, mark, first, last, encode_in}

-- the line of section 3's table that a number stands in
record Line (c : ℕ) : Type 0 where
  after : ℕ
  width : after ≤ 3
  from : first after ≤ c
  to : c ≤ last after

line : (c : ℕ) → c ≤ 0x10FFFF → Line c
line c h = go (dec_le c 0x7F) (dec_le c 0x7FF) (dec_le c 0xFFFF)
  where
    go : Dec (c ≤ 0x7F) → Dec (c ≤ 0x7FF) → Dec (c ≤ 0xFFFF) → Line c
    go (yes a) b d = record { after = 0; width = omega arith; from = omega arith; to = a }
    go (no a) (yes b) d = record { after = 1; width = omega arith; from = omega arith; to = b }
    go (no a) (no b) (yes d) = record { after = 2; width = omega arith; from = omega arith; to = d }
    go (no a) (no b) (no d) = record { after = 3; width = omega arith; from = omega arith; to = h }

-- how many octets follow a first one
abbrev follows : ℕ → ℕ
follows b = cond (leb b 0x7F) 0 (cond (leb b 0xDF) 1 (cond (leb b 0xEF) 2 3))

follows_first : (k c : ℕ) → k ≤ 3 → first k ≤ c → c ≤ last k → follows (mark k + c / 2 ^ (6 * k)) ≡ k
follows_first zero c w l h = simp (le-leb (0 + c / 1) 0x7F (omega arith))
follows_first (suc zero) c w l h =
    let b = 0xC0 + c / 64 in
    simp (lt-leb b 0x7F (omega arith), le-leb b 0xDF (omega arith))
follows_first (suc (suc zero)) c w l h =
    let b = 0xE0 + c / 4096 in
    simp (lt-leb b 0x7F (omega arith), lt-leb b 0xDF (omega arith), le-leb b 0xEF (omega arith))
follows_first (suc (suc (suc zero))) c w l h =
    let b = 0xF0 + c / 262144 in
    simp (lt-leb b 0x7F (omega arith), lt-leb b 0xDF (omega arith), lt-leb b 0xEF (omega arith))
follows_first (suc (suc (suc (suc k)))) c w l h = absurd (omega arith)

tails_one : (k c d : ℕ) (a b : List ℕ) → c / 2 ^ (6 * k) ≡ d / 2 ^ (6 * k) → tails k c ++ a ≡ tails k d ++ b → (c ≡ d) × (a ≡ b)
unfolding tails
tails_one zero c d a b e s = (omega arith, s)
tails_one (suc k) c d a b e s =
    let o = head-eq_of_cons-eq s in
    let f : c / 2 ^ (6 * k) / 64 ≡ d / 2 ^ (6 * k) / 64 = sym (shift c k) ∙ e ∙ shift d k in
    tails_one k c d a b (omega arith) (tail-eq_of_cons-eq s)

-- the octets of a line, and what follows the first of them
line_octets : (c : ℕ) (m : Line c) → encode c ≡ (mark m.after + c / 2 ^ (6 * m.after)) ∷ tails m.after c
line_octets c m = encode_in m.after c m.width m.from m.to

line_follows : (c : ℕ) (m : Line c) → follows (mark m.after + c / 2 ^ (6 * m.after)) ≡ m.after
line_follows c m = follows_first m.after c m.width m.from m.to

-- where two encodings begin one list, they are one
pub encode_one : (c d : ℕ) (a b : List ℕ) → c ≤ 0x10FFFF → d ≤ 0x10FFFF → encode c ++ a ≡ encode d ++ b → (c ≡ d) × (a ≡ b)
encode_one c d a b hc hd s = go (line c hc) (line d hd)
  where
    go : Line c → Line d → (c ≡ d) × (a ≡ b)
    go m n =
        let s' = rw (line_octets c m, line_octets d n) at s in
        let o = head-eq_of_cons-eq s' in
        let k = sym (line_follows d n) ∙ ap follows (sym o) ∙ line_follows c m in
        let o' = rw k at o in
        tails_one m.after c d a b (omega arith) (rw k at (tail-eq_of_cons-eq s'))

pub encode_some : (c : ℕ) → c ≤ 0x10FFFF → 0 < length (encode c)
encode_some c h = rw (line_octets c (line c h)) (omega arith)

-- ---- a text

none : (c : ℕ) (t : List ℕ) → c ≤ 0x10FFFF → encode c ++ t ≡ [] → ⊥
none c t h e = omega (arith, encode_some c h, length-append (encode c) t, ap length e)

pub points_one : (cs ds : List ℕ) → CodePoints cs → CodePoints ds → flatten (map encode cs) ≡ flatten (map encode ds) → cs ≡ ds
unfolding flatten
points_one [] [] v w e = refl
points_one [] (d ∷ ds) v w e = absurd (none d (flatten (map encode ds)) w.0.at_most (sym e))
points_one (c ∷ cs) [] v w e = absurd (none c (flatten (map encode cs)) v.0.at_most e)
points_one (c ∷ cs) (d ∷ ds) v w e =
    let o = encode_one c d (flatten (map encode cs)) (flatten (map encode ds)) v.0.at_most w.0.at_most e in
    ap₂ {B = List ℕ} {C = List ℕ} (λ x xs. x ∷ xs) o.0 (points_one cs ds v.1 w.1 o.1)

pub text_one : (s : List ℕ) (i j : IsText s) → i.points ≡ j.points
text_one s i j = points_one i.points j.points i.valid j.valid (i.octets ∙ sym j.octets)
