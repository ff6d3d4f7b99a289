-- RFC 8794, section 4: `read_vint` answers a value exactly where the octets of a VINT stand in front, asks for more
-- exactly where a part of such octets is all there is, and refuses exactly a first byte 0; and what the writers write is
-- the VINT of the value. Assumes nothing.
use Prim.Native.Nat.{ℕ, zero, suc, ◌+◌, ◌-◌, ◌*◌, ◌/◌, ◌%◌, ◌^◌, ◌≤◌, ◌<◌}
use mathlib.Core.Path.{◌≡◌, refl, sym, ap, ◌∙◌, subst}
use mathlib.Core.Bool.{true, false, false≢true}
use mathlib.Core.List.{List, [], ◌∷◌, ◌++◌, append-nil}
use mathlib.Core.Logic.{⊎_elim, ◌↔◌}
use native.Mathlib.Omega.{arith}
use native.Mathlib.Nat.{eq-or-lt_of_le, lt_of_lt_of_le, add-sub_cancel_left, mod-eq_of_lt, le-div_iff_mul-le, pow-suc}
use native.Mathlib.Numerals.{add-one}
use borrow.Author.Tests.{ne_eqb, ltb-true, ltb-false}
use lib.Count.{count_leading_zeros, leading_unique, leading_of_zero}
use lib.Dec.{ltb}
use lib.ListN.{length, get_or, take, drop, replicate, length-append, take-append-drop, length-replicate, get_or-append}
use lib.Pow.{pow-add, pow_mono, pow_pos, shr_lt}
use lib.Seq.{take_at, take_all, length-take-le, take-append-le, take-append_seam, get_or-take}
use Rattle.tools.specs.Bytes.{Octets, be_number, be_bytes}
use Rattle.tools.specs.Vint.{IsVint, Front, VintPart, Least, vint_limit, vint_length, vint_value, all_ones, read_vint, vint_needs_more, FirstByte0, vint_bytes, least_from, vint_width}
use Rattle.tools.specs.declared.errors.ToolError.{ToolError}
use Rattle.tools.specs.declared.errors.ToolError.TheVariants.{ReadVintOverflow}
use Rattle.tools.proofs.BigEndian.{length-be_bytes, octets_be_bytes, octets_take, octets_zeros, be_bytes_lem, bytes_be}
use Rattle.tools.proofs.Statuses.{ok_complete_parts}
use Rattle.tools.proofs.Cases.{Reading, no_byte, first_zero, too_few, all_there, reading, read_zero, read_whole, none_needs_more, short_needs_more}
use Rattle.tools.proofs.Least.{least}
use Rattle.tools.proofs.Marker.{length-le_8, Marked, marked}
use Rattle.std.specs.Prelude.{Err, Ok, Result}
use Rattle.tools.specs.declared.status.Status.{Status}
use Rattle.tools.specs.declared.status.Status.TheVariants as status

-- ---- what is read is a VINT

front : (s : List ℕ) → Octets s → (length s ≡ 0 → ⊥) → (get_or s 0 0 ≡ 0 → ⊥) → vint_length (get_or s 0 0) ≤ length s
    → Front (vint_length (get_or s 0 0)) (vint_value (vint_length (get_or s 0 0)) (take (vint_length (get_or s 0 0)) s)) s
front s byte n z h =
    let L = vint_length (get_or s 0 0) in
    let m : Marked L (be_number (take L s)) = marked s byte (omega arith) (omega arith) h in
    record {
      whole = h;
      vint = record {
        at_least_1 = omega arith;
        at_most_8 = length-le_8 (get_or s 0 0) (omega arith) (byte 0);
        count = length-take-le L s h;
        bytes = octets_take L s byte;
        marked = omega arith;
        below = omega arith;
      };
    }

never : {A : Type 0} → ◌≡◌ {A = ℕ} 0 1 → A
never e = absurd (omega arith)

-- a vint that was read asks for no more
not_more : {r : Result (Status (ℕ × ℕ)) ToolError} {v L : ℕ} → r ≡ Ok (status.Complete (v, L)) → vint_needs_more r ≡ true → ⊥
not_more e m = false≢true (sym (ap vint_needs_more e) ∙ m)

pub read_sound : (s : List ℕ) (L v : ℕ) → Octets s → read_vint s ≡ Ok (status.Complete (v, L)) → Front L v s
read_sound s L v byte e = go (reading s)
  where
    go : Reading s → Front L v s
    go (no_byte n) = absurd (not_more e (none_needs_more s n))
    go (first_zero n z) =
        let r = read_zero s n z in
        let no : ◌≡◌ {A = ℕ} 0 1 = cc in
        never no
    go (too_few n z h) = absurd (not_more e (short_needs_more s n z h))
    go (all_there n z h) =
        let p = ok_complete_parts _ _ _ _ (sym (read_whole s n z h) ∙ e) in
        rw (← p.0, ← p.1) (front s byte n z h)

-- ---- a VINT is read

-- the first byte of a vint of k + 1 bytes has k leading zeros
first_zeros : (k v : ℕ) → k ≤ 7 → v < 2 ^ (7 * suc k) → count_leading_zeros 8 ((2 ^ (7 * suc k) + v) / 2 ^ (8 * k) % 256) ≡ k
first_zeros k v l h =
    let j = 7 - k in
    let q = (2 ^ (7 * suc k) + v) / 2 ^ (8 * k) in
    let e : 2 ^ (7 * suc k) ≡ 2 ^ j * 2 ^ (8 * k) = ap (λ (x : ℕ). 2 ^ x) (omega arith) ∙ pow-add 2 j (8 * k) in
    let e2 : 2 ^ (suc j + 8 * k) ≡ 2 ^ (7 * suc k) * 2 = ap (λ (x : ℕ). 2 ^ x) (omega arith) ∙ pow-suc 2 (7 * suc k) in
    let lo : 2 ^ j ≤ q = (le-div_iff_mul-le (pow_pos (8 * k))).1 (omega arith) in
    let hi : q < 2 ^ suc j = shr_lt (suc j) (8 * k) (omega arith) in
    let jl : suc j ≤ 8 = omega arith in
    let byte : q < 256 = lt_of_lt_of_le hi (pow_mono jl) in
    rw (mod-eq_of_lt byte) (sym (leading_unique 8 q k (suc j) (omega arith) hi (omega (arith, pow-suc 2 j))))

marked_below : (k v : ℕ) → v < 2 ^ (7 * suc k) → 2 ^ (7 * suc k) + v < 2 ^ (8 * suc k)
marked_below k v h =
    let l : suc (7 * suc k) ≤ 8 * suc k = omega arith in
    lt_of_lt_of_le (subst (λ (x : ℕ). 2 ^ (7 * suc k) + v < x) (sym (pow-suc 2 (7 * suc k))) (omega arith)) (pow_mono l)

-- the bytes that are written are read back
pub round_trip : (L v : ℕ) (rest : List ℕ) → 1 ≤ L → L ≤ 8 → v < 2 ^ (7 * L) → read_vint (vint_bytes L v ++ rest) ≡ Ok (status.Complete (v, L))
unfolding be_bytes
round_trip zero v rest p l h = absurd (omega arith)
round_trip (suc k) v rest p l h =
    let N = 2 ^ (7 * suc k) + v in
    let s : List ℕ = vint_bytes (suc k) v ++ rest in
    let z : count_leading_zeros 8 (get_or s 0 0) ≡ k = first_zeros k v (omega arith) h in
    let nz : get_or s 0 0 ≡ 0 → ⊥ = λ e. not_eight (sym z ∙ ap (count_leading_zeros 8) e ∙ leading_of_zero 8) in
    let le : vint_length (get_or s 0 0) ≤ length s = rw z (omega (arith, length-append (be_bytes k N) rest, length-be_bytes k N)) in
    let fits : N < 2 ^ (8 * suc k) = marked_below k v h in
    read_whole s (λ e. omega arith) nz le
    ∙ rw (z, add-one, take_at (vint_bytes (suc k) v) rest (suc k) (length-be_bytes (suc k) N), be_bytes_lem (suc k) N fits, add-sub_cancel_left (2 ^ (7 * suc k)) v)
  where
    not_eight : k ≡ 8 → ⊥
    not_eight e = omega arith

-- what is written is a VINT of the value
pub written_is : (L v : ℕ) → 1 ≤ L → L ≤ 8 → v < 2 ^ (7 * L) → IsVint L v (vint_bytes L v)
written_is zero v p l h = absurd (omega arith)
written_is (suc k) v p l h =
    let N = 2 ^ (7 * suc k) + v in
    record {
      at_least_1 = p;
      at_most_8 = l;
      count = length-be_bytes (suc k) N;
      bytes = octets_be_bytes (suc k) N;
      marked = be_bytes_lem (suc k) N (marked_below k v h);
      below = h;
    }

-- and the only one of that length
pub written_only : (L v : ℕ) (octets : List ℕ) → IsVint L v octets → octets ≡ vint_bytes L v
written_only L v octets i =
    sym (bytes_be octets i.bytes) ∙ rw (i.count, i.marked)

-- where the octets of a VINT stand in front, its value and its length are answered
pub read_complete : (L v : ℕ) (octets rest : List ℕ) → IsVint L v octets → read_vint (octets ++ rest) ≡ Ok (status.Complete (v, L))
read_complete L v octets rest i =
    ap (λ (o : List ℕ). read_vint (o ++ rest)) (written_only L v octets i) ∙ round_trip L v rest i.at_least_1 i.at_most_8 i.below

-- so of a list that begins with them
pub front_read : {L v : ℕ} (s : List ℕ) → Front L v s → read_vint s ≡ Ok (status.Complete (v, L))
front_read {L} {v} s f = ap read_vint (sym (take-append-drop L s)) ∙ read_complete L v (take L s) (drop L s) f.vint

-- a value is answered exactly where its octets stand in front
pub vint_exactly : (s : List ℕ) (L v : ℕ) → Octets s → (read_vint s ≡ Ok (status.Complete (v, L))) ↔ Front L v s
vint_exactly s L v byte = (read_sound s L v byte, front_read s)

-- the first octet of a VINT says how many there are
pub record FirstOctet (L first : ℕ) : Type 0 where
  pub not_zero : first ≡ 0 → ⊥
  pub width : vint_length first ≡ L

pub first_octet : {L v : ℕ} (octets : List ℕ) → IsVint L v octets → FirstOctet L (get_or octets 0 0)
first_octet {L} {v} octets i = go (reading octets)
  where
    whole : read_vint octets ≡ Ok (status.Complete (v, L))
    whole = ap read_vint (sym (append-nil octets)) ∙ read_complete L v octets [] i

    go : Reading octets → FirstOctet L (get_or octets 0 0)
    go (no_byte n) = absurd (not_more whole (none_needs_more octets n))
    go (first_zero n z) =
        let r = read_zero octets n z in
        let q = whole in
        let no : ◌≡◌ {A = ℕ} 0 1 = cc in
        never no
    go (too_few n z h) = absurd (not_more whole (short_needs_more octets n z h))
    go (all_there n z h) =
        record { not_zero = z; width = (ok_complete_parts _ _ _ _ (sym (read_whole octets n z h) ∙ whole)).1 }

-- ---- need more, and what is appended

-- an answer that asks for no more stays when bytes are appended
pub read_local : (s t : List ℕ) → vint_needs_more (read_vint s) ≡ false → read_vint (s ++ t) ≡ read_vint s
read_local s t some = go (reading s)
  where
    go : Reading s → read_vint (s ++ t) ≡ read_vint s
    go (no_byte n) = absurd (false≢true (sym some ∙ none_needs_more s n))
    go (first_zero n z) =
        let first : get_or (s ++ t) 0 0 ≡ get_or s 0 0 = get_or-append s t 0 0 (omega arith) in
        let more : length (s ++ t) ≡ length s + length t = length-append s t in
        read_zero (s ++ t) (λ x. omega arith) (first ∙ z) ∙ sym (read_zero s n z)
    go (too_few n z h) = absurd (false≢true (sym some ∙ short_needs_more s n z h))
    go (all_there n z h) =
        let L = vint_length (get_or s 0 0) in
        let first : get_or (s ++ t) 0 0 ≡ get_or s 0 0 = get_or-append s t 0 0 (omega arith) in
        let more : length (s ++ t) ≡ length s + length t = length-append s t in
        let e : vint_length (get_or (s ++ t) 0 0) ≡ L = ap vint_length first in
        read_whole (s ++ t) (λ x. omega arith) (λ x. z (sym first ∙ x)) (rw e (omega arith))
        ∙ rw (e, take-append-le L s t h) (sym (read_whole s n z h))

-- a proper part of the octets of a VINT needs more
pub read_part : (L v : ℕ) (octets : List ℕ) (k : ℕ) → IsVint L v octets → k < L → vint_needs_more (read_vint (take k octets)) ≡ true
read_part L v octets zero i h = none_needs_more _ refl
read_part L v octets (suc k) i h =
    let s = take (suc k) octets in
    let len : length s ≡ suc k = length-take-le (suc k) octets (omega (arith, i.count)) in
    let first : get_or s 0 0 ≡ get_or octets 0 0 = get_or-take (suc k) octets 0 0 (omega arith) in
    let f = first_octet octets i in
    short_needs_more s (λ e. omega arith) (λ e. f.not_zero (sym first ∙ e)) (rw (first, f.width) (omega arith))

-- more is asked for exactly where less than the octets of a VINT is there
pub vint_needs_more_lem : (s : List ℕ) → Octets s → (vint_needs_more (read_vint s) ≡ true) ↔ VintPart s
vint_needs_more_lem s byte = (part (reading s), asks)
  where
    part : Reading s → vint_needs_more (read_vint s) ≡ true → VintPart s
    part (no_byte n) m =
        let none : s ≡ [] = sym (take_all 0 s (omega arith)) in
        record {
          L = 1;
          v = 0;
          octets = vint_bytes 1 0;
          vint = written_is 1 0 (omega arith) (omega arith) (omega arith);
          part = rw none (record { missing = vint_bytes 1 0; some = rw length-be_bytes (omega arith); joined = refl });
        }
    part (first_zero n z) m = absurd (false≢true (rw (read_zero s n z) at m))
    part (too_few n z h) m =
        let L = vint_length (get_or s 0 0) in
        let zeros : List ℕ = replicate (L - length s) 0 in
        let whole : List ℕ = s ++ zeros in
        let first : get_or whole 0 0 ≡ get_or s 0 0 = get_or-append s zeros 0 0 (omega arith) in
        let count : length zeros ≡ L - length s = length-replicate (L - length s) 0 in
        let len : length whole ≡ L = length-append s zeros ∙ omega arith in
        let w : vint_length (get_or whole 0 0) ≡ L = ap vint_length first in
        let r = read_whole whole (λ e. omega arith) (λ e. z (sym first ∙ e)) (rw w (omega arith)) in
        let f = read_sound whole _ _ (octets_zeros s (L - length s) byte) r in
        record {
          L = vint_length (get_or whole 0 0);
          v = _;
          octets = take (vint_length (get_or whole 0 0)) whole;
          vint = f.vint;
          part = record { missing = zeros; some = omega arith; joined = sym (take_all (vint_length (get_or whole 0 0)) whole (rw w (omega arith))) };
        }
    part (all_there n z h) m = absurd (not_more (read_whole s n z h) m)

    asks : VintPart s → vint_needs_more (read_vint s) ≡ true
    asks p =
        let m = p.part in
        let front : take (length s) p.octets ≡ s = rw (← m.joined) (take-append_seam s m.missing) in
        let len : length s + length m.missing ≡ p.L = sym (length-append s m.missing) ∙ ap length m.joined ∙ p.vint.count in
        rw front at (read_part p.L p.v p.octets (length s) p.vint (omega (arith, m.some)))

-- refusal 1 comes exactly where the first byte is 0, and no other comes
pub vint_refused : (s : List ℕ) (x : ToolError) → (read_vint s ≡ Err x) ↔ ((x ≡ ReadVintOverflow) × FirstByte0 s)
vint_refused s x = (why (reading s), λ p. rw (p.1.1, p.0) (read_zero (0 ∷ p.1.0) (λ n. omega arith) refl))
  where
    begins : (s : List ℕ) → (length s ≡ 0 → ⊥) → get_or s 0 0 ≡ 0 → FirstByte0 s
    begins [] n z = absurd (n refl)
    begins (b ∷ s) n z = (s, rw z)

    why : Reading s → read_vint s ≡ Err x → (x ≡ ReadVintOverflow) × FirstByte0 s
    why (no_byte n) e = absurd (false≢true (sym (ap vint_needs_more e) ∙ none_needs_more s n))
    why (first_zero n z) e =
        let r = read_zero s n z in
        let same : x ≡ ReadVintOverflow = cc in
        (same, begins s n z)
    why (too_few n z h) e = absurd (false≢true (sym (ap vint_needs_more e) ∙ short_needs_more s n z h))
    why (all_there n z h) e =
        let r = read_whole s n z h in
        let no : ◌≡◌ {A = ℕ} 0 1 = cc in
        never no

-- ---- what `as_vint` writes

chosen : (v : ℕ) → Least (λ L. ltb v (2 ^ (7 * L) - 1)) 1 8 (vint_width v)
chosen v = least (λ L. ltb v (2 ^ (7 * L) - 1)) 7 1

-- a width below 8 holds the value below its all-ones form
chosen_below : (v : ℕ) → vint_width v < 8 → v < 2 ^ (7 * vint_width v) - 1
chosen_below v h = ltb-true _ _ ((chosen v).passes h)

pub least_below_lem : (v : ℕ) → v < vint_limit → v < 2 ^ (7 * vint_width v)
least_below_lem v h = ⊎_elim (λ e. rw e h) (λ x. omega (arith, chosen_below v x)) (eq-or-lt_of_le (chosen v).hi)

-- so what is written is a VINT of the value, and is read back
pub least_is : (v : ℕ) → v < vint_limit → IsVint (vint_width v) v (vint_bytes (vint_width v) v)
least_is v h = written_is (vint_width v) v (chosen v).lo (chosen v).hi (least_below_lem v h)

pub least_back : (v : ℕ) (rest : List ℕ) → v < vint_limit → read_vint (vint_bytes (vint_width v) v ++ rest) ≡ Ok (status.Complete (v, vint_width v))
least_back v rest h = read_complete (vint_width v) v (vint_bytes (vint_width v) v) rest (least_is v h)

-- no smaller width holds the value below its all-ones form
pub least_width : (v L : ℕ) → 1 ≤ L → L < vint_width v → 2 ^ (7 * L) - 1 ≤ v
least_width v L p h = ltb-false _ _ ((chosen v).none L p h)

-- what is written is not the reserved form, all data bits ones, but for the greatest value
pub least_known : (v : ℕ) → v < vint_limit - 1 → all_ones (vint_width v) v ≡ false
least_known v h = ne_eqb _ _ (λ e. ⊎_elim (top e) (λ x. omega (arith, chosen_below v x)) (eq-or-lt_of_le (chosen v).hi))
  where
    top : v ≡ 2 ^ (7 * vint_width v) - 1 → vint_width v ≡ 8 → ⊥
    top e x = let e' : v ≡ 2 ^ 56 - 1 = e ∙ ap (λ (L : ℕ). 2 ^ (7 * L) - 1) x in omega arith

pub least_reserved : all_ones (vint_width (vint_limit - 1)) (vint_limit - 1) ≡ true
unfolding least_from
least_reserved = refl
