-- IDs. `read_tag_id` answers an ID exactly where its octets stand in front, and asks for more exactly where a part of such
-- octets is all there is; it never refuses. An ID that is read stays when bytes are appended. Assumes nothing.
use Prim.Native.Nat.{ℕ, ◌+◌, ◌≤◌}
use mathlib.Core.Path.{◌≡◌, refl, sym, ap, ◌∙◌}
use mathlib.Core.Bool.{true, true≢false}
use mathlib.Core.List.{List, [], ◌∷◌, ◌++◌}
use mathlib.Core.Logic.{◌⊎◌, inl, inr, ◌↔◌}
use native.Mathlib.Omega.{arith}
use native.Mathlib.Decide.{dec_le}
use lib.ListN.{length, get_or, take, length-append, length-take, get_or-append}
use lib.Seq.{take-suc, take_all, take-append-le, length-take-le, get_or-take}
use Rattle.basics.specs.Lists.{ProperPrefix}
use Rattle.tools.specs.Bytes.{Octets, be_from, be_number}
use Rattle.tools.specs.Vint.{IsVint, vint_length, vint_value}
use Rattle.tools.proofs.Cases.{read_whole, short_needs_more}
use Rattle.tools.proofs.Rfc8794.{read_sound, first_octet, vint_needs_more_lem}
use Rattle.tag_parse.specs.Header.{id_length, read_tag_id, id_needs_more, IsId, IdPart}
use Rattle.tag_parse.proofs.Cases.{ReadingId, no_byte, too_few, all_there, reading_id, not_more, id_zero, id_vint, id_none, id_short, id_whole}
use Rattle.tools.specs.declared.status.Status.TheVariants as status
use Rattle.tools.proofs.Statuses.{complete_parts}

-- ---- an ID is read exactly where it stands in front

-- the octets that the first one announces are an ID's
stands : (s : List ℕ) → Octets s → (length s ≡ 0 → ⊥) → id_length (get_or s 0 0) ≤ length s
    → IsId (be_number (take (id_length (get_or s 0 0)) s)) (id_length (get_or s 0 0)) (take (id_length (get_or s 0 0)) s)
stands s byte some h = record { number = refl; count = length-take-le _ s h; shape = zero_or (dec_le 1 (get_or s 0 0)) }
  where
    zero_or : Dec (1 ≤ get_or s 0 0) → (take (id_length (get_or s 0 0)) s ≡ 0 ∷ []) ⊎ ((v : ℕ) × IsVint (id_length (get_or s 0 0)) v (take (id_length (get_or s 0 0)) s))
    zero_or (yes p) =
        let l : id_length (get_or s 0 0) ≡ vint_length (get_or s 0 0) = id_vint (get_or s 0 0) (λ z. omega arith) in
        let front = read_sound s _ _ byte (read_whole s some (λ z. omega arith) (rw l at h)) in
        inr (vint_value (vint_length (get_or s 0 0)) (take (vint_length (get_or s 0 0)) s), rw l front.vint)
    zero_or (no f) =
        let z : get_or s 0 0 ≡ 0 = omega arith in
        inl (rw (id_zero (get_or s 0 0) z, take-suc s 0 0 (omega arith), z))

-- an ID that is read stands at the front
pub id_sound : (s : List ℕ) (x n : ℕ) → Octets s → read_tag_id s ≡ status.Complete (x, n) → IsId x n (take n s)
id_sound s x n byte e = go (reading_id s)
  where
    go : ReadingId s → IsId x n (take n s)
    go (no_byte z) = absurd (not_more e (id_none s z))
    go (too_few some h) = absurd (not_more e (id_short s some h))
    go (all_there some h) =
        let p = complete_parts _ _ _ _ (sym (id_whole s some h) ∙ e) in
        rw (← p.0, ← p.1) (stands s byte some h)

-- the first octet of an ID says how many there are
pub record FirstOfId (n first : ℕ) : Type 0 where
  pub some : 1 ≤ n
  pub width : id_length first ≡ n

pub first_of_id : {x n : ℕ} (octets : List ℕ) → IsId x n octets → FirstOfId n (get_or octets 0 0)
first_of_id {x} {n} octets i = go i.shape
  where
    go : (octets ≡ 0 ∷ []) ⊎ ((v : ℕ) × IsVint n v octets) → FirstOfId n (get_or octets 0 0)
    go (inl e) =
        let one : n ≡ 1 = sym i.count ∙ ap length e in
        let first : get_or octets 0 0 ≡ 0 = ap (λ (o : List ℕ). get_or o 0 0) e in
        rw (first, one) (record { some = omega arith; width = refl })
    go (inr (v, vint)) =
        let f = first_octet octets vint in
        record { some = vint.at_least_1; width = id_vint (get_or octets 0 0) f.not_zero ∙ f.width }

-- an ID has at most 8 octets
pub id_at_most_8 : {x n : ℕ} {octets : List ℕ} → IsId x n octets → n ≤ 8
id_at_most_8 {x} {n} {octets} i = go i.shape
  where
    go : (octets ≡ 0 ∷ []) ⊎ ((v : ℕ) × IsVint n v octets) → n ≤ 8
    go (inl e) = omega (arith, i.count, ap length e)
    go (inr (v, vint)) = vint.at_most_8

-- an ID that stands at the front is read
pub id_complete : (s : List ℕ) (x n : ℕ) → IsId x n (take n s) → read_tag_id s ≡ status.Complete (x, n)
id_complete s x n i =
    let f = first_of_id (take n s) i in
    let whole : n ≤ length s = omega (arith, i.count, length-take n s) in
    let first : get_or (take n s) 0 0 ≡ get_or s 0 0 = get_or-take n s 0 0 (omega (arith, f.some)) in
    let w : id_length (get_or s 0 0) ≡ n = ap id_length (sym first) ∙ f.width in
    id_whole s (λ z. omega (arith, f.some)) (rw w whole) ∙ rw (w, i.number)

-- so an ID is answered exactly where its octets stand in front
pub id_exactly : (s : List ℕ) (x n : ℕ) → Octets s → (read_tag_id s ≡ status.Complete (x, n)) ↔ IsId x n (take n s)
id_exactly s x n byte = (id_sound s x n byte, id_complete s x n)

-- ---- need more, and what is appended

-- more is asked for exactly where less than the octets of an ID is there
pub id_needs_more_lem : (s : List ℕ) → Octets s → (id_needs_more (read_tag_id s) ≡ true) ↔ IdPart s
unfolding be_from
id_needs_more_lem s byte = (part (reading_id s), λ p. asks p.identifier p.part (reading_id s))
  where
    part : ReadingId s → id_needs_more (read_tag_id s) ≡ true → IdPart s
    part (no_byte z) m =
        let none : s ≡ [] = sym (take_all 0 s (omega arith)) in
        record {
          x = 0;
          n = 1;
          octets = 0 ∷ [];
          identifier = record { number = refl; count = refl; shape = inl refl };
          part = rw none (record { missing = 0 ∷ []; some = omega arith; joined = refl });
        }
    part (too_few some h) m =
        let nz : get_or s 0 0 ≡ 0 → ⊥ = λ z. omega (arith, id_zero (get_or s 0 0) z) in
        let q = (vint_needs_more_lem s byte).0 (short_needs_more s some nz (rw (id_vint (get_or s 0 0) nz) at h)) in
        record {
          x = be_number q.octets;
          n = q.L;
          octets = q.octets;
          identifier = record { number = refl; count = q.vint.count; shape = inr (q.v, q.vint) };
          part = q.part;
        }
    part (all_there some h) m = absurd (true≢false (sym m ∙ rw (id_whole s some h)))

    asks : {x n : ℕ} {o : List ℕ} → IsId x n o → ProperPrefix s o → ReadingId s → id_needs_more (read_tag_id s) ≡ true
    asks i m (no_byte z) = rw (id_none s z)
    asks i m (too_few some h) = rw (id_short s some h)
    asks {x} {n} {o} i m (all_there some h) =
        let short : length s + length m.missing ≡ n = sym (length-append s m.missing) ∙ ap length m.joined ∙ i.count in
        let first : get_or o 0 0 ≡ get_or s 0 0 = ap (λ (o : List ℕ). get_or o 0 0) (sym m.joined) ∙ get_or-append s m.missing 0 0 (omega arith) in
        let w : id_length (get_or s 0 0) ≡ n = ap id_length (sym first) ∙ (first_of_id o i).width in
        absurd (omega (arith, m.some))

-- an ID that is read stays when bytes are appended
pub id_local : (s t : List ℕ) {x n : ℕ} → read_tag_id s ≡ status.Complete (x, n) → read_tag_id (s ++ t) ≡ status.Complete (x, n)
id_local s t {x} {n} e = go (reading_id s)
  where
    go : ReadingId s → read_tag_id (s ++ t) ≡ status.Complete (x, n)
    go (no_byte z) = absurd (not_more e (id_none s z))
    go (too_few some h) = absurd (not_more e (id_short s some h))
    go (all_there some h) =
        let first : get_or (s ++ t) 0 0 ≡ get_or s 0 0 = get_or-append s t 0 0 (omega arith) in
        let more : length (s ++ t) ≡ length s + length t = length-append s t in
        let l : id_length (get_or (s ++ t) 0 0) ≡ id_length (get_or s 0 0) = ap id_length first in
        id_whole (s ++ t) (λ z. omega arith) (rw l (omega arith))
        ∙ rw (l, take-append-le (id_length (get_or s 0 0)) s t h) (sym (id_whole s some h) ∙ e)
