-- Element IDs: RFC 8794, section 5, and document 02, "The table check passes IDs that no file can hold", over the
-- number of bytes L.
use Rattle.std.specs.Prelude.{ℕ, ◌-◌, ◌*◌, ◌^◌, ◌<◌, Bool, true, false, not, ◌&&◌, ◌≡◌, List, leb, ltb, eqb}
use Rattle.tools.specs.Bytes.{be_number, be_bytes}
use Rattle.tools.specs.Vint.{IsVint, all_ones, least_from}

-- RFC 8794, section 5: x is the Element ID of L octets. They are the octets of a VINT, whose marker stays in the
-- number; VINT_DATA, here the value, is neither all zeros nor all ones, and it stands in the shortest valid form: in
-- fewer octets it is all ones.
pub record IsElementId (L x : ℕ) : Type 0 where
  pub value : ℕ
  pub octets : List ℕ
  pub vint : IsVint L value octets
  pub number : be_number octets ≡ x
  pub not_zeros : value ≡ 0 → ⊥
  pub not_ones : all_ones L value ≡ false
  pub shortest : (M : ℕ) (fewer : List ℕ) → IsVint M value fewer → M < L → all_ones M value ≡ true

-- ---- the same, computed

-- "with the marker at its place": of L bytes, bit 7 L is the highest one
abbrev pub marked_at : ℕ → ℕ → Bool
marked_at L x = leb (2 ^ (7 * L)) x && ltb x (2 ^ (7 * L) * 2)

-- the data bits: what the marker leaves
abbrev pub id_value : ℕ → ℕ → ℕ
id_value L x = x - 2 ^ (7 * L)

-- "its data bits are neither all 0 nor all 1"
abbrev pub mixed_bits : ℕ → ℕ → Bool
mixed_bits L v = not (eqb v 0) && not (all_ones L v)

-- "the data of L bytes, L over 1, is at least 2^(7(L−1))−1": of one byte that bound is 0
abbrev pub shortest_form : ℕ → ℕ → Bool
shortest_form L v = leb (2 ^ (7 * (L - 1)) - 1) v

-- x is an ID of L bytes
unfoldable pub is_id_of : ℕ → ℕ → Bool
is_id_of L x = marked_at L x && mixed_bits L (id_value L x) && shortest_form L (id_value L x)

-- the number of bytes of the ID x: the least L of 1 to 8 of which it is one, or 9 where it is none
abbrev pub element_id_length : ℕ → ℕ
element_id_length x = least_from (λ L. is_id_of L x) 8 1

-- "an ID has 1 to 8 bytes"
unfoldable pub is_element_id : ℕ → Bool
is_element_id x = leb (element_id_length x) 8

-- the bytes of an ID
abbrev pub id_bytes : ℕ → List ℕ
id_bytes x = be_bytes (element_id_length x) x
