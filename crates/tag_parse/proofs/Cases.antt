-- The cases of the definitions of IDs, headers and payloads. Assumes nothing.
use Prim.Native.Nat.{ℕ, zero, suc, ◌+◌, ◌-◌, ◌*◌, ◌^◌, ◌≤◌, ◌<◌}
use mathlib.Core.Path.{◌≡◌, sym, ◌∙◌}
use mathlib.Core.Bool.{false}
use mathlib.Core.List.{List, [], ◌∷◌}
use native.Mathlib.Omega.{arith}
use native.Mathlib.Decide.{dec_le}
use borrow.Author.Tests.{eq-eqb, ne_eqb, lt-ltb, le-ltb}
use lib.ListN.{length, get_or, take, drop, length-drop}
use lib.Seq.{take_all}
use Rattle.tools.specs.Bytes.{Octets, be_number}
use Rattle.tools.specs.Vint.{vint_length, less_present, missing_of_none, read_vint}
use Rattle.tools.specs.declared.errors.ToolError.{ToolError}
use Rattle.tools.proofs.Marker.{length-le_8}
use Rattle.table.specs.Table.{Entry, spec_for}
use Rattle.table.specs.declared.types.TagDataType.{TagDataType}
use Rattle.tag_parse.specs.Header.{id_length, read_tag_id, size_of, numeric, too_long, sized, after_id, read_header}
use Rattle.tag_parse.specs.declared.types.EBMLSize.TheVariants as size
use Rattle.std.specs.Prelude.{Ok, Result}
use Rattle.tools.specs.declared.status.Status.{Status}
use Rattle.tools.specs.declared.status.Status.TheVariants as status
use Rattle.tools.proofs.Statuses.{complete_parts}

-- ---- IDs

pub id_zero : (b : ℕ) → b ≡ 0 → id_length b ≡ 1
id_zero b h = simp (eq-eqb _ _ h)

pub id_vint : (b : ℕ) → (b ≡ 0 → ⊥) → id_length b ≡ vint_length b
id_vint b h = simp (ne_eqb _ _ h)

pub record Width (n : ℕ) : Type 0 where
  pub least : 1 ≤ n
  pub most : n ≤ 8

pub id_width_lem : (b : ℕ) → b < 256 → Width (id_length b)
id_width_lem b l = go (dec_le 1 b)
  where
    go : Dec (1 ≤ b) → Width (id_length b)
    go (yes h) = let w = length-le_8 b h l in rw (id_vint b (λ e. omega arith)) (record { least = omega arith; most = w })
    go (no f) = let e : b ≡ 0 = omega arith in rw (id_zero b e) (record { least = omega arith; most = omega arith })

pub id_none : (s : List ℕ) → length s ≡ 0 → read_tag_id s ≡ status.NeedMore missing_of_none
unfolding read_tag_id
id_none s h = simp (eq-eqb _ _ h)

module _ (s : List ℕ) (some : length s ≡ 0 → ⊥) where
  pub id_short : length s < id_length (get_or s 0 0) → read_tag_id s ≡ status.NeedMore (less_present (id_length (get_or s 0 0)) s)
  unfolding read_tag_id
  id_short h = simp (ne_eqb _ _ some, lt-ltb _ _ h)

  pub id_whole : id_length (get_or s 0 0) ≤ length s → read_tag_id s ≡ status.Complete (be_number (take (id_length (get_or s 0 0)) s), id_length (get_or s 0 0))
  unfolding read_tag_id
  id_whole h = simp (ne_eqb _ _ some, le-ltb _ _ h)

-- every way in which reading an ID goes, with the facts that hold there
pub data ReadingId (s : List ℕ) : Type 0 where
  no_byte : length s ≡ 0 → ReadingId s
  too_few : (length s ≡ 0 → ⊥) → length s < id_length (get_or s 0 0) → ReadingId s
  all_there : (length s ≡ 0 → ⊥) → id_length (get_or s 0 0) ≤ length s → ReadingId s

pub reading_id : (s : List ℕ) → ReadingId s
reading_id s = none_or (dec_le 1 (length s))
  where
    whole-or : (length s ≡ 0 → ⊥) → Dec (id_length (get_or s 0 0) ≤ length s) → ReadingId s
    whole-or some (yes h) = all_there some h
    whole-or some (no f) = too_few some (omega arith)

    none_or : Dec (1 ≤ length s) → ReadingId s
    none_or (yes h) = whole-or (λ z. omega arith) (dec_le (id_length (get_or s 0 0)) (length s))
    none_or (no f) = no_byte (omega arith)

-- an ID that was read asks for no more
pub not_more : {r : Status (ℕ × ℕ)} {x n m : ℕ} → r ≡ status.Complete (x, n) → r ≡ status.NeedMore m → ⊥
not_more e m = let z : ◌≡◌ {A = ℕ} 0 1 = cc in omega arith

-- ---- sizes

pub size_unknown : (v L : ℕ) → v ≡ 2 ^ (7 * L) - 1 → size_of v L ≡ size.Unknown
unfolding size_of
size_unknown v L h = rw (eq-eqb _ _ h)

pub size_known : (v L : ℕ) → (v ≡ 2 ^ (7 * L) - 1 → ⊥) → size_of v L ≡ size.Known v
unfolding size_of
size_known v L h = rw (ne_eqb _ _ h)

-- an ID that was read has 1 to 8 bytes, and they are all there
pub record IdFront (n : ℕ) (s : List ℕ) : Type 0 where
  pub least : 1 ≤ n
  pub most : n ≤ 8
  pub whole : n ≤ length s

pub id_front : (s : List ℕ) {x n : ℕ} → get_or s 0 0 < 256 → read_tag_id s ≡ status.Complete (x, n) → IdFront n s
id_front s {x} {n} byte e = go (reading_id s)
  where
    go : ReadingId s → IdFront n s
    go (no_byte z) = absurd (not_more e (id_none s z))
    go (too_few some h) = absurd (not_more e (id_short s some h))
    go (all_there some h) =
        let same : id_length (get_or s 0 0) ≡ n = (complete_parts _ _ _ _ (sym (id_whole s some h) ∙ e)).1 in
        let w = id_width_lem (get_or s 0 0) byte in
        rw (← same) (record { least = w.least; most = w.most; whole = h })

-- ---- headers

pub octets_drop : (n : ℕ) (s : List ℕ) → Octets s → Octets (drop n s)
octets_drop zero s byte i = byte i
octets_drop (suc n) [] byte i = omega arith
octets_drop (suc n) (x ∷ s) byte i = octets_drop n s (λ j. byte (suc j)) i

-- the part of s from n on, as the code lends it
pub rest_is : (n : ℕ) (s : List ℕ) → take (length s - n) (drop n s) ≡ drop n s
rest_is n s = take_all (length s - n) (drop n s) (rw length-drop (omega arith))

pub not_long : (kind : TagDataType) (v : ℕ) → v ≤ 8 → too_long kind v ≡ false
unfolding too_long
not_long kind v h = rw (le-ltb _ _ h)

pub long_by_kind : (kind : TagDataType) (v : ℕ) → 8 < v → too_long kind v ≡ numeric kind
unfolding too_long
long_by_kind kind v h = rw (lt-ltb _ _ h)

module _ (t : List Entry) (s : List ℕ) where
  pub header_none : {m : ℕ} → read_tag_id s ≡ status.NeedMore m → read_header t s ≡ Ok (status.NeedMore (m + 1))
  unfolding read_header after_id
  header_none e = rw e

  pub header_sized : {x n : ℕ} {r : Result (Status (ℕ × ℕ)) ToolError} → read_tag_id s ≡ status.Complete (x, n) → r ≡ read_vint (drop n s) → read_header t s ≡ sized x (spec_for t x) n r
  unfolding read_header after_id
  header_sized e f = rw (e, f)
