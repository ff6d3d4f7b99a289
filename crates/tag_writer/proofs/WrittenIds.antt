-- The bytes of an ID that are written: of an Element ID they are its bytes by RFC 8794, so it reads back, and with a
-- table that passed its check every ID of it does. Assumes nothing.
use Prim.Native.Nat.{ℕ, suc, ◌+◌, ◌*◌, ◌^◌, ◌≤◌, ◌<◌}
use mathlib.Core.Path.{◌≡◌, refl, sym, ap, ◌∙◌}
use mathlib.Core.Bool.{true, false≢true, true≢false}
use mathlib.Core.List.{List, [], append-nil}
use native.Mathlib.Decide.{dec_le}
use native.Mathlib.Omega.{arith}
use borrow.Author.Tests.{lt-ltb, ltb-true, eq-eqb}
use lib.Dec.{ltb}
use lib.ListN.{length}
use lib.Pow.{pow-add, pow_mono}
use Rattle.tools.specs.Bytes.{be_bytes}
use Rattle.tools.specs.ElementId.{element_id_length, is_element_id, id_bytes as elementIdBytes}
use Rattle.tools.specs.Vint.{Least}
use Rattle.tools.proofs.ElementIds.{element_id_sound, id_marker}
use Rattle.tools.proofs.Least.{least}
use Rattle.table.specs.Check.{allowed_id, check_table}
use Rattle.table.specs.Table.{Entry, table_of, data_type_of, is_typed}
use Rattle.table.proofs.Consequences.{own_entry}
use Rattle.table.proofs.Entries.{for_every}
use Rattle.table.proofs.Passed.{passed_gives}
use Rattle.tag_parse.specs.Header.{read_tag_id}
use Rattle.tag_parse.proofs.ElementIds.{reads_back_lem}
use Rattle.basics.proofs.Bools.{and_both}
use Rattle.tag_writer.specs.Document.{id_width, id_bytes}
use Rattle.tag_writer.specs.Write.{reads_back}
use Rattle.tag_writer.proofs.WidthLaws.{id_length_lem}
use Rattle.std.specs.Prelude.{Ok}

module _ (x : ℕ) (e : is_element_id x ≡ true) where
  abbrev L : ℕ
  L = element_id_length x

  abbrev w : ℕ
  w = id_width x

  is_least : Least (λ k. ltb x (2 ^ (8 * k))) 1 8 w
  is_least = least (λ k. ltb x (2 ^ (8 * k))) 7 1

  not_above : L < w → ⊥
  not_above h =
      let v = (element_id_sound x e).vint in
      let one : 7 * L + 1 ≤ 8 * L = omega (arith, v.at_least_1) in
      let m : 2 ^ (7 * L + 1) ≡ 2 ^ (7 * L) * 2 = pow-add 2 (7 * L) 1 in
      let b : x < 2 ^ (8 * L) = omega (arith, (id_marker x e).hi, pow_mono {i = 7 * L + 1} {j = 8 * L} one, m) in
      false≢true (sym (is_least.none L v.at_least_1 h) ∙ lt-ltb x (2 ^ (8 * L)) b)

  not_below : w < L → ⊥
  not_below h =
      let v = (element_id_sound x e).vint in
      let up : 8 * w ≤ 7 * L = omega (arith, v.at_most_8) in
      let b : x < 2 ^ (8 * w) = ltb-true _ _ (is_least.passes (omega (arith, v.at_most_8))) in
      omega (arith, b, (id_marker x e).lo, pow_mono {i = 8 * w} {j = 7 * L} up)

  -- as many bytes as it has
  pub its_width : id_width x ≡ element_id_length x
  its_width = go (dec_le (suc L) w) (dec_le (suc w) L)
    where
      go : Dec (L < w) → Dec (w < L) → id_width x ≡ element_id_length x
      go (yes h) d = absurd (not_above h)
      go (no n) (yes h) = absurd (not_below h)
      go (no n) (no m) = omega arith

  -- and these bytes
  pub its_bytes : id_bytes x ≡ elementIdBytes x
  unfolding id_bytes
  its_bytes = ap (λ (k : ℕ). be_bytes k x) its_width

  pub element_reads_back : reads_back x ≡ true
  unfolding reads_back
  element_reads_back =
      let r = ap read_tag_id (its_bytes ∙ sym (append-nil (elementIdBytes x))) ∙ reads_back_lem x [] e in
      let n : length (id_bytes x) ≡ L = id_length_lem x ∙ its_width in
      rw (n, r) (and_both (eq-eqb x x refl) (eq-eqb L L refl))

-- with a table that passed its check an ID that it has reads back
pub passed_reads_back : (es ps : List ℕ) (x : ℕ) → check_table es ps ≡ Ok tt → is_typed (data_type_of (table_of es ps) x) ≡ true → reads_back x ≡ true
unfolding allowed_id is_typed
passed_reads_back es ps x c t =
    let own = own_entry (table_of es ps) x (λ u. true≢false (sym t ∙ ap is_typed u)) in
    element_reads_back x (ap is_element_id (sym own) ∙ for_every Allowed (table_of es ps) (λ u. absurd (true≢false (sym u))) (λ i h u. (passed_gives es ps c).allowed i h) x t)
  where
    Allowed : Entry → Type 0
    Allowed e = is_typed e.kind ≡ true → is_element_id e.id ≡ true
