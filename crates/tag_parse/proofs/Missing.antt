-- Document 02, CR 1: the number that a need-more of an ID or of a header has is the least number of further bytes with
-- which the answer can be another. Assumes nothing.
use Prim.Native.Nat.{ℕ, ◌+◌, ◌≤◌, ◌<◌}
use mathlib.Core.Bool.{Bool, true, false, cond, true≢false}
use mathlib.Core.List.{List, [], ◌∷◌, ◌++◌, append_assoc}
use mathlib.Core.Path.{◌≡◌, refl, sym, ap, ◌∙◌}
use native.Mathlib.Decide.{dec_le}
use native.Mathlib.Omega.{arith}
use borrow.Author.Tests.{lt-ltb}
use lib.Dec.{ltb}
use lib.ListN.{length, get_or, drop, length-append, length-drop, get_or-append}
use lib.Seq.{drop_at, drop-append-le}
use Rattle.tools.specs.Missing.{FewerStillMissing, Enough, TellsMissing}
use Rattle.tools.specs.Vint.{less_present, missing_of_none, read_vint, vint_needs_more, vint_missing}
use Rattle.tools.proofs.BigEndian.{octets_append}
use Rattle.tools.proofs.Cases.{read_none, read_zero, read_short, read_whole}
use Rattle.tools.proofs.Missing.{vint_missing_lem, vint_asks, missing_few, same_missing, one_enough, one_octet}
use Rattle.table.specs.Table.{Entry, spec_for}
use Rattle.table.specs.declared.types.Spec.{Spec}
use Rattle.tag_parse.specs.Header.{id_length, read_tag_id, id_needs_more, id_missing, too_long, header_of, sized_by, sized, read_header, header_needs_more, header_missing}
use Rattle.tag_parse.specs.declared.types.ParseError.TheVariants.{InvalidTagData}
use Rattle.tag_parse.proofs.Cases.{ReadingId, no_byte, too_few, all_there, reading_id, not_more, id_zero, id_vint, id_none, id_short, id_whole, header_none, header_sized}
use Rattle.tag_parse.proofs.Ids.{id_local}
use Rattle.std.specs.Prelude.{Err, Ok, Result}
use Rattle.tools.specs.declared.status.Status.{Status}
use Rattle.tools.specs.declared.errors.ToolError.{ToolError}
use Rattle.tools.specs.declared.status.Status.TheVariants as status
use Rattle.tools.proofs.Statuses.{complete_parts}

-- ---- IDs

-- an ID misses what a vint with its first byte misses
pub id_missing_same : (s : List ℕ) → id_missing (read_tag_id s) ≡ vint_missing (read_vint s)
id_missing_same s = go (reading_id s)
  where
    whole : (length s ≡ 0 → ⊥) → id_length (get_or s 0 0) ≤ length s → Dec (1 ≤ get_or s 0 0) → 0 ≡ vint_missing (read_vint s)
    whole some h (yes p) = let nz : get_or s 0 0 ≡ 0 → ⊥ = λ z. omega arith in rw (read_whole s some nz (rw (id_vint (get_or s 0 0) nz) at h))
    whole some h (no f) = rw (read_zero s some (omega arith))

    go : ReadingId s → id_missing (read_tag_id s) ≡ vint_missing (read_vint s)
    go (no_byte z) = rw (id_none s z, read_none s z)
    go (too_few some h) =
        let nz : get_or s 0 0 ≡ 0 → ⊥ = λ z. omega (arith, id_zero (get_or s 0 0) z) in
        let l = id_vint (get_or s 0 0) nz in
        rw (id_short s some h, read_short s some nz (rw l at h), l)
    go (all_there some h) = rw (id_whole s some h) (whole some h (dec_le 1 (get_or s 0 0)))

-- the number of an ID's need-more, of any bytes
pub id_missing_lem : (s : List ℕ) → TellsMissing (λ l. id_missing (read_tag_id l)) s
id_missing_lem s = same_missing id_missing_same s (vint_missing_lem s)

-- at most 8 bytes are missing
pub id_missing_few : (s : List ℕ) → id_missing (read_tag_id s) ≤ 8
id_missing_few s = rw (id_missing_same s) (missing_few s)

-- more is asked for exactly where a byte is missing
pub id_asks : (s : List ℕ) → id_needs_more (read_tag_id s) ≡ ltb 0 (id_missing (read_tag_id s))
id_asks s = go (reading_id s)
  where
    go : ReadingId s → id_needs_more (read_tag_id s) ≡ ltb 0 (id_missing (read_tag_id s))
    go (no_byte z) = rw (id_none s z)
    go (too_few some h) =
        let more : 0 < less_present (id_length (get_or s 0 0)) s = omega arith in
        rw (id_short s some h) (sym (lt-ltb 0 _ more))
    go (all_there some h) = rw (id_whole s some h)

-- the bytes of an ID that was read are there
pub id_there : (s : List ℕ) {x n : ℕ} → read_tag_id s ≡ status.Complete (x, n) → n ≤ length s
id_there s {x} {n} e = go (reading_id s)
  where
    go : ReadingId s → n ≤ length s
    go (no_byte z) = absurd (not_more e (id_none s z))
    go (too_few some h) = absurd (not_more e (id_short s some h))
    go (all_there some h) =
        let same : id_length (get_or s 0 0) ≡ n = (complete_parts _ _ _ _ (sym (id_whole s some h) ∙ e)).1 in
        omega arith

-- an ID that further bytes complete has all that was missing
pub completed : (s u : List ℕ) {x n m : ℕ} → read_tag_id s ≡ status.NeedMore m → read_tag_id (s ++ u) ≡ status.Complete (x, n) → length s + m ≤ n
completed s u {x} {n} {m} e f = go (reading_id s) (reading_id (s ++ u))
  where
    least : (b : ℕ) → 1 ≤ id_length b
    least b = at (dec_le 1 b)
      where
        at : Dec (1 ≤ b) → 1 ≤ id_length b
        at (yes h) = rw (id_vint b (λ z. omega arith)) (omega arith)
        at (no k) = rw (id_zero b (omega arith)) (omega arith)

    go : ReadingId s → ReadingId (s ++ u) → length s + m ≤ n
    go q (no_byte z) = absurd (not_more f (id_none (s ++ u) z))
    go q (too_few some h) = absurd (not_more f (id_short (s ++ u) some h))
    go (no_byte z) (all_there some h) =
        let k = id_none s z in
        let same : id_length (get_or (s ++ u) 0 0) ≡ n = (complete_parts _ _ _ _ (sym (id_whole (s ++ u) some h) ∙ f)).1 in
        let one : missing_of_none ≡ m = cc in
        omega (arith, least (get_or (s ++ u) 0 0))
    go (too_few some' g) (all_there some h) =
        let k = id_short s some' g in
        let same : id_length (get_or (s ++ u) 0 0) ≡ n = (complete_parts _ _ _ _ (sym (id_whole (s ++ u) some h) ∙ f)).1 in
        let all : less_present (id_length (get_or s 0 0)) s ≡ m = cc in
        let first : id_length (get_or (s ++ u) 0 0) ≡ id_length (get_or s 0 0) = ap id_length (get_or-append s u 0 0 (omega arith)) in
        omega arith
    go (all_there some' g) (all_there some h) = absurd (not_more (id_whole s some' g) e)

-- an ID that bytes make whole, with no byte behind it
pub record IdCompleted (s u : List ℕ) : Type 0 where
  pub x : ℕ
  pub n : ℕ
  pub is : read_tag_id (s ++ u) ≡ status.Complete (x, n)
  pub all : length (s ++ u) ≡ n

-- where nothing is missing behind as many bytes as were
pub id_completed : (s u : List ℕ) {m : ℕ} → read_tag_id s ≡ status.NeedMore m → length u ≡ m → id_missing (read_tag_id (s ++ u)) ≡ 0 → IdCompleted s u
id_completed s u {m} e count z = go (read_tag_id (s ++ u)) refl
  where
    go : (r : Status (ℕ × ℕ)) → read_tag_id (s ++ u) ≡ r → IdCompleted s u
    go (status.NeedMore k) f = absurd (true≢false (sym (ap id_needs_more f) ∙ id_asks (s ++ u) ∙ rw z))
    go (status.Complete (x, n)) f =
        let c = completed s u e f in
        let there = id_there (s ++ u) f in
        record { x = x; n = n; is = f; all = omega (arith, length-append s u) }

-- ---- headers

-- what a size vint makes of an ID asks as the vint does
sized_missing : (x : ℕ) (spec : Spec) (n : ℕ) (r : Result (Status (ℕ × ℕ)) ToolError) → header_missing (sized x spec n r) ≡ vint_missing r
unfolding sized sized_by
sized_missing x spec n (Ok (status.NeedMore missing)) = refl
sized_missing x spec n (Err e) = refl
sized_missing x spec n (Ok (status.Complete (v, L))) = go (too_long spec.kind v)
  where
    go : (b : Bool) → header_missing (cond b (Err InvalidTagData) (Ok (status.Complete (header_of x spec n v L)))) ≡ 0
    go true = refl
    go false = refl

pub sized_asks : (x : ℕ) (spec : Spec) (n : ℕ) (r : Result (Status (ℕ × ℕ)) ToolError) → header_needs_more (sized x spec n r) ≡ vint_needs_more r
unfolding sized sized_by
sized_asks x spec n (Ok (status.NeedMore missing)) = refl
sized_asks x spec n (Err e) = refl
sized_asks x spec n (Ok (status.Complete (v, L))) = go (too_long spec.kind v)
  where
    go : (b : Bool) → header_needs_more (cond b (Err InvalidTagData) (Ok (status.Complete (header_of x spec n v L)))) ≡ false
    go true = refl
    go false = refl

module _ (t : List Entry) where
  -- an incomplete ID, and a byte for the size
  pub part_missing : (s : List ℕ) {m : ℕ} → read_tag_id s ≡ status.NeedMore m → header_missing (read_header t s) ≡ m + 1
  part_missing s e = ap header_missing (header_none t s e)

  -- behind the ID the size vint's number
  pub after_missing : (s : List ℕ) {x n : ℕ} → read_tag_id s ≡ status.Complete (x, n) → header_missing (read_header t s) ≡ vint_missing (read_vint (drop n s))
  after_missing s {x} {n} e = ap header_missing (header_sized t s e refl) ∙ sized_missing x (spec_for t x) n (read_vint (drop n s))

  -- more is asked for exactly where a byte is missing
  pub header_asks : (s : List ℕ) → header_needs_more (read_header t s) ≡ ltb 0 (header_missing (read_header t s))
  header_asks s = at-id (read_tag_id s) refl
    where
      at-id : (r : Status (ℕ × ℕ)) → read_tag_id s ≡ r → header_needs_more (read_header t s) ≡ ltb 0 (header_missing (read_header t s))
      at-id (status.NeedMore m) e = let some : 0 < m + 1 = omega arith in rw (header_none t s e) (sym (lt-ltb 0 (m + 1) some))
      at-id (status.Complete (x, n)) e =
          rw (after_missing s e) (ap header_needs_more (header_sized t s e refl) ∙ sized_asks x (spec_for t x) n (read_vint (drop n s)) ∙ vint_asks (drop n s))

  -- at most 9 bytes are missing
  pub header_missing_few : (s : List ℕ) → header_missing (read_header t s) ≤ 9
  header_missing_few s = at-id (read_tag_id s) refl
    where
      at-id : (r : Status (ℕ × ℕ)) → read_tag_id s ≡ r → header_missing (read_header t s) ≤ 9
      at-id (status.NeedMore m) e = let few : m ≤ 8 = rw e at (id_missing_few s) in rw (part_missing s e) (omega arith)
      at-id (status.Complete (x, n)) e = rw (after_missing s e) (omega (arith, missing_few (drop n s)))

  header_fewer : (s : List ℕ) → FewerStillMissing (λ l. header_missing (read_header t l)) s
  header_fewer s u = at-id (read_tag_id s) refl
    where
      none-behind : {x n m : ℕ} → read_tag_id s ≡ status.NeedMore m → read_tag_id (s ++ u) ≡ status.Complete (x, n) → m + 1 ≤ length u + vint_missing (read_vint (drop n (s ++ u)))
      none-behind {x} {n} {m} e f = go (dec_le (m + 1) (length u))
        where
          go : Dec (m + 1 ≤ length u) → m + 1 ≤ length u + vint_missing (read_vint (drop n (s ++ u)))
          go (yes h) = omega arith
          go (no k) =
              let c = completed s u e f in
              let there = id_there (s ++ u) f in
              let more : length (s ++ u) ≡ length s + length u = length-append s u in
              let none : length (drop n (s ++ u)) ≡ 0 = length-drop n (s ++ u) ∙ omega arith in
              rw (read_none (drop n (s ++ u)) none) (omega arith)

      still : {m : ℕ} → read_tag_id s ≡ status.NeedMore m → (r : Status (ℕ × ℕ)) → read_tag_id (s ++ u) ≡ r → m + 1 ≤ length u + header_missing (read_header t (s ++ u))
      still {m} e (status.NeedMore k) f =
          let few : m ≤ length u + k = rw (e, f) at ((id_missing_lem s).fewer u) in
          rw (part_missing (s ++ u) f) (omega arith)
      still {m} e (status.Complete (x, n)) f = rw (after_missing (s ++ u) f) (none-behind e f)

      at-id : (r : Status (ℕ × ℕ)) → read_tag_id s ≡ r → header_missing (read_header t s) ≤ length u + header_missing (read_header t (s ++ u))
      at-id (status.NeedMore m) e = rw (part_missing s e) (still e (read_tag_id (s ++ u)) refl)
      at-id (status.Complete (x, n)) e =
          rw (after_missing s e, after_missing (s ++ u) (id_local s u e), drop-append-le n s u (id_there s e)) ((vint_missing_lem (drop n s)).fewer u)

  -- zero bytes for the rest of the ID, and the size 0
  header_enough : (s : List ℕ) → Enough (λ l. header_missing (read_header t l)) s
  header_enough s = at-id (read_tag_id s) refl
    where
      at-id : (r : Status (ℕ × ℕ)) → read_tag_id s ≡ r → Enough (λ l. header_missing (read_header t l)) s
      at-id (status.NeedMore m) e =
          let q = (id_missing_lem s).enough in
          let count : length q.further ≡ m = q.count ∙ ap id_missing e in
          record {
            further = q.further ++ (128 ∷ []);
            bytes = octets_append q.further (128 ∷ []) q.bytes one_octet;
            count = length-append q.further (128 ∷ []) ∙ rw (count, part_missing s e);
            none =
                let w = id_completed s q.further e count q.none in
                let u = q.further in
                rw (← append_assoc s u (128 ∷ []))
                (after_missing ((s ++ u) ++ (128 ∷ [])) (id_local (s ++ u) (128 ∷ []) w.is) ∙ rw (drop_at (s ++ u) (128 ∷ []) w.n w.all) one_enough);
          }
      at-id (status.Complete (x, n)) e =
          let q = (vint_missing_lem (drop n s)).enough in
          record {
            further = q.further;
            bytes = q.bytes;
            count = q.count ∙ sym (after_missing s e);
            none = after_missing (s ++ q.further) (id_local s q.further e) ∙ rw (drop-append-le n s q.further (id_there s e)) q.none;
          }

  -- the number of a header's need-more, of any bytes
  pub header_missing_lem : (s : List ℕ) → TellsMissing (λ l. header_missing (read_header t l)) s
  header_missing_lem s = record { fewer = header_fewer s; enough = header_enough s }
