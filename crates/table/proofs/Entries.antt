-- The entries of a table: how many there are, what stands at a place, the look-up as the first place with an ID, and
-- that an entry's range holds its path. Assumes nothing.
use Prim.Native.Nat.{ℕ, zero, suc, ◌+◌, ◌*◌, ◌/◌, ◌≤◌, ◌<◌, min}
use mathlib.Core.Path.{◌≡◌, refl, sym, ap, ◌∙◌}
use mathlib.Core.Bool.{true, false, true≢false}
use mathlib.Core.List.{List, [], ◌∷◌}
use borrow.Author.Tests.{eq-eqb, ne_eqb, lt-ltb, le-ltb}
use native.Mathlib.Decide.{dec_le}
use native.Mathlib.Nat.{zero-min, suc-min-suc}
use native.Mathlib.Omega.{arith}
use lib.Dec.{eqb, ltb}
use lib.ListN.{length, get_or, take, drop, length-drop, get_or-eq_default}
use lib.Seq.{take-nil, get_or-take, length-take-le}
use Rattle.table.specs.Table.{Entry, parts_of, parts_in, kind_of, is_typed, clipped, entry_of, table_of, unlisted, entry_for, data_type_of, path_of, range_of, FirstWith}
use Rattle.basics.specs.Lists.{any}
use Rattle.table.specs.Check.{listed}
use Rattle.table.specs.declared.types.Path.{Path}
use Rattle.table.specs.declared.types.TagDataType.{TagDataType}
use Rattle.basics.proofs.Every.{any_at, any_of_none}
use Rattle.basics.proofs.Bools.{either}
use Rattle.table.proofs.Words.{length-fours, fours_at}

module _ (es ps : List ℕ) where
  pub length_table : length (table_of es ps) ≡ length es / 4
  unfolding table_of
  length_table = length-fours (entry_of (parts_of ps)) es

  pub table_at : (i : ℕ) → i < length es / 4
      → get_or (table_of es ps) i unlisted
      ≡ entry_of (parts_of ps) (get_or es (4 * i) 0) (get_or es (4 * i + 1) 0) (get_or es (4 * i + 2) 0) (get_or es (4 * i + 3) 0)
  unfolding table_of
  table_at i h = fours_at (entry_of (parts_of ps)) es i unlisted h

  pub table_past : (i : ℕ) → length es / 4 ≤ i → get_or (table_of es ps) i unlisted ≡ unlisted
  table_past i h = get_or-eq_default (table_of es ps) unlisted (rw length_table h)

  pub id_at : (i : ℕ) → i < length es / 4 → (get_or (table_of es ps) i unlisted).id ≡ get_or es (4 * i) 0
  unfolding entry_of
  id_at i h = ap (λ (e : Entry). e.id) (table_at i h)

-- the first entry with an ID is what is looked up
pub first_entry : (t : List Entry) (id r : ℕ) → r ≤ length t → ((j : ℕ) → j < r → (get_or t j unlisted).id ≡ id → ⊥)
    → (r < length t → (get_or t r unlisted).id ≡ id) → entry_for t id ≡ get_or t r unlisted
unfolding entry_for
first_entry [] id r l none here = sym (get_or-eq_default [] unlisted {n = r} (omega arith))
first_entry (e ∷ t) id zero l none here = rw (eq-eqb e.id id (here (omega arith)))
first_entry (e ∷ t) id (suc r) l none here =
    rw (ne_eqb e.id id (none 0 (omega arith)))
    (first_entry t id r (omega arith) (λ j h. none (suc j) (omega arith)) (λ h. here (omega arith)))

-- and it is listed before a place where it stands before that place
listed_where : (t : List Entry) (id n r : ℕ) → n ≤ length t → r ≤ n → ((j : ℕ) → j < r → (get_or t j unlisted).id ≡ id → ⊥)
    → (r < n → (get_or t r unlisted).id ≡ id) → listed id (take n t) ≡ ltb r n
unfolding listed
listed_where t id n r fits l none here = go (dec_le n r)
  where
    len : length (take n t) ≡ n
    len = length-take-le n t fits

    go : Dec (n ≤ r) → any (λ (e : Entry). eqb e.id id) (take n t) ≡ ltb r n
    go (yes h) =
        any_of_none (λ (e : Entry). eqb e.id id) (take n t) unlisted
        (λ j k. let m : j < n = rw len at k in ne_eqb _ _ (λ q. none j (omega arith) (sym (ap (λ (e : Entry). e.id) (get_or-take n t j unlisted m)) ∙ q)))
        ∙ sym (le-ltb r n h)
    go (no f) =
        let m : r < n = omega arith in
        any_at (λ (e : Entry). eqb e.id id) (take n t) unlisted r (rw len m)
        (eq-eqb _ _ (ap (λ (e : Entry). e.id) (get_or-take n t r unlisted m) ∙ here m))
        ∙ sym (lt-ltb r n m)

module _ (es ps : List ℕ) (id : ℕ) {n r : ℕ} (fits : n ≤ length es / 4) (f : FirstWith es id n r) where
  none_there : (j : ℕ) → j < r → (get_or (table_of es ps) j unlisted).id ≡ id → ⊥
  none_there j h e = f.none_before j h (sym (id_at es ps j (omega (arith, f.within))) ∙ e)

  there : r < n → (get_or (table_of es ps) r unlisted).id ≡ id
  there h = id_at es ps r (omega arith) ∙ f.here h

  pub for_first : n ≡ length es / 4 → entry_for (table_of es ps) id ≡ get_or (table_of es ps) r unlisted
  for_first e =
      first_entry (table_of es ps) id r (rw (length_table es ps) (omega (arith, f.within))) none_there
      (λ h. let k : r < length es / 4 = rw (length_table es ps) at h in there (omega arith))

  pub listed_first : listed id (take n (table_of es ps)) ≡ ltb r n
  listed_first = listed_where (table_of es ps) id n r (rw (length_table es ps) fits) f.within none_there there

-- what holds of each entry, and of an ID that is not listed, holds of what is looked up
pub for_every : (P : Entry → Type 0) (t : List Entry) → P unlisted → ((i : ℕ) → i < length t → P (get_or t i unlisted))
    → ((id : ℕ) → P (entry_for t id))
unfolding entry_for
for_every P [] u p id = u
for_every P (e ∷ t) u p id =
    either P (eqb e.id id) e (entry_for t id) (p 0 (omega arith)) (for_every P t u (λ i h. p (suc i) (omega arith)) id)

-- ---- the range of an entry holds its path

pub take_as_many : {A : Type 0} (n : ℕ) (l : List A) → take (min n (length l)) l ≡ take n l
take_as_many zero l = rw (zero-min (length l))
take_as_many (suc n) [] = take-nil (min (suc n) 0)
take_as_many (suc n) (a ∷ l) = rw (suc-min-suc n (length l)) (ap (λ (m : List _). a ∷ m) (take_as_many n l))

module _ (es ps : List ℕ) where
  pub path_at : (i : ℕ) → parts_in (parts_of ps) (get_or (table_of es ps) i unlisted).range ≡ (get_or (table_of es ps) i unlisted).path
  unfolding entry_of clipped
  path_at i = go (dec_le (length es / 4) i)
    where
      go : Dec (length es / 4 ≤ i) → parts_in (parts_of ps) (get_or (table_of es ps) i unlisted).range ≡ (get_or (table_of es ps) i unlisted).path
      go (yes h) = rw (table_past es ps i h)
      go (no n) =
          let first = get_or es (4 * i + 2) 0 in
          rw (table_at es ps i (omega arith), ← (length-drop first (parts_of ps)))
          (take_as_many (get_or es (4 * i + 3) 0) (drop first (parts_of ps)))

  -- the parts in the range that is looked up are the path
  pub path_in : (id : ℕ) → parts_in (parts_of ps) (range_of (table_of es ps) id) ≡ path_of (table_of es ps) id
  path_in id = for_every (λ e. parts_in (parts_of ps) e.range ≡ e.path) (table_of es ps) refl (λ i h. path_at i) id

  pub path_of_lem : (id : ℕ) {r : Path} → r ≡ range_of (table_of es ps) id → parts_in (parts_of ps) r ≡ path_of (table_of es ps) id
  path_of_lem id q = rw q (path_in id)

-- ---- an ID that is not in the table

-- an entry's type word is a type
word_typed : (word : ℕ) → is_typed (kind_of word) ≡ true
unfolding kind_of is_typed
word_typed word =
    let typed : TagDataType → Type 0 = λ k. is_typed k ≡ true in
    either typed (eqb word 0) _ _ refl (either typed (eqb word 1) _ _ refl (either typed (eqb word 2) _ _ refl (either typed (eqb word 3) _ _ refl (either typed (eqb word 4) _ _ refl refl))))

-- so an entry has a type
pub typed_at : (es ps : List ℕ) (i : ℕ) → i < length (table_of es ps) → is_typed (get_or (table_of es ps) i unlisted).kind ≡ true
unfolding is_typed entry_of
typed_at es ps i h = rw (table_at es ps i (rw (length_table es ps) at h)) (word_typed (get_or es (4 * i + 1) 0))

-- an ID without a type has the empty path
pub untyped_path : (es ps : List ℕ) (id : ℕ) → is_typed (data_type_of (table_of es ps) id) ≡ false → path_of (table_of es ps) id ≡ []
untyped_path es ps id =
    for_every (λ e. is_typed e.kind ≡ false → e.path ≡ []) (table_of es ps) (λ u. refl)
    (λ i h u. absurd (true≢false (sym (typed_at es ps i h) ∙ u))) id
