-- What a table of good shape has: document 01's list, entry by entry and part by part, and how long the table and a
-- path can be. Assumes nothing.
use Prim.Native.Nat.{ℕ, ◌+◌, ◌*◌, ◌/◌, ◌%◌, ◌≤◌, ◌<◌}
use mathlib.Core.Path.{◌≡◌, sym, ◌∙◌}
use mathlib.Core.Bool.{Bool, true, ◌&&◌, and-eq-true_iff}
use mathlib.Core.List.{List}
use borrow.Author.Tests.{eqb-true, leb-true}
use native.Mathlib.Omega.{arith}
use lib.Dec.{eqb, leb}
use lib.ListN.{length, get_or, drop, length-take}
use Rattle.table.specs.Table.{threes, fours, parts_of, entry_of, table_of, unlisted, path_of}
use Rattle.table.specs.Shape.{most_entries, most_parts, good_part, good_parts, good_entry, good_entries, good_shape, GoodEntry, Shaped}
use Rattle.table.proofs.Words.{length-threes, threes_at, length-fours, fours_at}
use Rattle.table.proofs.Entries.{length_table, table_at, for_every}
use Rattle.basics.proofs.Every.{every_at}

parts_good : (ps : List ℕ) → good_parts ps ≡ true
    → ((i : ℕ) → i < length ps / 3 → good_part (get_or ps (3 * i) 0) (get_or ps (3 * i + 1) 0) (get_or ps (3 * i + 2) 0) ≡ true)
unfolding good_parts
parts_good ps e i h =
    sym (threes_at good_part ps i true h) ∙ every_at (λ (g : Bool). g) (threes good_part ps) true e i (rw (length-threes good_part ps) h)

abbrev good : ℕ → ℕ → ℕ → ℕ → ℕ → Bool
good all id kind first count = good_entry all kind first count

entries_good : (es ps : List ℕ) → good_entries (length ps / 3) es ≡ true → ((i : ℕ) → i < length es / 4 → GoodEntry es ps i)
unfolding good_entries good_entry
entries_good es ps e i h =
    let n = length ps / 3 in
    let here = sym (fours_at (good n) es i true h) ∙ every_at (λ (g : Bool). g) (fours (good n) es) true e i (rw (length-fours (good n) es) h) in
    let a = (and-eq-true_iff (leb (get_or es (4 * i + 1) 0) 5 && leb (get_or es (4 * i + 3) 0) most_parts) (leb (get_or es (4 * i + 2) 0 + get_or es (4 * i + 3) 0) n)).0 here in
    let b = (and-eq-true_iff (leb (get_or es (4 * i + 1) 0) 5) (leb (get_or es (4 * i + 3) 0) most_parts)).0 a.0 in
    record { kind = leb-true _ _ b.0; short = leb-true _ _ b.1; inside = leb-true _ _ a.1 }

module _ (es ps : List ℕ) (shape : good_shape es ps ≡ true) where
  pub shaped : Shaped es ps
  unfolding good_shape
  shaped =
      let a = (and-eq-true_iff (eqb (length es % 4) 0 && eqb (length ps % 3) 0 && leb (length es / 4) most_entries && good_parts ps) (good_entries (length ps / 3) es)).0 shape in
      let b = (and-eq-true_iff (eqb (length es % 4) 0 && eqb (length ps % 3) 0 && leb (length es / 4) most_entries) (good_parts ps)).0 a.0 in
      let d = (and-eq-true_iff (eqb (length es % 4) 0 && eqb (length ps % 3) 0) (leb (length es / 4) most_entries)).0 b.0 in
      let f = (and-eq-true_iff (eqb (length es % 4) 0) (eqb (length ps % 3) 0)).0 d.0 in
      record {
        whole_entries = eqb-true _ _ f.0;
        whole_parts = eqb-true _ _ f.1;
        few_entries = leb-true _ _ d.1;
        parts = parts_good ps b.1;
        entries = entries_good es ps a.1;
      }

  -- so a table has at most 64 entries
  pub at_most_64 : length (table_of es ps) ≤ most_entries
  at_most_64 = rw (length_table es ps) shaped.few_entries

  -- and a path at most 16 parts
  pub at_most_16 : (id : ℕ) → length (path_of (table_of es ps) id) ≤ most_parts
  unfolding entry_of
  at_most_16 id = for_every (λ e. length e.path ≤ most_parts) (table_of es ps) (omega arith) each id
    where
      each : (i : ℕ) → i < length (table_of es ps) → length (get_or (table_of es ps) i unlisted).path ≤ most_parts
      each i h =
          let k : i < length es / 4 = rw (length_table es ps) at h in
          let count = get_or es (4 * i + 3) 0 in
          let path = drop (get_or es (4 * i + 2) 0) (parts_of ps) in
          rw (table_at es ps i k) (omega (arith, length-take count path, (shaped.entries i k).short))
