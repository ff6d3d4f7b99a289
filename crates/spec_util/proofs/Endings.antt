-- `is_ended_by` as the code tests it: over the ranges that were looked up, one law for each answer. Assumes nothing.
use Prim.Native.Nat.{ℕ}
use mathlib.Core.Path.{◌≡◌, ap}
use mathlib.Core.Bool.{true, false, and-true, and-false}
use mathlib.Core.List.{List}
use borrow.Author.Tests.{eq-eqb, ne_eqb}
use lib.ListN.{length}
use Rattle.table.specs.Table.{parts_of, parts_in, table_of, range_of, spec_for, data_type_of, path_of, same_path, is_typed}
use Rattle.table.specs.declared.types.Path.{Path}
use Rattle.table.specs.declared.types.Spec.{Spec}
use Rattle.table.proofs.Entries.{path_of_lem}
use Rattle.spec_util.specs.Ended.{has_id, is_parent, is_sibling, is_typed_root, is_ended_by}

module _ (es ps : List ℕ) (current test : ℕ) {r : Path} (range : r ≡ range_of (table_of es ps) current) where
  pub by_parent : has_id test (parts_in (parts_of ps) r) ≡ true → is_ended_by (table_of es ps) current test ≡ true
  unfolding is_ended_by is_parent
  by_parent p = rw (← (path_of_lem es ps current range), p)

  module _ (no-parent : has_id test (parts_in (parts_of ps) r) ≡ false) {s : Spec} (spec : s ≡ spec_for (table_of es ps) test) where
    path_is : parts_in (parts_of ps) s.path ≡ path_of (table_of es ps) test
    path_is = path_of_lem es ps test (ap (λ (s : Spec). s.path) spec)

    pub by_sibling : same_path (parts_in (parts_of ps) r) (parts_in (parts_of ps) s.path) ≡ true → is_ended_by (table_of es ps) current test ≡ true
    unfolding is_ended_by is_parent is_sibling
    by_sibling q = rw (← (path_of_lem es ps current range), ← path_is, no-parent, q)

    module _ (no-sibling : same_path (parts_in (parts_of ps) r) (parts_in (parts_of ps) s.path) ≡ false) where
      pub by_none : (length (parts_in (parts_of ps) s.path) ≡ 0 → ⊥) → is_ended_by (table_of es ps) current test ≡ false
      unfolding is_ended_by is_parent is_sibling is_typed_root
      by_none n =
          rw (← (path_of_lem es ps current range), ← path_is, no-parent, no-sibling, ne_eqb _ _ n)
          (and-false (is_typed (data_type_of (table_of es ps) test)))

      pub by_root : length (parts_in (parts_of ps) s.path) ≡ 0 → is_ended_by (table_of es ps) current test ≡ is_typed s.kind
      unfolding is_ended_by is_parent is_sibling is_typed_root
      by_root e =
          let kind = ap (λ (s : Spec). s.kind) spec in
          rw (← (path_of_lem es ps current range), ← path_is, no-parent, no-sibling, eq-eqb _ _ e, kind)
          (and-true (is_typed (data_type_of (table_of es ps) test)))
