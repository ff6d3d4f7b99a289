-- The check as the code goes about it: rule 35 as a loop over a path, the rules of one entry in their order, and the
-- check as a loop over the entries. Assumes nothing.
use Prim.Native.Nat.{ℕ, zero, suc, ◌+◌, ◌-◌, ◌*◌, ◌/◌, ◌≤◌, ◌<◌}
use mathlib.Core.Path.{◌≡◌, sym, ap}
use mathlib.Core.Bool.{true, false, not}
use mathlib.Core.List.{List, []}
use native.Mathlib.Numerals.{add-one}
use native.Mathlib.Omega.{arith}
use lib.ListN.{length, get_or, take, drop, drop_of_length-le}
use lib.Seq.{drop-cons, take-suc}
use Rattle.table.specs.Table.{Entry, parts_of, parts_in, table_of, unlisted, spec_of, path_of, same_path}
use Rattle.table.specs.Check.{allowed_id, listed, master_of_ids, all_masters, own_paths, keeps, judged, fault_or, check_from}
use Rattle.table.specs.declared.types.PathPart.{PathPart}
use Rattle.table.specs.declared.types.PathPart.TheVariants.{Id, Global}
use Rattle.table.specs.declared.types.Spec.{Spec}
use Rattle.table.specs.declared.types.Rule.{Rule}
use Rattle.table.specs.declared.types.Rule.TheVariants.{NoElementId, Repeated, GlobalInMaster, NoMaster, OtherPath}
use Rattle.table.proofs.Entries.{id_at, path_at}
use Rattle.std.specs.Prelude.{Err, Ok, Option}
use Rattle.table.specs.declared.types.TableError.TheVariants as fault

-- ---- rule 35 along a path

module _ (t : List Entry) (path : List PathPart) (z : PathPart) (i : ℕ) (h : i < length path) where
  pub own_fails : {x : ℕ} → get_or path i z ≡ Id x → same_path (path_of t x) (take i path) ≡ false → own_paths t (take i path) (drop i path) ≡ false
  unfolding own_paths
  own_fails e n = rw (drop-cons path i z h, e, n)

  pub own_next : {x : ℕ} → get_or path i z ≡ Id x → same_path (path_of t x) (take i path) ≡ true
      → own_paths t (take i path) (drop i path) ≡ own_paths t (take (i + 1) path) (drop (i + 1) path)
  unfolding own_paths
  own_next e y = rw (add-one, take-suc path i z h, drop-cons path i z h, e, y)

  pub own_global : {least most : Option ℕ} → get_or path i z ≡ Global least most → own_paths t (take i path) (drop i path) ≡ true
  unfolding own_paths
  own_global e = rw (drop-cons path i z h, e)

pub own_end : (t : List Entry) (path : List PathPart) (i : ℕ) → length path ≤ i → own_paths t (take i path) (drop i path) ≡ true
unfolding own_paths
own_end t path i h = rw (drop_of_length-le path h)

-- ---- the rules of one entry, over its words

module _ (es ps : List ℕ) (i : ℕ) (h : i < length es / 4) where
  pub kept_31 : keeps (table_of es ps) i (get_or (table_of es ps) i unlisted) NoElementId ≡ allowed_id (get_or es (4 * i) 0)
  unfolding keeps
  kept_31 = ap allowed_id (id_at es ps i h)

  pub kept_32 : keeps (table_of es ps) i (get_or (table_of es ps) i unlisted) Repeated ≡ not (listed (get_or es (4 * i) 0) (take i (table_of es ps)))
  unfolding keeps
  kept_32 = ap (λ (id : ℕ). not (listed id (take i (table_of es ps)))) (id_at es ps i h)

module _ (es ps : List ℕ) (i : ℕ) {s : Spec} (read : s ≡ spec_of (get_or (table_of es ps) i unlisted)) where
  pub kept_33 : keeps (table_of es ps) i (get_or (table_of es ps) i unlisted) GlobalInMaster ≡ master_of_ids s.kind (parts_in (parts_of ps) s.path)
  unfolding keeps
  kept_33 = rw read (ap (master_of_ids (get_or (table_of es ps) i unlisted).kind) (sym (path_at es ps i)))

  pub kept_34 : keeps (table_of es ps) i (get_or (table_of es ps) i unlisted) NoMaster ≡ all_masters (table_of es ps) (parts_in (parts_of ps) s.path)
  unfolding keeps
  kept_34 = rw read (ap (all_masters (table_of es ps)) (sym (path_at es ps i)))

  pub kept_35 : keeps (table_of es ps) i (get_or (table_of es ps) i unlisted) OtherPath ≡ own_paths (table_of es ps) [] (parts_in (parts_of ps) s.path)
  unfolding keeps
  kept_35 = rw read (ap (own_paths (table_of es ps) []) (sym (path_at es ps i)))

-- ---- the entries in turn

module _ (t : List Entry) (i : ℕ) where
  pub check_stops : (n : ℕ) (r : Rule) → 0 < n → judged t i ≡ Err r → check_from t n i ≡ Err (fault.Fault r i)
  unfolding check_from fault_or
  check_stops zero r h e = absurd (omega arith)
  check_stops (suc n) r h e = rw e

  pub check_goes_on : (n : ℕ) → 0 < n → judged t i ≡ Ok tt → check_from t n i ≡ check_from t (n - 1) (i + 1)
  unfolding check_from fault_or
  check_goes_on zero h e = absurd (omega arith)
  check_goes_on (suc n) h e = let o : suc n - 1 ≡ n = omega arith in rw (e, o)
