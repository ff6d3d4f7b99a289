-- Worked examples: document 01's bench table, and tables that break each rule, computed. Assumes nothing.
use Prim.Native.Nat.{ℕ}
use mathlib.Core.Path.{◌≡◌, refl}
use mathlib.Core.Bool.{true, false}
use mathlib.Core.List.{List, [], ◌∷◌, ◌++◌}
use Rattle.table.proofs.Computing.{table_computes}
use Rattle.table.specs.Table.{data_type_of, path_of}
use Rattle.table.specs.BenchTable.{bench_entries, bench_parts, bench}
use Rattle.table.specs.Shape.{good_shape}
use Rattle.table.specs.Check.{check_table}
use Rattle.table.specs.declared.types.TagDataType.TheVariants.{Untyped, Master, UnsignedInt, Binary, Float}
use Rattle.table.specs.declared.types.PathPart.TheVariants.{Id, Global}
use Rattle.table.specs.declared.types.Rule.TheVariants.{NoElementId, Repeated, GlobalInMaster, NoMaster, OtherPath}
use Rattle.std.specs.Prelude.{Err, None, Ok}
use Rattle.table.specs.declared.types.TableError.TheVariants as fault

-- what is looked up in the bench table
pub record LookUps : Type 0 where
  pub session : (data_type_of bench 0x4E01 ≡ Master) × (path_of bench 0x4E01 ≡ [])
  pub feed : (data_type_of bench 0xA1 ≡ Master) × (path_of bench 0xA1 ≡ Id 0x4E01 ∷ [])
  pub amount : (data_type_of bench 0xA2 ≡ UnsignedInt) × (path_of bench 0xA2 ≡ Id 0x4E01 ∷ Id 0xA1 ∷ [])
  pub rate : data_type_of bench 0xA6 ≡ Float
  pub void : (data_type_of bench 0xEC ≡ Binary) × (path_of bench 0xEC ≡ Global None None ∷ [])
  pub none : (data_type_of bench 0xEE ≡ Untyped) × (path_of bench 0xEE ≡ [])

pub look_ups : LookUps
unfolding table_computes
look_ups = record {
  session = (refl, refl);
  feed = (refl, refl);
  amount = (refl, refl);
  rate = refl;
  void = (refl, refl);
  none = (refl, refl);
}

-- entries of a small table, over the parts: in 81; in 81, in 82; anywhere with 1 or 2 between
abbrev parts : List ℕ
parts = 0 ∷ 0x81 ∷ 0 ∷ 0 ∷ 0x82 ∷ 0 ∷ 1 ∷ 2 ∷ 3 ∷ []

pub record Checks : Type 0 where
  pub bench_passes : check_table bench_entries bench_parts ≡ Ok tt
  pub empty_passes : check_table [] [] ≡ Ok tt
  -- 1 is accepted by `is_vint` and is no Element ID; 407F is one, in the shortest form that its data has
  pub one : check_table (1 ∷ 0 ∷ 0 ∷ 0 ∷ []) [] ≡ Err (fault.Fault NoElementId 0)
  pub two_bytes : check_table (0x407F ∷ 0 ∷ 0 ∷ 0 ∷ 0x407E ∷ 0 ∷ 0 ∷ 0 ∷ []) [] ≡ Err (fault.Fault NoElementId 1)
  pub twice : check_table (0x81 ∷ 0 ∷ 0 ∷ 0 ∷ 0x81 ∷ 1 ∷ 0 ∷ 0 ∷ []) [] ≡ Err (fault.Fault Repeated 1)
  pub global : check_table (0x81 ∷ 0 ∷ 2 ∷ 1 ∷ []) parts ≡ Err (fault.Fault GlobalInMaster 0)
  pub no_entry : check_table (0x82 ∷ 0 ∷ 0 ∷ 1 ∷ []) parts ≡ Err (fault.Fault NoMaster 0)
  pub no_master_lem : check_table (0x81 ∷ 1 ∷ 0 ∷ 0 ∷ 0x82 ∷ 0 ∷ 0 ∷ 1 ∷ []) parts ≡ Err (fault.Fault NoMaster 1)
  pub other_path : check_table (0x81 ∷ 0 ∷ 0 ∷ 0 ∷ 0x82 ∷ 0 ∷ 0 ∷ 0 ∷ 0x83 ∷ 1 ∷ 0 ∷ 2 ∷ []) parts ≡ Err (fault.Fault OtherPath 2)
  -- a Global and an ID after it that is no Master: 33 comes before 34
  pub both : check_table (0x81 ∷ 0 ∷ 2 ∷ 2 ∷ []) (parts ++ (0 ∷ 0x85 ∷ 0 ∷ [])) ≡ Err (fault.Fault GlobalInMaster 0)
  -- the first part plus the number is one past the parts, also for an empty path, and never wraps
  pub past : good_shape (0x81 ∷ 0 ∷ 3 ∷ 1 ∷ []) parts ≡ false
  pub at_end : good_shape (0x81 ∷ 0 ∷ 3 ∷ 0 ∷ []) parts ≡ true
  pub past_end : good_shape (0x81 ∷ 0 ∷ 4 ∷ 0 ∷ []) parts ≡ false
  pub wide : good_shape (0x81 ∷ 0 ∷ 0xffff_ffff_ffff_ffff ∷ 1 ∷ []) parts ≡ false
  -- a part that no entry uses
  pub unused : good_shape [] (0 ∷ 0x81 ∷ 1 ∷ []) ≡ false

pub checks : Checks
unfolding table_computes
checks = record {
  bench_passes = refl;
  empty_passes = refl;
  one = refl;
  two_bytes = refl;
  twice = refl;
  global = refl;
  no_entry = refl;
  no_master_lem = refl;
  other_path = refl;
  both = refl;
  past = refl;
  at_end = refl;
  past_end = refl;
  wide = refl;
  unused = refl;
}
