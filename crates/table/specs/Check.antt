-- The table check: document 01, "The lent table": "10 for a bad shape; else it passes the table, or names the lowest
-- faulty entry and its first broken rule".
use Rattle.std.specs.Prelude.{ℕ, zero, suc, ◌+◌, Bool, true, false, cond, not, ◌&&◌, List, [], ◌∷◌, ◌++◌, eqb, length, take, get_or, Err, Ok, Result, ⊤}
use Rattle.tools.specs.ElementId.{is_element_id}
use Rattle.basics.specs.Lists.{every, any}
use Rattle.table.specs.Shape.{good_shape}
use Rattle.table.specs.Table.{Entry, table_of, unlisted, data_type_of, path_of, is_master, same_path}
use Rattle.table.specs.declared.types.TagDataType.{TagDataType}
use Rattle.table.specs.declared.types.PathPart.{PathPart}
use Rattle.table.specs.declared.types.PathPart.TheVariants.{Id, Global}
use Rattle.table.specs.declared.types.Rule.{Rule}
use Rattle.table.specs.declared.types.Rule.TheVariants.{NoElementId, Repeated, GlobalInMaster, NoMaster, OtherPath}
use Rattle.table.specs.declared.types.TableError.{TableError}
use Rattle.table.specs.declared.types.TableError.TheVariants as fault

-- ---- numbers

-- the rules are 31 to 35
abbrev pub rule_number : Rule → ℕ
rule_number NoElementId = 31
rule_number Repeated = 32
rule_number GlobalInMaster = 33
rule_number NoMaster = 34
rule_number OtherPath = 35

-- "answers 10 for a bad shape"; 0 for a table that passed
abbrev pub checked_number : Result ⊤ TableError → ℕ
checked_number (Err fault.BadShape) = 10
checked_number (Ok _) = 0
checked_number (Err (fault.Fault rule entry)) = rule_number rule

-- ---- the rules

-- 31, as document 02 has it ("The table check passes IDs that no file can hold"): the ID is an Element ID by RFC 8794
unfoldable pub allowed_id : ℕ → Bool
allowed_id id = is_element_id id

-- an entry of the table has this ID
unfoldable pub listed : ℕ → List Entry → Bool
listed id t = any (λ e. eqb e.id id) t

-- a part is an ID, and no Global
abbrev pub is_id : PathPart → Bool
is_id (Id x) = true
is_id (Global min max) = false

-- a path holds IDs only
unfoldable pub only_ids : List PathPart → Bool
only_ids path = every is_id path

-- 33: "a Master's path holds IDs only"
unfoldable pub master_of_ids : TagDataType → List PathPart → Bool
master_of_ids kind path = cond (is_master kind) (only_ids path) true

-- a part, if it is an ID, is a Master of the table
unfoldable pub master_or_global : List Entry → PathPart → Bool
master_or_global t (Id x) = is_master (data_type_of t x)
master_or_global t (Global min max) = true

-- 34: "every ID in a path is a Master of the table"
unfoldable pub all_masters : List Entry → List PathPart → Bool
all_masters t path = every (master_or_global t) path

-- 35: "an ID with only IDs before it in a path has exactly those as its own path"; the path is cut in what stands
-- before and the rest
unfoldable pub own_paths : List Entry → List PathPart → List PathPart → Bool
own_paths t before [] = true
own_paths t before (Id x ∷ rest) = same_path (path_of t x) before && own_paths t (before ++ (Id x ∷ [])) rest
own_paths t before (Global min max ∷ rest) = true

-- whether e, as entry i of the table t, keeps a rule; 32: "no earlier entry has this ID"
unfoldable pub keeps : List Entry → ℕ → Entry → Rule → Bool
keeps t i e NoElementId = allowed_id e.id
keeps t i e Repeated = not (listed e.id (take i t))
keeps t i e GlobalInMaster = master_of_ids e.kind e.path
keeps t i e NoMaster = all_masters t e.path
keeps t i e OtherPath = own_paths t [] e.path

-- ---- the check

-- the rules in their order
abbrev pub rules : List Rule
rules = NoElementId ∷ Repeated ∷ GlobalInMaster ∷ NoMaster ∷ OtherPath ∷ []

-- "its first broken rule"
unfoldable pub first_broken : (Rule → Bool) → List Rule → Result ⊤ Rule
first_broken kept [] = Ok tt
first_broken kept (r ∷ rs) = cond (kept r) (first_broken kept rs) (Err r)

-- what the rules say of entry i
abbrev pub judged : List Entry → ℕ → Result ⊤ Rule
judged t i = first_broken (keeps t i (get_or t i unlisted)) rules

-- a fault ends the check with its entry, counted from 0
unfoldable pub fault_or : Result ⊤ Rule → ℕ → Result ⊤ TableError → Result ⊤ TableError
fault_or (Ok _) i rest = rest
fault_or (Err r) i rest = Err (fault.Fault r i)

-- "the lowest faulty entry": of the n entries from i on
unfoldable pub check_from : List Entry → ℕ → ℕ → Result ⊤ TableError
check_from t zero i = Ok tt
check_from t (suc n) i = fault_or (judged t i) i (check_from t n (i + 1))

-- "answers 10 for a bad shape; else it passes the table, or names the lowest faulty entry and its first broken rule"
unfoldable pub check_table : List ℕ → List ℕ → Result ⊤ TableError
check_table es ps = cond (good_shape es ps) (check_from (table_of es ps) (length (table_of es ps)) 0) (Err fault.BadShape)
