-- What the table check says of a table, as facts: the laws that a later proof cites speak of these, and of no text of
-- the check.
use Rattle.std.specs.Prelude.{ℕ, ◌<◌, ◌≡◌, true, length, get_or}
use mathlib.Core.List.{List, [], ◌∷◌, ◌++◌, Memᴰ}
use Rattle.table.specs.Table.{Entry, unlisted, data_type_of, path_of}
use Rattle.table.specs.Check.{rule_number, allowed_id, only_ids}
use Rattle.table.specs.declared.types.TagDataType.TheVariants.{Master}
use Rattle.table.specs.declared.types.PathPart.{PathPart}
use Rattle.table.specs.declared.types.PathPart.TheVariants.{Id}
use Rattle.table.specs.declared.types.Rule.{Rule}
use Rattle.table.specs.declared.types.Rule.TheVariants.{NoElementId, Repeated, GlobalInMaster, NoMaster, OtherPath}

-- entry i of a table
abbrev pub at : List Entry → ℕ → Entry
at t i = get_or t i unlisted

-- every ID in the path is a Master of the table
abbrev pub Masters : List Entry → List PathPart → Type 0
Masters t path = (x : ℕ) → Memᴰ (Id x) path → data_type_of t x ≡ Master

-- an ID with only IDs before it in the path, which follow the IDs pre, has exactly those as its own path
abbrev pub OwnPaths : List Entry → List PathPart → List PathPart → Type 0
OwnPaths t pre path =
    (before : List PathPart) (x : ℕ) (after : List PathPart) → path ≡ before ++ Id x ∷ after → only_ids before ≡ true → path_of t x ≡ pre ++ before

-- what each rule says of entry i
abbrev pub Kept : List Entry → ℕ → Rule → Type 0
Kept t i NoElementId = allowed_id (at t i).id ≡ true
Kept t i Repeated = (j : ℕ) → j < i → (at t j).id ≡ (at t i).id → ⊥
Kept t i GlobalInMaster = (at t i).kind ≡ Master → only_ids (at t i).path ≡ true
Kept t i NoMaster = Masters t (at t i).path
Kept t i OtherPath = OwnPaths t [] (at t i).path

-- what a table that passed has
pub record PassedTable (t : List Entry) : Type 0 where
  -- 31: the ID is an Element ID by RFC 8794
  pub allowed : (i : ℕ) → i < length t → allowed_id (at t i).id ≡ true
  -- 32: each ID stands once
  pub once : (i j : ℕ) → i < length t → j < length t → (at t i).id ≡ (at t j).id → i ≡ j
  -- 33: "a Master's path holds IDs only"
  pub of_ids : (i : ℕ) → i < length t → (at t i).kind ≡ Master → only_ids (at t i).path ≡ true
  -- 34: "every ID in a path is a Master of the table"
  pub masters : (i : ℕ) → i < length t → Masters t (at t i).path
  -- 35: "an ID with only IDs before it in a path has exactly those as its own path"
  pub own_paths_lem : (i : ℕ) → i < length t → OwnPaths t [] (at t i).path

-- the lowest entry that breaks a rule, and the first rule that it breaks
pub record LowestFault (t : List Entry) (r : Rule) (i : ℕ) : Type 0 where
  pub there : i < length t
  pub broken : Kept t i r → ⊥
  pub first : (s : Rule) → rule_number s < rule_number r → Kept t i s
  pub lowest : (j : ℕ) → j < i → (s : Rule) → Kept t j s
