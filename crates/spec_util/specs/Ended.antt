-- Which IDs end a master: document 01, "One call of the decoder".
use Rattle.std.specs.Prelude.{ℕ, Bool, false, cond, ◌&&◌, ◌||◌, List, eqb, length}
use Rattle.basics.specs.Lists.{any}
use Rattle.table.specs.Check.{only_ids}
use Rattle.table.specs.Table.{Entry, data_type_of, path_of, same_path, is_typed}
use Rattle.table.specs.declared.types.PathPart.{PathPart}
use Rattle.table.specs.declared.types.PathPart.TheVariants.{Id, Global}

-- a part is this ID
unfoldable pub is_id_of : ℕ → PathPart → Bool
is_id_of id (Id x) = eqb x id
is_id_of id (Global min max) = false

-- the ID stands in a path
unfoldable pub has_id : ℕ → List PathPart → Bool
has_id id path = any (is_id_of id) path

-- "it is in the master's path"
unfoldable pub is_parent : List Entry → ℕ → ℕ → Bool
is_parent t master id = has_id id (path_of t master)

-- "has an equal path"
unfoldable pub is_sibling : List Entry → ℕ → ℕ → Bool
is_sibling t master id = same_path (path_of t master) (path_of t id)

-- "is a typed root"
unfoldable pub is_typed_root : List Entry → ℕ → Bool
is_typed_root t id = is_typed (data_type_of t id) && eqb (length (path_of t id)) 0

-- "An ID ends a master when it is in the master's path, has an equal path, or is a typed root"
unfoldable pub is_ended_by : List Entry → ℕ → ℕ → Bool
is_ended_by t master id = is_parent t master id || is_sibling t master id || is_typed_root t id

-- ---- in the strict mode

-- document 02, CR 11: a master closes "only where section 6.2 of the standard lets it end": at an ID that has a type and
-- no Global in its path, and is in the master's path, has an equal path or is a root
unfoldable pub is_ended_strictly : List Entry → ℕ → ℕ → Bool
is_ended_strictly t master id = is_typed (data_type_of t id) && only_ids (path_of t id) && is_ended_by t master id

-- strictly or as ported
unfoldable pub is_ended_in : Bool → List Entry → ℕ → ℕ → Bool
is_ended_in strict t master id = cond strict (is_ended_strictly t master id) (is_ended_by t master id)
