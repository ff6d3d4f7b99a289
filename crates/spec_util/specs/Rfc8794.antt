-- RFC 8794 over a table: where an element belongs (section 11.1.6), and which element ends one of unknown size (section
-- 6.2). What is decoded goes by Walk.antt and Ended.antt, as the Rust does; laws say where the two agree, and worked
-- examples where they do not.
use Rattle.std.specs.Prelude.{ℕ, ◌+◌, ◌-◌, Bool, true, false, cond, not, ◌&&◌, ◌||◌, ◌≡◌, eqb, length, drop, Option}
use mathlib.Core.List.{List, [], ◌∷◌, ◌++◌, Memᴰ}
use Rattle.basics.specs.Lists.{any}
use Rattle.table.specs.Table.{Entry, data_type_of, path_of, same_path, is_typed}
use Rattle.table.specs.Check.{only_ids}
use Rattle.table.specs.declared.types.PathPart.{PathPart}
use Rattle.table.specs.declared.types.PathPart.TheVariants.{Id, Global}
use Rattle.spec_util.specs.Ended.{is_parent}
use Rattle.spec_util.specs.Walk.{over_max, under_min, unknown_and_ended}
use Rattle.spec_util.specs.declared.types.OpenTag.{OpenTag}

-- ---- section 11.1.6: a path names the parents from the root

-- a Global may stand for so many parents: a missing min is 0, a missing max is no bound
unfoldable pub in_bounds : Option ℕ → Option ℕ → ℕ → Bool
in_bounds least most n = not (under_min n least) && not (over_max n most)

-- these are parents that the path names, from the root: an ID is that parent, and a Global stands for a number of
-- parents in between, min to max of them
abbrev pub PathNames : List PathPart → List ℕ → Type 0
PathNames [] parents = parents ≡ []
PathNames (Id x ∷ path) parents = (rest : List ℕ) × (parents ≡ x ∷ rest) × PathNames path rest
PathNames (Global least most ∷ path) parents =
    (between : List ℕ) × (rest : List ℕ) × (parents ≡ between ++ rest) × (in_bounds least most (length between) ≡ true) × PathNames path rest

-- what follows passes a test, after n parents that a Global stands for already and any number more, within its bounds
unfoldable pub passes_after : (List ℕ → Bool) → Option ℕ → Option ℕ → ℕ → List ℕ → Bool
passes_after test least most n [] = in_bounds least most n && test []
passes_after test least most n (x ∷ rest) = in_bounds least most n && test (x ∷ rest) || passes_after test least most (n + 1) rest

-- `PathNames` as a test
unfoldable pub path_names : List PathPart → List ℕ → Bool
path_names [] [] = true
path_names [] (y ∷ parents) = false
path_names (Id x ∷ path) [] = false
path_names (Id x ∷ path) (y ∷ parents) = eqb x y && path_names path parents
path_names (Global least most ∷ path) parents = passes_after (λ rest. path_names path rest) least most 0 parents

-- a Global stands in the path at its end, or nowhere
unfoldable pub global_only_last : List PathPart → Bool
global_only_last [] = true
global_only_last (Id x ∷ path) = global_only_last path
global_only_last (Global least most ∷ path) = eqb (length path) 0

-- no two Globals stand side by side
unfoldable pub globals_apart : List PathPart → Bool
globals_apart [] = true
globals_apart (Id x ∷ path) = globals_apart path
globals_apart (Global least most ∷ []) = true
globals_apart (Global least most ∷ Id x ∷ path) = globals_apart path
globals_apart (Global least most ∷ Global low high ∷ path) = false

-- these parents are different from each other
unfoldable pub all_different : List ℕ → Bool
all_different [] = true
all_different (x ∷ parents) = not (any (eqb x) parents) && all_different parents

-- this ID is among the parents at most once
unfoldable pub at_most_once : ℕ → List ℕ → Bool
at_most_once x [] = true
at_most_once x (y ∷ parents) = cond (eqb x y) (not (any (eqb x) parents)) (at_most_once x parents)

-- where a Global ends can be seen from the next ID: a Global is the path's last part, or the part after it is an ID that
-- is among the parents at most once
unfoldable pub read_one_way : List PathPart → List ℕ → Bool
read_one_way [] parents = true
read_one_way (Id x ∷ path) parents = read_one_way path parents
read_one_way (Global least most ∷ []) parents = true
read_one_way (Global least most ∷ Id x ∷ path) parents = at_most_once x parents && read_one_way path parents
read_one_way (Global least most ∷ Global low high ∷ path) parents = false

-- the open master is not one of unknown size that the ID ends, so the walk does not stop at it
unfoldable pub stays_open : List Entry → ℕ → OpenTag → Bool
stays_open t id m = not (unknown_and_ended false t m.known m.id id)

-- ---- section 6.2: where an element of unknown size ends

-- an element of the table with global elements left out: it has a type, and no Global stands in its path
pub record NotGlobal (t : List Entry) (id : ℕ) : Type 0 where
  pub typed : is_typed (data_type_of t id) ≡ true
  pub ids : only_ids (path_of t id) ≡ true

-- x is a parent of y: y's path names it
abbrev pub IsParentOf : List Entry → ℕ → ℕ → Type 0
IsParentOf t x y = Memᴰ (Id x) (path_of t y)

-- x is the direct parent of y: y's path names it last
pub record IsDirectParentOf (t : List Entry) (x y : ℕ) : Type 0 where
  pub above : List PathPart
  pub path : path_of t y ≡ above ++ (Id x ∷ [])

-- two elements share their direct parent
pub record ShareDirectParent (t : List Entry) (x y : ℕ) : Type 0 where
  pub parent : ℕ
  pub of_one : IsDirectParentOf t parent x
  pub of_other : IsDirectParentOf t parent y

-- an element ends one of unknown size, the master, by one of the three sentences that speak of elements
pub data EndsUnknownSize (t : List Entry) (master id : ℕ) : Type 0 where
  -- it is a valid parent of the master
  a_parent : NotGlobal t id → IsParentOf t id master → EndsUnknownSize t master id
  -- it is no descendant of the master but shares its direct parent
  a_sibling : NotGlobal t id → (IsParentOf t master id → ⊥) → ShareDirectParent t id master → EndsUnknownSize t master id
  -- it is a valid root element
  a_root : NotGlobal t id → path_of t id ≡ [] → EndsUnknownSize t master id

-- ---- the same as a test

-- the last part of a path; none, where it is empty
unfoldable pub last_part : List PathPart → List PathPart
last_part path = drop (length path - 1) path

-- `EndsUnknownSize` as a test; two roots have no last part, and pass as roots
unfoldable pub is_ended_by_rfc : List Entry → ℕ → ℕ → Bool
is_ended_by_rfc t master id =
    is_typed (data_type_of t id) && only_ids (path_of t id)
    && (is_parent t master id
    || not (is_parent t id master) && same_path (last_part (path_of t master)) (last_part (path_of t id))
    || eqb (length (path_of t id)) 0)

-- document 01, D10: an ID that the table does not have, at a root: the one case in which a Master of a checked table is
-- ended by document 01's rule and not by the RFC's
unfoldable pub untyped_at_root : List Entry → ℕ → ℕ → Bool
untyped_at_root t master id = not (is_typed (data_type_of t id)) && eqb (length (path_of t master)) 0
