-- The lent table: document 01, "The lent table": two lists of 64-bit words, read as entries and as path parts. Any
-- words are read: a table of bad shape has entries and parts too.
use Rattle.std.specs.Prelude.{ℕ, ◌-◌, ◌*◌, ◌≤◌, ◌<◌, min, Bool, true, false, cond, ◌&&◌, List, [], ◌∷◌, ◌≡◌, eqb, length, get_or, take, drop, None, Option, Some}
use Rattle.table.specs.declared.types.TagDataType.{TagDataType}
use Rattle.table.specs.declared.types.TagDataType.TheVariants.{Untyped, Master, UnsignedInt, Integer, Utf8, Binary, Float}
use Rattle.table.specs.declared.types.PathPart.{PathPart}
use Rattle.table.specs.declared.types.PathPart.TheVariants.{Id, Global}
use Rattle.table.specs.declared.types.Path.{Path}
use Rattle.table.specs.declared.types.Spec.{Spec}

-- ---- the words

-- "Parts, 3 words": what f makes of each three words; one or two that are left over make nothing
unfoldable pub threes : {A : Type 0} → (ℕ → ℕ → ℕ → A) → List ℕ → List A
threes f [] = []
threes f (a ∷ []) = []
threes f (a ∷ b ∷ []) = []
threes f (a ∷ b ∷ c ∷ ws) = f a b c ∷ threes f ws

-- "Entries, 4 words", the same
unfoldable pub fours : {A : Type 0} → (ℕ → ℕ → ℕ → ℕ → A) → List ℕ → List A
fours f [] = []
fours f (a ∷ []) = []
fours f (a ∷ b ∷ []) = []
fours f (a ∷ b ∷ c ∷ []) = []
fours f (a ∷ b ∷ c ∷ d ∷ ws) = f a b c d ∷ fours f ws

-- ---- parts

-- "0 means not given and n+1 means n"
unfoldable pub bound_of : ℕ → Option ℕ
bound_of word = cond (eqb word 0) None (Some (word - 1))

-- "(0, ID, 0), or (1, min, max) for a Global"
unfoldable pub part_of : ℕ → ℕ → ℕ → PathPart
part_of sort low high = cond (eqb sort 0) (Id low) (Global (bound_of low) (bound_of high))

-- all the parts of the table, in order
abbrev pub parts_of : List ℕ → List PathPart
parts_of ws = threes part_of ws

-- the parts of a range, as many of them as there are
abbrev pub parts_in : List PathPart → Path → List PathPart
parts_in ps p = take p.count (drop p.first ps)

-- the IDs that a path names, outermost first; a Global names none
unfoldable pub path_ids : List PathPart → List ℕ
path_ids [] = []
path_ids (Id x ∷ path) = x ∷ path_ids path
path_ids (Global least most ∷ path) = path_ids path

-- two bounds are equal as values
unfoldable pub same_bound : Option ℕ → Option ℕ → Bool
same_bound None None = true
same_bound None (Some n) = false
same_bound (Some m) None = false
same_bound (Some m) (Some n) = eqb m n

-- two parts are equal as values
unfoldable pub same_part : PathPart → PathPart → Bool
same_part (Id x) (Id y) = eqb x y
same_part (Id x) (Global min max) = false
same_part (Global min max) (Id y) = false
same_part (Global min max) (Global least most) = same_bound min least && same_bound max most

-- two paths are equal as values, wherever they lie
unfoldable pub same_path : List PathPart → List PathPart → Bool
same_path [] [] = true
same_path [] (q ∷ qs) = false
same_path (p ∷ ps) [] = false
same_path (p ∷ ps) (q ∷ qs) = same_part p q && same_path ps qs

-- ---- entries

-- "type (0 Master, 1 Unsigned, 2 Integer, 3 Utf8, 4 Binary, 5 Float)"; a word above 5, which is of bad shape, counts as
-- 5
unfoldable pub kind_of : ℕ → TagDataType
kind_of word =
    cond (eqb word 0) Master
    (cond (eqb word 1) UnsignedInt
    (cond (eqb word 2) Integer
    (cond (eqb word 3) Utf8
    (cond (eqb word 4) Binary
    Float))))

-- a type is Master
unfoldable pub is_master : TagDataType → Bool
is_master Untyped = false
is_master Master = true
is_master UnsignedInt = false
is_master Integer = false
is_master Utf8 = false
is_master Binary = false
is_master Float = false

-- an ID has a type: it is in the table
unfoldable pub is_typed : TagDataType → Bool
is_typed Untyped = false
is_typed Master = true
is_typed UnsignedInt = true
is_typed Integer = true
is_typed Utf8 = true
is_typed Binary = true
is_typed Float = true

-- of a range, as much as lies in so many parts
unfoldable pub clipped : ℕ → ℕ → ℕ → Path
clipped all first count = record { first = first; count = min count (all - first) }

-- an entry: what it says of its ID, and where in the parts its path stands
pub record Entry : Type 0 where
  pub id : ℕ
  pub kind : TagDataType
  pub path : List PathPart
  pub range : Path

-- an entry of its four words: ID, type, first part, number of parts
unfoldable pub entry_of : List PathPart → ℕ → ℕ → ℕ → ℕ → Entry
entry_of ps id kind first count = record {
  id = id;
  kind = kind_of kind;
  path = take count (drop first ps);
  range = clipped (length ps) first count;
}

-- all the entries, in order
unfoldable pub table_of : List ℕ → List ℕ → List Entry
table_of es ps = fours (entry_of (parts_of ps)) es

-- ---- look-ups

-- "an ID not in the table has no type and the empty path"
abbrev pub unlisted : Entry
unlisted = record { id = 0; kind = Untyped; path = []; range = record { first = 0; count = 0 } }

-- "The first entry with an ID counts"
unfoldable pub entry_for : List Entry → ℕ → Entry
entry_for [] id = unlisted
entry_for (e ∷ t) id = cond (eqb e.id id) e (entry_for t id)

-- the type of an ID
abbrev pub data_type_of : List Entry → ℕ → TagDataType
data_type_of t id = (entry_for t id).kind

-- the path of an ID
abbrev pub path_of : List Entry → ℕ → List PathPart
path_of t id = (entry_for t id).path

-- where among the parts the path of an ID stands
abbrev pub range_of : List Entry → ℕ → Path
range_of t id = (entry_for t id).range

-- what an entry says, type and range at once
abbrev pub spec_of : Entry → Spec
spec_of e = record { kind = e.kind; path = e.range }

-- what the table says of an ID
abbrev pub spec_for : List Entry → ℕ → Spec
spec_for t id = spec_of (entry_for t id)

-- ---- what a helper's contract uses

-- r is the place of the first of the first n entries whose words say this ID, or n where none does
pub record FirstWith (es : List ℕ) (id n r : ℕ) : Type 0 where
  pub within : r ≤ n
  pub none_before : (j : ℕ) → j < r → get_or es (4 * j) 0 ≡ id → ⊥
  pub here : r < n → get_or es (4 * r) 0 ≡ id
