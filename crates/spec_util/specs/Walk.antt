-- The path walk of an ID along its path: document 01, "One call of the decoder", "Path walk".
use Rattle.std.specs.Prelude.{ℕ, zero, suc, ◌+◌, ◌-◌, ◌^◌, ◌<◌, min, Bool, true, false, cond, not, ◌&&◌, ◌||◌, List, [], ◌∷◌, reverse, ◌≡◌, leb, ltb, eqb, length, get_or, take, None, Option, Some}
use Rattle.basics.specs.Lists.{array_places, every}
use Rattle.table.specs.Table.{Entry, path_of}
use Rattle.table.specs.declared.types.PathPart.{PathPart}
use Rattle.table.specs.declared.types.PathPart.TheVariants.{Id, Global}
use Rattle.spec_util.specs.Ended.{is_id_of, is_ended_in}
use Rattle.spec_util.specs.declared.types.OpenTag.{OpenTag}
use Rattle.spec_util.specs.declared.types.Walk.{Walk}
use Rattle.spec_util.specs.declared.types.Walk.TheVariants.{Accept, Refuse, On}

-- an open master that has had no child yet: ID, size known or not, size (0 where it is not known), start, data start
abbrev pub open_tag : ℕ → Bool → ℕ → ℕ → ℕ → OpenTag
open_tag x known size start from = record { id = x; known = known; size = size; tag_start = start; data_start = from; count = 0 }

-- what an empty place of the open masters holds
abbrev pub no_tag : OpenTag
no_tag = open_tag 0 false 0 0 0

-- a record has places for so many open masters
abbrev pub most_open : ℕ
most_open = array_places

-- ---- bounds: one that is not given bounds nothing

-- "over max"
unfoldable pub over_max : ℕ → Option ℕ → Bool
over_max n None = false
over_max n (Some most) = ltb most n

-- "below min"
unfoldable pub under_min : ℕ → Option ℕ → Bool
under_min n None = false
under_min n (Some least) = ltb n least

-- ---- one master

-- part i of the path is there, and is this ID
unfoldable pub is_id_at : List PathPart → ℕ → ℕ → Bool
is_id_at path i id = ltb i (length path) && is_id_of id (get_or path i (Id 0))

-- "Global: counter +1; over max: refuse; if the next part is this master's ID: below min refuse, else marker +2,
-- counter 0"; n is the counter with this master counted
unfoldable pub walk_global : List PathPart → ℕ → ℕ → ℕ → Option ℕ → Option ℕ → Walk
walk_global path master marker n least most =
    cond (over_max n most) Refuse
    (cond (is_id_at path (marker + 1) master)
    (cond (under_min n least) Refuse (On (marker + 2) 0))
    (On marker n))

-- strictly, document 02, CR 11: "The Global counter counts only the parents between the ID parts", so a master that is
-- the next part is not counted, for max neither; n is the counter without this master
unfoldable pub walk_global_strictly : List PathPart → ℕ → ℕ → ℕ → Option ℕ → Option ℕ → Walk
walk_global_strictly path master marker n least most =
    cond (is_id_at path (marker + 1) master)
    (cond (under_min n least) Refuse (On (marker + 2) 0))
    (cond (over_max (n + 1) most) Refuse (On marker (n + 1)))

-- "ID part: equal, marker +1, else refuse"; a Global strictly or as ported
unfoldable pub walk_at : Bool → List PathPart → PathPart → ℕ → ℕ → ℕ → Walk
walk_at strict path (Id x) master marker counter = cond (eqb x master) (On (marker + 1) counter) Refuse
walk_at strict path (Global least most) master marker counter =
    cond strict (walk_global_strictly path master marker counter least most) (walk_global path master marker (counter + 1) least most)

-- "Marker past the path: refuse"
unfoldable pub walk_part : Bool → List PathPart → ℕ → ℕ → ℕ → Walk
walk_part strict path master marker counter =
    cond (leb (length path) marker) Refuse (walk_at strict path (get_or path marker (Id 0)) master marker counter)

-- "Unknown and ended by the new ID", strictly or as ported
unfoldable pub unknown_and_ended : Bool → List Entry → Bool → ℕ → ℕ → Bool
unknown_and_ended strict t known master id = not known && is_ended_in strict t master id

-- as ported, "Unknown and ended by the new ID: accept at once", tested first at each master; strictly no master accepts
unfoldable pub walk_master : Bool → List Entry → List PathPart → ℕ → ℕ → Bool → ℕ → ℕ → Walk
walk_master strict t path id master known marker counter =
    cond (not strict && unknown_and_ended false t known master id) Accept (walk_part strict path master marker counter)

-- ---- the end

-- "a last part that is a Global with counter ≥ min"
unfoldable pub min_met : PathPart → ℕ → Bool
min_met (Id x) counter = false
min_met (Global least most) counter = not (under_min counter least)

-- "At the end accept if the marker is at the path's end, or at a last part that is a Global with counter ≥ min"
unfoldable pub walk_end : List PathPart → ℕ → ℕ → Bool
walk_end path marker counter =
    eqb marker (length path) || eqb (marker + 1) (length path) && min_met (get_or path marker (Id 0)) counter

-- ---- the walk

-- an answer ends the walk
unfoldable pub go_on : Walk → (ℕ → ℕ → Bool) → Bool
go_on Accept rest = true
go_on Refuse rest = false
go_on (On marker counter) rest = rest marker counter

-- the masters that are left, outermost first
unfoldable pub walk_from : Bool → List Entry → List PathPart → ℕ → ℕ → ℕ → List OpenTag → Bool
walk_from strict t path id marker counter [] = walk_end path marker counter
walk_from strict t path id marker counter (m ∷ ms) =
    go_on (walk_master strict t path id m.id m.known marker counter) (λ next so_far. walk_from strict t path id next so_far ms)

-- how many of these masters, the top first, the ID ends before one stays open
unfoldable pub ended_tops : Bool → List Entry → ℕ → List OpenTag → ℕ
ended_tops strict t id [] = 0
ended_tops strict t id (m ∷ l) = cond (unknown_and_ended strict t m.known m.id id) (ended_tops strict t id l + 1) 0

-- the masters that the ID leaves open, of those that are, outermost first
unfoldable pub left_open : Bool → List Entry → ℕ → List OpenTag → List OpenTag
left_open strict t id masters = take (length masters - ended_tops strict t id (reverse masters)) masters

-- as ported, "from the outermost open master, marker 0, counter 0"; strictly over the masters that the ID leaves open,
-- none of which it may end: it "refuses an ID that ends an open master but not every one above it"
unfoldable pub place_along : Bool → List Entry → List PathPart → ℕ → List OpenTag → Bool
place_along strict t path id masters =
    cond strict
    (every (λ m. not (unknown_and_ended true t m.known m.id id)) (left_open true t id masters)
    && walk_from true t path id 0 0 (left_open true t id masters))
    (walk_from false t path id 0 0 masters)

-- the same along the ID's own path
unfoldable pub validate_tag_path : Bool → List Entry → ℕ → List OpenTag → Bool
validate_tag_path strict t id masters = place_along strict t (path_of t id) id masters

-- ---- the open masters in lent words

-- a master of which lent words show the ID and whether its size is known; the walk asks no more of it
abbrev pub shown_as : ℕ → Bool → OpenTag
shown_as id known = open_tag id known 0 0 0

-- the first n masters that the words show, outermost first; what lies past the words of either kind is not there
unfoldable pub masters_shown : List ℕ → List Bool → ℕ → List OpenTag
masters_shown [] knowns n = []
masters_shown (id ∷ ids) [] n = []
masters_shown (id ∷ ids) (known ∷ knowns) zero = []
masters_shown (id ∷ ids) (known ∷ knowns) (suc n) = shown_as id known ∷ masters_shown ids knowns n

-- n words that show the IDs of n masters; of the words past them nothing is said
pub record ShownIds (ids : List ℕ) (n : ℕ) (l : List OpenTag) : Type 0 where
  pub many : length l ≡ n
  pub ids_are : (i : ℕ) → i < n → get_or ids i 0 ≡ (get_or l i no_tag).id

-- besides, whether the size of each is known
pub record Shown (ids : List ℕ) (knowns : List Bool) (n : ℕ) (l : List OpenTag) : Type 0 where
  pub shown_ids : ShownIds ids n l
  pub knowns_are : (i : ℕ) → i < n → get_or knowns i false ≡ (get_or l i no_tag).known

-- ---- what helpers' contracts use

-- the counter that one step of the code takes: it can count one more in 64 bits
abbrev pub counted_of : ℕ → ℕ
counted_of counter = min counter (2 ^ 64 - 2)
