-- A record that begins with a root, read in order: no parent is ever implied, so that its sizes alone decide whether
-- places are known.
use Rattle.std.specs.Prelude.{ℕ, ◌≡◌, true, List, [], ◌∷◌, ◌++◌, Ok}
use Rattle.table.specs.Table.{Entry, table_of, path_of, is_typed}
use Rattle.tag_parse.specs.Header.{read_header}
use Rattle.tag_parse.specs.declared.types.TagHeader.{TagHeader}
use Rattle.guarantees.specs.Calls.{Call, history, Lent}
use Rattle.guarantees.specs.CutRecords.{InOrder, every_known}
use Rattle.known_places.specs.KnownPlaces.{hierarchy_test_on, ever_implied, KnownHere}
use Rattle.tools.specs.declared.status.Status.TheVariants as status

-- the bytes s begin with a root: the header of an ID that has a type and an empty path
pub record BeginsAtRoot (t : List Entry) (s : List ℕ) : Type 0 where
  pub its : TagHeader
  pub read : read_header t s ≡ Ok (status.Complete its)
  pub typed : is_typed its.kind ≡ true
  pub root : path_of t its.id ≡ []

-- a front of such a record is read in order, in whatever pieces and with whatever settings, by the table in these words
pub record FromRoot (es ps : List ℕ) : Type 0 where
  -- no parent is ever implied
  pub none_implied : (s rest : List ℕ) → BeginsAtRoot (table_of es ps) (s ++ rest) → (cs : List Call) → Lent cs → InOrder es ps s cs
      → ever_implied ps (table_of es ps) (history es ps cs) ≡ []
  -- so where every Start was of known size and the hierarchy test is on, places are known
  pub known_here : (s rest : List ℕ) → BeginsAtRoot (table_of es ps) (s ++ rest) → (cs : List Call) (c : Call) → Lent (c ∷ cs) → InOrder es ps s (c ∷ cs) → hierarchy_test_on cs ≡ true
      → every_known (table_of es ps) (history es ps cs) ≡ true → KnownHere es ps cs c
