-- What known sizes buy, for hospitals: of a night that is read by document 01's bench table, and of what is counted in
-- it (document 02, CR 10 and CR 12).
use Rattle.std.specs.Prelude.{ℕ, ◌≡◌, true, List, [], ◌∷◌, ◌++◌, map, Ok}
use Rattle.table.specs.BenchTable.{bench_entries, bench_parts, bench}
use Rattle.table.specs.Table.{table_of, path_of}
use Rattle.table.specs.declared.types.PathPart.TheVariants.{Id}
use Rattle.tag_parse.specs.declared.types.TagValue.{TagValue}
use Rattle.decoder_rules.specs.declared.types.Answer.TheVariants as answer
use Rattle.decoder_rules.specs.declared.types.Event.{Event}
use Rattle.decoder_rules.specs.declared.types.Event.TheVariants.{Start, End, Data}
use Rattle.decoder_rules.specs.declared.types.WaitingEnd.{WaitingEnd}
use Rattle.guarantees.specs.Calls.{Call, history, Lent}
use Rattle.guarantees.specs.CutRecords.{InOrder, every_known}
use Rattle.guarantees.specs.History.{Started, child_test_never_off}
use Rattle.guarantees.specs.Promises.{event_id, Answers, open_at}
use Rattle.known_places.specs.CountedInFile.{EndCounts}
use Rattle.known_places.specs.FromRoot.{BeginsAtRoot}
use Rattle.known_places.specs.KnownPlaces.{hierarchy_test_on, place_of, OfPath, KnownHere}

-- the IDs of the Starts that are open after these calls, the innermost first
abbrev pub open_ids : List ℕ → List ℕ → List Call → List ℕ
open_ids es ps cs = map (λ m. m.id) (open_at es ps cs)

-- a night of known sizes, up to the call c: what has come of it is read in order, in whatever pieces and without
-- recovery; with what is to come it begins with a Session; every Start so far was of known size, and the hierarchy test
-- is on
pub record KnownNight (night : List ℕ) (cs : List Call) (c : Call) : Type 0 where
  pub to_come : List ℕ
  pub begins : BeginsAtRoot bench (night ++ to_come)
  pub octets : Lent (c ∷ cs)
  pub in_order : InOrder bench_entries bench_parts night (c ∷ cs)
  pub sizes : every_known bench (history bench_entries bench_parts cs) ≡ true
  pub test_on : hierarchy_test_on cs ≡ true

-- in a night of known sizes each element of the bench table lies where it belongs, and is counted there
pub record BenchPlaces : Type 0 where
  -- places are known
  pub known_night : (night : List ℕ) (cs : List Call) (c : Call) → KnownNight night cs c → KnownHere bench_entries bench_parts cs c
  -- every Amount lies in a Feed of a Session
  pub amount_in_feed : (cs : List Call) (c : Call) → KnownHere bench_entries bench_parts cs c → (o : ℕ) (v : TagValue)
      → Answers bench_entries bench_parts cs c (Ok (answer.Event (Data 0xA2 o v))) → open_ids bench_entries bench_parts cs ≡ 0xA1 ∷ 0x4E01 ∷ []
  -- every Feed lies in a Session
  pub feed_in_session : (cs : List Call) (c : Call) → KnownHere bench_entries bench_parts cs c → (o : ℕ)
      → Answers bench_entries bench_parts cs c (Ok (answer.Event (Start 0xA1 o))) → open_ids bench_entries bench_parts cs ≡ 0x4E01 ∷ []
  -- every Session lies at the root
  pub session_at_root : (cs : List Call) (c : Call) → KnownHere bench_entries bench_parts cs c → (o : ℕ)
      → Answers bench_entries bench_parts cs c (Ok (answer.Event (Start 0x4E01 o))) → open_ids bench_entries bench_parts cs ≡ []
  -- and the count of a Feed, as that of a Session, is the number of its children in the file, if the child-size test
  -- was never off
  pub counted : (night : List ℕ) (cs : List Call) (c : Call) → KnownNight night cs c → child_test_never_off cs ≡ true → (end : WaitingEnd)
      → Answers bench_entries bench_parts cs c (Ok (answer.Event (End end))) → EndCounts bench_entries bench_parts night cs end

-- what is counted in a master is a child of it by the table, of the table in these words
pub record CountedChildren (es ps : List ℕ) : Type 0 where
  -- the last Start that is open, in which the element counts, is the last ID of its path, and those around it are the
  -- rest of the path
  pub child_of_last : (cs : List Call) (c : Call) → KnownHere es ps cs c → (e : Event) → OfPath es ps cs c e → (m : Started) (around : List Started)
      → open_at es ps cs ≡ m ∷ around → path_of (table_of es ps) (event_id e) ≡ place_of around ++ (Id m.id ∷ [])
