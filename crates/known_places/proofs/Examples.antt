-- Known places, computed: at D1's Amount all that document 02 asks is met, and the place is the path. And each thing
-- that is needed is needed: a run for each in which only that is missing, and the place is another. What is not needed
-- is missing in one run at once, and the place is the path. Assumes nothing.
use Prim.Native.Nat.{ℕ}
use mathlib.Core.Path.{◌≡◌, refl}
use mathlib.Core.Bool.{Bool, true, false}
use mathlib.Core.List.{List, [], ◌∷◌}
use lib.ListN.{drop}
use Rattle.basics.specs.Lists.{every}
use Rattle.table.specs.BenchTable.{bench_entries, bench_parts}
use Rattle.table.specs.Check.{check_table}
use Rattle.table.specs.Table.{table_of, path_of}
use Rattle.table.specs.declared.types.PathPart.{PathPart}
use Rattle.table.specs.declared.types.PathPart.TheVariants.{Id, Global}
use Rattle.table.specs.declared.types.Rule.TheVariants.{GlobalInMaster}
use Rattle.tag_parse.specs.declared.types.TagValue.TheVariants.{UnsignedInt, Binary, Raw}
use Rattle.decoder_rules.specs.declared.types.Answer.TheVariants.{Event}
use Rattle.decoder_rules.specs.declared.types.Event.TheVariants.{Start, Data}
use Rattle.guarantees.specs.Calls.{Call, ending, recovering, allow, strictly, Response, answered, refusal_of, history}
use Rattle.guarantees.specs.CutRecords.{ever_started, is_known_end, every_known}
use Rattle.guarantees.specs.History.{never_recovered}
use Rattle.guarantees.specs.Promises.{last_response, open_at, left_at}
use Rattle.guarantees.specs.UnknownEnds.{standing_at}
use Rattle.guarantees.proofs.Computing.{history_computes}
use Rattle.guarantees.proofs.Examples.{lending, d1}
use Rattle.known_places.specs.KnownPlaces.{hierarchy_test_on, hierarchy_test_never_off, never_strict, ever_implied, place_of}
use Rattle.std.specs.Prelude.{Err, None, Ok}
use Rattle.table.specs.declared.types.TableError.TheVariants as fault

-- what document 02 asks of the calls cs and then c: never strict, the test never off, no recovery, the parents that
-- were implied, and whether every Start is of known size
abbrev asked : List ℕ → List ℕ → List Call → Call → Bool × Bool × Bool × List ℕ × Bool
asked es ps cs c =
    (never_strict (c ∷ cs), hierarchy_test_never_off (c ∷ cs), never_recovered (c ∷ cs), ever_implied ps (table_of es ps) (history es ps (c ∷ cs)), every_known (table_of es ps) (history es ps (c ∷ cs)))

-- what c answers, the masters that are open there, and the path of the ID x
abbrev found : List ℕ → List ℕ → List Call → Call → ℕ → Response × List PathPart × List PathPart
found es ps cs c x = (last_response es ps cs c, place_of (open_at es ps cs), path_of (table_of es ps) x)

-- what is needed: the test is on, the implied parents that are left, and whether every Start that is open is of known
-- size
abbrev needed : List ℕ → List ℕ → List Call → Call → Bool × List ℕ × Bool
needed es ps cs c = (hierarchy_test_on cs, left_at es ps cs c, every (λ m. is_known_end m.end) (open_at es ps cs))

-- D1 up to its Amount
abbrev at_amount : List Call
at_amount = lending (3 ∷ 2 ∷ []) d1 []

-- D4: a Session of Unknown size, a Feed in it, and in the Feed a second Session
abbrev d4 : List ℕ
d4 = 0x4E ∷ 0x01 ∷ 0xFF ∷ 0xA1 ∷ 0x85 ∷ 0x4E ∷ 0x01 ∷ 0x80 ∷ []

-- the same with a Feed of Unknown size
abbrev open4 : List ℕ
open4 = 0x4E ∷ 0x01 ∷ 0xFF ∷ 0xA1 ∷ 0xFF ∷ 0x4E ∷ 0x01 ∷ 0x80 ∷ []

-- D1 up to its Amount, strictly, with the test off at first, and a recovery before its Feed
abbrev asked_less : List Call
asked_less = lending (2 ∷ []) (drop 3 d1) (recovering (drop 3 d1) ∷ allow false false false ∷ lending (3 ∷ []) d1 (allow false true false ∷ strictly true ∷ []))

-- an Amount; alone it is D5
abbrev amount : List ℕ
amount = 0xA2 ∷ 0x81 ∷ 0x78 ∷ []

-- an Amount right in a Session, with the hierarchy test off
abbrev in_session : List Call
in_session = lending (3 ∷ []) (0x4E ∷ 0x01 ∷ 0x83 ∷ amount) (allow false true false ∷ [])

-- a Session with one empty element of the ID x, up to it
abbrev before : ℕ → List Call → List Call
before x made = lending (3 ∷ []) (0x4E ∷ 0x01 ∷ 0x82 ∷ x ∷ 0x80 ∷ []) made

-- a table that rule 33 refuses: 81 a Master anywhere, 82 a Master at the root; and `81 85 82 80`, up to its 82
abbrev loose_entries : List ℕ
loose_entries = 0x81 ∷ 0 ∷ 0 ∷ 1 ∷ 0x82 ∷ 0 ∷ 1 ∷ 0 ∷ []

abbrev loose_parts : List ℕ
loose_parts = 1 ∷ 0 ∷ 0 ∷ []

abbrev in_loose : List Call
in_loose = lending (2 ∷ []) (0x81 ∷ 0x85 ∷ 0x82 ∷ 0x80 ∷ []) []

-- the list
pub record Found : Type 0 where
  -- D1 at its Amount: all is met
  pub d1_asked : asked bench_entries bench_parts at_amount (ending (drop 5 d1)) ≡ (true, true, true, [], true)
  pub d1_found : found bench_entries bench_parts at_amount (ending (drop 5 d1)) 0xA2
      ≡ (answered (Ok (Event (Data 0xA2 5 (UnsignedInt 120)))) 3, Id 0x4E01 ∷ Id 0xA1 ∷ [], Id 0x4E01 ∷ Id 0xA1 ∷ [])
  -- D1 so too where less is asked
  pub less_asked : asked bench_entries bench_parts asked_less (ending (drop 5 d1)) ≡ (false, false, false, [], true)
  pub less_needed : needed bench_entries bench_parts asked_less (ending (drop 5 d1)) ≡ (true, [], true)
  pub less_found : found bench_entries bench_parts asked_less (ending (drop 5 d1)) 0xA2
      ≡ (answered (Ok (Event (Data 0xA2 5 (UnsignedInt 120)))) 3, Id 0x4E01 ∷ Id 0xA1 ∷ [], Id 0x4E01 ∷ Id 0xA1 ∷ [])
  -- D4: a size is Unknown, and a root starts inside Session and Feed
  pub d4_asked : asked bench_entries bench_parts (lending (3 ∷ 2 ∷ []) d4 []) (ending (drop 5 d4)) ≡ (true, true, true, [], false)
  pub d4_found : found bench_entries bench_parts (lending (3 ∷ 2 ∷ []) d4 []) (ending (drop 5 d4)) 0x4E01
      ≡ (answered (Ok (Event (Start 0x4E01 5))) 3, Id 0x4E01 ∷ Id 0xA1 ∷ [], [])
  -- D5: parents are implied, and no Start is open at Amount
  pub d5_asked : asked bench_entries bench_parts [] (ending amount) ≡ (true, true, true, 0xA1 ∷ 0x4E01 ∷ [], true)
  pub d5_found : found bench_entries bench_parts [] (ending amount) 0xA2
      ≡ (answered (Ok (Event (Data 0xA2 0 (UnsignedInt 120)))) 3, [], Id 0x4E01 ∷ Id 0xA1 ∷ [])
  -- the test is off, and Amount stands in Session
  pub off_asked : asked bench_entries bench_parts in_session (ending amount) ≡ (true, false, true, [], true)
  pub off_found : found bench_entries bench_parts in_session (ending amount) 0xA2
      ≡ (answered (Ok (Event (Data 0xA2 3 (UnsignedInt 120)))) 3, Id 0x4E01 ∷ [], Id 0x4E01 ∷ Id 0xA1 ∷ [])
  -- a path that is not all IDs: Void in Session, which goes anywhere
  pub void_asked : asked bench_entries bench_parts (before 0xEC []) (ending (0xEC ∷ 0x80 ∷ [])) ≡ (true, true, true, [], true)
  pub void_found : found bench_entries bench_parts (before 0xEC []) (ending (0xEC ∷ 0x80 ∷ [])) 0xEC
      ≡ (answered (Ok (Event (Data 0xEC 3 (Binary (record { begin = 5; end = 5 }))))) 2, Id 0x4E01 ∷ [], Global None None ∷ [])
  -- an ID of no type: 81 in Session, where unknown IDs are allowed
  pub untyped_asked : asked bench_entries bench_parts (before 0x81 (allow true false false ∷ [])) (ending (0x81 ∷ 0x80 ∷ [])) ≡ (true, true, true, [], true)
  pub untyped_found : found bench_entries bench_parts (before 0x81 (allow true false false ∷ [])) (ending (0x81 ∷ 0x80 ∷ [])) 0x81
      ≡ (answered (Ok (Event (Data 0x81 3 (Raw (record { begin = 5; end = 5 }))))) 2, Id 0x4E01 ∷ [], [])
  -- the check refuses the table, and a root starts inside 81, which settling has dropped
  pub loose_refused : check_table loose_entries loose_parts ≡ Err (fault.Fault GlobalInMaster 0)
  pub loose_asked : asked loose_entries loose_parts in_loose (ending (0x82 ∷ 0x80 ∷ [])) ≡ (true, true, true, [], true)
  pub loose_found : found loose_entries loose_parts in_loose (ending (0x82 ∷ 0x80 ∷ [])) 0x82 ≡ (answered (Ok (Event (Start 0x82 2))) 2, Id 0x81 ∷ [], [])
  -- strictly D4 is refused by 16
  pub d4_strictly : refusal_of (last_response bench_entries bench_parts (lending (3 ∷ 2 ∷ []) d4 (strictly true ∷ [])) (ending (drop 5 d4))) ≡ 16
  -- with the test off it is read as ported
  pub d4_strictly_off : found bench_entries bench_parts (lending (3 ∷ 2 ∷ []) d4 (allow false true false ∷ strictly true ∷ [])) (ending (drop 5 d4)) 0x4E01
      ≡ (answered (Ok (Event (Start 0x4E01 5))) 3, Id 0x4E01 ∷ Id 0xA1 ∷ [], [])
  -- and where both are of Unknown size, both have had their End before the second Session starts
  pub open4_strictly : found bench_entries bench_parts (lending (3 ∷ 2 ∷ 0 ∷ 0 ∷ []) open4 (strictly true ∷ [])) (ending (drop 5 open4)) 0x4E01
      ≡ (answered (Ok (Event (Start 0x4E01 5))) 3, [], [])
  -- strictly D5's implied parents stand, and are the path
  pub d5_strictly : place_of (standing_at bench_entries bench_parts (strictly true ∷ []) (ending amount)) ≡ Id 0x4E01 ∷ Id 0xA1 ∷ []

-- and it is so
pub found_so : Found
unfolding history_computes lending ever_started never_recovered hierarchy_test_on hierarchy_test_never_off never_strict ever_implied
found_so = record {
  d1_asked = refl;
  d1_found = refl;
  less_asked = refl;
  less_needed = refl;
  less_found = refl;
  d4_asked = refl;
  d4_found = refl;
  d5_asked = refl;
  d5_found = refl;
  off_asked = refl;
  off_found = refl;
  void_asked = refl;
  void_found = refl;
  untyped_asked = refl;
  untyped_found = refl;
  loose_refused = refl;
  loose_asked = refl;
  loose_found = refl;
  d4_strictly = refl;
  d4_strictly_off = refl;
  open4_strictly = refl;
  d5_strictly = refl;
}
