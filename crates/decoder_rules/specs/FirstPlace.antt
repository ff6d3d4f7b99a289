-- Document 02, CR 13: the bytes passed over are "the first place, by the definition's steps, where a valid or an
-- incomplete header stands". It is said here by what stands at each place, and not by the search. Place i is i bytes on
-- from where the search begins. Here t is the lent table as entries, d the record where the search begins, s the bytes
-- from there on.
use Rattle.std.specs.Prelude.{ℕ, zero, suc, ◌+◌, Bool, true, false, cond, ◌&&◌, List, length, drop, Err, None, Ok, Option, Result, Some, ⊤}
use Rattle.basics.specs.Least.{least_below}
use Rattle.table.specs.Check.{only_ids}
use Rattle.table.specs.Table.{Entry, path_of, is_typed}
use Rattle.tag_parse.specs.Header.{read_header}
use Rattle.decoder_rules.specs.Record.{at_position, with_sizes_grown}
use Rattle.decoder_rules.specs.OneCall.{good_form, step6, step7, noted, valid_header}
use Rattle.decoder_rules.specs.declared.types.Recovered.{Recovered}
use Rattle.decoder_rules.specs.declared.types.Search.TheVariants as search
use Rattle.decoder_rules.specs.declared.types.TagDecoder.{TagDecoder}
use Rattle.decoder_rules.specs.declared.types.DecodeError.{DecodeError}
use Rattle.tag_parse.specs.declared.types.ParseError.{ParseError}
use Rattle.table.specs.declared.types.Path.{Path}
use Rattle.tools.specs.declared.status.Status.{Status}
use Rattle.tag_parse.specs.declared.types.TagHeader.{TagHeader}
use Rattle.tools.specs.declared.status.Status.TheVariants as status

-- ---- the record at a place

-- the note of what was read as a header, strictly or as ported, where nothing has settled yet; step 7: "if not yet
-- settled and a typed ID's path is all IDs (or empty), the stack becomes those IDs". An ID of a form that is not taken
-- does not come so far
abbrev pub settle_header : Bool → List Entry → Result (Status TagHeader) ParseError → Option Path
settle_header strict t (Ok (status.NeedMore missing)) = None
settle_header strict t (Err e) = None
settle_header strict t (Ok (status.Complete h)) =
    cond (good_form strict h.id && (is_typed h.kind && only_ids (path_of t h.id))) (Some h.path) None

-- the note of the header at the front of these bytes, where nothing has settled yet
unfoldable pub settle_at : Bool → List Entry → List ℕ → Option Path
settle_at strict t s = settle_header strict t (read_header t s)

-- the first of two notes that is one
abbrev pub or_else : Option Path → Option Path → Option Path
or_else None later = later
or_else (Some path) later = Some path

-- the note of the first n places: that of the first which has one
unfoldable pub settle_before : Bool → List Entry → ℕ → List ℕ → Option Path
settle_before strict t zero s = None
settle_before strict t (suc n) s = or_else (settle_at strict t s) (settle_before strict t n (drop 1 s))

-- the note that the first n places leave on the record d: none where it has settled; else "A settling made at a place
-- that then fails stays."
unfoldable pub note_before : List Entry → TagDecoder → List ℕ → ℕ → Option Path
note_before t d s n = cond d.settled None (settle_before d.settings.strict t n s)

-- the record i bytes on, with the note that the first n places leave
unfoldable pub record_on : List ℕ → List Entry → TagDecoder → List ℕ → ℕ → ℕ → TagDecoder
record_on ps t d s n i = at_position (noted ps d (note_before t d s n)) (d.position + i)

-- the record at place i, with the note that the places before it leave
abbrev pub record_at : List ℕ → List Entry → TagDecoder → List ℕ → ℕ → TagDecoder
record_at ps t d s i = record_on ps t d s i i

-- ---- what stands at a place

-- an incomplete header, a valid one, or anything else
pub data Standing : Type 0 where
  Incomplete : Standing
  Valid : Standing
  Other : Standing

-- whether a test is passed
abbrev pub passes : Result ⊤ DecodeError → Bool
passes (Ok _) = true
passes (Err e) = false

-- what was read as a header at a place with the record d: valid is a "header read and steps 6 to 9 pass"; of no byte
-- the header is incomplete
abbrev pub standing : List ℕ → List Entry → TagDecoder → Result (Status TagHeader) ParseError → Standing
standing ps t d (Ok (status.NeedMore missing)) = Incomplete
standing ps t d (Err e) = Other
standing ps t d (Ok (status.Complete h)) = cond (step6 d h && passes (valid_header t (noted ps d (step7 t d h)) h)) Valid Other

-- what stands at place i
unfoldable pub stands_at : List ℕ → List Entry → TagDecoder → List ℕ → ℕ → Standing
stands_at ps t d s i = standing ps t (record_at ps t d s i) (read_header t (drop i s))

-- ---- the first place

-- an incomplete header or a valid one
abbrev pub is_header : Standing → Bool
is_header Incomplete = true
is_header Valid = true
is_header Other = false

-- a valid one
abbrev pub is_valid : Standing → Bool
is_valid Incomplete = false
is_valid Valid = true
is_valid Other = false

-- the least i such that an incomplete or a valid header stands at place i; the number of bytes, where there is none
unfoldable pub first_place : List ℕ → List Entry → TagDecoder → List ℕ → ℕ
first_place ps t d s = least_below (λ i. is_header (stands_at ps t d s i)) (length s)

-- what a recovery that is not refused gives where this stands at the place where it ends, n bytes on, and the record e
-- is left there
abbrev pub recovered_at : Standing → ℕ → TagDecoder → Recovered
recovered_at Incomplete n e = record { answer = Ok (search.NotFound n); taken = n; state = e }
recovered_at Valid n e = record { answer = Ok (search.Found n); taken = n; state = with_sizes_grown e n }
recovered_at Other n e = record { answer = Ok (search.NotFound n); taken = n; state = e }

-- so it gives at the first place, whose own note the record has too
abbrev pub recovered_first : List ℕ → List Entry → TagDecoder → List ℕ → Recovered
recovered_first ps t d s = let i = first_place ps t d s in recovered_at (stands_at ps t d s i) i (record_on ps t d s (suc i) i)
