-- Document 01, "One call of the decoder, in order", "Recovery": the search for the next valid header, one place after
-- the other. Here t is the lent table as entries, d the record at a place, s the bytes from there on.
use Rattle.std.specs.Prelude.{ℕ, ◌+◌, ◌-◌, Bool, true, false, cond, List, [], ◌∷◌, length, Err, Ok, Result, ⊤}
use Rattle.table.specs.Table.{Entry, table_of}
use Rattle.tag_parse.specs.Header.{read_header}
use Rattle.tag_parse.specs.declared.types.TagHeader.{TagHeader}
use Rattle.decoder_rules.specs.Record.{at_position, with_sizes_grown}
use Rattle.decoder_rules.specs.OneCall.{check_record10to12, step6, step7, noted, valid_header}
use Rattle.decoder_rules.specs.declared.types.Place.{Place}
use Rattle.decoder_rules.specs.declared.types.Place.TheVariants.{Stop, Found, On}
use Rattle.decoder_rules.specs.declared.types.PlaceResult.{PlaceResult}
use Rattle.decoder_rules.specs.declared.types.Recovered.{Recovered}
use Rattle.decoder_rules.specs.declared.types.Search.{Search}
use Rattle.decoder_rules.specs.declared.types.Search.TheVariants as search
use Rattle.decoder_rules.specs.declared.types.TagDecoder.{TagDecoder}
use Rattle.decoder_rules.specs.declared.types.DecodeError.{DecodeError}
use Rattle.tag_parse.specs.declared.types.ParseError.{ParseError}
use Rattle.decoder_rules.specs.declared.types.Refusal.{Refusal}
use Rattle.tools.specs.declared.status.Status.{Status}
use Rattle.tools.specs.declared.status.Status.TheVariants as status

-- ---- one place

-- the record one byte on
abbrev pub forward : TagDecoder → TagDecoder
forward d = at_position d (d.position + 1)

-- how the search stands at a place, and the record there
abbrev pub at : Place → TagDecoder → PlaceResult
at p d = record { place = p; state = d }

-- the search goes on one byte further: "Otherwise one byte on."
abbrev pub step_on : TagDecoder → PlaceResult
step_on d = at On (forward d)

-- where 8 and 9 answer so, on the record with the note: "A settling made at a place that then fails stays."
abbrev pub judged : Result ⊤ DecodeError → TagDecoder → PlaceResult
judged (Ok _) d = at Found d
judged (Err e) d = step_on d

-- 8 and 9 at a place, on the record with the note
unfoldable pub judged_at : List Entry → TagDecoder → TagHeader → PlaceResult
judged_at t d h = judged (valid_header t d h) d

-- "header read and steps 6 to 9 pass: found."
unfoldable pub header_at : List ℕ → List Entry → TagDecoder → TagHeader → PlaceResult
header_at ps t d h = cond (step6 d h) (judged_at t (noted ps d (step7 t d h)) h) (step_on d)

-- by what was read as a header: "Incomplete or no byte: not found."
abbrev pub read_at : List ℕ → List Entry → TagDecoder → Result (Status TagHeader) ParseError → PlaceResult
read_at ps t d (Ok (status.NeedMore missing)) = at Stop d
read_at ps t d (Err e) = step_on d
read_at ps t d (Ok (status.Complete h)) = header_at ps t d h

-- how the search stands at one place
unfoldable pub place_at : List ℕ → List Entry → TagDecoder → List ℕ → PlaceResult
place_at ps t d s = read_at ps t d (read_header t s)

-- ---- the search

-- a place where the search ends, or what comes after it
abbrev pub unless_on : Place → TagDecoder → (TagDecoder → PlaceResult) → PlaceResult
unless_on Stop d on = at Stop d
unless_on Found d on = at Found d
unless_on On d on = on d

-- the place where the search ends
unfoldable pub end_of_search : List ℕ → List Entry → TagDecoder → List ℕ → PlaceResult
end_of_search ps t d [] = at Stop d
end_of_search ps t d (b ∷ s) = unless_on (place_at ps t d (b ∷ s)).place (place_at ps t d (b ∷ s)).state (λ next. end_of_search ps t next s)

-- the bytes passed over by a search that began at the position `start` and ends with the record e
abbrev pub passed_over : ℕ → TagDecoder → ℕ
passed_over start e = e.position - start

-- what is answered where the search that began at the position `start` ends with the record e: document 02, CR 13:
-- "Recovery reports the bytes passed over." They are the bytes taken. Found, "every open known size grows by the bytes
-- passed over"
abbrev pub ending_at : ℕ → Place → TagDecoder → Recovered
ending_at start Stop e = record { answer = Ok (search.NotFound (passed_over start e)); taken = passed_over start e; state = e }
ending_at start Found e =
    record { answer = Ok (search.Found (passed_over start e)); taken = passed_over start e; state = with_sizes_grown e (passed_over start e) }
ending_at start On e = record { answer = Ok (search.NotFound (passed_over start e)); taken = passed_over start e; state = e }

-- what is answered at the place where the search ends
unfoldable pub ending : ℕ → PlaceResult → Recovered
ending start p = ending_at start p.place p.state

-- the search where the first tests are passed, else their refusal
abbrev pub search_or : List ℕ → List Entry → TagDecoder → List ℕ → Result ⊤ DecodeError → Recovered
search_or ps t d s (Ok _) = ending d.position (end_of_search ps t d s)
search_or ps t d s (Err e) = record { answer = Err (record { error = e; place = d.position }); taken = 0; state = d }

-- one call of a recovery with the bytes s: "Only 10, 11, 12 refuse a recovery."
unfoldable pub try_recover : List ℕ → List ℕ → TagDecoder → List ℕ → Recovered
try_recover es ps d s = search_or ps (table_of es ps) d s (check_record10to12 es ps d (length s))

-- ---- what is answered

-- how many bytes a recovery passed over; a refused one passes none
abbrev pub passed_in : Result Search Refusal → ℕ
passed_in (Ok (search.Found passed)) = passed
passed_in (Ok (search.NotFound passed)) = passed
passed_in (Err r) = 0

-- whether a recovery found a valid header
abbrev pub is_found : Result Search Refusal → Bool
is_found (Ok (search.Found passed)) = true
is_found (Ok (search.NotFound passed)) = false
is_found (Err r) = false
