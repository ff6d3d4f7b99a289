-- Document 01, "The bench table and its records": the starred cases, one list and one theorem, computed from the
-- definitions. Assumes nothing.
use Prim.Native.Nat.{ℕ}
use Prim.Native.String.{String}
use mathlib.Core.Bool.{Bool, true, false}
use mathlib.Core.Path.{◌≡◌, refl}
use mathlib.Core.List.{List, [], ◌∷◌, ◌++◌, map}
use lib.IntN.{ℤ, pos, negsuc}
use lib.ListN.{length}
use Rattle.basics.specs.Lists.{filled}
use Rattle.numerals.specs.Numeral.{digits, places}
use Rattle.tools.specs.SignedVint.{as_signed_vint}
use Rattle.table.specs.BenchTable.{bench_entries, bench_parts}
use Rattle.spec_util.specs.Walk.{open_tag, no_tag}
use Rattle.spec_util.specs.declared.types.OpenTag.{OpenTag}
use Rattle.tag_parse.specs.declared.types.TagValue.TheVariants.{UnsignedInt, Utf8, Float, Raw}
use Rattle.decoder_rules.specs.Record.{fresh, with_open, with_notes}
use Rattle.decoder_rules.specs.Settings.{allowing}
use Rattle.decoder_rules.specs.Run.{nothing, cut, event, need_more, finish, refusal, Call, Calls, decode_calls, eof_calls}
use Rattle.decoder_rules.specs.declared.types.Event.TheVariants.{Start, End, Data}
use Rattle.decoder_rules.specs.declared.types.TagDecoder.{TagDecoder}
use Rattle.decoder_rules.proofs.Computing.{rules_compute}
use Rattle.event_list.specs.Line as lines
use Rattle.event_list.specs.Whole.{next_answer, ListOf}
use Rattle.event_list.specs.Computed.{text_lines, listed_from, listed}
use Rattle.event_list.proofs.Computed.{listed_is_the_list}
use Rattle.std.specs.Prelude.{None, Ok, Result, Some}
use Rattle.tools.specs.declared.errors.ToolError.{ToolError}

-- ---- what a call answers and takes

-- the Start of this ID at this offset, with a header of n bytes
abbrev pub starts : ℕ → ℕ → ℕ → Call
starts x o n = record { told = event (Start x o); taken = n }

-- the End of this ID, which started at this offset and had n children: it takes nothing
abbrev pub ends : ℕ → ℕ → ℕ → Call
ends x o n = record { told = event (End (record { id = x; offset = o; count = n })); taken = 0 }

-- an element of n bytes with this ID at this offset: a number, a text or a raw one from begin to end, or a float's bits
abbrev pub unsigned : ℕ → ℕ → ℕ → ℕ → Call
unsigned x o v n = record { told = event (Data x o (UnsignedInt v)); taken = n }

abbrev pub text : ℕ → ℕ → ℕ → ℕ → ℕ → Call
text x o begin end n = record { told = event (Data x o (Utf8 (record { begin = begin; end = end }))); taken = n }

abbrev pub raw : ℕ → ℕ → ℕ → ℕ → ℕ → Call
raw x o begin end n = record { told = event (Data x o (Raw (record { begin = begin; end = end }))); taken = n }

abbrev pub float : ℕ → ℕ → ℕ → ℕ → Call
float x o bits n = record { told = event (Data x o (Float bits)); taken = n }

-- the answers that take nothing: need more where no byte is left, the finish, and a refusal by its number and place
abbrev pub asks_for_more : Call
asks_for_more = record { told = need_more 2; taken = 0 }

abbrev pub finishes : Call
finishes = record { told = finish; taken = 0 }

abbrev pub refuses : ℕ → ℕ → Call
refuses n p = record { told = refusal n p nothing; taken = 0 }

-- 23 for an open master: its start, which is the place, its ID and its size
abbrev pub cuts : ℕ → ℕ → ℕ → ℕ → Call
cuts n start x size = record { told = refusal n start (cut (record { start = start; id = Some x; size = Some size; part = None })); taken = 0 }

-- ---- the record that is left

-- an open master of this size, or of unknown size: its ID, where it starts and where its data start
abbrev pub sized : ℕ → ℕ → ℕ → ℕ → OpenTag
sized x size start begin = open_tag x true size start begin

abbrev pub unsized : ℕ → ℕ → ℕ → OpenTag
unsized x start begin = open_tag x false 0 start begin

-- a master that has had n children
abbrev pub having : ℕ → OpenTag → OpenTag
having n m = record { id = m.id; known = m.known; size = m.size; tag_start = m.tag_start; data_start = m.data_start; count = n }

-- a parent that is implied: "size Unknown, offsets 0"
abbrev pub parent : ℕ → OpenTag
parent x = unsized x 0 0

-- fresh, with unknown IDs allowed
abbrev pub ids_allowed : TagDecoder
ids_allowed = allowing fresh true false false

-- the record at this position, settled and not finished, with these masters open
abbrev pub settled_at : ℕ → List OpenTag → TagDecoder
settled_at p masters = with_open (with_notes fresh p true false) (filled no_tag masters) (length masters)

-- a record at this position, finished, with no master open and no End waiting: settled, or never settled
abbrev pub done_at : TagDecoder → ℕ → TagDecoder
done_at d p = with_notes d p true true

abbrev pub done_unsettled_at : TagDecoder → ℕ → TagDecoder
done_unsettled_at d p = with_notes d p false true

-- ---- the cases

-- what a case gives: calls of `decode` up to one that has no event, those of the end of input after them and the record
-- that is left, and with the end of input called from the first call on its calls and the record; or a list, and
-- whether it is whole; or what a writer of signed vints answers, with the bytes
pub data Outcome : Type 0 where
  ran : List Call → List Call → TagDecoder → List Call → TagDecoder → Outcome
  printed : Bool × List ℕ → Outcome
  wrote : Result ℕ ToolError × List ℕ → Outcome

-- calls of `decode`, and then those of the end of input after them and, alone, from the first call on
abbrev pub ran_as : Calls → Calls → Calls → Outcome
ran_as decoded ended alone = ran decoded.calls ended.calls ended.left alone.calls alone.left

-- the end of input after calls of `decode`
abbrev pub ended_after : Calls → Calls
ended_after decoded = eof_calls 9 bench_entries bench_parts decoded.left decoded.rest

-- all bytes lent to `decode`, and then to the end of input; and to the end of input from the first call on
abbrev pub lent : TagDecoder → List ℕ → Outcome
lent d s = ran_as (decode_calls 9 bench_entries bench_parts d s) (ended_after (decode_calls 9 bench_entries bench_parts d s)) (eof_calls 9 bench_entries bench_parts d s)

-- these events and this answer of `decode`, then these of the end of input, and this record left; called from the first
-- call on, the end of input has the same events and leaves the same record
abbrev pub gives : List Call → Call → List Call → TagDecoder → Outcome
gives events last ended d = ran (events ++ (last ∷ [])) ended d (events ++ ended) d

-- the list of an input, read strictly or as ported, with the lister's buffer
abbrev pub lists : Bool → List ℕ → Outcome
lists strict s = printed (listed strict 4096 9 s)

-- these lines, and none after them
abbrev pub prints : List String → Outcome
prints l = printed (true, text_lines l)

abbrev pub signed : ℤ → Outcome
signed z = wrote (as_signed_vint z (0 ∷ 0 ∷ []))

abbrev pub writes : ℕ → List ℕ → Outcome
writes n bytes = wrote (Ok n, bytes)

-- D1's bytes, and what the lister prints of them
abbrev pub d1 : List ℕ
d1 = 0x4E ∷ 0x01 ∷ 0x89 ∷ 0xA1 ∷ 0x87 ∷ 0xA2 ∷ 0x81 ∷ 0x78 ∷ 0xA3 ∷ 0x82 ∷ 0x6D ∷ 0x6C ∷ []

abbrev pub d1_lines : List String
d1_lines = "S 4E01 0" ∷ "S A1 3" ∷ "U A2 5 120" ∷ "T A3 8 10 12" ∷ "E A1 3" ∷ "E 4E01 0" ∷ "Z 12" ∷ []

-- each case, and what document 01 says of it
abbrev pub starred : List (Outcome × Outcome)
starred =
    -- D1: the list that is printed
    (lists false d1, prints d1_lines)
    -- D1: the calls
    ∷ (lent fresh d1, gives (starts 0x4E01 0 3 ∷ starts 0xA1 3 2 ∷ unsigned 0xA2 5 120 3 ∷ text 0xA3 8 10 12 4 ∷ ends 0xA1 3 2 ∷ ends 0x4E01 0 1 ∷ []) asks_for_more (finishes ∷ []) (done_at fresh 12))
    -- D2: Starts, Amount, both Ends at the end of input, finished
    ∷ (lent fresh (0x4E ∷ 0x01 ∷ 0xFF ∷ 0xA1 ∷ 0xFF ∷ 0xA2 ∷ 0x81 ∷ 0x78 ∷ []), gives (starts 0x4E01 0 3 ∷ starts 0xA1 3 2 ∷ unsigned 0xA2 5 120 3 ∷ []) asks_for_more (ends 0xA1 3 1 ∷ ends 0x4E01 0 1 ∷ finishes ∷ []) (done_at fresh 8))
    -- D3: 23, Session, start 0, size 9
    ∷ (lent fresh (0x4E ∷ 0x01 ∷ 0x89 ∷ 0xA1 ∷ 0x87 ∷ 0xA2 ∷ 0x81 ∷ 0x78 ∷ []), gives (starts 0x4E01 0 3 ∷ starts 0xA1 3 2 ∷ unsigned 0xA2 5 120 3 ∷ []) asks_for_more (cuts 23 0 0x4E01 9 ∷ []) (settled_at 8 (having 1 (sized 0x4E01 9 0 3) ∷ having 1 (sized 0xA1 7 3 5) ∷ [])))
    -- D4: the second Session starts at 5, inside Feed, which the end cuts
    ∷ (lent fresh (0x4E ∷ 0x01 ∷ 0xFF ∷ 0xA1 ∷ 0x85 ∷ 0x4E ∷ 0x01 ∷ 0x80 ∷ []), gives (starts 0x4E01 0 3 ∷ starts 0xA1 3 2 ∷ starts 0x4E01 5 3 ∷ ends 0x4E01 5 0 ∷ []) asks_for_more (cuts 23 3 0xA1 5 ∷ []) (settled_at 8 (having 1 (unsized 0x4E01 0 3) ∷ having 1 (sized 0xA1 5 3 5) ∷ [])))
    -- D5: Amount at 0, End A1 at 0, End 4E01 at 0; Session had no child, since Feed was implied and never started
    ∷ (lent fresh (0xA2 ∷ 0x81 ∷ 0x78 ∷ []), gives (unsigned 0xA2 0 120 3 ∷ []) asks_for_more (ends 0xA1 0 1 ∷ ends 0x4E01 0 0 ∷ finishes ∷ []) (done_at fresh 3))
    -- D6: 15
    ∷ (lent fresh (0x00 ∷ 0x81 ∷ 0x05 ∷ []), gives [] (refuses 15 0) (refuses 15 0 ∷ []) fresh)
    -- D6, allowed: raw, range 2 to 3
    ∷ (lent ids_allowed (0x00 ∷ 0x81 ∷ 0x05 ∷ []), gives (raw 0x00 0 2 3 3 ∷ []) asks_for_more (finishes ∷ []) (done_unsettled_at ids_allowed 3))
    -- D7: 14, four times; only the last, whose size is found wrong past the settling, leaves the note
    ∷ (lent fresh (0xA2 ∷ 0x89 ∷ []), gives [] (refuses 14 0) (refuses 14 0 ∷ []) fresh)
    ∷ (lent fresh (0xA2 ∷ 0xFF ∷ []), gives [] (refuses 14 0) (refuses 14 0 ∷ []) fresh)
    ∷ (lent fresh (0xA2 ∷ 0x00 ∷ []), gives [] (refuses 14 0) (refuses 14 0 ∷ []) fresh)
    ∷ (lent fresh (0xA3 ∷ 0xFF ∷ []), gives [] (refuses 14 0) (refuses 14 0 ∷ []) (settled_at 0 (parent 0x4E01 ∷ parent 0xA1 ∷ [])))
    -- D8: 18 at Feed
    ∷ (lent fresh (0x4E ∷ 0x01 ∷ 0x88 ∷ 0xA1 ∷ 0x87 ∷ 0xA2 ∷ 0x81 ∷ 0x78 ∷ 0xA3 ∷ 0x82 ∷ 0x6D ∷ 0x6C ∷ []), gives (starts 0x4E01 0 3 ∷ []) (refuses 18 3) (refuses 18 3 ∷ []) (settled_at 3 (sized 0x4E01 8 0 3 ∷ [])))
    -- D9: Feed starts; its header passes Session's end; then both Ends
    ∷ (lent fresh (0x4E ∷ 0x01 ∷ 0x81 ∷ 0xA1 ∷ 0xFF ∷ []), gives (starts 0x4E01 0 3 ∷ starts 0xA1 3 2 ∷ ends 0xA1 3 0 ∷ ends 0x4E01 0 1 ∷ []) asks_for_more (finishes ∷ []) (done_at fresh 5))
    -- D10: End Session, then raw 81, which is no child of it
    ∷ (lent ids_allowed (0x4E ∷ 0x01 ∷ 0xFF ∷ 0x81 ∷ 0x80 ∷ []), gives (starts 0x4E01 0 3 ∷ ends 0x4E01 0 0 ∷ raw 0x81 3 5 5 2 ∷ []) asks_for_more (finishes ∷ []) (done_at ids_allowed 5))
    -- D11: 3FF0000000000000
    ∷ (lent fresh (0xA6 ∷ 0x84 ∷ 0x3F ∷ 0x80 ∷ 0x00 ∷ 0x00 ∷ []), gives (float 0xA6 0 0x3FF0_0000_0000_0000 6 ∷ []) asks_for_more (ends 0xA1 0 1 ∷ ends 0x4E01 0 0 ∷ finishes ∷ []) (done_at fresh 6))
    -- D12, signed: -33 is DF, 200 is 40 C8, -200 is 7F 38, -1 is FF
    ∷ (signed (negsuc 32), writes 1 (0xDF ∷ 0 ∷ []))
    ∷ (signed (pos 200), writes 2 (0x40 ∷ 0xC8 ∷ []))
    ∷ (signed (negsuc 199), writes 2 (0x7F ∷ 0x38 ∷ []))
    ∷ (signed (negsuc 0), writes 1 (0xFF ∷ 0 ∷ []))
    ∷ []

-- each case gives what document 01 says
pub all_starred : map (λ (p : Outcome × Outcome). p.0) starred ≡ map (λ (p : Outcome × Outcome). p.1) starred
unfolding rules_compute digits places lines.element_text lines.range_text lines.value_text lines.event_text lines.refusal_text lines.position_text lines.answer_text lines.line next_answer text_lines listed_from
all_starred = refl

-- so what document 01 prints is D1's list by the lister's definition, with its buffer
pub d1_listed : ListOf false 4096 d1 (text_lines d1_lines)
unfolding rules_compute digits places lines.element_text lines.range_text lines.value_text lines.event_text lines.refusal_text lines.position_text lines.answer_text lines.line next_answer text_lines listed_from
d1_listed = listed_is_the_list false 4096 9 d1 refl
