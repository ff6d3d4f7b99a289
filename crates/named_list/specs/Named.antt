-- The list for people: what is printed for an answer, with the record that it left, what was seen before it and the
-- bytes taken so far. The plain list is another: event_list/specs/Line.antt.
use Rattle.std.specs.Prelude.{ℕ, ◌+◌, ◌-◌, ◌*◌, ◌^◌, min, Bool, cond, List, [], ◌∷◌, ◌++◌, eqb, ltb, length, take, drop, Err, None, Ok, Option, Result, Some}
use Rattle.tag_parse.specs.declared.types.Range.{Range}
use Rattle.tag_parse.specs.declared.types.TagValue.{TagValue}
use Rattle.tag_parse.specs.declared.types.TagValue.TheVariants.{UnsignedInt, Integer, Utf8, Binary, Float, Raw}
use Rattle.spec_util.specs.declared.types.OpenTag.{OpenTag}
use Rattle.decoder_rules.specs.Numbers.{error_number}
use Rattle.decoder_rules.specs.declared.types.Answer.{Answer}
use Rattle.decoder_rules.specs.declared.types.Answer.TheVariants as answer
use Rattle.decoder_rules.specs.declared.types.DecodeError.{DecodeError}
use Rattle.decoder_rules.specs.declared.types.DecodeError.TheVariants as error
use Rattle.decoder_rules.specs.declared.types.Event.{Event}
use Rattle.decoder_rules.specs.declared.types.Event.TheVariants.{Start, End, Data}
use Rattle.decoder_rules.specs.declared.types.Refusal.{Refusal}
use Rattle.decoder_rules.specs.declared.types.TagDecoder.{TagDecoder}
use Rattle.numerals.specs.Numeral.{decimal, signed_decimal}
use Rattle.texts.specs.Ascii.{ascii}
use Rattle.texts.specs.Out.{text_out}
use Rattle.named_list.specs.Words.{indentation, name_of, shown}
use Rattle.named_list.specs.Floats.{float_text}
use Rattle.named_list.specs.Meaning.{meaning}
use Rattle.named_list.specs.Seen.{innermost}
use Rattle.named_list.specs.declared.types.Seen.{Seen}

-- ---- elements

-- how many masters stand around an event, with the record that it left: a Start's own master is open there, and an End
-- stands where its Start did, with the Ends that wait of the masters around it; never more than 32
unfoldable pub depth_of : Event → TagDecoder → ℕ
depth_of (Start x p) d = min (d.open_count - 1) 32
depth_of (End e) d = min (d.open_count + d.waiting_count) 32
depth_of (Data x p v) d = min d.open_count 32

-- where a master ends, or ? where that is not known
unfoldable pub end_text : Bool → ℕ → ℕ → List ℕ
end_text known start size = cond known (cond (ltb (start + size) (2 ^ 64)) (decimal (start + size)) (ascii "?")) (ascii "?")

-- a Start: name, begin and end
unfoldable pub start_text : ℕ → ℕ → OpenTag → List ℕ
start_text x p m = name_of x ++ (ascii " " ++ decimal p) ++ ascii ".." ++ end_text m.known m.data_start m.size

-- an End; with no Start open its Start is missing
unfoldable pub ending_text : ℕ → ℕ → List ℕ
ending_text x starts = ascii "end of " ++ name_of x ++ cond (eqb starts 0) (ascii " (its start is missing)") []

-- the bytes of a range, of those taken so far: they end at the position p
abbrev pub bytes_of : Range → ℕ → List ℕ → List ℕ
bytes_of r p s = take (r.end - r.begin) (drop (length s - (p - r.begin)) s)

-- bytes: begin and end
unfoldable pub bytes_text : Range → List ℕ
bytes_text r = (ascii "bytes " ++ decimal r.begin) ++ (ascii ".." ++ decimal r.end)

-- a text between quotation marks, with the decoder at position p; read strictly it may end before that
unfoldable pub quoted_text : Range → ℕ → List ℕ → List ℕ
quoted_text r p taken = ascii "\"" ++ shown (bytes_of r p taken) ++ ascii "\""

-- a value, with the decoder at position p: a number, a text, or begin and end
unfoldable pub value_text : TagValue → ℕ → List ℕ → List ℕ
value_text (UnsignedInt n) p taken = decimal n
value_text (Integer z) p taken = signed_decimal z
value_text (Utf8 r) p taken = quoted_text r p taken
value_text (Binary r) p taken = bytes_text r
value_text (Float bits) p taken = float_text bits
value_text (Raw r) p taken = bytes_text r

-- an event
unfoldable pub event_text : Event → TagDecoder → ℕ → List ℕ → List ℕ
event_text (Start x p) d starts taken = start_text x p (innermost d)
event_text (End e) d starts taken = ending_text e.id starts
event_text (Data x p v) d starts taken = name_of x ++ ascii " " ++ value_text v d.position taken

-- ---- the end of the list

-- the name of a cut element, as far as it was read
abbrev pub cut_name : Option ℕ → List ℕ
cut_name None = ascii "an element"
cut_name (Some x) = name_of x

-- refusal 23: how far the input was read, and what it ends inside of
unfoldable pub cut_text : Option ℕ → ℕ → ℕ → List ℕ
cut_text x place p =
    (ascii "cut at " ++ decimal p) ++ ascii ": 23, the input ends inside " ++ cut_name x ++ (ascii ", which began at " ++ decimal place)

-- any other refusal: its place, its number and what it means
unfoldable pub refused_text : ℕ → ℕ → List ℕ
refused_text n place = (ascii "refused at " ++ decimal place) ++ (ascii ": " ++ decimal n) ++ ascii ", " ++ meaning n

-- the ID that refusal 23 names
abbrev pub cut_id : DecodeError → Option ℕ
cut_id error.TableShape = None
cut_id error.BadState = None
cut_id error.TooFar = None
cut_id error.AfterFinish = None
cut_id error.InvalidTagData = None
cut_id error.InvalidTagId = None
cut_id error.HierarchyError = None
cut_id error.InvalidTagSize = None
cut_id error.OversizedChildElement = None
cut_id error.TooManyOpen = None
cut_id error.FromUtf8Error = None
cut_id error.ReadF64Mismatch = None
cut_id (error.UnexpectedEOF c) = c.id
cut_id error.NotAMaster = None
cut_id error.InvalidIdForm = None
cut_id error.UnknownSizePastEnd = None

-- a refusal, with the decoder at position p
unfoldable pub refusal_text : Refusal → ℕ → List ℕ
refusal_text r p = cond (eqb (error_number r.error) 23) (cut_text (cut_id r.error) r.place p) (refused_text (error_number r.error) r.place)

-- what a finish at position p means: of no byte nothing; with a Start missing, or a size, that a cut would not show; else
-- each element that began is there to its end
unfoldable pub finish_word : ℕ → Bool → Bool → List ℕ
finish_word p front size =
    cond (eqb p 0) (ascii "empty: ")
    (cond front (ascii "the front is missing: ")
    (cond size (ascii "cannot tell, a size is missing: ")
    (ascii "whole: ")))

-- the finish at position p, after what was seen
unfoldable pub finish_text : ℕ → Bool → Bool → List ℕ
finish_text p front size = finish_word p front size ++ decimal p ++ ascii " bytes"

-- need more with the whole buffer unread, at position p
unfoldable pub too_large_text : ℕ → List ℕ
too_large_text p = ascii "too large at " ++ decimal p ++ ascii ": the element does not fit into the buffer"

-- ---- a line

-- the text of an answer, after the record d that it left, what was seen before it, and the bytes taken so far
unfoldable pub answer_text : Result Answer Refusal → TagDecoder → Seen → List ℕ → List ℕ
answer_text (Ok (answer.Event e)) d s taken = indentation (depth_of e d) ++ event_text e d s.starts taken
answer_text (Ok (answer.NeedMore missing)) d s taken = too_large_text d.position
answer_text (Ok answer.Finished) d s taken = finish_text d.position s.front_missing s.size_missing
answer_text (Err r) d s taken = refusal_text r d.position

-- the line of an answer: its text and a newline
unfoldable pub named_line : Result Answer Refusal → TagDecoder → Seen → List ℕ → List ℕ
named_line a d s taken = answer_text a d s taken ++ (10 ∷ [])

-- the most bytes of a line besides four for each byte taken, of which a text may be: 64 spaces, 192 bytes of text
abbrev pub most_named : ℕ
most_named = 256

-- what a call answers that is lent the bytes out: the line's length, and the line at their front; 0 and nothing written
-- where fewer are lent than a line may have
unfoldable pub named_line_out : Result Answer Refusal → TagDecoder → Seen → List ℕ → List ℕ → ℕ × List ℕ
named_line_out a d s taken out = text_out (most_named + 4 * length taken) (named_line a d s taken) out
