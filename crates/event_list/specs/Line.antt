-- Document 01, "The bench table and its records": what the event lister prints for an answer. "Kind, ID in hex, offset;
-- U and I then the value, D (float) 16 hex digits, T, B, R begin and end. Z is the finish at a position, `X n p` a
-- refusal, `M p` an element larger than its 4,096-byte buffer". The numbers are ASCII codes.
use Rattle.std.specs.Prelude.{ℕ, cond, List, [], ◌∷◌, ◌++◌, ltb, length, drop, Err, Ok, Result}
use Rattle.tag_parse.specs.declared.types.Range.{Range}
use Rattle.tag_parse.specs.declared.types.TagValue.{TagValue}
use Rattle.tag_parse.specs.declared.types.TagValue.TheVariants.{UnsignedInt, Integer, Utf8, Binary, Float, Raw}
use Rattle.decoder_rules.specs.Numbers.{error_number}
use Rattle.decoder_rules.specs.declared.types.Answer.{Answer}
use Rattle.decoder_rules.specs.declared.types.Answer.TheVariants as answer
use Rattle.decoder_rules.specs.declared.types.Event.{Event}
use Rattle.decoder_rules.specs.declared.types.Event.TheVariants.{Start, End, Data}
use Rattle.decoder_rules.specs.declared.types.Refusal.{Refusal}
use Rattle.numerals.specs.Numeral.{hex, hex16, decimal, signed_decimal}

-- a field after the first: a space before it
abbrev pub field : List ℕ → List ℕ
field s = 32 ∷ s

-- "Kind, ID in hex, offset"
unfoldable pub element_text : ℕ → ℕ → ℕ → List ℕ
element_text kind x p = (kind ∷ []) ++ field (hex x) ++ field (decimal p)

-- the letter of a value: U, I, T, B, D or R
abbrev pub letter_of : TagValue → ℕ
letter_of (UnsignedInt n) = 85
letter_of (Integer z) = 73
letter_of (Utf8 r) = 84
letter_of (Binary r) = 66
letter_of (Float bits) = 68
letter_of (Raw r) = 82

-- a range: begin and end
unfoldable pub range_text : Range → List ℕ
range_text r = field (decimal r.begin) ++ field (decimal r.end)

-- what stands after the offset of a value
unfoldable pub value_text : TagValue → List ℕ
value_text (UnsignedInt n) = field (decimal n)
value_text (Integer z) = field (signed_decimal z)
value_text (Utf8 r) = range_text r
value_text (Binary r) = range_text r
value_text (Float bits) = field (hex16 bits)
value_text (Raw r) = range_text r

-- an event: S or E, or a value
unfoldable pub event_text : Event → List ℕ
event_text (Start x p) = element_text 83 x p
event_text (End e) = element_text 69 e.id e.offset
event_text (Data x p v) = element_text (letter_of v) x p ++ value_text v

-- "`X n p` a refusal"
unfoldable pub refusal_text : Refusal → List ℕ
refusal_text r = (88 ∷ []) ++ field (decimal (error_number r.error)) ++ field (decimal r.place)

-- M or Z, and a position
unfoldable pub position_text : ℕ → ℕ → List ℕ
position_text letter p = (letter ∷ []) ++ field (decimal p)

-- an answer, with the decoder at position p; need more is listed only where the buffer is full
unfoldable pub answer_text : Result Answer Refusal → ℕ → List ℕ
answer_text (Ok (answer.Event e)) p = event_text e
answer_text (Ok (answer.NeedMore missing)) p = position_text 77 p
answer_text (Ok answer.Finished) p = position_text 90 p
answer_text (Err r) p = refusal_text r

-- the line of an answer, with the decoder at position p: its text and a newline
unfoldable pub line : Result Answer Refusal → ℕ → List ℕ
line a p = answer_text a p ++ (10 ∷ [])

-- the most bytes that a line has: a letter, an ID of 16 digits and three numbers of 20, each after a space, and the
-- newline
abbrev pub most_line : ℕ
most_line = 82

-- what a call answers that is lent the bytes out: the line's length, and the line at their front, the others as they
-- were; 0 and nothing written where fewer than `most_line` are lent
unfoldable pub line_out : Result Answer Refusal → ℕ → List ℕ → ℕ × List ℕ
line_out a p out = cond (ltb (length out) most_line) (0, out) (length (line a p), line a p ++ drop (length (line a p)) out)
