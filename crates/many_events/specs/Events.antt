-- An event as 8 words: kind, ID, offset, value or begin, end, count, size, whether the size is known. The kind is that of
-- the writer's items: 0 a Start, 1 to 5 a value of that type of the table, 6 an End; and 7 a value without a type.
use Rattle.std.specs.Prelude.{ℕ, ◌-◌, ◌≡◌, cond, List, [], ◌∷◌, get_or}
use Rattle.tools.specs.Twos.{bits_of}
use Rattle.tag_parse.specs.declared.types.TagValue.{TagValue}
use Rattle.tag_parse.specs.declared.types.TagValue.TheVariants as value
use Rattle.spec_util.specs.Walk.{no_tag}
use Rattle.spec_util.specs.declared.types.OpenTag.{OpenTag}
use Rattle.decoder_rules.specs.declared.types.Event.{Event}
use Rattle.decoder_rules.specs.declared.types.Event.TheVariants as event
use Rattle.decoder_rules.specs.declared.types.TagDecoder.{TagDecoder}
use Rattle.decoder_rules.specs.declared.types.WaitingEnd.{WaitingEnd}
use Rattle.many_events.specs.declared.events.EventWords.{EventWords}

-- an event is so many words
abbrev pub event_size : ℕ
event_size = 8

-- the innermost open master; with none open, what the first place holds
abbrev pub innermost : TagDecoder → OpenTag
innermost d = get_or d.«open» (d.open_count - 1) no_tag

-- a Start with the size of its master: 0, 0 where it is unknown
unfoldable pub start_words : ℕ → ℕ → OpenTag → List ℕ
start_words x o m = 0 ∷ x ∷ o ∷ 0 ∷ 0 ∷ 0 ∷ cond m.known m.size 0 ∷ cond m.known 1 0 ∷ []

-- a value: a number is there as its 64 bits; of a text and of bytes there is where they begin and end in the stream
unfoldable pub value_words : ℕ → ℕ → TagValue → List ℕ
value_words x o (value.UnsignedInt n) = 1 ∷ x ∷ o ∷ n ∷ 0 ∷ 0 ∷ 0 ∷ 0 ∷ []
value_words x o (value.Integer z) = 2 ∷ x ∷ o ∷ bits_of 64 z ∷ 0 ∷ 0 ∷ 0 ∷ 0 ∷ []
value_words x o (value.Utf8 r) = 3 ∷ x ∷ o ∷ r.begin ∷ r.end ∷ 0 ∷ 0 ∷ 0 ∷ []
value_words x o (value.Binary r) = 4 ∷ x ∷ o ∷ r.begin ∷ r.end ∷ 0 ∷ 0 ∷ 0 ∷ []
value_words x o (value.Float b) = 5 ∷ x ∷ o ∷ b ∷ 0 ∷ 0 ∷ 0 ∷ 0 ∷ []
value_words x o (value.Raw r) = 7 ∷ x ∷ o ∷ r.begin ∷ r.end ∷ 0 ∷ 0 ∷ 0 ∷ []

-- an End with the count of its children
abbrev pub end_words : WaitingEnd → List ℕ
end_words e = 6 ∷ e.id ∷ e.offset ∷ 0 ∷ 0 ∷ e.count ∷ 0 ∷ 0 ∷ []

-- the words of an event, with the record d after it
unfoldable pub event_words : TagDecoder → Event → List ℕ
event_words d (event.Start x o) = start_words x o (innermost d)
event_words d (event.End e) = end_words e
event_words d (event.Data x o v) = value_words x o v

-- ---- only contracts of helpers cite these

-- a master is the innermost open one of a record, where the event is a Start
unfoldable pub is_innermost : TagDecoder → Event → OpenTag → Type 0
is_innermost d e m = (x o : ℕ) → e ≡ event.Start x o → m ≡ innermost d

-- the words of a record of them, in their order
abbrev pub in_order : EventWords → List ℕ
in_order w = w.kind ∷ w.id ∷ w.offset ∷ w.value ∷ w.end ∷ w.count ∷ w.size ∷ w.known ∷ []
