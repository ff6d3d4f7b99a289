-- What is kept from line to line of the list for people, so that its last line can say how much a finish means.
use Rattle.std.specs.Prelude.{ℕ, ◌+◌, ◌-◌, min, Bool, false, ◌||◌, not, eqb, get_or, Err, Ok, Result}
use Rattle.spec_util.specs.Walk.{most_open, no_tag}
use Rattle.spec_util.specs.declared.types.OpenTag.{OpenTag}
use Rattle.decoder_rules.specs.declared.types.Answer.{Answer}
use Rattle.decoder_rules.specs.declared.types.Answer.TheVariants as answer
use Rattle.decoder_rules.specs.declared.types.Event.{Event}
use Rattle.decoder_rules.specs.declared.types.Event.TheVariants.{Start, End, Data}
use Rattle.decoder_rules.specs.declared.types.TagDecoder.{TagDecoder}
use Rattle.named_list.specs.declared.types.Seen.{Seen}
use Rattle.decoder_rules.specs.declared.types.Refusal.{Refusal}

-- what is kept: the Starts that have had no End, whether an End came that had no Start, whether a size is not known
abbrev pub seen : ℕ → Bool → Bool → Seen
seen n front size = record { starts = n; front_missing = front; size_missing = size }

-- before the first line: nothing
abbrev pub nothing_seen : Seen
nothing_seen = seen 0 false false

-- the innermost open master of a record, which has places for 32
abbrev pub innermost : TagDecoder → OpenTag
innermost d = get_or d.«open» (min (d.open_count - 1) 31) no_tag

-- after an event, with the record that it left: a Start is open, at most 32 of them, and its size is known or not; an
-- End closes a Start, and one where none is open is that of a master whose Start is missing
unfoldable pub seen_event : Event → TagDecoder → Seen → Seen
seen_event (Start x p) d s = seen (min (s.starts + 1) most_open) s.front_missing (s.size_missing || not (innermost d).known)
seen_event (End e) d s = seen (s.starts - 1) (s.front_missing || eqb s.starts 0) s.size_missing
seen_event (Data x p v) d s = s

-- after an answer
unfoldable pub seen_after : Result Answer Refusal → TagDecoder → Seen → Seen
seen_after (Ok (answer.Event e)) d s = seen_event e d s
seen_after (Ok (answer.NeedMore missing)) d s = s
seen_after (Ok answer.Finished) d s = s
seen_after (Err r) d s = s
