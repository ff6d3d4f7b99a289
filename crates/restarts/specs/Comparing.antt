-- Two records compared, wholly or but for the counts of children: what stands in the empty places is never asked. And
-- what calls on them answer, compared as far.
use Rattle.std.specs.Prelude.{ℕ, ◌≡◌, true, List, map, length, Err, Ok, Result}
use Rattle.basics.specs.Lists.{filled}
use Rattle.spec_util.specs.Walk.{most_open, no_tag}
use Rattle.spec_util.specs.declared.types.OpenTag.{OpenTag}
use Rattle.decoder_rules.specs.OneCall.{good_state}
use Rattle.decoder_rules.specs.Record.{opens, waits, no_end}
use Rattle.decoder_rules.specs.declared.types.Answer.{Answer}
use Rattle.decoder_rules.specs.declared.types.Answer.TheVariants as answer
use Rattle.decoder_rules.specs.declared.types.Event.{Event}
use Rattle.decoder_rules.specs.declared.types.Event.TheVariants as event
use Rattle.decoder_rules.specs.declared.types.TagDecoder.{TagDecoder}
use Rattle.decoder_rules.specs.declared.types.WaitingEnd.{WaitingEnd}
use Rattle.guarantees.specs.Calls.{Response, answered, searched, silent, Step}
use Rattle.decoder_rules.specs.declared.types.Refusal.{Refusal}

-- ---- how far

-- all is compared, or all but the counts of children
pub data Extent : Type 0 where
  wholly : Extent
  but_counts : Extent

-- a count as far as it is compared
abbrev pub seen_count : Extent → ℕ → ℕ
seen_count wholly n = n
seen_count but_counts n = 0

-- an open master as far as it is compared
unfoldable pub seen_master : Extent → OpenTag → OpenTag
seen_master x m = record {
  id = m.id;
  known = m.known;
  size = m.size;
  tag_start = m.tag_start;
  data_start = m.data_start;
  count = seen_count x m.count;
}

-- an End as far as it is compared
unfoldable pub seen_end : Extent → WaitingEnd → WaitingEnd
seen_end x e = record { id = e.id; offset = e.offset; count = seen_count x e.count }

-- these masters as far as they are compared
abbrev pub seen_masters : Extent → List OpenTag → List OpenTag
seen_masters wholly l = l
seen_masters but_counts l = map (seen_master but_counts) l

-- these Ends as far as they are compared
abbrev pub seen_ends : Extent → List WaitingEnd → List WaitingEnd
seen_ends wholly l = l
seen_ends but_counts l = map (seen_end but_counts) l

-- ---- the record

-- a record with its 32 places of each kind, which the type gives in code, and for which 11 is not
pub record Sound (d : TagDecoder) : Type 0 where
  pub masters : length d.«open» ≡ most_open
  pub ends : length d.waiting ≡ most_open
  pub good : good_state d ≡ true

-- d and e are the same as far as they are compared; nothing is said of the places from the counts on
pub record Same (x : Extent) (d e : TagDecoder) : Type 0 where
  pub settings : e.settings ≡ d.settings
  pub position : e.position ≡ d.position
  pub settled : e.settled ≡ d.settled
  pub finished : e.finished ≡ d.finished
  pub masters : seen_masters x (opens e) ≡ seen_masters x (opens d)
  pub ends : seen_ends x (waits e) ≡ seen_ends x (waits d)

-- the same record: the same masters open and the same Ends waiting
abbrev pub SameRecord : TagDecoder → TagDecoder → Type 0
SameRecord d e = Same wholly d e

-- the same record but for the counts of the open masters and of the waiting Ends
abbrev pub SameButCounts : TagDecoder → TagDecoder → Type 0
SameButCounts d e = Same but_counts d e

-- the record as far as it is compared, with zero in its empty places
unfoldable pub seen_record : Extent → TagDecoder → TagDecoder
seen_record x d = record {
  settings = d.settings;
  position = d.position;
  settled = d.settled;
  finished = d.finished;
  «open» = filled no_tag (seen_masters x (opens d));
  open_count = d.open_count;
  waiting = filled no_end (seen_ends x (waits d));
  waiting_count = d.waiting_count;
}

-- the record with zero in its empty places
abbrev pub tidied : TagDecoder → TagDecoder
tidied d = seen_record wholly d

-- the same with every count 0. Document 02, CR 14: "counts 0"
abbrev pub without_counts : TagDecoder → TagDecoder
without_counts d = seen_record but_counts d

-- ---- what is answered

-- an event as far as it is compared: only an End has a count
abbrev pub seen_event : Extent → Event → Event
seen_event x (event.Start id o) = event.Start id o
seen_event x (event.End end) = event.End (seen_end x end)
seen_event x (event.Data id o v) = event.Data id o v

-- an answer as far as it is compared
abbrev pub seen_answer : Extent → Result Answer Refusal → Result Answer Refusal
seen_answer x (Ok (answer.Event e)) = Ok (answer.Event (seen_event x e))
seen_answer x (Ok (answer.NeedMore missing)) = Ok (answer.NeedMore missing)
seen_answer x (Ok answer.Finished) = Ok answer.Finished
seen_answer x (Err r) = Err r

-- what any call tells, as far as it is compared
abbrev pub seen_response : Extent → Response → Response
seen_response x (answered a n) = answered (seen_answer x a) n
seen_response x (searched a n) = searched a n
seen_response x silent = silent

-- one call of a run, as far as it is compared
unfoldable pub seen_step : Extent → Step → Step
seen_step x s = record { call = s.call; told = seen_response x s.told }
