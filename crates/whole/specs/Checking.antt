-- What the check keeps of the answers to an input, one after another, and its verdict at the last of them.
use Rattle.std.specs.Prelude.{ℕ, ◌+◌, ◌-◌, ◌^◌, Bool, true, false, cond, ◌&&◌, List, [], ◌∷◌, ltb, eqb, get_or, Err, None, Ok, Option, Result, Some}
use Rattle.spec_util.specs.Walk.{most_open, no_tag}
use Rattle.spec_util.specs.declared.types.OpenTag.{OpenTag}
use Rattle.decoder_rules.specs.Numbers.{error_number}
use Rattle.decoder_rules.specs.declared.types.Answer.{Answer}
use Rattle.decoder_rules.specs.declared.types.Answer.TheVariants as answer
use Rattle.decoder_rules.specs.declared.types.DecodeError.{DecodeError}
use Rattle.decoder_rules.specs.declared.types.DecodeError.TheVariants as error
use Rattle.decoder_rules.specs.declared.types.Event.TheVariants as event
use Rattle.decoder_rules.specs.declared.types.TagDecoder.{TagDecoder}
use Rattle.event_list.specs.Whole.{Answered}
use Rattle.whole.specs.declared.types.Root.{Root}
use Rattle.whole.specs.declared.types.Seen.{Seen}
use Rattle.whole.specs.declared.types.Verdict.{Verdict}
use Rattle.whole.specs.declared.types.Verdict.TheVariants as verdict
use Rattle.tag_parse.specs.declared.types.Range.{Range}
use Rattle.decoder_rules.specs.declared.types.Refusal.{Refusal}

-- ---- what is kept

-- before the first answer
abbrev pub at_start : Seen
at_start = record { begun = false; front = true; sized = true; id = 0; start = 0; records = 0; feeds = 0 }

-- one more, where the condition holds; a count of 64 bits stops at its greatest number
abbrev pub counted_if : Bool → ℕ → ℕ
counted_if is n = cond is (cond (ltb n (2 ^ 64 - 1)) (n + 1) n) n

-- whether the front is there after an event: the first one decides
abbrev pub front_after : Seen → Bool → Bool
front_after c is = cond c.begun c.front is

-- whether the innermost open master, at one of the 32 places, has a known size
abbrev pub top_is_sized : TagDecoder → Bool
top_is_sized d =
    cond (eqb d.open_count 0) false
    (cond (ltb most_open d.open_count) false (get_or d.«open» (d.open_count - 1) no_tag).known)

-- after a Start of the ID x at p, with so many open now
abbrev pub start_seen : Seen → ℕ → ℕ → ℕ → Bool → Seen
start_seen c x p depth sized = record {
  begun = true;
  front = front_after c (eqb p 0 && eqb depth 1);
  sized = c.sized && sized;
  id = cond c.sized x c.id;
  start = cond c.sized p c.start;
  records = counted_if (eqb depth 1) c.records;
  feeds = counted_if (eqb depth 2) c.feeds;
}

-- after another event; it is a record where the condition holds
abbrev pub other_seen : Seen → Bool → Seen
other_seen c is = record {
  begun = true;
  front = front_after c false;
  sized = c.sized;
  id = c.id;
  start = c.start;
  records = counted_if is c.records;
  feeds = c.feeds;
}

-- after an answer, with the record d that it left
abbrev pub seen_after : Seen → Result Answer Refusal → TagDecoder → Seen
seen_after c (Ok (answer.Event (event.Start x p))) d = start_seen c x p d.open_count (top_is_sized d)
seen_after c (Ok (answer.Event (event.End e))) d = other_seen c false
seen_after c (Ok (answer.Event (event.Data x p v))) d = other_seen c (eqb d.open_count 0)
seen_after c (Ok (answer.NeedMore missing)) d = c
seen_after c (Ok answer.Finished) d = c
seen_after c (Err r) d = c

-- ---- the verdict

-- the size of a master, where it has one
abbrev pub size_given : OpenTag → Option ℕ
size_given m = cond m.known (Some m.size) None

-- the outermost open master
abbrev pub root_of : TagDecoder → Option Root
root_of d =
    cond (eqb d.open_count 0) None
    (Some (record { id = (get_or d.«open» 0 no_tag).id; start = (get_or d.«open» 0 no_tag).tag_start; size = size_given (get_or d.«open» 0 no_tag) }))

-- how many bytes an input has that is cut at the position p: the bytes that refusal 23 names are the last
abbrev pub bytes_there : Option Range → ℕ → ℕ
bytes_there None p = p
bytes_there (Some range) p = range.end

-- a refusal at a place: 23 says that the input was cut
abbrev pub refused_as : DecodeError → ℕ → TagDecoder → Verdict
refused_as error.TableShape p d = verdict.Refused (error_number error.TableShape) p
refused_as error.BadState p d = verdict.Refused (error_number error.BadState) p
refused_as error.TooFar p d = verdict.Refused (error_number error.TooFar) p
refused_as error.AfterFinish p d = verdict.Refused (error_number error.AfterFinish) p
refused_as error.InvalidTagData p d = verdict.Refused (error_number error.InvalidTagData) p
refused_as error.InvalidTagId p d = verdict.Refused (error_number error.InvalidTagId) p
refused_as error.HierarchyError p d = verdict.Refused (error_number error.HierarchyError) p
refused_as error.InvalidTagSize p d = verdict.Refused (error_number error.InvalidTagSize) p
refused_as error.OversizedChildElement p d = verdict.Refused (error_number error.OversizedChildElement) p
refused_as error.TooManyOpen p d = verdict.Refused (error_number error.TooManyOpen) p
refused_as error.FromUtf8Error p d = verdict.Refused (error_number error.FromUtf8Error) p
refused_as error.ReadF64Mismatch p d = verdict.Refused (error_number error.ReadF64Mismatch) p
refused_as (error.UnexpectedEOF cut) p d = verdict.Cut d.position (root_of d) (bytes_there cut.part d.position)
refused_as error.NotAMaster p d = verdict.Refused (error_number error.NotAMaster) p
refused_as error.InvalidIdForm p d = verdict.Refused (error_number error.InvalidIdForm) p
refused_as error.UnknownSizePastEnd p d = verdict.Refused (error_number error.UnknownSizePastEnd) p

-- the finish at the position p: no event, a Start without a size, several records, or one that is whole
abbrev pub finished_as : Seen → ℕ → Verdict
finished_as c p =
    cond c.sized (cond (eqb c.records 1) (verdict.Whole c.feeds p) (verdict.More c.records c.feeds p))
    (verdict.CannotTell c.id c.start)

-- this verdict, unless the first event showed that the front is missing
abbrev pub if_front : Seen → Verdict → Verdict
if_front c v = cond c.front v verdict.FrontMissing

-- the verdict at the last answer, with the record d that it left
abbrev pub verdict_at : Seen → Result Answer Refusal → TagDecoder → Verdict
verdict_at c (Ok (answer.Event e)) d = verdict.NotEnded
verdict_at c (Ok (answer.NeedMore missing)) d = if_front c (verdict.TooLarge d.position)
verdict_at c (Ok answer.Finished) d = cond c.begun (if_front c (finished_as c d.position)) verdict.Empty
verdict_at c (Err r) d = if_front c (refused_as r.error r.place d)

-- ---- of all the answers to an input

-- the verdict after them, with c kept of those before
unfoldable pub verdict_after : Seen → List Answered → Verdict
verdict_after c [] = verdict.NotEnded
verdict_after c (a ∷ []) = verdict_at c a.answer a.after
verdict_after c (a ∷ b ∷ l) = verdict_after (seen_after c a.answer a.after) (b ∷ l)

-- the verdict on an input that has these answers
abbrev pub verdict_of : List Answered → Verdict
verdict_of l = verdict_after at_start l
