-- What a caller can tell from the calls and their answers alone: the Starts that have not had their End, the implied
-- parents that are left, and the position. Nothing here is read off the decoder's record. A history stands latest
-- first.
use Rattle.std.specs.Prelude.{ℕ, ◌+◌, Bool, true, false, not, ◌&&◌, List, [], ◌∷◌, ◌++◌, map, drop, Err, None, Ok, Option, Result, Some}
use Rattle.table.specs.Table.{Entry}
use Rattle.tag_parse.specs.Header.{read_header}
use Rattle.tag_parse.specs.declared.types.EBMLSize.{EBMLSize}
use Rattle.tag_parse.specs.declared.types.EBMLSize.TheVariants.{Known, Unknown}
use Rattle.decoder_rules.specs.declared.types.Answer.{Answer}
use Rattle.decoder_rules.specs.declared.types.Answer.TheVariants as answer
use Rattle.decoder_rules.specs.declared.types.Event.{Event}
use Rattle.decoder_rules.specs.declared.types.Event.TheVariants as event
use Rattle.decoder_rules.specs.declared.types.Search.{Search}
use Rattle.decoder_rules.specs.declared.types.Search.TheVariants as search
use Rattle.guarantees.specs.Calls.{Call, decoding, ending, recovering, allow, strictly, limit, lent, Response, answered, searched, silent, Step}
use Rattle.guarantees.specs.Settling.{seen_parents}
use Rattle.tag_parse.specs.declared.types.ParseError.{ParseError}
use Rattle.decoder_rules.specs.declared.types.Refusal.{Refusal}
use Rattle.tools.specs.declared.status.Status.{Status}
use Rattle.tag_parse.specs.declared.types.TagHeader.{TagHeader}
use Rattle.tools.specs.declared.status.Status.TheVariants as status

-- ---- where an element ends

-- the first place past an element of this size, whose data start at p
abbrev pub end_after : ℕ → EBMLSize → Option ℕ
end_after p Unknown = None
end_after p (Known n) = Some (p + n)

-- the same of what was read as a header at p: nothing, unless it is a header of known size
abbrev pub header_end : ℕ → Result (Status TagHeader) ParseError → Option ℕ
header_end p (Ok (status.NeedMore missing)) = None
header_end p (Err e) = None
header_end p (Ok (status.Complete h)) = end_after (p + h.len) h.size

-- where the element at offset p ends, if its size is known: as the header at the front of the bytes lent says
unfoldable pub declared_end : List Entry → ℕ → List ℕ → Option ℕ
declared_end t p s = header_end p (read_header t s)

-- ---- the Starts that have not had their End, the last one first

-- a Start's ID and offset, and where its master ends, if its size is known
pub record Started : Type 0 where
  pub id : ℕ
  pub offset : ℕ
  pub end : Option ℕ

-- the end of a master, n bytes on: "every open known size grows by the bytes passed over"
abbrev pub later_end : ℕ → Option ℕ → Option ℕ
later_end n None = None
later_end n (Some e) = Some (e + n)

-- a Start whose end is n bytes on
unfoldable pub later : ℕ → Started → Started
later n m = record { id = m.id; offset = m.offset; end = later_end n m.end }

module _ (t : List Entry) (s : List ℕ) where
  -- a Start opens one more, an End takes the last away
  abbrev pub after_event : Event → List Started → List Started
  after_event (event.Start x o) l = record { id = x; offset = o; end = declared_end t o s } ∷ l
  after_event (event.End end) l = drop 1 l
  after_event (event.Data x o v) l = l

  -- of the answers only an event changes which Starts are open
  abbrev pub after_answer : Result Answer Refusal → List Started → List Started
  after_answer (Ok (answer.Event e)) l = after_event e l
  after_answer (Ok (answer.NeedMore missing)) l = l
  after_answer (Ok answer.Finished) l = l
  after_answer (Err r) l = l

  -- where a recovery found a header, every end grows by the bytes that it passed over
  abbrev pub after_search : Result Search Refusal → List Started → List Started
  after_search (Ok (search.Found passed)) l = map (later passed) l
  after_search (Ok (search.NotFound passed)) l = l
  after_search (Err r) l = l

  -- the Starts that are open after any call
  abbrev pub after_response : Response → List Started → List Started
  after_response (answered a n) l = after_answer a l
  after_response (searched a n) l = after_search a l
  after_response silent l = l

-- the Starts that are open after this history
unfoldable pub starts_open : List Entry → List Step → List Started
starts_open t [] = []
starts_open t (s ∷ h) = after_response t (lent s.call) s.told (starts_open t h)

-- the Starts that are open after any call, with every end as it was declared, whatever a recovery passed over
abbrev pub after_declared : List Entry → List ℕ → Response → List Started → List Started
after_declared t s (answered a n) l = after_answer t s a l
after_declared t s (searched a n) l = l
after_declared t s silent l = l

-- the Starts that are open after this history, each with its end as it was declared
unfoldable pub starts_declared : List Entry → List Step → List Started
starts_declared t [] = []
starts_declared t (s ∷ h) = after_declared t (lent s.call) s.told (starts_declared t h)

-- the first of two ends that is known
abbrev pub first_end : Option ℕ → Option ℕ → Option ℕ
first_end None g = g
first_end (Some e) g = Some e

-- where the outermost Start of known size ends
unfoldable pub outermost_end : List Started → Option ℕ
outermost_end [] = None
outermost_end (m ∷ l) = first_end (outermost_end l) m.end

-- ---- the implied parents that have not had their End, the innermost first

-- an End that comes while no Start is open takes the first of them away
abbrev pub left_by_end : List Started → List ℕ → List ℕ
left_by_end [] l = drop 1 l
left_by_end (m ∷ starts) l = l

-- the parents that an event leaves: only an End takes one away
abbrev pub left_by_event : Event → List Started → List ℕ → List ℕ
left_by_event (event.Start x o) starts l = l
left_by_event (event.End end) starts l = left_by_end starts l
left_by_event (event.Data x o v) starts l = l

-- the parents that an answer leaves
abbrev pub left_by_answer : Result Answer Refusal → List Started → List ℕ → List ℕ
left_by_answer (Ok (answer.Event e)) starts l = left_by_event e starts l
left_by_answer (Ok (answer.NeedMore missing)) starts l = l
left_by_answer (Ok answer.Finished) starts l = l
left_by_answer (Err r) starts l = l

-- the parents that any call leaves
abbrev pub left_by : Response → List Started → List ℕ → List ℕ
left_by (answered a n) starts l = left_by_answer a starts l
left_by (searched a n) starts l = l
left_by silent starts l = l

-- the parents that are left after this history; those that a call implies come before its event
unfoldable pub parents_left : List ℕ → List Entry → List Step → List ℕ
parents_left ps t [] = []
parents_left ps t (s ∷ h) = left_by s.told (starts_open t h) (seen_parents ps t h (lent s.call) s.told ++ parents_left ps t h)

-- ---- the position, which is the count of all bytes taken

-- the count of bytes that a call took
abbrev pub taken_in : Response → ℕ
taken_in (answered a n) = n
taken_in (searched a n) = n
taken_in silent = 0

-- the position after this history
unfoldable pub position : List Step → ℕ
position [] = 0
position (s ∷ h) = position h + taken_in s.told

-- ---- what was never done

-- whether the child-size test is on after a call, where it was on or not before it
abbrev pub test_after : Call → Bool → Bool
test_after (decoding s) on = on
test_after (ending s) on = on
test_after (recovering s) on = on
test_after (allow ids hierarchy oversized) on = not oversized
test_after (strictly b) on = on
test_after (limit n) on = on

-- the child-size test is on after these calls; it is on at first
unfoldable pub child_test_on : List Call → Bool
child_test_on [] = true
child_test_on (c ∷ cs) = test_after c (child_test_on cs)

-- the child-size test was on at every one of these calls
unfoldable pub child_test_never_off : List Call → Bool
child_test_never_off [] = true
child_test_never_off (c ∷ cs) = test_after c true && child_test_never_off cs

-- a call is no recovery
abbrev pub is_no_recovery : Call → Bool
is_no_recovery (decoding s) = true
is_no_recovery (ending s) = true
is_no_recovery (recovering s) = false
is_no_recovery (allow ids hierarchy oversized) = true
is_no_recovery (strictly b) = true
is_no_recovery (limit n) = true

-- no call was a recovery
unfoldable pub never_recovered : List Call → Bool
never_recovered [] = true
never_recovered (c ∷ cs) = is_no_recovery c && never_recovered cs
