-- The promises of demand 3 as statements over any calls on a fresh decoder: each speaks of the last of the calls,
-- whatever the calls before it were.
use Rattle.std.specs.Prelude.{ℕ, zero, suc, ◌+◌, ◌≤◌, ◌<◌, ◌≡◌, Bool, true, false, not, ◌&&◌, length, take, drop, Err, None, Ok, Option, Result, Some}
use mathlib.Core.List.{List, [], ◌∷◌, ◌++◌, Memᴰ}
use Rattle.table.specs.Check.{check_table, only_ids}
use Rattle.table.specs.Table.{Entry, table_of, data_type_of, path_of, is_typed}
use Rattle.table.specs.declared.types.TagDataType.{TagDataType}
use Rattle.table.specs.declared.types.TagDataType.TheVariants as type
use Rattle.tag_parse.specs.Header.{read_header}
use Rattle.tag_parse.specs.Payload.{value_of}
use Rattle.tag_parse.specs.declared.types.EBMLSize.TheVariants.{Known}
use Rattle.tag_parse.specs.declared.types.TagHeader.{TagHeader}
use Rattle.tag_parse.specs.declared.types.TagValue.{TagValue}
use Rattle.tag_parse.specs.declared.types.TagValue.TheVariants as value
use Rattle.decoder_rules.specs.Numbers.{error_number}
use Rattle.decoder_rules.specs.EndOfInput.{decode_eof}
use Rattle.decoder_rules.specs.declared.types.Answer.{Answer}
use Rattle.decoder_rules.specs.declared.types.Answer.TheVariants as answer
use Rattle.decoder_rules.specs.declared.types.Event.{Event}
use Rattle.decoder_rules.specs.declared.types.Event.TheVariants as event
use Rattle.decoder_rules.specs.declared.types.WaitingEnd.{WaitingEnd}
use Rattle.guarantees.specs.Calls.{lent, Call, ending, Response, answered, searched, silent, Step, response_to, record_after, history, Lent}
use Rattle.guarantees.specs.Settling.{seen_parents}
use Rattle.guarantees.specs.History.{Started, starts_open, parents_left, position}
use Rattle.decoder_rules.specs.declared.types.Refusal.{Refusal}
use Rattle.tools.specs.declared.status.Status.TheVariants as status

-- ---- what stands in an answer

-- the kind of a value: raw stands for an ID to which the table gives no type
abbrev pub value_kind : TagValue → TagDataType
value_kind (value.UnsignedInt v) = type.UnsignedInt
value_kind (value.Integer v) = type.Integer
value_kind (value.Utf8 r) = type.Utf8
value_kind (value.Binary r) = type.Binary
value_kind (value.Float b) = type.Float
value_kind (value.Raw r) = type.Untyped

-- the kind of an event: a Start and an End are of a Master
abbrev pub event_kind : Event → TagDataType
event_kind (event.Start x o) = type.Master
event_kind (event.End end) = type.Master
event_kind (event.Data x o v) = value_kind v

-- the ID of an event
abbrev pub event_id : Event → ℕ
event_id (event.Start x o) = x
event_id (event.End end) = end.id
event_id (event.Data x o v) = x

-- the offset of an element, a Start or a Data; an End is none
abbrev pub element_offset : Event → Option ℕ
element_offset (event.Start x o) = Some o
element_offset (event.End end) = None
element_offset (event.Data x o v) = Some o

-- ---- the table and the calls that the promises speak of

-- these calls are such as the promises speak of
pub record Runs (es ps : List ℕ) (cs : List Call) : Type 0 where
  -- the table is one that the table check passes
  pub checked : check_table es ps ≡ Ok tt
  -- what is lent are octets
  pub octets : Lent cs

-- what the call c answers after the calls cs
abbrev pub last_response : List ℕ → List ℕ → List Call → Call → Response
last_response es ps cs c = response_to es ps (record_after es ps cs) c

-- the call c answers a: it is decode or the end of input, and takes some count of bytes
abbrev pub Answers : List ℕ → List ℕ → List Call → Call → Result Answer Refusal → Type 0
Answers es ps cs c a = (n : ℕ) × (last_response es ps cs c ≡ answered a n)

-- the Starts that are open after these calls
abbrev pub open_at : List ℕ → List ℕ → List Call → List Started
open_at es ps cs = starts_open (table_of es ps) (history es ps cs)

-- the implied parents that are left where the call c comes, with those that c itself implies before its event
abbrev pub left_at : List ℕ → List ℕ → List Call → Call → List ℕ
left_at es ps cs c = seen_parents ps (table_of es ps) (history es ps cs) (lent c) (last_response es ps cs c) ++ parents_left ps (table_of es ps) (history es ps cs)

-- the position after these calls
abbrev pub position_at : List ℕ → List ℕ → List Call → ℕ
position_at es ps cs = position (history es ps cs)

-- ---- elements

-- the header at the front of the bytes s is that of the event e: it reads as e's ID, of e's kind
pub record HeaderOf (t : List Entry) (s : List ℕ) (e : Event) : Type 0 where
  pub its : TagHeader
  pub read : read_header t s ≡ Ok (status.Complete its)
  pub same_id : its.id ≡ event_id e
  pub same_kind : its.kind ≡ event_kind e

-- n bytes are the header at the front of the bytes s, and no more than that
pub record HeaderAlone (t : List Entry) (s : List ℕ) (n : ℕ) : Type 0 where
  pub its : TagHeader
  pub read : read_header t s ≡ Ok (status.Complete its)
  pub no_more : n ≡ its.len

-- n bytes at the front of s are one whole element at offset o: a header of known size and as much payload as it says,
-- of which v is the value, strictly or as ported; a range in v is the payload's place in the stream, strictly that of a
-- text before its first zero byte
pub record WholeData (strict : Bool) (t : List Entry) (s : List ℕ) (o n : ℕ) (v : TagValue) : Type 0 where
  pub its : TagHeader
  pub read : read_header t s ≡ Ok (status.Complete its)
  pub size : ℕ
  pub known : its.size ≡ Known size
  pub count : n ≡ its.len + size
  pub within : n ≤ length s
  pub value : value_of strict its.kind (take size (drop its.len s)) (record { begin = o + its.len; end = o + n }) ≡ Ok v

-- an event that settles nothing: a Data whose ID has no type, or a Global in its path
abbrev pub is_loose : List Entry → Event → Bool
is_loose t (event.Start x o) = false
is_loose t (event.End end) = false
is_loose t (event.Data x o v) = not (is_typed (data_type_of t x) && only_ids (path_of t x))

-- the same of any answer: it is no other event
abbrev pub answers_loose : List Entry → Response → Bool
answers_loose t (answered (Ok (answer.Event e)) n) = is_loose t e
answers_loose t (answered (Ok (answer.NeedMore missing)) n) = true
answers_loose t (answered (Ok answer.Finished) n) = true
answers_loose t (answered (Err r) n) = true
answers_loose t (searched a n) = true
answers_loose t silent = true

-- every event of this history is such a Data, so that no Start and no End came
unfoldable pub only_loose : List Entry → List Step → Bool
only_loose t [] = true
only_loose t (s ∷ h) = answers_loose t s.told && only_loose t h

-- ---- 3

-- an End fits, where these Starts are open and these implied parents are left: it names the last Start or, where none
-- is open, the innermost parent; it has the offset of the Start, and an implied parent's is 0
abbrev pub EndMatches : List Started → List ℕ → WaitingEnd → Type 0
EndMatches [] [] end = ⊥
EndMatches [] (x ∷ left) end = (end.id ≡ x) × (end.offset ≡ 0)
EndMatches (m ∷ starts) left end = (end.id ≡ m.id) × (end.offset ≡ m.offset)

-- ---- 5

-- an element that ends at e ends inside every master of known size of these
abbrev pub EndsInside : ℕ → List Started → Type 0
EndsInside e starts = (m : Started) → Memᴰ m starts → (f : ℕ) → m.end ≡ Some f → e ≤ f

-- ---- cut records

-- a master of known size is open and not full: of these Starts that are open one has an end beyond the place p
pub record NotFull (starts : List Started) (p : ℕ) : Type 0 where
  pub master : Started
  pub still_open : Memᴰ master starts
  pub end : ℕ
  pub known : master.end ≡ Some end
  pub beyond : p < end

-- an End, or refusal 23
abbrev pub EndOr23 : Result Answer Refusal → Type 0
EndOr23 (Ok (answer.Event (event.Start x o))) = ⊥
EndOr23 (Ok (answer.Event (event.End end))) = Unit {0}
EndOr23 (Ok (answer.Event (event.Data x o v))) = ⊥
EndOr23 (Ok (answer.NeedMore missing)) = ⊥
EndOr23 (Ok answer.Finished) = ⊥
EndOr23 (Err r) = error_number r.error ≡ 23

-- the end of input called n times more, with no byte
unfoldable pub ending_again : ℕ → List Call → List Call
ending_again zero cs = cs
ending_again (suc n) cs = ending [] ∷ ending_again n cs

-- what the end of input with no byte answers after these calls
abbrev pub at_the_end : List ℕ → List ℕ → List Call → Result Answer Refusal
at_the_end es ps cs = (decode_eof es ps (record_after es ps cs) []).answer
