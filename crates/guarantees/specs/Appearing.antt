-- An element of each ID of a checked table can appear. Document 02, CR 5: "Someone typed 1 as an ID; the check passed
-- and the element never appeared." Here are the bytes in which it appears, and what a fresh decoder answers to them:
-- where they are the first of the input, and where its parents are written out before it.
use Rattle.std.specs.Prelude.{ℕ, ◌+◌, ◌<◌, ◌≡◌, true, cond, List, [], ◌∷◌, ◌++◌, pos, length, Ok}
use Rattle.tools.specs.ElementId.{element_id_length, id_bytes}
use Rattle.table.specs.Check.{only_ids}
use Rattle.table.specs.Passed.{at}
use Rattle.table.specs.Table.{Entry, table_of, path_ids, is_master}
use Rattle.table.specs.declared.types.TagDataType.{TagDataType}
use Rattle.table.specs.declared.types.TagDataType.TheVariants as type
use Rattle.tag_parse.specs.declared.types.TagValue.{TagValue}
use Rattle.tag_parse.specs.declared.types.TagValue.TheVariants as value
use Rattle.decoder_rules.specs.Moving.{decode}
use Rattle.decoder_rules.specs.Record.{fresh}
use Rattle.decoder_rules.specs.Run.{Call, decode_calls}
use Rattle.decoder_rules.specs.Run.Told.{event}
use Rattle.decoder_rules.specs.declared.types.Answer.TheVariants as answer
use Rattle.decoder_rules.specs.declared.types.Event.{Event}
use Rattle.decoder_rules.specs.declared.types.Event.TheVariants.{Start, Data}

-- ---- what is written

-- an element of the ID x that holds nothing: the bytes of the ID, and the size 0
abbrev pub empty_element : ℕ → List ℕ
empty_element x = id_bytes x ++ 0x80 ∷ []

-- the same in these parents, from the root on: before it stands of each parent the ID and the size Unknown
unfoldable pub in_parents : List ℕ → ℕ → List ℕ
in_parents [] x = empty_element x
in_parents (y ∷ parents) x = id_bytes y ++ 0xFF ∷ in_parents parents x

-- ---- what is answered

-- the value of an element of this kind that holds nothing, whose header ends at p: "An empty number is 0, an empty
-- float 0.0."
abbrev pub empty_value : TagDataType → ℕ → TagValue
empty_value type.UnsignedInt p = value.UnsignedInt 0
empty_value type.Integer p = value.Integer (pos 0)
empty_value type.Utf8 p = value.Utf8 (record { begin = p; end = p })
empty_value type.Binary p = value.Binary (record { begin = p; end = p })
empty_value type.Float p = value.Float 0
empty_value type.Master p = value.Raw (record { begin = p; end = p })
empty_value type.Untyped p = value.Raw (record { begin = p; end = p })

-- its event, where it is of this kind and of the ID x and its header of len bytes stands at p
abbrev pub empty_event : TagDataType → ℕ → ℕ → ℕ → Event
empty_event kind x p len = cond (is_master kind) (Start x p) (Data x p (empty_value kind (p + len)))

-- a call that told this event and took n bytes
abbrev pub tells : Event → ℕ → Call
tells e n = record { told = event e; taken = n }

-- how many bytes the header of an ID and of a size of one byte has
abbrev pub header_length : ℕ → ℕ
header_length x = element_id_length x + 1

-- the calls on `in_parents` from the position p on: the Start of each parent, in order, and then the element's event
unfoldable pub calls_in_parents : TagDataType → ℕ → List ℕ → ℕ → List Call
calls_in_parents kind p [] x = tells (empty_event kind x p (header_length x)) (header_length x) ∷ []
calls_in_parents kind p (y ∷ parents) x = tells (Start y p) (header_length y) ∷ calls_in_parents kind (p + header_length y) parents x

-- ---- the statement

-- with an element of this entry that holds nothing, a fresh decoder answers its event at the first call
abbrev pub AppearsAlone : List ℕ → List ℕ → Entry → Type 0
AppearsAlone es ps e = (decode es ps fresh (empty_element e.id)).answer ≡ Ok (answer.Event (empty_event e.kind e.id 0 (header_length e.id)))

-- with the parents that its path names before it, calls in a row tell the Start of each and then its event
abbrev pub AppearsInParents : List ℕ → List ℕ → Entry → Type 0
AppearsInParents es ps e =
    (decode_calls (length e.path + 1) es ps fresh (in_parents (path_ids e.path) e.id)).calls
    ≡ calls_in_parents e.kind 0 (path_ids e.path) e.id

-- each entry of the table in these words can appear
pub record Appears (es ps : List ℕ) : Type 0 where
  -- as the first element of an input, whatever its path is
  pub alone : (i : ℕ) → i < length (table_of es ps) → AppearsAlone es ps (at (table_of es ps) i)
  -- and in its parents, where its path is IDs only
  pub in_parents_lem : (i : ℕ) → i < length (table_of es ps) → only_ids (at (table_of es ps) i).path ≡ true → AppearsInParents es ps (at (table_of es ps) i)
