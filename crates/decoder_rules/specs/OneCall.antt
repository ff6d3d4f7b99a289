-- Document 01, "One call of the decoder, in order": its steps, each under its number. Deciding.antt puts them in their
-- order, and Moving.antt moves the record. Where the strict reading (document 02, CR 11) differs, in steps 6, 8, 9, 10
-- and 11, the step asks the record's settings which it is. Here t is the lent table as entries, d the record, s the
-- bytes lent, h a header that was read. The steps and their definitions, those with a * in Deciding.antt:
--   1 `step1` (`check_record10to12`, `check13`)     7 `step7` (`settles`, `noted`)
--   2 `steps2_11` *                                8 `step8`
--   3 `step3`, `close_or_fault`                      9 `step9`; 8 and 9 `valid_header`
--   4 `steps4_11` *                                10 `step10`, `close_or_fault`
--   5 `read_header` (tag_parse), `step5` *          11 `step11` (`read_element`)
--   6 `step6`, `refusal6`                          the order of all: `decide` *
use Rattle.std.specs.Prelude.{ℕ, ◌+◌, ◌-◌, Bool, true, false, cond, not, ◌&&◌, ◌||◌, List, reverse, leb, ltb, length, take, drop, Err, None, Ok, Option, Result, Some, ⊤}
use Rattle.basics.specs.Lists.{every, first_index}
use Rattle.table.specs.Shape.{good_shape}
use Rattle.table.specs.Check.{only_ids}
use Rattle.table.specs.Table.{Entry, parts_of, parts_in, data_type_of, path_of, is_master, is_typed}
use Rattle.tools.specs.ElementId.{element_id_length}
use Rattle.spec_util.specs.Walk.{most_open, ended_tops, validate_tag_path}
use Rattle.spec_util.specs.declared.types.OpenTag.{OpenTag}
use Rattle.tag_parse.specs.Payload.{value_of}
use Rattle.tag_parse.specs.declared.types.EBMLSize.{EBMLSize}
use Rattle.tag_parse.specs.declared.types.EBMLSize.TheVariants.{Known, Unknown}
use Rattle.tag_parse.specs.declared.types.TagHeader.{TagHeader}
use Rattle.decoder_rules.specs.Record.{farthest, size_limit, opens, waits, end_of, settled_to}
use Rattle.decoder_rules.specs.Numbers.{parse_error}
use Rattle.decoder_rules.specs.declared.types.Action.{Action}
use Rattle.decoder_rules.specs.declared.types.Action.TheVariants as act
use Rattle.decoder_rules.specs.declared.types.DecodeError.{DecodeError}
use Rattle.decoder_rules.specs.declared.types.DecodeError.TheVariants as error
use Rattle.decoder_rules.specs.declared.types.TagDecoder.{TagDecoder}
use Rattle.decoder_rules.specs.declared.types.WaitingEnd.{WaitingEnd}
use Rattle.tag_parse.specs.declared.types.ParseError.{ParseError}
use Rattle.table.specs.declared.types.Path.{Path}
use Rattle.tag_parse.specs.declared.types.TagValue.{TagValue}

-- ---- 1. "Refusals 10, 11, 12, 13 in this order."

-- what 11 asks of an open master: its data start not beyond the position, and so its count (document 02, CR 10: "11 also
-- where a count exceeds the position"); a known size at most 2^56 + position
unfoldable pub good_open : ℕ → OpenTag → Bool
good_open p m = leb m.data_start p && leb m.count p && (not m.known || leb m.size (size_limit + p))

-- what 11 asks of an End that waits: its count not beyond the position
unfoldable pub good_end : ℕ → WaitingEnd → Bool
good_end p e = leb e.count p

-- whether nothing of this holds: "over 32 open, or over 32 waiting, position over 2^62, a data start beyond the
-- position, a known size over 2^56 + position", a count of an open master or of a waiting End over the position
unfoldable pub good_state : TagDecoder → Bool
good_state d =
    leb d.open_count most_open && leb d.waiting_count most_open && leb d.position farthest
    && (every (good_open d.position) (opens d) && every (good_end d.position) (waits d))

-- 10, 11 and 12, where the state was found good or not, at this position, with n bytes lent
unfoldable pub check10to12 : List ℕ → List ℕ → Bool → ℕ → ℕ → Result ⊤ DecodeError
check10to12 es ps good position n =
    cond (good_shape es ps)
    (cond good
    (cond (leb (position + n) farthest) (Ok tt) (Err error.TooFar))
    (Err error.BadState))
    (Err error.TableShape)

-- 10, 11 and 12 of a record; these refuse a recovery too
unfoldable pub check_record10to12 : List ℕ → List ℕ → TagDecoder → ℕ → Result ⊤ DecodeError
check_record10to12 es ps d n = check10to12 es ps (good_state d) d.position n

-- 13, "bytes after the finish", with n bytes lent
unfoldable pub check13 : Bool → ℕ → Result ⊤ DecodeError
check13 finished n = cond (finished && ltb 0 n) (Err error.AfterFinish) (Ok tt)

-- the second test where the first is passed, else the first's refusal
abbrev pub and_then : Result ⊤ DecodeError → Result ⊤ DecodeError → Result ⊤ DecodeError
and_then (Ok _) c = c
and_then (Err e) c = Err e

-- the four in their order, with n bytes lent
abbrev pub step1 : List ℕ → List ℕ → TagDecoder → ℕ → Result ⊤ DecodeError
step1 es ps d n = and_then (check_record10to12 es ps d n) (check13 d.finished n)

-- ---- 3. "The outermost known-size master with position ≥ its end, and all above it, close"

-- whether a master of known size ends at the position p or before
unfoldable pub is_full : ℕ → OpenTag → Bool
is_full p m = m.known && leb (end_of m) p

-- the index of the outermost such master: how many stay open; none closes where it is not below the count
abbrev pub step3 : TagDecoder → ℕ
step3 d = first_index (is_full d.position) (opens d)

-- all above the first k close, "24 if one is no Master in the table"
unfoldable pub close_or_fault : List Entry → TagDecoder → ℕ → Result Action DecodeError
close_or_fault t d k = cond (every (λ m. is_master (data_type_of t m.id)) (drop k (opens d))) (Ok (act.Close k)) (Err error.NotAMaster)

-- ---- 6. "ID without type: 15, unless allowed."; strictly, before that: "80 bad ID form before 15"

-- an ID that is taken strictly has so many bytes at most: "no ID longer than 4 bytes"
abbrev pub longest_strict_id : ℕ
longest_strict_id = 4

-- whether the ID has a form that is taken, strictly or as ported: strictly "no ID in a form CR 5 rejects"
unfoldable pub good_form : Bool → ℕ → Bool
good_form strict x = not strict || leb (element_id_length x) longest_strict_id

-- whether the ID's form is taken, and it has a type, or needs none
abbrev pub step6 : TagDecoder → TagHeader → Bool
step6 d h = good_form d.settings.strict h.id && (is_typed h.kind || d.settings.allow_ids)

-- what is refused where not
abbrev pub refusal6 : TagDecoder → TagHeader → DecodeError
refusal6 d h = cond (good_form d.settings.strict h.id) error.InvalidTagId error.InvalidIdForm

-- ---- 7. "if not yet settled and a typed ID's path is all IDs (or empty), the stack becomes those IDs"

-- whether a header settles the record
abbrev pub settles : List Entry → TagDecoder → TagHeader → Bool
settles t d h = not d.settled && is_typed h.kind && only_ids (path_of t h.id)

-- the note that a header leaves: the range of its ID's path, or none
abbrev pub step7 : List Entry → TagDecoder → TagHeader → Option Path
step7 t d h = cond (settles t d h) (Some h.path) None

-- whether a note settles
abbrev pub is_settle : Option Path → Bool
is_settle None = false
is_settle (Some path) = true

-- the record with the note
unfoldable pub noted : List ℕ → TagDecoder → Option Path → TagDecoder
noted ps d None = d
noted ps d (Some path) = settled_to d (parts_in (parts_of ps) path)

-- ---- 8. "Path, for a typed ID once settled, unless allowed: 16."

-- whether the path is right, or need not be; strictly "D4 and its like become 16"
unfoldable pub step8 : List Entry → TagDecoder → TagHeader → Bool
step8 t d h =
    not (is_typed h.kind) || not d.settled || d.settings.allow_hierarchy || validate_tag_path d.settings.strict t h.id (opens d)

-- ---- 9. "Known size: its end beyond any open known end: 18, unless allowed." Over the greatest size: 17. Strictly "81
-- unknown-size header past a known end, before 18 and switched with it"

-- whether a master of known size goes as far as this end
unfoldable pub reaches : ℕ → OpenTag → Bool
reaches end m = not m.known || leb end (end_of m)

-- whether every open master of known size goes as far as n bytes from the position on, or need not
unfoldable pub fits_inside : TagDecoder → ℕ → Bool
fits_inside d n = d.settings.allow_oversized || every (reaches (d.position + n)) (opens d)

-- 81 strictly, of a header of len bytes; 18, then 17, of a header and the size
unfoldable pub step9 : TagDecoder → ℕ → EBMLSize → Result ⊤ DecodeError
step9 d len Unknown = cond (not d.settings.strict || fits_inside d len) (Ok tt) (Err error.UnknownSizePastEnd)
step9 d len (Known n) =
    cond (fits_inside d (len + n))
    (cond (d.settings.max_given && ltb d.settings.max_size n) (Err error.InvalidTagSize) (Ok tt))
    (Err error.OversizedChildElement)

-- 8 and 9, which recovery tests too
unfoldable pub valid_header : List Entry → TagDecoder → TagHeader → Result ⊤ DecodeError
valid_header t d h = cond (step8 t d h) (step9 d h.len h.size) (Err error.HierarchyError)

-- ---- 10. "While the top is Unknown and ended by the ID, it closes"

-- how many masters stay open before the ID x
abbrev pub step10 : List Entry → TagDecoder → ℕ → ℕ
step10 t d x = d.open_count - ended_tops d.settings.strict t x (reverse (opens d))

-- ---- 11. "Master: 19, or Start. Else Unknown size: 14; payload incomplete: need more", then 20, 21, else Data. Document
-- 01 has 22 before 20; no element has it (document 02, CR 8)

-- the Data of n bytes in all with this value, or what reading the payload refuses
abbrev pub data_or : ℕ → ℕ → Result TagValue ParseError → Result Action DecodeError
data_or x n (Ok v) = Ok (act.Data x v n)
data_or x n (Err e) = Err (parse_error e)

-- an element with n bytes of payload after its header at the position p; CR 1: "a payload gives what it lacks"
unfoldable pub read_element : Bool → ℕ → TagHeader → ℕ → List ℕ → Result Action DecodeError
read_element strict p h n s =
    cond (ltb (length s) (h.len + n)) (Ok (act.NeedMore (h.len + n - length s)))
    (data_or h.id (h.len + n)
    (value_of strict h.kind (take n (drop h.len s)) (record { begin = p + h.len; end = p + (h.len + n) })))

-- an element that is no Master, with this size in its header at the position p
unfoldable pub element_of : Bool → ℕ → TagHeader → EBMLSize → List ℕ → Result Action DecodeError
element_of strict p h Unknown s = Err error.InvalidTagData
element_of strict p h (Known n) s = read_element strict p h n s

-- a Start, or an element that is none, where so many masters are open and the header stands at the position p
unfoldable pub step11 : Bool → ℕ → ℕ → TagHeader → List ℕ → Result Action DecodeError
step11 strict count p h s =
    cond (is_master h.kind)
    (cond (leb most_open count) (Err error.TooManyOpen) (Ok (act.Start h.id h.size h.len)))
    (element_of strict p h h.size s)
