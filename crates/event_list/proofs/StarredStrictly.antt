-- Document 02, CR 11: document 01's records read strictly, beside the ported reading where that is not starred, one list
-- and one theorem, computed from the definitions. Assumes nothing.
use Prim.Native.Nat.{ℕ}
use mathlib.Core.Bool.{true, false}
use mathlib.Core.Path.{◌≡◌, refl}
use mathlib.Core.List.{List, [], ◌∷◌, map}
use lib.ListN.{length}
use Rattle.basics.specs.Lists.{filled}
use Rattle.table.specs.BenchTable.{bench_entries, bench_parts}
use Rattle.table.specs.Check.{check_table}
use Rattle.table.proofs.Computing.{table_computes}
use Rattle.spec_util.specs.Walk.{no_tag}
use Rattle.spec_util.specs.declared.types.OpenTag.{OpenTag}
use Rattle.decoder_rules.specs.Record.{fresh, with_open, with_notes}
use Rattle.decoder_rules.specs.Settings.{allowing, reading}
use Rattle.decoder_rules.specs.Run.{Calls, decode_calls, eof_calls}
use Rattle.decoder_rules.specs.declared.types.TagDecoder.{TagDecoder}
use Rattle.decoder_rules.proofs.Computing.{rules_compute}
use Rattle.numerals.specs.Numeral.{digits, places}
use Rattle.event_list.specs.Line as lines
use Rattle.event_list.specs.Whole.{next_answer}
use Rattle.event_list.specs.Computed.{text_lines, listed_from}
use Rattle.event_list.proofs.Starred.{starts, ends, unsigned, text, raw, asks_for_more, finishes, refuses, sized, unsized, having, done_at, Outcome, ran_as, gives, lists, prints, d1, d1_lines}
use Rattle.std.specs.Prelude.{Ok}

-- ---- the records

-- fresh, and strict
abbrev pub strictly : TagDecoder
strictly = reading fresh true

-- the same with unknown IDs allowed
abbrev pub ids_allowed : TagDecoder
ids_allowed = allowing strictly true false false

-- and with every test switched off
abbrev pub all_allowed : TagDecoder
all_allowed = allowing strictly true true true

-- a record at this position, settled and not finished, with these masters open
abbrev pub settled_at : TagDecoder → ℕ → List OpenTag → TagDecoder
settled_at d p masters = with_open (with_notes d p true false) (filled no_tag masters) (length masters)

-- ---- the tables

-- the end of input after calls of `decode`
abbrev pub ended_after : List ℕ → List ℕ → Calls → Calls
ended_after es ps decoded = eof_calls 9 es ps decoded.left decoded.rest

-- all bytes lent to `decode`, and then to the end of input; and to the end of input from the first call on
abbrev pub lent_with : List ℕ → List ℕ → TagDecoder → List ℕ → Outcome
lent_with es ps d s = ran_as (decode_calls 9 es ps d s) (ended_after es ps (decode_calls 9 es ps d s)) (eof_calls 9 es ps d s)

-- with the bench table
abbrev pub lent : TagDecoder → List ℕ → Outcome
lent d s = lent_with bench_entries bench_parts d s

-- Session 4E01 a Master, root; Feed A1 a Master in Session; A7 a Master in Feed; B1 Unsigned in Session; and Unsigned at
-- the root an ID of 5 bytes, which the table check passes
abbrev pub nested_entries : List ℕ
nested_entries = 0x4E01 ∷ 0 ∷ 0 ∷ 0 ∷ 0xA1 ∷ 0 ∷ 0 ∷ 1 ∷ 0xA7 ∷ 0 ∷ 0 ∷ 2 ∷ 0xB1 ∷ 1 ∷ 0 ∷ 1 ∷ 0x08_1020_3040 ∷ 1 ∷ 0 ∷ 0 ∷ []

abbrev pub nested_parts : List ℕ
nested_parts = 0 ∷ 0x4E01 ∷ 0 ∷ 0 ∷ 0xA1 ∷ 0 ∷ []

abbrev pub nested : TagDecoder → List ℕ → Outcome
nested d s = lent_with nested_entries nested_parts d s

-- the table check passes it
pub nested_passes : check_table nested_entries nested_parts ≡ Ok tt
unfolding table_computes
nested_passes = refl

-- Session FF, Feed FF, A7 FF, then B1
abbrev pub misplaced : List ℕ
misplaced = 0x4E ∷ 0x01 ∷ 0xFF ∷ 0xA1 ∷ 0xFF ∷ 0xA7 ∷ 0xFF ∷ 0xB1 ∷ 0x80 ∷ []

-- the ID of 5 bytes, with one byte
abbrev pub long_id : List ℕ
long_id = 0x08 ∷ 0x10 ∷ 0x20 ∷ 0x30 ∷ 0x40 ∷ 0x81 ∷ 0x07 ∷ []

-- ---- the cases

-- each case, and what it gives
abbrev pub starred_strictly : List (Outcome × Outcome)
starred_strictly =
    -- D1: the list that is printed is the same
    (lists true d1, prints d1_lines)
    -- D4: 16 at the second Session, which ends the first but not Feed above it
    ∷ (lent strictly (0x4E ∷ 0x01 ∷ 0xFF ∷ 0xA1 ∷ 0x85 ∷ 0x4E ∷ 0x01 ∷ 0x80 ∷ []), gives (starts 0x4E01 0 3 ∷ starts 0xA1 3 2 ∷ []) (refuses 16 5) (refuses 16 5 ∷ []) (settled_at strictly 5 (having 1 (unsized 0x4E01 0 3) ∷ sized 0xA1 5 3 5 ∷ [])))
    -- and its list
    ∷ (lists true (0x4E ∷ 0x01 ∷ 0xFF ∷ 0xA1 ∷ 0x85 ∷ 0x4E ∷ 0x01 ∷ 0x80 ∷ []), prints ("S 4E01 0" ∷ "S A1 3" ∷ "X 16 5" ∷ []))
    -- D9: 81 at Feed, whose header passes Session's end
    ∷ (lent strictly (0x4E ∷ 0x01 ∷ 0x81 ∷ 0xA1 ∷ 0xFF ∷ []), gives (starts 0x4E01 0 3 ∷ []) (refuses 81 3) (refuses 81 3 ∷ []) (settled_at strictly 3 (sized 0x4E01 1 0 3 ∷ [])))
    -- with one byte more in Session Feed's header ends where it does, and starts
    ∷ (lent strictly (0x4E ∷ 0x01 ∷ 0x82 ∷ 0xA1 ∷ 0xFF ∷ []), gives (starts 0x4E01 0 3 ∷ starts 0xA1 3 2 ∷ ends 0xA1 3 0 ∷ ends 0x4E01 0 1 ∷ []) asks_for_more (finishes ∷ []) (done_at strictly 5))
    -- 81 is switched with 18
    ∷ (lent all_allowed (0x4E ∷ 0x01 ∷ 0x81 ∷ 0xA1 ∷ 0xFF ∷ []), gives (starts 0x4E01 0 3 ∷ starts 0xA1 3 2 ∷ ends 0xA1 3 0 ∷ ends 0x4E01 0 1 ∷ []) asks_for_more (finishes ∷ []) (done_at all_allowed 5))
    -- D10: 81, which the table does not have, ends nothing and is raw inside Session
    ∷ (lent ids_allowed (0x4E ∷ 0x01 ∷ 0xFF ∷ 0x81 ∷ 0x80 ∷ []), gives (starts 0x4E01 0 3 ∷ raw 0x81 3 5 5 2 ∷ []) asks_for_more (ends 0x4E01 0 1 ∷ finishes ∷ []) (done_at ids_allowed 5))
    -- B1 ends Feed, but not A7 above it: 16; as ported it is read inside A7
    ∷ (nested strictly misplaced, gives (starts 0x4E01 0 3 ∷ starts 0xA1 3 2 ∷ starts 0xA7 5 2 ∷ []) (refuses 16 7) (refuses 16 7 ∷ []) (settled_at strictly 7 (having 1 (unsized 0x4E01 0 3) ∷ having 1 (unsized 0xA1 3 5) ∷ unsized 0xA7 5 7 ∷ [])))
    ∷ (nested fresh misplaced, gives (starts 0x4E01 0 3 ∷ starts 0xA1 3 2 ∷ starts 0xA7 5 2 ∷ unsigned 0xB1 7 0 2 ∷ []) asks_for_more (ends 0xA7 5 1 ∷ ends 0xA1 3 1 ∷ ends 0x4E01 0 1 ∷ finishes ∷ []) (done_at fresh 9))
    -- text ends before its first zero byte, the rest is not looked at, and all of it is taken; as ported FF is no text
    ∷ (lent strictly (0xA3 ∷ 0x83 ∷ 0x6D ∷ 0x00 ∷ 0xFF ∷ []), gives (text 0xA3 0 2 3 5 ∷ []) asks_for_more (ends 0xA1 0 1 ∷ ends 0x4E01 0 0 ∷ finishes ∷ []) (done_at strictly 5))
    ∷ (lent fresh (0xA3 ∷ 0x82 ∷ 0x6D ∷ 0x00 ∷ []), gives (text 0xA3 0 2 4 4 ∷ []) asks_for_more (ends 0xA1 0 1 ∷ ends 0x4E01 0 0 ∷ finishes ∷ []) (done_at fresh 4))
    -- an ID of 5 bytes: 80, which settles nothing and is switched off by no allowance; as ported it is read
    ∷ (nested strictly long_id, gives [] (refuses 80 0) (refuses 80 0 ∷ []) strictly)
    ∷ (nested all_allowed long_id, gives [] (refuses 80 0) (refuses 80 0 ∷ []) all_allowed)
    ∷ (nested fresh long_id, gives (unsigned 0x08_1020_3040 0 7 7 ∷ []) asks_for_more (finishes ∷ []) (done_at fresh 7))
    -- D6: the first byte 00: 80 and not 15, allowed or not
    ∷ (lent strictly (0x00 ∷ 0x81 ∷ 0x05 ∷ []), gives [] (refuses 80 0) (refuses 80 0 ∷ []) strictly)
    ∷ (lent ids_allowed (0x00 ∷ 0x81 ∷ 0x05 ∷ []), gives [] (refuses 80 0) (refuses 80 0 ∷ []) ids_allowed)
    -- an ID in a good form that the table does not have: 15
    ∷ (lent strictly (0x81 ∷ 0x80 ∷ []), gives [] (refuses 15 0) (refuses 15 0 ∷ []) strictly)
    ∷ []

-- each case gives that
pub all_starred_strictly : map (λ (p : Outcome × Outcome). p.0) starred_strictly ≡ map (λ (p : Outcome × Outcome). p.1) starred_strictly
unfolding rules_compute digits places lines.element_text lines.range_text lines.value_text lines.event_text lines.refusal_text lines.position_text lines.answer_text lines.line next_answer text_lines listed_from
all_starred_strictly = refl
