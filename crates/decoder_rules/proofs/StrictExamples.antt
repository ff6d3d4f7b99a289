-- Document 02, CR 11, "what it accepts the ported mode answers alike": a run of which the conditions of Strictly.antt
-- hold, and which the strict mode accepts. Then calls of which one condition does not hold, which the strict mode
-- accepts and the ported mode answers otherwise: a Global in the table, an unknown ID allowed, a zero byte in text. And
-- a recovery, of which it does not hold: what the strict mode refuses is searched past. Computed from the definitions.
-- Assumes nothing.
use Prim.Native.Nat.{ℕ}
use mathlib.Core.Bool.{Bool, true, false, not}
use mathlib.Core.List.{List, [], ◌∷◌, map}
use mathlib.Core.Path.{◌≡◌, refl}
use Rattle.basics.specs.Lists.{every}
use Rattle.table.specs.Check.{check_table}
use Rattle.table.specs.Table.{table_of}
use Rattle.tag_parse.specs.declared.types.TagValue.TheVariants.{UnsignedInt, Utf8, Raw}
use Rattle.decoder_rules.specs.Moving.{decode}
use Rattle.decoder_rules.specs.Record.{fresh}
use Rattle.decoder_rules.specs.Recovery.{try_recover}
use Rattle.decoder_rules.specs.Run.{Told, event, refusal, nothing, told_by}
use Rattle.decoder_rules.specs.Settings.{allowing, reading, is_finished}
use Rattle.decoder_rules.specs.Strictly.{no_globals, no_zero, no_zero_after, no_zero_in_text, Ask, decoding, ending, lent_at, answers_to, left_by, no_refusal}
use Rattle.decoder_rules.specs.declared.types.Event.TheVariants.{End, Data}
use Rattle.decoder_rules.specs.declared.types.Search.{Search}
use Rattle.decoder_rules.specs.declared.types.Search.TheVariants as search
use Rattle.decoder_rules.specs.declared.types.TagDecoder.{TagDecoder}
use Rattle.decoder_rules.proofs.Computing.{rules_compute}
use Rattle.std.specs.Prelude.{Ok, Result, ⊤}
use Rattle.decoder_rules.specs.declared.types.Refusal.{Refusal}
use Rattle.table.specs.declared.types.TableError.{TableError}

-- ---- the tables

-- Session 4E01 Master, root; Feed A1 Master, in Session; Amount A2 Unsigned and Unit A3 Utf8, in Feed
abbrev entries : List ℕ
entries =
    0x4E01 ∷ 0 ∷ 0 ∷ 0
    ∷ 0xA1 ∷ 0 ∷ 0 ∷ 1
    ∷ 0xA2 ∷ 1 ∷ 0 ∷ 2
    ∷ 0xA3 ∷ 3 ∷ 0 ∷ 2
    ∷ []

abbrev parts : List ℕ
parts =
    0 ∷ 0x4E01 ∷ 0
    ∷ 0 ∷ 0xA1 ∷ 0
    ∷ []

-- Session, and B1 Unsigned with a Global of at most no master before Session
abbrev global_entries : List ℕ
global_entries =
    0x4E01 ∷ 0 ∷ 0 ∷ 0
    ∷ 0xB1 ∷ 1 ∷ 0 ∷ 2
    ∷ []

abbrev global_parts : List ℕ
global_parts =
    1 ∷ 0 ∷ 1
    ∷ 0 ∷ 0x4E01 ∷ 0
    ∷ []

-- both are checked
pub checked_so : ◌≡◌ {A = List (Result ⊤ TableError)} (check_table entries parts ∷ check_table global_entries global_parts ∷ []) (Ok tt ∷ Ok tt ∷ [])
unfolding rules_compute
checked_so = refl

-- ---- all conditions hold

-- Session and Feed of Unknown size, an Amount; a second Feed, for which the first ends, with a Unit; and the end of
-- input
abbrev run : List Ask
run =
    decoding (0x4E ∷ 0x01 ∷ 0xFF ∷ [])
    ∷ decoding (0xA1 ∷ 0xFF ∷ [])
    ∷ decoding (0xA2 ∷ 0x81 ∷ 0x05 ∷ [])
    ∷ decoding (0xA1 ∷ 0x84 ∷ [])
    ∷ decoding (0xA1 ∷ 0x84 ∷ [])
    ∷ decoding (0xA3 ∷ 0x82 ∷ 0x6D ∷ 0x6C ∷ [])
    ∷ decoding []
    ∷ ending []
    ∷ ending []
    ∷ []

-- they hold of it, and strictly it is accepted to the finish
pub accepted_so : (no_globals (table_of entries parts) ∷ every (λ c. no_zero_in_text (table_of entries parts) (lent_at c)) run ∷ no_refusal (answers_to entries parts (reading fresh true) run) ∷ is_finished (left_by entries parts (reading fresh true) run) ∷ []) ≡ true ∷ true ∷ true ∷ true ∷ []
unfolding rules_compute no_globals no_zero no_zero_after no_zero_in_text answers_to left_by no_refusal
accepted_so = refl

-- ---- one condition fails

-- a call of `decode`: the table, the record and the bytes
pub record Case : Type 0 where
  pub es : List ℕ
  pub ps : List ℕ
  pub d : TagDecoder
  pub s : List ℕ

-- whether the conditions hold: no Global, unknown IDs refused, no zero byte in text
abbrev conditions : Case → List Bool
conditions c = no_globals (table_of c.es c.ps) ∷ not c.d.settings.allow_ids ∷ no_zero_in_text (table_of c.es c.ps) c.s ∷ []

-- what is told strictly, and as ported
abbrev told : Case → List Told
told c =
    told_by (decode c.es c.ps (reading c.d true) c.s).answer
    ∷ told_by (decode c.es c.ps (reading c.d false) c.s).answer
    ∷ []

-- the record after Session of Unknown size
abbrev in_session : List ℕ → List ℕ → TagDecoder
in_session es ps = left_by es ps fresh (decoding (0x4E ∷ 0x01 ∷ 0xFF ∷ []) ∷ [])

-- B1 in Session, with no master before it: as ported Session itself counts, and is one too many
abbrev in_global : Case
in_global = record { es = global_entries; ps = global_parts; d = in_session global_entries global_parts; s = 0xB1 ∷ 0x81 ∷ 0x05 ∷ [] }

-- D10: an ID that the table has not, allowed, in Session of Unknown size: as ported Session ends before it
abbrev allowed : Case
allowed = record { es = entries; ps = parts; d = allowing (in_session entries parts) true false false; s = 0x82 ∷ 0x81 ∷ 0x78 ∷ [] }

-- a Unit of an m and a zero byte: strictly the text is the m alone
abbrev zero_in_text : Case
zero_in_text = record { es = entries; ps = parts; d = fresh; s = 0xA3 ∷ 0x82 ∷ 0x6D ∷ 0x00 ∷ [] }

-- one condition fails in each
pub one_fails : map conditions (in_global ∷ allowed ∷ zero_in_text ∷ []) ≡ (false ∷ true ∷ true ∷ []) ∷ (true ∷ false ∷ true ∷ []) ∷ (true ∷ true ∷ false ∷ []) ∷ []
unfolding rules_compute no_globals no_zero no_zero_after no_zero_in_text left_by
one_fails = refl

-- and they are not answered alike
pub told_so : map told (in_global ∷ allowed ∷ zero_in_text ∷ [])
    ≡ (event (Data 0xB1 3 (UnsignedInt 5)) ∷ refusal 16 3 nothing ∷ [])
    ∷ (event (Data 0x82 3 (Raw (record { begin = 5; end = 6 }))) ∷ event (End (record { id = 0x4E01; offset = 0; count = 0 })) ∷ [])
    ∷ (event (Data 0xA3 0 (Utf8 (record { begin = 2; end = 3 }))) ∷ event (Data 0xA3 0 (Utf8 (record { begin = 2; end = 4 }))) ∷ [])
    ∷ []
unfolding rules_compute left_by
told_so = refl

-- ---- a recovery

-- the record after Session of Unknown size and a Feed of 10 bytes
abbrev in_feed : TagDecoder
in_feed = left_by entries parts fresh (decoding (0x4E ∷ 0x01 ∷ 0xFF ∷ []) ∷ decoding (0xA1 ∷ 0x8A ∷ []) ∷ [])

-- a Session, which the Feed of known size keeps out strictly, and then Amounts
abbrev passed_over : List ℕ
passed_over = 0x4E ∷ 0x01 ∷ 0x80 ∷ 0xA2 ∷ 0x81 ∷ 0x78 ∷ 0xA2 ∷ 0x81 ∷ 0x78 ∷ 0xA2 ∷ 0x81 ∷ 0x78 ∷ []

-- strictly the search goes on behind that Session, and as ported it ends before it
pub recovered_so : ◌≡◌ {A = List (Result Search Refusal)}
    ((try_recover entries parts (reading in_feed true) passed_over).answer ∷ (try_recover entries parts (reading in_feed false) passed_over).answer ∷ [])
    (Ok (search.Found 3) ∷ Ok (search.Found 0) ∷ [])
unfolding rules_compute left_by
recovered_so = refl
