-- Worked examples, computed from the definitions: the verdicts on document 01's records and on others. Assumes nothing.
use Prim.Native.Nat.{ℕ}
use Prim.Native.String.{String}
use mathlib.Core.Path.{◌≡◌, refl}
use mathlib.Core.Bool.{Bool, true, false}
use mathlib.Core.List.{List, [], ◌∷◌, map}
use lib.ListN.{take}
use Rattle.decoder_rules.proofs.Computing.{rules_compute}
use Rattle.table.specs.BenchTable.{bench_entries, bench_parts}
use Rattle.numerals.specs.Numeral.{digits, places}
use Rattle.texts.specs.Ascii.{ascii}
use Rattle.whole.specs.Checking.{verdict_after, verdict_of}
use Rattle.whole.specs.Line as line
use Rattle.whole.specs.Night.{read_from, answers_to}
use Rattle.whole.specs.Numbers.{verdict_numbers}
use Rattle.whole.specs.declared.types.VerdictNumbers.{VerdictNumbers}

-- D1's bytes
abbrev pub d1 : List ℕ
d1 = 0x4E ∷ 0x01 ∷ 0x89 ∷ 0xA1 ∷ 0x87 ∷ 0xA2 ∷ 0x81 ∷ 0x78 ∷ 0xA3 ∷ 0x82 ∷ 0x6D ∷ 0x6C ∷ []

-- what is said of an input, read strictly or as ported
abbrev pub said : Bool → List ℕ → List ℕ
said strict s = line.verdict_text (verdict_of (answers_to strict bench_entries bench_parts s))

-- inputs, and what is said of them
abbrev pub examples : List (List ℕ × String)
examples =
    (d1, "WHOLE 1 feed, 12 bytes")
    ∷ ([], "EMPTY")
    -- D3, and D1 cut in its first header and behind it
    ∷ (take 8 d1, "CUT at 8: 4E01 began at 0, size 9, 8 bytes there")
    ∷ (take 2 d1, "CUT at 0: 2 bytes there")
    ∷ (take 3 d1, "CUT at 3: 4E01 began at 0, size 9, 3 bytes there")
    ∷ (take 9 d1, "CUT at 8: 4E01 began at 0, size 9, 9 bytes there")
    -- D2, and a Session of known size with a Feed that has none
    ∷ (0x4E ∷ 0x01 ∷ 0xFF ∷ 0xA1 ∷ 0xFF ∷ 0xA2 ∷ 0x81 ∷ 0x78 ∷ [], "CANNOT TELL: 4E01 at 0 has no size")
    ∷ (0x4E ∷ 0x01 ∷ 0x85 ∷ 0xA1 ∷ 0xFF ∷ 0xA2 ∷ 0x81 ∷ 0x78 ∷ [], "CANNOT TELL: A1 at 3 has no size")
    -- D5, a Feed alone, and a Void before a Session
    ∷ (0xA2 ∷ 0x81 ∷ 0x78 ∷ [], "FRONT MISSING")
    ∷ (0xA1 ∷ 0x80 ∷ [], "FRONT MISSING")
    ∷ (0xEC ∷ 0x80 ∷ 0x4E ∷ 0x01 ∷ 0x80 ∷ [], "FRONT MISSING")
    -- D6, D8
    ∷ (0x00 ∷ 0x81 ∷ 0x05 ∷ [], "REFUSED 15 at 0")
    ∷ (0x4E ∷ 0x01 ∷ 0x88 ∷ 0xA1 ∷ 0x87 ∷ [], "REFUSED 18 at 3")
    -- two Sessions, the second cut, and a Void after one
    ∷ (0x4E ∷ 0x01 ∷ 0x80 ∷ 0x4E ∷ 0x01 ∷ 0x80 ∷ [], "MORE: 2 records, 0 feeds, 6 bytes")
    ∷ (0x4E ∷ 0x01 ∷ 0x80 ∷ 0x4E ∷ [], "CUT at 3: 4 bytes there")
    ∷ (0x4E ∷ 0x01 ∷ 0x80 ∷ 0xEC ∷ 0x80 ∷ [], "MORE: 2 records, 0 feeds, 5 bytes")
    ∷ []

-- all of them
pub all_examples : map (λ (p : List ℕ × String). said false p.0) examples ≡ map (λ (p : List ℕ × String). ascii p.1) examples
unfolding rules_compute digits places verdict_after line.counted line.size_text line.root_text line.verdict_text read_from
all_examples = refl

-- inputs, and what is said of them where they are read strictly
abbrev pub strict_examples : List (List ℕ × String)
strict_examples =
    (d1, "WHOLE 1 feed, 12 bytes")
    -- D4, D9 and D6
    ∷ (0x4E ∷ 0x01 ∷ 0xFF ∷ 0xA1 ∷ 0x85 ∷ 0x4E ∷ 0x01 ∷ 0x80 ∷ [], "REFUSED 16 at 5")
    ∷ (0x4E ∷ 0x01 ∷ 0x81 ∷ 0xA1 ∷ 0xFF ∷ [], "REFUSED 81 at 3")
    ∷ (0x00 ∷ 0x81 ∷ 0x05 ∷ [], "REFUSED 80 at 0")
    -- a text of a zero byte and one that is no text
    ∷ (0x4E ∷ 0x01 ∷ 0x86 ∷ 0xA1 ∷ 0x84 ∷ 0xA3 ∷ 0x82 ∷ 0x00 ∷ 0xFF ∷ [], "WHOLE 1 feed, 9 bytes")
    ∷ []

-- all of them
pub all_strict_examples : map (λ (p : List ℕ × String). said true p.0) strict_examples ≡ map (λ (p : List ℕ × String). ascii p.1) strict_examples
unfolding rules_compute digits places verdict_after line.counted line.size_text line.root_text line.verdict_text read_from
all_strict_examples = refl

-- the numbers of a verdict, in their order
abbrev pub listed : VerdictNumbers → List ℕ
listed v =
    v.verdict ∷ v.feeds ∷ v.records ∷ v.bytes ∷ v.number ∷ v.place ∷ v.root_named ∷ v.root_id ∷ v.root_start ∷ v.root_size_named ∷ v.root_size ∷ []

-- inputs, and the numbers of the verdicts on them: D1, D1 cut in a payload's header, D2 and D6
abbrev pub number_examples : List (List ℕ × List ℕ)
number_examples =
    (d1, 1 ∷ 1 ∷ 1 ∷ 12 ∷ 0 ∷ 0 ∷ 0 ∷ 0 ∷ 0 ∷ 0 ∷ 0 ∷ [])
    ∷ (take 9 d1, 6 ∷ 0 ∷ 0 ∷ 9 ∷ 0 ∷ 8 ∷ 1 ∷ 0x4E01 ∷ 0 ∷ 1 ∷ 9 ∷ [])
    ∷ (0x4E ∷ 0x01 ∷ 0xFF ∷ 0xA1 ∷ 0xFF ∷ 0xA2 ∷ 0x81 ∷ 0x78 ∷ [], 7 ∷ 0 ∷ 0 ∷ 0 ∷ 0 ∷ 0 ∷ 1 ∷ 0x4E01 ∷ 0 ∷ 0 ∷ 0 ∷ [])
    ∷ (0x00 ∷ 0x81 ∷ 0x05 ∷ [], 4 ∷ 0 ∷ 0 ∷ 0 ∷ 15 ∷ 0 ∷ 0 ∷ 0 ∷ 0 ∷ 0 ∷ 0 ∷ [])
    ∷ []

-- all of them
pub all_number_examples : map (λ (p : List ℕ × List ℕ). listed (verdict_numbers (verdict_of (answers_to false bench_entries bench_parts p.0)))) number_examples ≡ map (λ (p : List ℕ × List ℕ). p.1) number_examples
unfolding rules_compute verdict_after read_from
all_number_examples = refl
