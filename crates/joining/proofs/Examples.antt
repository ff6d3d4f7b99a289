-- Runs on the bench table, computed from the definitions: D1 whole and cut, D8 with bytes behind its refusal, a text
-- that the two modes read differently; and that joining is composition only of a decoder that is not finished, and only
-- up to the farthest position. Assumes nothing.
use Prim.Native.Nat.{ℕ, ◌-◌, ◌^◌}
use mathlib.Core.Bool.{true, false}
use mathlib.Core.List.{List, [], ◌∷◌, ◌++◌, map}
use mathlib.Core.Path.{◌≡◌, refl}
use lib.ListN.{take, drop}
use Rattle.table.specs.BenchTable.{bench_entries, bench_parts}
use Rattle.tag_parse.specs.declared.types.TagValue.TheVariants.{UnsignedInt, Utf8}
use Rattle.decoder_rules.specs.EndOfInput.{decode_eof}
use Rattle.decoder_rules.specs.Record.{fresh, at_position}
use Rattle.decoder_rules.specs.Settings.{reading}
use Rattle.decoder_rules.specs.declared.types.Answer.{Answer}
use Rattle.decoder_rules.specs.declared.types.Answer.TheVariants.{NeedMore}
use Rattle.decoder_rules.specs.declared.types.DecodeError.TheVariants.{TooFar, AfterFinish, OversizedChildElement}
use Rattle.decoder_rules.specs.declared.types.Event.{Event}
use Rattle.decoder_rules.specs.declared.types.Event.TheVariants.{Start, End, Data}
use Rattle.decoder_rules.specs.declared.types.TagDecoder.{TagDecoder}
use Rattle.decoder_rules.proofs.Computing.{rules_compute}
use Rattle.joining.specs.Joining.{Outcome, events_of, run_for, run, onward}
use Rattle.std.specs.Prelude.{Err, Ok, Result}
use Rattle.decoder_rules.specs.declared.types.Refusal.{Refusal}

-- ---- runs

-- events, last answer and rest
abbrev pub Shown : Type 0
Shown = List Event × Result Answer Refusal × List ℕ

-- of a run
abbrev shown : Outcome → Shown
shown r = (events_of r, r.last, r.rest)

-- a run with the bench table
abbrev bench_run : TagDecoder → List ℕ → Outcome
bench_run = run bench_entries bench_parts

-- and with more bytes after it
abbrev bench_onward : Outcome → List ℕ → Outcome
bench_onward = onward bench_entries bench_parts

abbrev d1 : List ℕ
d1 = 0x4E ∷ 0x01 ∷ 0x89 ∷ 0xA1 ∷ 0x87 ∷ 0xA2 ∷ 0x81 ∷ 0x78 ∷ 0xA3 ∷ 0x82 ∷ 0x6D ∷ 0x6C ∷ []

abbrev d8 : List ℕ
d8 = 0x4E ∷ 0x01 ∷ 0x88 ∷ drop 3 d1

-- a Unit of an m and a zero byte
abbrev zero_in_text : List ℕ
zero_in_text = 0xA3 ∷ 0x82 ∷ 0x6D ∷ 0x00 ∷ []

-- D1; D1 up to the Amount's size, whose header stays unread; D8, refused at Feed, and what comes behind it
pub runs_so : map shown (bench_run fresh d1 ∷ bench_run fresh (take 7 d1) ∷ bench_run fresh (d8 ++ 0xFF ∷ []) ∷ [])
    ≡ (Start 0x4E01 0 ∷ Start 0xA1 3 ∷ Data 0xA2 5 (UnsignedInt 120) ∷ Data 0xA3 8 (Utf8 (record { begin = 10; end = 12 })) ∷ End (record { id = 0xA1; offset = 3; count = 2 }) ∷ End (record { id = 0x4E01; offset = 0; count = 1 }) ∷ [], Ok (NeedMore 2), [])
    ∷ (Start 0x4E01 0 ∷ Start 0xA1 3 ∷ [], Ok (NeedMore 1), 0xA2 ∷ 0x81 ∷ [])
    ∷ (Start 0x4E01 0 ∷ [], Err (record { error = OversizedChildElement; place = 3 }), drop 3 d1 ++ 0xFF ∷ [])
    ∷ []
unfolding rules_compute run_for run
runs_so = refl

-- cut before its last byte a text is read in either mode as it is uncut
pub modes_so : map shown (bench_run (reading fresh false) (take 3 zero_in_text) ∷ bench_onward (bench_run (reading fresh false) (take 3 zero_in_text)) (0x00 ∷ []) ∷ bench_onward (bench_run (reading fresh true) (take 3 zero_in_text)) (0x00 ∷ []) ∷ [])
    ≡ ([], Ok (NeedMore 1), take 3 zero_in_text)
    ∷ (Data 0xA3 0 (Utf8 (record { begin = 2; end = 4 })) ∷ [], Ok (NeedMore 2), [])
    ∷ (Data 0xA3 0 (Utf8 (record { begin = 2; end = 3 })) ∷ [], Ok (NeedMore 2), [])
    ∷ []
unfolding rules_compute run_for run
modes_so = refl

-- ---- what is asked is needed

-- finished, and the End of Session waits
abbrev over : TagDecoder
over = (decode_eof bench_entries bench_parts (bench_run fresh (0x4E ∷ 0x01 ∷ 0xFF ∷ 0xA1 ∷ 0xFF ∷ [])).state []).state

-- of a finished decoder: lent at once, a byte is refused before the End that waits; lent after a run on none, behind it
pub needs_open : map shown (bench_run over (0x00 ∷ []) ∷ bench_onward (bench_run over []) (0x00 ∷ []) ∷ [])
    ≡ ([], Err (record { error = AfterFinish; place = 5 }), 0x00 ∷ [])
    ∷ (End (record { id = 0x4E01; offset = 0; count = 1 }) ∷ [], Err (record { error = AfterFinish; place = 5 }), 0x00 ∷ [])
    ∷ []
unfolding rules_compute run_for run
needs_open = refl

-- three bytes before the farthest position
abbrev far : TagDecoder
far = at_position fresh (2 ^ 62 - 3)

-- past the farthest position: lent at once, four bytes are refused; of the three that fit there is a Start
pub needs_near : map shown (bench_run far (0x4E ∷ 0x01 ∷ 0xFF ∷ 0xA1 ∷ []) ∷ bench_onward (bench_run far (0x4E ∷ 0x01 ∷ 0xFF ∷ [])) (0xA1 ∷ []) ∷ [])
    ≡ ([], Err (record { error = TooFar; place = 2 ^ 62 - 3 }), 0x4E ∷ 0x01 ∷ 0xFF ∷ 0xA1 ∷ [])
    ∷ (Start 0x4E01 (2 ^ 62 - 3) ∷ [], Err (record { error = TooFar; place = 2 ^ 62 }), 0xA1 ∷ [])
    ∷ []
unfolding rules_compute run_for run
needs_near = refl
