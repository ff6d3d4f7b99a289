-- Worked examples, computed from the definitions: a night of one feed with a value of each type, in a Session of unknown
-- size, at the end of input and before it, in lists with room for no event, for one, and for more than there are; and a
-- night that is cut. Assumes nothing.
use Prim.Native.Nat.{ℕ, ◌-◌, ◌^◌}
use mathlib.Core.Bool.{Bool, true, false}
use mathlib.Core.List.{List, [], ◌∷◌, ◌++◌, map, flat_map}
use mathlib.Core.Path.{◌≡◌, refl}
use lib.ListN.{take, replicate}
use Rattle.table.specs.BenchTable.{bench_entries, bench_parts}
use Rattle.decoder_rules.specs.Record.{fresh}
use Rattle.decoder_rules.specs.declared.types.DecodeError.TheVariants.{UnexpectedEOF}
use Rattle.decoder_rules.proofs.Computing.{rules_compute}
use Rattle.many_events.specs.Events.{start_words, value_words, event_words}
use Rattle.many_events.specs.Many.{many_calls, many_events}
use Rattle.many_events.specs.declared.types.Stop.{Stop}
use Rattle.many_events.specs.declared.types.Stop.TheVariants as stop
use Rattle.std.specs.Prelude.{Err, None, Ok, Result, Some}
use Rattle.decoder_rules.specs.declared.types.Refusal.{Refusal}

-- a Session of unknown size and in it a Feed: Amount 120, Shift -2, Unit "ml", a Blob of one byte and the Rate 1.0
abbrev pub night : List ℕ
night =
    0x4E ∷ 0x01 ∷ 0xFF
    ∷ 0xA1 ∷ 0x93
    ∷ 0xA2 ∷ 0x81 ∷ 0x78
    ∷ 0xA5 ∷ 0x81 ∷ 0xFE
    ∷ 0xA3 ∷ 0x82 ∷ 0x6D ∷ 0x6C
    ∷ 0xA4 ∷ 0x81 ∷ 0x07
    ∷ 0xA6 ∷ 0x84 ∷ 0x3F ∷ 0x80 ∷ 0x00 ∷ 0x00
    ∷ []

-- its events before the end of input
abbrev pub night_words : List (List ℕ)
night_words =
    (0 ∷ 0x4E01 ∷ 0 ∷ 0 ∷ 0 ∷ 0 ∷ 0 ∷ 0 ∷ [])
    ∷ (0 ∷ 0xA1 ∷ 3 ∷ 0 ∷ 0 ∷ 0 ∷ 19 ∷ 1 ∷ [])
    ∷ (1 ∷ 0xA2 ∷ 5 ∷ 120 ∷ 0 ∷ 0 ∷ 0 ∷ 0 ∷ [])
    ∷ (2 ∷ 0xA5 ∷ 8 ∷ (2 ^ 64 - 2) ∷ 0 ∷ 0 ∷ 0 ∷ 0 ∷ [])
    ∷ (3 ∷ 0xA3 ∷ 11 ∷ 13 ∷ 15 ∷ 0 ∷ 0 ∷ 0 ∷ [])
    ∷ (4 ∷ 0xA4 ∷ 15 ∷ 17 ∷ 18 ∷ 0 ∷ 0 ∷ 0 ∷ [])
    ∷ (5 ∷ 0xA6 ∷ 18 ∷ 0x3FF0000000000000 ∷ 0 ∷ 0 ∷ 0 ∷ 0 ∷ [])
    ∷ (6 ∷ 0xA1 ∷ 3 ∷ 0 ∷ 0 ∷ 5 ∷ 0 ∷ 0 ∷ [])
    ∷ []

-- and the Session's End at it
abbrev pub last_words : List ℕ
last_words = 6 ∷ 0x4E01 ∷ 0 ∷ 0 ∷ 0 ∷ 1 ∷ 0 ∷ 0 ∷ []

-- how many events, how many bytes, why it stops, and the list
abbrev pub Shown : Type 0
Shown = ℕ × ℕ × Result Stop Refusal × List ℕ

-- what a fresh decoder answers in a list of so many words, each of them 9
abbrev pub listed : Bool → List ℕ → ℕ → Shown
listed eof s n =
    let r = many_events eof bench_entries bench_parts fresh s (replicate n 9) in
    (r.0.count, r.0.taken, r.0.stop, r.1)

-- the words of these events, and n words that stay
abbrev pub and_kept : List (List ℕ) → ℕ → List ℕ
and_kept events n = flat_map (λ words. words) events ++ replicate n 9

-- the calls, and what is shown
abbrev pub examples : List (Shown × Shown)
examples =
    -- no room: no call is made
    (listed false night 0, (0, 0, Ok stop.Full, []))
    ∷ (listed true night 7, (0, 0, Ok stop.Full, replicate 7 9))
    -- room for one, just and with words past it
    ∷ (listed false night 8, (1, 3, Ok stop.Full, and_kept (take 1 night_words) 0))
    ∷ (listed false night 11, (1, 3, Ok stop.Full, and_kept (take 1 night_words) 3))
    -- for all but the last, for all of them, and for more
    ∷ (listed false night 56, (7, 24, Ok stop.Full, and_kept (take 7 night_words) 0))
    ∷ (listed false night 64, (8, 24, Ok stop.Full, and_kept night_words 0))
    ∷ (listed false night 74, (8, 24, Ok (stop.NeedMore 2), and_kept night_words 10))
    ∷ (listed true night 72, (9, 24, Ok stop.Full, and_kept (night_words ++ (last_words ∷ [])) 0))
    ∷ (listed true night 80, (9, 24, Ok stop.Finished, and_kept (night_words ++ (last_words ∷ [])) 8))
    -- the input ends after the Feed's ID
    ∷ (listed false (take 4 night) 24, (1, 3, Ok (stop.NeedMore 1), and_kept (take 1 night_words) 16))
    ∷ (
      listed true (take 4 night) 24,
      (
        1,
        3,
        Err (record { error = UnexpectedEOF (record { start = 3; id = Some 0xA1; size = None; part = Some (record { begin = 3; end = 4 }) }); place = 3 }),
        and_kept (take 1 night_words) 16,
      ),
    )
    ∷ []

pub all_examples : map (λ (e : Shown × Shown). e.0) examples ≡ map (λ (e : Shown × Shown). e.1) examples
unfolding rules_compute start_words value_words event_words many_calls many_events flat_map
all_examples = refl
