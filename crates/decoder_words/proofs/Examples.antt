-- Worked examples: a new decoder, words that are none, events in two calls, an element that the end cuts, and a
-- recovery. Computed from the definitions. Assumes nothing.
use Prim.Native.Nat.{ℕ}
use mathlib.Core.Bool.{true, false}
use mathlib.Core.List.{List, [], ◌∷◌, map, flat_map}
use mathlib.Core.Path.{◌≡◌, refl}
use lib.ListN.{take, drop, replicate, set}
use Rattle.table.specs.BenchTable.{bench_entries, bench_parts}
use Rattle.tools.proofs.Computing.{numbers_compute}
use Rattle.decoder_rules.specs.Record.{fresh}
use Rattle.decoder_rules.proofs.Computing.{rules_compute}
use Rattle.many_events.specs.Events.{start_words, value_words, event_words}
use Rattle.many_events.specs.Many.{many_calls, many_events}
use Rattle.stored_decoder.specs.Words.{master_words, end_words, front_words, decoder_words, places, master_of, end_of, settings_of, record_of}
use Rattle.stored_decoder.specs.Check.{good_value, good_front, good_master, good_end, good_places, good_words, check_words}
use Rattle.decoder_words.specs.Replies.{plain, told}
use Rattle.decoder_words.specs.Calls.{new_words, set_words, allow_words, number_words, position_words, finished_words, decode_words, recover_words}
use Rattle.decoder_words.specs.declared.types.Reply.{Reply}

-- what the examples compute with
unfoldable words_compute : Unit {0}
unfolding rules_compute numbers_compute flat_map master_words end_words front_words decoder_words places master_of end_of settings_of record_of good_value good_front good_master good_end good_places good_words check_words start_words value_words event_words many_calls many_events new_words set_words number_words decode_words recover_words
words_compute = tt

-- ---- a new decoder

-- whatever the 320 words held
pub new_words_lem : new_words (replicate 320 7) ≡ (0, decoder_words fresh)
unfolding words_compute
new_words_lem = refl

-- 319 words stay as they are, and 90 is told
pub new_short : new_words (replicate 319 7) ≡ (346, replicate 319 7)
unfolding words_compute
new_short = refl

-- the allowances of unknown IDs and of child sizes
pub allowed_words : take 5 (allow_words (decoder_words fresh) true false true).1 ≡ 2 ∷ 1 ∷ 0 ∷ 1 ∷ 0 ∷ []
unfolding words_compute
allowed_words = refl

-- ---- words that are no decoder's

-- 319 words; layout 3; strict neither yes nor no; a position over 2^62
pub no_decoders : map (λ w. (position_words w).code)
    (take 319 (decoder_words fresh)
    ∷ set (decoder_words fresh) 0 3
    ∷ set (decoder_words fresh) 4 2
    ∷ set (decoder_words fresh) 7 0x4000_0000_0000_0001
    ∷ [])
    ≡ 346 ∷ 347 ∷ 348 ∷ 267 ∷ []
unfolding words_compute
no_decoders = refl

-- ---- events

-- a Session and in it a Feed, of Unknown size, and the Amount 120
abbrev night : List ℕ
night = 0x4E ∷ 0x01 ∷ 0xFF ∷ 0xA1 ∷ 0xFF ∷ 0xA2 ∷ 0x81 ∷ 0x78 ∷ []

-- the words, and the list of 17 words, each of them 9, after a first call
abbrev first : Reply × List ℕ × List ℕ
first = decode_words false bench_entries bench_parts (decoder_words fresh) night (replicate 17 9)

-- there is room for two events: 5 bytes are taken, and the last word of the list stays
pub first_reply : first.0 ≡ plain 0 2 5 0 0
unfolding words_compute
first_reply = refl

pub first_events : first.2 ≡ 0 ∷ 0x4E01 ∷ 0 ∷ 0 ∷ 0 ∷ 0 ∷ 0 ∷ 0 ∷ 0 ∷ 0xA1 ∷ 3 ∷ 0 ∷ 0 ∷ 0 ∷ 0 ∷ 0 ∷ 9 ∷ []
unfolding words_compute
first_events = refl

-- the words are at 5
pub first_position : position_words first.1 ≡ told 5
unfolding words_compute
first_position = refl

-- the next call hands out the Amount and then asks for two bytes, which the shortest header has
pub next_reply : (decode_words false bench_entries bench_parts first.1 (drop 5 night) (replicate 16 9)).0 ≡ plain 512 1 3 0 2
unfolding words_compute
next_reply = refl

-- at the end of input the two Ends follow it, and then the finish
pub last_reply : (decode_words true bench_entries bench_parts first.1 (drop 5 night) (replicate 32 9)).0 ≡ plain 1 3 3 0 0
unfolding words_compute
last_reply = refl

-- which the words then tell
pub last_finished : finished_words (decode_words true bench_entries bench_parts first.1 (drop 5 night) (replicate 32 9)).1 ≡ told 1
unfolding words_compute
last_finished = refl

-- an Amount of 2 bytes of which the end cuts one: 23, with its ID, its size and the byte that is there
pub cut_reply_lem : (decode_words true bench_entries bench_parts first.1 (0xA2 ∷ 0x82 ∷ 0x78 ∷ []) (replicate 8 9)).0
    ≡ record {
      code = 279;
      events = 0;
      taken = 0;
      place = 5;
      missing = 0;
      cut_named = 7;
      cut_start = 5;
      cut_id = 0xA2;
      cut_size = 2;
      cut_begin = 7;
      cut_end = 8;
    }
unfolding words_compute
cut_reply_lem = refl

-- ---- a recovery

-- 00 begins no header, the Amount after it is one
pub found : (recover_words bench_entries bench_parts first.1 (0x00 ∷ 0xA2 ∷ 0x81 ∷ 0x78 ∷ [])).0 ≡ plain 2 0 1 0 0
unfolding words_compute
found = refl

-- the first byte begins none; the second is too short for a header, and the search stops at it
pub not_found : (recover_words bench_entries bench_parts first.1 (0x00 ∷ 0x00 ∷ [])).0 ≡ plain 3 0 1 0 0
unfolding words_compute
not_found = refl
