-- Document 02, CR 14: "a block of 2,560 bytes, in 8-byte big-endian words", stored and restored; layout 1.
use Rattle.std.specs.Prelude.{ℕ, ◌^◌, ◌<◌, cond, eqb, length, get_or, take, drop, replicate, Err, Ok, Result, ⊤}
use mathlib.Core.List.{List, [], ◌∷◌, ◌++◌, map, flat_map}
use Rattle.basics.specs.Lists.{array_places}
use Rattle.tools.specs.Bytes.{be_number, be_bytes}
use Rattle.decoder_rules.specs.OneCall.{good_state}
use Rattle.decoder_rules.specs.declared.types.TagDecoder.{TagDecoder}
use Rattle.stored_decoder.specs.Words.{word_count, rest_count, places, decoder_words, record_of}
use Rattle.stored_decoder.specs.Check.{all_zero, check_words}
use Rattle.stored_decoder.specs.declared.types.Restored.{Restored}
use Rattle.stored_decoder.specs.declared.types.StoreError.TheVariants.{BlockLength, UnusedSet, BadState}
use Rattle.stored_decoder.specs.declared.types.StoreError.{StoreError}

-- "2,560 bytes"
abbrev pub block_length : ℕ
block_length = 2560

-- every word is below 2^64, as each value of its type is in code
abbrev pub Words64 : List ℕ → Type 0
Words64 w = (i : ℕ) → get_or w i 0 < 2 ^ 64

-- "8-byte big-endian words"
unfoldable pub bytes_of : List ℕ → List ℕ
bytes_of w = flat_map (be_bytes 8) w

-- the 320 words of a block
unfoldable pub words_of : List ℕ → List ℕ
words_of b = map be_number (places 8 word_count b)

-- the block that a record is stored as
abbrev pub block : TagDecoder → List ℕ
block d = bytes_of (decoder_words d)

-- ---- storing

-- what storing a record answers, and what is lent after it: a refusal writes nothing. `n` is the length that is wanted,
-- `stored` the record
unfoldable pub store_as : ℕ → List ℕ → TagDecoder → List ℕ → Result ⊤ StoreError × List ℕ
store_as n stored d lent =
    cond (eqb (length lent) n)
    (cond (good_state d) (Ok tt, stored) (Err BadState, lent))
    (Err BlockLength, lent)

-- in words
abbrev pub store_words : TagDecoder → List ℕ → Result ⊤ StoreError × List ℕ
store_words d w = store_as word_count (decoder_words d) d w

-- in a block
abbrev pub store_out : TagDecoder → List ℕ → Result ⊤ StoreError × List ℕ
store_out d b = store_as block_length (block d) d b

-- ---- layout 1, which "lacks the strict word and the child count words"

-- each of 32 places with a 0 for the count that it lacks
unfoldable pub with_counts : ℕ → List ℕ → List ℕ
with_counts size w = flat_map (λ v. v ++ (0 ∷ [])) (places size array_places w)

-- the words in use of layout 1 as layout 2, "read as ported, counts 0"
unfoldable pub from_layout1 : List ℕ → List ℕ
from_layout1 w =
    (2 ∷ [])
    ++ (take 3 (drop 1 w) ++ ((0 ∷ []) ++ (take 6 (drop 4 w)
    ++ (with_counts 5 (drop 10 w)
    ++ (take 1 (drop 170 w)
    ++ (with_counts 2 (drop 171 w)
    ++ replicate rest_count 0))))))

-- ---- restoring

-- a refusal: the record stays
abbrev pub stays : TagDecoder → Result ⊤ StoreError → Restored
stays d a = record { answer = a; state = d }

-- the record of words in layout 2 where they are accepted, else the record stays
abbrev pub record_if_taken : TagDecoder → List ℕ → Result ⊤ StoreError → Restored
record_if_taken d w (Ok _) = record { answer = Ok tt; state = record_of w }
record_if_taken d w (Err e) = stays d (Err e)

-- from words in layout 2
abbrev pub restore_words : TagDecoder → List ℕ → Restored
restore_words d w = record_if_taken d w (check_words w)

-- from words in layout 1: 235 of them are in use
unfoldable pub restore_layout1 : TagDecoder → List ℕ → Restored
restore_layout1 d w = cond (all_zero (drop 235 w)) (restore_words d (from_layout1 w)) (stays d (Err UnusedSet))

-- from words in either layout
unfoldable pub restore_either : TagDecoder → List ℕ → Restored
restore_either d w = cond (eqb (get_or w 0 0) 1) (restore_layout1 d w) (restore_words d w)

-- what restoring a block over a record answers, and the record after it
unfoldable pub restore_from : TagDecoder → List ℕ → Restored
restore_from d b = cond (eqb (length b) block_length) (restore_either d (words_of b)) (stays d (Err BlockLength))
