-- What words are taken for a record's in layout 2: refusals 90 (other than 320 words), 91, 92 and 11 of document 02,
-- CR 14.
use Rattle.std.specs.Prelude.{ℕ, Bool, true, cond, ◌&&◌, ◌||◌, List, leb, eqb, length, get_or, take, drop, Err, Ok, Result, ⊤}
use Rattle.basics.specs.Lists.{every}
use Rattle.decoder_rules.specs.OneCall.{good_state}
use Rattle.stored_decoder.specs.Words.{word_count, masters_in, ends_in, is_yes, record_of}
use Rattle.stored_decoder.specs.declared.types.StoreError.TheVariants.{BlockLength, UnknownLayout, UnusedSet, BadState}
use Rattle.stored_decoder.specs.declared.types.StoreError.{StoreError}

-- not "a yes-or-no word over 1"
abbrev pub is_yes_no : ℕ → Bool
is_yes_no w = leb w 1

-- an unused word holds 0
abbrev pub is_zero : ℕ → Bool
is_zero w = eqb w 0

-- every word of an unused part holds 0
abbrev pub all_zero : List ℕ → Bool
all_zero w = every is_zero w

-- a value that its yes-or-no word says is absent is unused
unfoldable pub good_value : ℕ → ℕ → Bool
good_value there n = is_yes there || is_zero n

-- the words before the masters
unfoldable pub good_front : List ℕ → Bool
good_front w = every is_yes_no (take 5 (drop 1 w)) && every is_yes_no (take 2 (drop 8 w)) && good_value (get_or w 5 0) (get_or w 6 0)

-- the words of a master
unfoldable pub good_master : List ℕ → Bool
good_master w = is_yes_no (get_or w 1 0) && good_value (get_or w 1 0) (get_or w 2 0)

-- the words of an End: each of them is used, and none says yes or no
unfoldable pub good_end : List ℕ → Bool
good_end w = true

-- n of the places are in use and pass a test, and the others are unused: all are in use where n exceeds their number
unfoldable pub good_places : (List ℕ → Bool) → ℕ → List (List ℕ) → Bool
good_places test n l = every test (take n l) && every all_zero (drop n l)

-- whether there is no "yes-or-no word over 1" and no "unused byte set" in words in layout 2
unfoldable pub good_words : List ℕ → Bool
good_words w =
    good_front w
    && (good_places good_master (get_or w 10 0) (masters_in w)
    && (good_places good_end (get_or w 203 0) (ends_in w)
    && all_zero (drop 300 w)))

-- whether words are a record's in layout 2, and why not
unfoldable pub check_words : List ℕ → Result ⊤ StoreError
check_words w =
    cond (eqb (length w) word_count)
    (cond (eqb (get_or w 0 0) 2)
    (cond (good_words w)
    (cond (good_state (record_of w)) (Ok tt) (Err BadState))
    (Err UnusedSet))
    (Err UnknownLayout))
    (Err BlockLength)
