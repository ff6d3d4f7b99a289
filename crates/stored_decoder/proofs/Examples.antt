-- Worked examples of document 02, CR 14: the words and the bytes of a fresh record, a block of layout 1, and a block
-- for each refusal. Computed from the definitions. Assumes nothing.
use Prim.Native.Nat.{ℕ, ◌-◌}
use mathlib.Core.Bool.{true, false}
use mathlib.Core.List.{List, [], ◌∷◌, ◌++◌, map, flat_map}
use mathlib.Core.Path.{◌≡◌, refl}
use lib.ListN.{length, take, drop, replicate, set}
use Rattle.basics.specs.Lists.{filled}
use Rattle.spec_util.specs.Walk.{no_tag, open_tag}
use Rattle.tools.proofs.Computing.{numbers_compute}
use Rattle.decoder_rules.specs.Record.{fresh, first_settings, no_end}
use Rattle.decoder_rules.proofs.Computing.{rules_compute}
use Rattle.stored_decoder.specs.Words.{word_count, master_words, end_words, front_words, decoder_words, places, master_of, end_of, settings_of, record_of}
use Rattle.stored_decoder.specs.Refusals.{error_number}
use Rattle.stored_decoder.specs.Check.{good_value, good_front, good_master, good_end, good_places, good_words, check_words}
use Rattle.stored_decoder.specs.Block.{bytes_of, words_of, block, store_as, with_counts, from_layout1, restore_layout1, restore_either, restore_from}
use Rattle.stored_decoder.specs.declared.types.Restored.{Restored}
use Rattle.std.specs.Prelude.{Err, Ok, Result, ⊤}
use Rattle.stored_decoder.specs.declared.types.StoreError.{StoreError}

-- what the examples compute with
unfoldable stored_compute : Unit {0}
unfolding rules_compute numbers_compute flat_map master_words end_words front_words decoder_words places master_of end_of settings_of record_of good_value good_front good_master good_end good_places good_words check_words bytes_of words_of store_as with_counts from_layout1 restore_layout1 restore_either restore_from
stored_compute = tt

-- words with zeros behind them, 320 in all
abbrev padded : List ℕ → List ℕ
padded w = w ++ replicate (word_count - length w) 0

-- ---- a fresh record

-- its words: layout 2, a greatest size is set, 4,000,000,000, and all else is 0
pub fresh_words : decoder_words fresh ≡ padded (2 ∷ 0 ∷ 0 ∷ 0 ∷ 0 ∷ 1 ∷ 4_000_000_000 ∷ [])
unfolding stored_compute
fresh_words = refl

-- its bytes up to that size, which is EE6B2800
pub fresh-bytes : take 56 (block fresh)
    ≡ (0 ∷ 0 ∷ 0 ∷ 0 ∷ 0 ∷ 0 ∷ 0 ∷ 2 ∷ []) ++ replicate 39 0 ++ (1 ∷ 0 ∷ 0 ∷ 0 ∷ 0 ∷ 0xEE ∷ 0x6B ∷ 0x28 ∷ 0x00 ∷ [])
unfolding stored_compute
fresh-bytes = refl

-- it is restored
pub fresh_restored : restore_from fresh (block fresh) ≡ record { answer = Ok tt; state = fresh }
unfolding stored_compute
fresh_restored = refl

-- ---- layout 1

-- at 12, settled, with Session 4E01 open: size Unknown, at 0, its data at 3
abbrev layout1_words : List ℕ
layout1_words = padded (1 ∷ 0 ∷ 0 ∷ 0 ∷ 1 ∷ 4_000_000_000 ∷ 12 ∷ 1 ∷ 0 ∷ 1 ∷ 0x4E01 ∷ 0 ∷ 0 ∷ 0 ∷ 3 ∷ [])

-- it is read as ported, counts 0
pub layout1_restored : restore_from fresh (bytes_of layout1_words)
    ≡ record {
      answer = Ok tt;
      state = record {
        settings = first_settings;
        position = 12;
        settled = true;
        finished = false;
        «open» = filled no_tag (open_tag 0x4E01 false 0 0 3 ∷ []);
        open_count = 1;
        waiting = filled no_end [];
        waiting_count = 0;
      };
    }
unfolding stored_compute
layout1_restored = refl

-- ---- refusals

-- the number of a refusal; 0 where the block is taken
abbrev answer_number : Restored → ℕ
answer_number r = number_of r.answer
  where
    number_of : Result ⊤ StoreError → ℕ
    number_of (Ok _) = 0
    number_of (Err e) = error_number e

-- a fresh record's words with another word at a place
abbrev fresh_but : ℕ → ℕ → List ℕ
fresh_but i x = bytes_of (set (padded (2 ∷ 0 ∷ 0 ∷ 0 ∷ 0 ∷ 1 ∷ 4_000_000_000 ∷ [])) i x)

-- one byte short; layout 3; strict neither yes nor no; a master where none is open; the last byte of all set, in layout
-- 2 and in layout 1; 33 open, of which all places count as used; a position over 2^62; and an unused word goes before
-- it
pub refusals : map (λ b. answer_number (restore_from fresh b))
    (drop 1 (block fresh)
    ∷ fresh_but 0 3
    ∷ fresh_but 4 2
    ∷ fresh_but 11 0x4E01
    ∷ fresh_but 319 1
    ∷ bytes_of (set layout1_words 319 1)
    ∷ fresh_but 10 33
    ∷ fresh_but 7 0x4000_0000_0000_0001
    ∷ bytes_of (set (set (padded (2 ∷ [])) 7 0x4000_0000_0000_0001) 6 1)
    ∷ [])
    ≡ 90 ∷ 91 ∷ 92 ∷ 92 ∷ 92 ∷ 92 ∷ 11 ∷ 11 ∷ 92 ∷ []
unfolding stored_compute
refusals = refl
