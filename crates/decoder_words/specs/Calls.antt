-- The decoder's calls on the words that hold its record: layout 2 of document 02, CR 14, in words of 64 bits. Each call
-- is made on the record that the words are, and leaves the words of the record after it; words that are no decoder's
-- are refused, and stay as they are.
use Rattle.std.specs.Prelude.{ℕ, Bool, cond, ◌≡◌, List, eqb, length, Err, Ok, Option, Result, ⊤}
use Rattle.decoder_rules.specs.Record.{fresh}
use Rattle.decoder_rules.specs.Recovery.{try_recover}
use Rattle.decoder_rules.specs.Settings.{allowing, reading, limited_to, is_finished}
use Rattle.decoder_rules.specs.declared.types.Recovered.{Recovered}
use Rattle.decoder_rules.specs.declared.types.TagDecoder.{TagDecoder}
use Rattle.many_events.specs.Many.{many_events}
use Rattle.many_events.specs.declared.types.Ran.{Ran}
use Rattle.stored_decoder.specs.Words.{word_count, decoder_words, record_of, yes_no}
use Rattle.stored_decoder.specs.Check.{check_words}
use Rattle.stored_decoder.specs.Block.{store_out, restore_from}
use Rattle.stored_decoder.specs.declared.types.Restored.{Restored}
use Rattle.stored_decoder.specs.declared.types.StoreError.{StoreError}
use Rattle.stored_decoder.specs.declared.types.StoreError.TheVariants.{BlockLength}
use Rattle.decoder_words.specs.Replies.{done, plain, ran_reply, search_reply, words_refused, acceptance_code, told, untold}
use Rattle.decoder_words.specs.declared.types.Number.{Number}
use Rattle.decoder_words.specs.declared.types.Reply.{Reply}

-- ---- words that are a decoder's, or not

-- what is said of the record that the words are; of words that are no decoder's, why
abbrev pub of_record : {A : Type 0} → (TagDecoder → A) → (StoreError → A) → List ℕ → Result ⊤ StoreError → A
of_record told refused w (Ok _) = told (record_of w)
of_record told refused w (Err e) = refused e

-- the same where the words are checked
abbrev pub on_words : {A : Type 0} → (TagDecoder → A) → (StoreError → A) → List ℕ → A
on_words told refused w = of_record told refused w (check_words w)

-- ---- a new decoder, and its settings

-- a fresh decoder in the lent words; 90 where they are not 320
unfoldable pub new_words : List ℕ → ℕ × List ℕ
new_words w = cond (eqb (length w) word_count) (done, decoder_words fresh) (words_refused BlockLength, w)

-- a setting: the words of the record with it
unfoldable pub set_words : (TagDecoder → TagDecoder) → List ℕ → ℕ × List ℕ
set_words set w = on_words (λ d. (done, decoder_words (set d))) (λ e. (words_refused e, w)) w

-- exactly these tests are switched off
abbrev pub allow_words : List ℕ → Bool → Bool → Bool → ℕ × List ℕ
allow_words w ids hierarchy oversized = set_words (λ d. allowing d ids hierarchy oversized) w

-- strictly or as ported
abbrev pub strict_words : List ℕ → Bool → ℕ × List ℕ
strict_words w strict = set_words (λ d. reading d strict) w

-- this greatest size, or none
abbrev pub limit_words : List ℕ → Option ℕ → ℕ × List ℕ
limit_words w n = set_words (λ d. limited_to d n) w

-- ---- what a decoder tells of itself

-- a number, or why there is none
unfoldable pub number_words : (TagDecoder → ℕ) → List ℕ → Number
number_words number w = on_words (λ d. told (number d)) untold w

-- its position
abbrev pub position_words : List ℕ → Number
position_words w = number_words (λ d. d.position) w

-- 1 where the end of input has come and every End is handed out, else 0
abbrev pub finished_words : List ℕ → Number
finished_words w = number_words (λ d. yes_no (is_finished d)) w

-- ---- decoding

-- the reply, the words and the lent list of events after calls in a row
abbrev pub ran_words : Ran × List ℕ → Reply × List ℕ × List ℕ
ran_words r = (ran_reply r.0, decoder_words r.0.state, r.1)

-- as many events as the lent list l has room for, of the bytes s, at the end of input or before it
unfoldable pub decode_words : Bool → List ℕ → List ℕ → List ℕ → List ℕ → List ℕ → Reply × List ℕ × List ℕ
decode_words eof es ps w s l = on_words (λ d. ran_words (many_events eof es ps d s l)) (λ e. (plain (words_refused e) 0 0 0 0, w, l)) w

-- the reply, the words and the events, as they are at exit, are the three that the definition gives
pub record GivesThree (r : Reply) (w l : List ℕ) (p : Reply × List ℕ × List ℕ) : Type 0 where
  pub answer : r ≡ p.0
  pub words : w ≡ p.1
  pub events : l ≡ p.2

-- the reply and the words after a recovery
abbrev pub searched_words : Recovered → Reply × List ℕ
searched_words r = (search_reply r.answer r.taken, decoder_words r.state)

-- the search for the next valid header
unfoldable pub recover_words : List ℕ → List ℕ → List ℕ → List ℕ → Reply × List ℕ
recover_words es ps w s = on_words (λ d. searched_words (try_recover es ps d s)) (λ e. (plain (words_refused e) 0 0 0 0, w)) w

-- ---- storing and restoring

-- the decoder as a block in the lent bytes
unfoldable pub store_from_words : List ℕ → List ℕ → ℕ × List ℕ
store_from_words w b = on_words (λ d. (acceptance_code (store_out d b).0, (store_out d b).1)) (λ e. (words_refused e, b)) w

-- the words of a record where its block is taken; else the words stay
abbrev pub words_if_taken : Result ⊤ StoreError → TagDecoder → List ℕ → List ℕ
words_if_taken (Ok _) d w = decoder_words d
words_if_taken (Err e) d w = w

-- what is answered of a block, and the words after it
abbrev pub restored_words : Restored → List ℕ → ℕ × List ℕ
restored_words r w = (acceptance_code r.answer, words_if_taken r.answer r.state w)

-- the decoder of a block in the lent words, whatever they held; 90 where they are not 320
unfoldable pub restore_to_words : List ℕ → List ℕ → ℕ × List ℕ
restore_to_words w b = cond (eqb (length w) word_count) (restored_words (restore_from fresh b) w) (words_refused BlockLength, w)
