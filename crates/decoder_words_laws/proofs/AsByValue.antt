-- The calls for C, over any calls on the words of one decoder, are the calls by value: the words hold the record that
-- the same calls by value leave, and every reply is the answer by value. Assumes nothing.
use Prim.Native.Nat.{ℕ, ◌/◌}
use mathlib.Core.Bool.{Bool, true, false}
use mathlib.Core.List.{List, [], ◌∷◌, ◌++◌, map, flat_map, append-nil}
use mathlib.Core.Path.{◌≡◌, refl, sym, ap, ap₂, ◌∙◌}
use native.Mathlib.Nat.{add-zero}
use native.Mathlib.Omega.{arith}
use borrow.Author.Tests.{eq-eqb}
use lib.ListN.{length, drop, drop_of_length-le}
use Rattle.basics.proofs.Bools.{cond_yes}
use Rattle.tools.specs.Bytes.{Octets}
use Rattle.decoder_rules.specs.Recovery.{try_recover}
use Rattle.decoder_rules.specs.Settings.{is_finished}
use Rattle.decoder_rules.specs.declared.types.Answer.{Answer}
use Rattle.decoder_rules.specs.declared.types.Answer.TheVariants as answer
use Rattle.decoder_rules.specs.declared.types.TagDecoder.{TagDecoder}
use Rattle.decoder_rules.proofs.GoodState.{good_state_lem}
use Rattle.many_events.specs.Events.{event_size, event_words}
use Rattle.many_events.specs.Many.{InARow, stopped, on_from, many_calls, one_call, ran_of, listed, many_events}
use Rattle.many_events.specs.declared.types.Stop.TheVariants as stop
use Rattle.stored_decoder.specs.Check.{check_words}
use Rattle.stored_decoder.specs.Words.{word_count, decoder_words, record_of, yes_no}
use Rattle.stored_decoder.proofs.Checks.{record-arrays}
use Rattle.stored_decoder.proofs.Cleaned.{cleaned_same, accepted_clean, accepted_absent}
use Rattle.stored_decoder.proofs.Restoring.{accepts}
use Rattle.stored_decoder.proofs.WordsBack.{record-back}
use Rattle.guarantees.specs.Calls.{Call, decoding, ending, recovering, allow, strictly, limit, lent, response_to, next, Step, record_after, history, Lent}
use Rattle.guarantees.proofs.EmptyPlaces.{Tidy, next_tidy, tidy_after}
use Rattle.restarts.specs.Comparing.{Sound}
use Rattle.restarts.proofs.RunsInParts.{sound_after}
use Rattle.restarts.proofs.SoundCalls.{next_sound}
use Rattle.decoder_words.specs.Calls.{of_record, new_words, set_words, number_words, ran_words, decode_words, searched_words, recover_words}
use Rattle.decoder_words.specs.Replies.{done, plain, ran_reply, words_refused, told, untold}
use Rattle.decoder_words.specs.declared.types.Reply.{Reply}
use Rattle.decoder_words.proofs.Answered.{on_accepted}
use Rattle.decoder_words.proofs.Words.{decoding_made, recovery_made, setting_made}
use Rattle.decoder_words_laws.specs.WordCalls.{room_for_one, reply_and_words, code_and_words, call_on, words_next, words_after, replies_to, answer_reply, reply_of, answer_list, decoded_words, AsByValue}
use Rattle.decoder_words_laws.proofs.StayAccepted.{accepted_sound, sound_accepted}
use Rattle.std.specs.Prelude.{Err, Ok, Result, ⊤}
use Rattle.decoder_rules.specs.declared.types.Refusal.{Refusal}
use Rattle.stored_decoder.specs.declared.types.StoreError.{StoreError}

-- ---- records that words hold as they are

-- 11 is not for such a record, and 0 stands in its empty places and for absent values
pub record Kept (d : TagDecoder) : Type 0 where
  pub sound : Sound d
  pub tidy : Tidy d

-- the record after any calls is such a one
kept_after : (es ps : List ℕ) (cs : List Call) → Lent cs → Kept (record_after es ps cs)
kept_after es ps cs l = record { sound = sound_after es ps cs l; tidy = tidy_after es ps cs l }

-- so is the record of words that are a decoder's
pub accepted_kept : (w : List ℕ) → check_words w ≡ Ok tt → Kept (record_of w)
accepted_kept w c =
    let g = good_state_lem (record_of w) (accepts w c).state in
    record {
      sound = accepted_sound w c;
      tidy = record { arrays = record-arrays w; clean = accepted_clean w c; few_open = g.open_count; few_waiting = g.waiting_count; absent = accepted_absent w c };
    }

-- and any call leaves such a one
pub next_kept : (es ps : List ℕ) (d : TagDecoder) → Kept d → (c : Call) → Octets (lent c) → Kept (next es ps d c)
next_kept es ps d k c byte = record { sound = next_sound es ps d k.sound c byte; tidy = next_tidy es ps d k.tidy c byte }

-- ---- one call that decodes

-- a list of events is only written: reply and words depend on its room, not on what it holds
pub list_unread : (eof : Bool) (es ps w s l m : List ℕ) → length l / event_size ≡ length m / event_size
    → reply_and_words (decode_words eof es ps w s l) ≡ reply_and_words (decode_words eof es ps w s m)
unfolding decode_words many_events
list_unread eof es ps w s l m h = go (check_words w)
  where
    on : List ℕ → Result ⊤ StoreError → Reply × List ℕ
    on x a = reply_and_words (of_record (λ d. ran_words (many_events eof es ps d s x)) (λ e. (plain (words_refused e) 0 0 0 0, w, x)) w a)

    go : (a : Result ⊤ StoreError) → on l a ≡ on m a
    go (Ok _) = ap (λ (n : ℕ). let r = many_calls (one_call eof es ps) n (record_of w) s in (ran_reply (ran_of r), decoder_words r.state)) h
    go (Err e) = refl

-- calls in a row with room for one event are one call
many_one : (eof : Bool) (es ps : List ℕ) (d : TagDecoder) (s l : List ℕ) → length l ≡ event_size → ran_words (many_events eof es ps d s l) ≡ decoded_words (one_call eof es ps d s) l
unfolding many_events many_calls flat_map
many_one eof es ps d s l h =
    let r = one_call eof es ps d s in
    ap (λ (n : ℕ). handed (many_calls (one_call eof es ps) (n / event_size) d s)) h ∙ by r.answer r.taken r.state
  where
    handed : InARow → Reply × List ℕ × List ℕ
    handed r = ran_words (ran_of r, listed r.events l)

    by : (a : Result Answer Refusal) (n : ℕ) (e : TagDecoder) → handed (on_from a n e (stopped (Ok stop.Full) e)) ≡ (answer_reply a n, decoder_words e, answer_list e a l)
    by (Ok (answer.Event x)) n e =
        let f : (event_words e x ++ []) ++ drop event_size l ≡ event_words e x = ap (λ (y : List ℕ). (event_words e x ++ []) ++ y) (drop_of_length-le l {i = event_size} (omega arith)) ∙ append-nil _ ∙ append-nil _ in
        ap₂ (λ (i : ℕ) (y : List ℕ). (plain done 1 i 0 0, decoder_words e, y)) (add-zero n) f
    by (Ok (answer.NeedMore missing)) n e = refl
    by (Ok answer.Finished) n e = refl
    by (Err x) n e = refl

-- ---- a call on the words of a record

module _ (d : TagDecoder) (k : Kept d) where
  -- the words hold the record
  pub own : record_of (decoder_words d) ≡ d
  own = record-back d k.tidy.arrays ∙ cleaned_same d k.tidy.clean k.tidy.absent

  -- and are a decoder's
  pub checked : check_words (decoder_words d) ≡ Ok tt
  checked = sound_accepted d k.sound

  -- a call that decodes, with room for one event
  pub one_made : (eof : Bool) (es ps s l : List ℕ) → length l ≡ event_size → decode_words eof es ps (decoder_words d) s l ≡ decoded_words (one_call eof es ps d s) l
  one_made eof es ps s l h =
      decoding_made (decoder_words d) checked eof es ps s l
      ∙ ap (λ (x : TagDecoder). ran_words (many_events eof es ps x s l)) own
      ∙ many_one eof es ps d s l h

  -- a recovery
  search_made : (es ps s : List ℕ) → recover_words es ps (decoder_words d) s ≡ searched_words (try_recover es ps d s)
  search_made es ps s = recovery_made (decoder_words d) checked es ps s ∙ ap (λ (x : TagDecoder). searched_words (try_recover es ps x s)) own

  -- a setting
  set_made : (set : TagDecoder → TagDecoder) → set_words set (decoder_words d) ≡ (done, decoder_words (set d))
  set_made set = setting_made (decoder_words d) checked set ∙ ap (λ (x : TagDecoder). (done, decoder_words (set x))) own

  -- a number
  number_told : (number : TagDecoder → ℕ) → number_words number (decoder_words d) ≡ told (number d)
  unfolding number_words
  number_told number = sym (on_accepted (decoder_words d) refl checked refl (λ x. told (number x)) untold) ∙ ap (λ (x : TagDecoder). told (number x)) own

  -- any call is the call by value
  call_made : (es ps : List ℕ) (c : Call) → call_on es ps (decoder_words d) c ≡ (reply_of (response_to es ps d c), decoder_words (next es ps d c))
  unfolding call_on
  call_made es ps (decoding s) = ap reply_and_words (one_made false es ps s room_for_one refl)
  call_made es ps (ending s) = ap reply_and_words (one_made true es ps s room_for_one refl)
  call_made es ps (recovering s) = search_made es ps s
  call_made es ps (allow ids hierarchy oversized) = ap code_and_words (set_made _)
  call_made es ps (strictly b) = ap code_and_words (set_made _)
  call_made es ps (limit n) = ap code_and_words (set_made _)

-- ---- any calls

module _ (es ps v : List ℕ) (long : length v ≡ word_count) where
  -- the words are those of the record that the same calls by value leave
  pub words_as_record : (cs : List Call) → Lent cs → words_after es ps v cs ≡ decoder_words (record_after es ps cs)
  unfolding words_after record_after Lent new_words
  words_as_record [] l = ap (λ (x : ℕ × List ℕ). x.1) (cond_yes _ _ _ (eq-eqb (length v) word_count long))
  words_as_record (c ∷ cs) l =
      ap (λ (w : List ℕ). words_next es ps w c) (words_as_record cs l.1)
      ∙ ap (λ (x : Reply × List ℕ). x.1) (call_made (record_after es ps cs) (kept_after es ps cs l.1) es ps c)

  -- and every reply is the answer by value
  pub replies_as_answers : (cs : List Call) → Lent cs → replies_to es ps v cs ≡ map (λ (x : Step). reply_of x.told) (history es ps cs)
  unfolding replies_to history Lent
  replies_as_answers [] l = refl
  replies_as_answers (c ∷ cs) l =
      ap₂ (λ (x : Reply) (y : List Reply). x ∷ y)
      (ap (λ (w : List ℕ). (call_on es ps w c).0) (words_as_record cs l.1)
      ∙ ap (λ (x : Reply × List ℕ). x.0) (call_made (record_after es ps cs) (kept_after es ps cs l.1) es ps c))
      (replies_as_answers cs l.1)

  -- so the calls for C are the calls by value
  pub as_by_value : (cs : List Call) → Lent cs → AsByValue es ps v cs
  as_by_value cs l =
      let d = record_after es ps cs in
      let k = kept_after es ps cs l in
      let w = words_as_record cs l in
      record {
        words = w;
        holds = ap record_of w ∙ own d k;
        accepted = ap check_words w ∙ checked d k;
        replies = replies_as_answers cs l;
        decoded = λ s o h. ap (λ (x : List ℕ). decode_words false es ps x s o) w ∙ one_made d k false es ps s o h;
        ended = λ s o h. ap (λ (x : List ℕ). decode_words true es ps x s o) w ∙ one_made d k true es ps s o h;
        recovered = λ s. ap (λ (x : List ℕ). recover_words es ps x s) w ∙ search_made d k es ps s;
        set_so = λ set. ap (set_words set) w ∙ set_made d k set;
        position = ap (number_words (λ x. x.position)) w ∙ number_told d k (λ x. x.position);
        finished = ap (number_words (λ x. yes_no (is_finished x))) w ∙ number_told d k (λ x. yes_no (is_finished x));
      }
