-- Any calls on the words of one decoder, made through the calls for C, beside the same calls by value: `guarantees` has
-- these with their history, latest first, and so stand the calls here. A call that decodes is lent a list with room for
-- one event.
use Rattle.std.specs.Prelude.{ℕ, zero, suc, ◌+◌, ◌*◌, ◌/◌, Bool, true, false, List, [], ◌∷◌, ◌++◌, map, ◌≡◌, length, drop, replicate, Err, Ok, Result}
use Rattle.decoder_rules.specs.EndOfInput.{decode_eof}
use Rattle.decoder_rules.specs.Moving.{decode}
use Rattle.decoder_rules.specs.Recovery.{try_recover}
use Rattle.decoder_rules.specs.Settings.{is_finished}
use Rattle.decoder_rules.specs.declared.types.Answer.{Answer}
use Rattle.decoder_rules.specs.declared.types.Answer.TheVariants as answer
use Rattle.decoder_rules.specs.declared.types.Decoded.{Decoded}
use Rattle.decoder_rules.specs.declared.types.TagDecoder.{TagDecoder}
use Rattle.many_events.specs.Events.{event_size, event_words}
use Rattle.many_events.specs.declared.types.Stop.TheVariants as stop
use Rattle.stored_decoder.specs.Check.{check_words}
use Rattle.stored_decoder.specs.Words.{decoder_words, record_of, yes_no}
use Rattle.guarantees.specs.Calls.{Call, decoding, ending, recovering, allow, strictly, limit, Response, answered, searched, silent, Step, record_after, history, Lent}
use Rattle.decoder_words.specs.Calls.{new_words, set_words, allow_words, strict_words, limit_words, position_words, finished_words, decode_words, searched_words, recover_words}
use Rattle.decoder_words.specs.Replies.{done, plain, stop_reply, search_reply, told}
use Rattle.decoder_words.specs.declared.types.Reply.{Reply}
use Rattle.decoder_rules.specs.declared.types.Refusal.{Refusal}

-- ---- calls on words

-- a list with room for one event
abbrev pub room_for_one : List ℕ
room_for_one = replicate event_size 0

-- the reply and the words, of what a call that decodes gives
abbrev pub reply_and_words : Reply × List ℕ × List ℕ → Reply × List ℕ
reply_and_words x = (x.0, x.1)

-- a setting's code, as a reply that tells nothing else, and the words
abbrev pub code_and_words : ℕ × List ℕ → Reply × List ℕ
code_and_words x = (plain x.0 0 0 0 0, x.1)

module _ (es ps : List ℕ) where
  -- the reply to this call on the words w, and the words after it
  unfoldable pub call_on : List ℕ → Call → Reply × List ℕ
  call_on w (decoding s) = reply_and_words (decode_words false es ps w s room_for_one)
  call_on w (ending s) = reply_and_words (decode_words true es ps w s room_for_one)
  call_on w (recovering s) = recover_words es ps w s
  call_on w (allow ids hierarchy oversized) = code_and_words (allow_words w ids hierarchy oversized)
  call_on w (strictly b) = code_and_words (strict_words w b)
  call_on w (limit n) = code_and_words (limit_words w n)

  -- the words after this call
  abbrev pub words_next : List ℕ → Call → List ℕ
  words_next w c = (call_on w c).1

  -- the words after these calls on a decoder that is made in the words v
  unfoldable pub words_after : List ℕ → List Call → List ℕ
  words_after v [] = (new_words v).1
  words_after v (c ∷ cs) = words_next (words_after v cs) c

  -- the replies to these calls, latest first
  unfoldable pub replies_to : List ℕ → List Call → List Reply
  replies_to v [] = []
  replies_to v (c ∷ cs) = (call_on (words_after v cs) c).0 ∷ replies_to v cs

-- ---- what is answered by value, as a reply

-- an answer, after so many bytes
abbrev pub answer_reply : Result Answer Refusal → ℕ → Reply
answer_reply (Ok (answer.Event e)) taken = plain done 1 taken 0 0
answer_reply (Ok (answer.NeedMore missing)) taken = stop_reply 0 0 (Ok (stop.NeedMore missing))
answer_reply (Ok answer.Finished) taken = stop_reply 0 0 (Ok stop.Finished)
answer_reply (Err r) taken = stop_reply 0 0 (Err r)

-- what any call answers
abbrev pub reply_of : Response → Reply
reply_of (answered a taken) = answer_reply a taken
reply_of (searched a taken) = search_reply a taken
reply_of silent = plain done 0 0 0 0

-- the list with room for one event, after an answer that left the record d: the event, or what the list held
abbrev pub answer_list : TagDecoder → Result Answer Refusal → List ℕ → List ℕ
answer_list d (Ok (answer.Event e)) l = event_words d e
answer_list d (Ok (answer.NeedMore missing)) l = l
answer_list d (Ok answer.Finished) l = l
answer_list d (Err r) l = l

-- the reply, the words and the list after a call that decodes
abbrev pub decoded_words : Decoded → List ℕ → Reply × List ℕ × List ℕ
decoded_words r l = (answer_reply r.answer r.taken, decoder_words r.state, answer_list r.state r.answer l)

-- ---- the calls on words are the calls by value

-- after these calls on a decoder that was made in the words v, with any words for a table
pub record AsByValue (es ps v : List ℕ) (cs : List Call) : Type 0 where
  -- the words are those of the record that the same calls by value leave, and hold that very record
  pub words : words_after es ps v cs ≡ decoder_words (record_after es ps cs)
  pub holds : record_of (words_after es ps v cs) ≡ record_after es ps cs
  -- so no call refuses them
  pub accepted : check_words (words_after es ps v cs) ≡ Ok tt
  -- every reply was the answer by value: what demand 3 says of this history and of that record is said of these calls
  pub replies : replies_to es ps v cs ≡ map (λ (x : Step). reply_of x.told) (history es ps cs)
  -- and so is what the next call gives: a decode or an end of input, whatever the list of one event's room holds
  pub decoded : (s l : List ℕ) → length l ≡ event_size → decode_words false es ps (words_after es ps v cs) s l ≡ decoded_words (decode es ps (record_after es ps cs) s) l
  pub ended : (s l : List ℕ) → length l ≡ event_size → decode_words true es ps (words_after es ps v cs) s l ≡ decoded_words (decode_eof es ps (record_after es ps cs) s) l
  -- a recovery
  pub recovered : (s : List ℕ) → recover_words es ps (words_after es ps v cs) s ≡ searched_words (try_recover es ps (record_after es ps cs) s)
  -- any setting
  pub set_so : (set : TagDecoder → TagDecoder) → set_words set (words_after es ps v cs) ≡ (done, decoder_words (set (record_after es ps cs)))
  -- and what a decoder tells of itself
  pub position : position_words (words_after es ps v cs) ≡ told (record_after es ps cs).position
  pub finished : finished_words (words_after es ps v cs) ≡ told (yes_no (is_finished (record_after es ps cs)))

-- ---- many events a call, and one event a call

-- a reply, with an event of so many bytes before it
abbrev pub with_one_more : ℕ → Reply → Reply
with_one_more n r = record {
  code = r.code;
  events = suc r.events;
  taken = n + r.taken;
  place = r.place;
  missing = r.missing;
  cut_named = r.cut_named;
  cut_start = r.cut_start;
  cut_id = r.cut_id;
  cut_size = r.cut_size;
  cut_begin = r.cut_begin;
  cut_end = r.cut_end;
}

-- by how many events a call handed out: after one the others follow, a call without an event is the last
abbrev pub followed : ℕ → Reply × List ℕ × List ℕ → Reply × List ℕ × List ℕ → Reply × List ℕ × List ℕ
followed zero x others = (x.0, x.1, [])
followed (suc k) x others = (with_one_more x.0.taken others.0, others.1, x.2 ++ others.2)

-- at most n calls with room for one event, each on the words and the unread bytes that the one before left, until one
-- has no event: the last reply with all events and bytes counted, the words, and the events one behind the other
unfoldable pub one_by_one : Bool → List ℕ → List ℕ → ℕ → List ℕ → List ℕ → Reply × List ℕ × List ℕ
one_by_one eof es ps zero w s = (plain done 0 0 0 0, w, [])
one_by_one eof es ps (suc n) w s =
    let x = decode_words eof es ps w s room_for_one in
    followed x.0.events x (one_by_one eof es ps n x.1 (drop x.0.taken s))

-- the same with the events in front of a list, and past them what it held
abbrev pub in_front_of : List ℕ → Reply × List ℕ × List ℕ → Reply × List ℕ × List ℕ
in_front_of l x = (x.0, x.1, x.2 ++ drop (event_size * x.0.events) l)

-- the call by value that is made with these bytes
abbrev pub call_with : Bool → List ℕ → Call
call_with true s = ending s
call_with false s = decoding s

-- by how many events a call handed out: with none it is the last
abbrev pub last_or : ℕ → List Call → List Call → List Call
last_or zero made others = made
last_or (suc k) made others = others

-- the calls of `one_by_one` on the words w, latest first, and the calls cs that were made before them
unfoldable pub calls_made : Bool → List ℕ → List ℕ → ℕ → List ℕ → List ℕ → List Call → List Call
calls_made eof es ps zero w s cs = cs
calls_made eof es ps (suc n) w s cs =
    let x = decode_words eof es ps w s room_for_one in
    let made = call_with eof s ∷ cs in
    last_or x.0.events made (calls_made eof es ps n x.1 (drop x.0.taken s) made)

-- a call with a list l of any room, made after these calls on a decoder that was made in the words v
pub record ManyByValue (eof : Bool) (es ps v : List ℕ) (cs : List Call) (s l : List ℕ) : Type 0 where
  -- reply, words and list are those of calls with room for one event
  pub gives : decode_words eof es ps (words_after es ps v cs) s l ≡ in_front_of l (one_by_one eof es ps (length l / event_size) (words_after es ps v cs) s)
  -- the words after it are those after such calls, and so `AsByValue` goes on to speak of them
  pub words : (decode_words eof es ps (words_after es ps v cs) s l).1 ≡ words_after es ps v (calls_made eof es ps (length l / event_size) (words_after es ps v cs) s cs)
  pub lent : Lent (calls_made eof es ps (length l / event_size) (words_after es ps v cs) s cs)
