-- The run of the decoder that a caller in C holds in words: what the calls with lists of any room hand out of it.
use Rattle.std.specs.Prelude.{ℕ, ◌/◌, false, List, [], ◌∷◌, ◌++◌, map, ◌≡◌, length, drop, Err, Ok, Result}
use Rattle.decoder_rules.specs.declared.types.Answer.{Answer}
use Rattle.decoder_rules.specs.declared.types.Answer.TheVariants as answer
use Rattle.decoder_rules.specs.declared.types.Refusal.{Refusal}
use Rattle.decoder_rules.specs.declared.types.TagDecoder.{TagDecoder}
use Rattle.many_events.specs.Events.{event_size, event_words}
use Rattle.many_events.specs.Many.{InARow, many_calls, one_call, ran_of, listed, stop_of}
use Rattle.many_events.specs.declared.types.Stop.{Stop}
use Rattle.many_events.specs.declared.types.Stop.TheVariants as stop
use Rattle.stored_decoder.specs.Check.{check_words}
use Rattle.stored_decoder.specs.Words.{decoder_words, record_of}
use Rattle.decoder_words.specs.Calls.{decode_words}
use Rattle.decoder_words.specs.Replies.{ran_reply}
use Rattle.joining.specs.Joining.{Handed, Outcome, run, NoEvent, joined}

-- a run, with the words of each event
pub record InWords : Type 0 where
  pub events : List (List ℕ)
  pub last : Result Answer Refusal
  pub state : TagDecoder
  pub rest : List ℕ

-- the words of an event
abbrev pub handed_words : Handed → List ℕ
handed_words h = event_words h.left h.event

-- a run, told in words
abbrev pub in_words : Outcome → InWords
in_words r = record { events = map handed_words r.handed; last = r.last; state = r.state; rest = r.rest }

-- events, and then those of a run
abbrev pub before : List (List ℕ) → InWords → InWords
before l r = record { events = l ++ r.events; last = r.last; state = r.state; rest = r.rest }

-- nothing more: the run has ended
abbrev pub ended : Result Answer Refusal → TagDecoder → List ℕ → Outcome
ended a d s = record { handed = []; last = a; state = d; rest = s }

-- by why a call stopped that left the record d and the bytes s: where its list was full the run goes on
abbrev pub still_to_come : List ℕ → List ℕ → Result Stop Refusal → TagDecoder → List ℕ → Outcome
still_to_come es ps (Ok stop.Full) d s = run es ps d s
still_to_come es ps (Ok (stop.NeedMore missing)) d s = ended (Ok (answer.NeedMore missing)) d s
still_to_come es ps (Ok stop.Finished) d s = ended (Ok answer.Finished) d s
still_to_come es ps (Err x) d s = ended (Err x) d s

-- what a call on the words w with the bytes s and the list l makes
abbrev pub calls_in : List ℕ → List ℕ → List ℕ → List ℕ → List ℕ → InARow
calls_in es ps w s l = many_calls (one_call false es ps) (length l / event_size) (record_of w) s

-- a call of `ebml_decode_many` on a decoder's words w with the bytes s, and a list l of any room
pub record HandsOutRun (es ps w s l : List ℕ) : Type 0 where
  -- its reply, the words and the list
  pub gives : decode_words false es ps w s l ≡ (ran_reply (ran_of (calls_in es ps w s l)), decoder_words (calls_in es ps w s l).state, listed (calls_in es ps w s l).events l)
  -- the words are a decoder's again, and hold the record that it left
  pub accepted : check_words (decode_words false es ps w s l).1 ≡ Ok tt
  pub holds : record_of (decode_words false es ps w s l).1 ≡ (calls_in es ps w s l).state
  -- the run of the decoder in w is what this call hands out, and then what is still to come
  pub hands_out : in_words (run es ps (record_of w) s)
      ≡ before (calls_in es ps w s l).events (in_words (still_to_come es ps (calls_in es ps w s l).stop (calls_in es ps w s l).state (drop (calls_in es ps w s l).taken s)))

-- ---- runs of such calls

-- calls on the words w with the bytes s, each with a list of any room, on the words and the bytes that the one before
-- left, as long as the list was full; and what they gave
pub data WordsRun (es ps : List ℕ) : List ℕ → List ℕ → InWords → Type 0 where
  full : (w s l : List ℕ) (o : InWords) → (calls_in es ps w s l).stop ≡ Ok stop.Full → WordsRun es ps (decode_words false es ps w s l).1 (drop (calls_in es ps w s l).taken s) o
      → WordsRun es ps w s (before (calls_in es ps w s l).events o)
  no_more : (w s l : List ℕ) (a : Result Answer Refusal) → NoEvent a → (calls_in es ps w s l).stop ≡ stop_of a
      → WordsRun es ps w s (before (calls_in es ps w s l).events (in_words (ended a (calls_in es ps w s l).state (drop (calls_in es ps w s l).taken s))))

-- no further call: b stays unread behind the rest
abbrev pub with_unread : InWords → List ℕ → InWords
with_unread r b = record { events = r.events; last = r.last; state = r.state; rest = r.rest ++ b }

-- joining is composition of them, whatever the rooms
pub record WordsJoin (es ps w a b : List ℕ) : Type 0 where
  -- on a and then on the unread rest followed by b they hand out the events, and leave the words and the rest, of calls
  -- on a followed by b
  pub composed : (o p q : InWords) → WordsRun es ps w a o → WordsRun es ps (decoder_words o.state) (o.rest ++ b) p → WordsRun es ps w (a ++ b) q → q ≡ before o.events p
  -- where those on a ended in a refusal, calls on a followed by b end in it too: the same events, number, place and
  -- words; the rest is a's rest followed by b
  pub same_refusal : (o q : InWords) (x : Refusal) → WordsRun es ps w a o → o.last ≡ Err x → WordsRun es ps w (a ++ b) q → q ≡ with_unread o b

-- ---- any number of pieces

-- after calls that gave the first: for each piece when it comes, calls on the words that were left, with the unread
-- rest followed by it; and what they gave in the end
pub data WordsPieces (es ps : List ℕ) : InWords → List (List ℕ) → InWords → Type 0 where
  none_left : (o : InWords) → WordsPieces es ps o [] o
  next_piece : (o p q : InWords) (b : List ℕ) (later : List (List ℕ)) → WordsRun es ps (decoder_words o.state) (o.rest ++ b) p → WordsPieces es ps (before o.events p) later q
      → WordsPieces es ps o (b ∷ later) q

-- what a caller in C has who is given these pieces, the first one a
pub record WordsTransfer (es ps w a : List ℕ) (later : List (List ℕ)) (o : InWords) : Type 0 where
  pub first : InWords
  pub on_first : WordsRun es ps w a first
  pub on_later : WordsPieces es ps first later o

-- however the bytes s are cut, and whatever the rooms, the callers have the same: the words of the events, the last
-- answer, the record, the rest
pub record WordsSameHoweverCut (es ps w s : List ℕ) : Type 0 where
  pub same : (a c : List ℕ) (earlier later : List (List ℕ)) → a ++ joined earlier ≡ s → c ++ joined later ≡ s → (o p : InWords) → WordsTransfer es ps w a earlier o → WordsTransfer es ps w c later p → o ≡ p
