-- The answers of the calls on a decoder's words, in numbers.
use Rattle.std.specs.Prelude.{ℕ, ◌+◌, Err, None, Ok, Option, Result, Some, ⊤}
use Rattle.decoder_rules.specs.Numbers.{error_number}
use Rattle.decoder_rules.specs.declared.types.Cut.{Cut}
use Rattle.decoder_rules.specs.declared.types.Refusal.{Refusal}
use Rattle.decoder_rules.specs.declared.types.Search.{Search}
use Rattle.decoder_rules.specs.declared.types.Search.TheVariants as search
use Rattle.decoder_rules.specs.Run.{Named, nothing, cut, named_by}
use Rattle.many_events.specs.declared.types.Ran.{Ran}
use Rattle.many_events.specs.declared.types.Stop.{Stop}
use Rattle.many_events.specs.declared.types.Stop.TheVariants as stop
use Rattle.stored_decoder.specs.Refusals as stored
use Rattle.stored_decoder.specs.declared.types.StoreError.{StoreError}
use Rattle.decoder_words.specs.declared.types.Number as reply
use Rattle.decoder_words.specs.declared.types.Reply.{Reply}
use Rattle.tag_parse.specs.declared.types.Range.{Range}

-- ---- codes

-- the list of events is full; of another call, that it was made
abbrev pub done : ℕ
done = 0

-- the input has ended and every event of it is handed out
abbrev pub finished : ℕ
finished = 1

-- a recovery found a valid header
abbrev pub found : ℕ
found = 2

-- it found none
abbrev pub not_found : ℕ
not_found = 3

-- a refusal is told by 256 plus its number
abbrev pub refused_by : ℕ → ℕ
refused_by n = 256 + n

-- more bytes are needed
abbrev pub needs_more : ℕ
needs_more = 512

-- ---- what refusal 23 names

-- n where there is a number, else 0
abbrev pub there_is : Option ℕ → ℕ → ℕ
there_is None n = 0
there_is (Some m) n = n

-- the number, 0 where there is none
abbrev pub number_of : Option ℕ → ℕ
number_of None = 0
number_of (Some m) = m

-- n where there are bytes, else 0
abbrev pub there_are : Option Range → ℕ → ℕ
there_are None n = 0
there_are (Some r) n = n

-- where the bytes begin, 0 where there are none
abbrev pub begin_of : Option Range → ℕ
begin_of None = 0
begin_of (Some r) = r.begin

-- where they end
abbrev pub end_of : Option Range → ℕ
end_of None = 0
end_of (Some r) = r.end

-- which of them there are: 1 for the ID, 2 for the size, 4 for the bytes
abbrev pub cut_named : Option ℕ → Option ℕ → Option Range → ℕ
cut_named id size part = there_is id 1 + (there_is size 2 + there_are part 4)

-- ---- replies

-- a reply that names nothing
abbrev pub plain : ℕ → ℕ → ℕ → ℕ → ℕ → Reply
plain code events taken place missing = record {
  code = code;
  events = events;
  taken = taken;
  place = place;
  missing = missing;
  cut_named = 0;
  cut_start = 0;
  cut_id = 0;
  cut_size = 0;
  cut_begin = 0;
  cut_end = 0;
}

-- a reply that names the element that the end cuts
abbrev pub cut_reply : ℕ → ℕ → ℕ → ℕ → Cut → Reply
cut_reply code events taken place c = record {
  code = code;
  events = events;
  taken = taken;
  place = place;
  missing = 0;
  cut_named = cut_named c.id c.size c.part;
  cut_start = c.start;
  cut_id = number_of c.id;
  cut_size = number_of c.size;
  cut_begin = begin_of c.part;
  cut_end = end_of c.part;
}

-- a reply with what a refusal names
abbrev pub naming : ℕ → ℕ → ℕ → ℕ → Named → Reply
naming code events taken place nothing = plain code events taken place 0
naming code events taken place (cut c) = cut_reply code events taken place c

-- a refusal's reply, after so many events and bytes
abbrev pub refusal_reply : Refusal → ℕ → ℕ → Reply
refusal_reply r events taken = naming (refused_by (error_number r.error)) events taken r.place (named_by r.error)

-- the reply to calls in a row, by why they stop
abbrev pub stop_reply : ℕ → ℕ → Result Stop Refusal → Reply
stop_reply events taken (Ok stop.Full) = plain done events taken 0 0
stop_reply events taken (Ok (stop.NeedMore missing)) = plain needs_more events taken 0 missing
stop_reply events taken (Ok stop.Finished) = plain finished events taken 0 0
stop_reply events taken (Err r) = refusal_reply r events taken

-- and by all that they answer
abbrev pub ran_reply : Ran → Reply
ran_reply r = stop_reply r.count r.taken r.stop

-- the reply to a recovery that took so many bytes: those that it passed over
abbrev pub search_reply : Result Search Refusal → ℕ → Reply
search_reply (Ok (search.Found n)) taken = plain found 0 taken 0 0
search_reply (Ok (search.NotFound n)) taken = plain not_found 0 taken 0 0
search_reply (Err r) taken = refusal_reply r 0 taken

-- ---- words and blocks that are no decoder's

-- 91, 92 or 11 of document 02, CR 14; 90 where the words are not 320, or the bytes not 2,560
abbrev pub words_refused : StoreError → ℕ
words_refused e = refused_by (stored.error_number e)

-- the code of what storing or restoring answers
abbrev pub acceptance_code : Result ⊤ StoreError → ℕ
acceptance_code (Ok _) = done
acceptance_code (Err e) = words_refused e

-- a number that is told
abbrev pub told : ℕ → reply.Number
told n = record { code = done; value = n }

-- no number, since the words are no decoder's
abbrev pub untold : StoreError → reply.Number
untold e = record { code = words_refused e; value = 0 }
