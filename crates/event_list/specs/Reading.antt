-- What the lister does with its buffer b between two reads, and what it does after a call: print a line and go on,
-- print the last line, or read more.
use Rattle.std.specs.Prelude.{ℕ, ◌+◌, ◌-◌, min, Bool, true, false, cond, List, ◌++◌, ltb, eqb, ℤ, pos, negsuc, length, take, drop, Err, Ok, Result}
use Rattle.decoder_rules.specs.Record.{fresh}
use Rattle.decoder_rules.specs.Settings.{reading}
use Rattle.decoder_rules.specs.Moving.{decode}
use Rattle.decoder_rules.specs.EndOfInput.{decode_eof}
use Rattle.decoder_rules.specs.declared.types.Answer.{Answer}
use Rattle.decoder_rules.specs.declared.types.Answer.TheVariants as answer
use Rattle.decoder_rules.specs.declared.types.Decoded.{Decoded}
use Rattle.decoder_rules.specs.declared.types.TagDecoder.{TagDecoder}
use Rattle.table.specs.BenchTable.{bench_entries, bench_parts}
use Rattle.event_list.specs.declared.types.Listing.{Listing}
use Rattle.event_list.specs.declared.types.Next.{Next}
use Rattle.event_list.specs.declared.types.Next.TheVariants.{Line, Last, Read}
use Rattle.event_list.specs.declared.types.CallResult.{CallResult}
use Rattle.decoder_rules.specs.declared.types.Refusal.{Refusal}

-- what is kept: the decoder, from where and up to where the buffer is unread, and whether the input has ended
abbrev pub listing : TagDecoder → ℕ → ℕ → Bool → Listing
listing d from upto ended = record { decoder = d; from = from; upto = upto; ended = ended }

-- the decoder that a program begins with: fresh, and reading strictly or as ported
abbrev pub begun : Bool → TagDecoder
begun strict = reading fresh strict

-- at the start nothing is read
abbrev pub started : Bool → Listing
started strict = listing (begun strict) 0 0 false

-- ---- the unread bytes: those of the buffer from `from` up to `upto`, whatever the two numbers are

-- the first place past the unread bytes
abbrev pub up_to : Listing → List ℕ → ℕ
up_to l b = min l.upto (length b)

-- the place of the first of them
abbrev pub begins : Listing → List ℕ → ℕ
begins l b = min l.from (up_to l b)

-- how many they are
abbrev pub unread_count : Listing → List ℕ → ℕ
unread_count l b = up_to l b - begins l b

-- they themselves
unfoldable pub unread : Listing → List ℕ → List ℕ
unread l b = take (unread_count l b) (drop (begins l b) b)

-- ---- one call on them

-- the call of the decoder that is due: the end of input once a read has given nothing
unfoldable pub called : Bool → TagDecoder → List ℕ → Decoded
called ended d s = cond ended (decode_eof bench_entries bench_parts d s) (decode bench_entries bench_parts d s)

-- what is done after an answer, with n bytes unread in a buffer of so many: need more asks for a read where the buffer
-- has room; with every byte of it unread the element is larger than the buffer. "X and M end the list", and so does Z
abbrev pub next_of : Result Answer Refusal → ℕ → ℕ → Next
next_of (Ok (answer.Event e)) n room = Line
next_of (Ok (answer.NeedMore missing)) n room = cond (ltb n room) Read Last
next_of (Ok answer.Finished) n room = Last
next_of (Err r) n room = Last

-- what follows from the answer r to a call on the unread bytes
abbrev pub call_result : Listing → List ℕ → Decoded → CallResult
call_result l b r = record {
  answer = r.answer;
  next = next_of r.answer (unread_count l b) (length b);
  listing = listing r.state (begins l b + r.taken) (up_to l b) l.ended;
}

-- one call on the unread bytes, and what is done after it
unfoldable pub call_once : Listing → List ℕ → CallResult
call_once l b = call_result l b (called l.ended l.decoder (unread l b))

-- ---- before a read and after it

-- the unread bytes move to the front of the buffer before it is filled again
unfoldable pub unread_moved_to_front : Listing → List ℕ → Listing × List ℕ
unread_moved_to_front l b = (listing l.decoder 0 (unread_count l b) l.ended, unread l b ++ drop (unread_count l b) b)

-- a read put k bytes behind the unread ones, in a buffer of n bytes: only a read of 0 bytes is the end of input
abbrev pub filled_by : ℕ → Listing → ℕ → Listing
filled_by n l k =
    cond (eqb k 0) (listing l.decoder l.from l.upto true)
    (listing l.decoder l.from (min (l.upto + k) n) l.ended)

-- the answer of a read: an interrupted one (below 0) changes nothing
unfoldable pub after_read : ℕ → Listing → ℤ → Listing
after_read n l (pos k) = filled_by n l k
after_read n l (negsuc k) = l
