-- Calls in a row, each on what the one before left of record and bytes, until an answer is no event or there is no room
-- for another.
use Rattle.std.specs.Prelude.{ℕ, zero, suc, ◌+◌, ◌*◌, ◌/◌, Bool, cond, length, drop, Err, Ok, Result}
use mathlib.Core.List.{List, [], ◌∷◌, ◌++◌, flat_map}
use Rattle.decoder_rules.specs.EndOfInput.{decode_eof}
use Rattle.decoder_rules.specs.Moving.{decode}
use Rattle.decoder_rules.specs.declared.types.Answer.{Answer}
use Rattle.decoder_rules.specs.declared.types.Answer.TheVariants as answer
use Rattle.decoder_rules.specs.declared.types.Decoded.{Decoded}
use Rattle.decoder_rules.specs.declared.types.TagDecoder.{TagDecoder}
use Rattle.many_events.specs.Events.{event_size, event_words}
use Rattle.many_events.specs.declared.types.Ran.{Ran}
use Rattle.many_events.specs.declared.types.Stop.{Stop}
use Rattle.many_events.specs.declared.types.Stop.TheVariants as stop
use Rattle.decoder_rules.specs.declared.types.Refusal.{Refusal}

-- the words of each event in turn, how many bytes were taken, why the calls stop, and the record after them
pub record InARow : Type 0 where
  pub events : List (List ℕ)
  pub taken : ℕ
  pub stop : Result Stop Refusal
  pub state : TagDecoder

-- no call, or no more
abbrev pub stopped : Result Stop Refusal → TagDecoder → InARow
stopped why d = record { events = []; taken = 0; stop = why; state = d }

-- an event with n bytes, and then the others
abbrev pub then : List ℕ → ℕ → InARow → InARow
then words n others = record { events = words ∷ others.events; taken = n + others.taken; stop = others.stop; state = others.state }

-- by the answer of a call: after an event the others follow, any other answer is the last; it takes no byte
abbrev pub on_from : Result Answer Refusal → ℕ → TagDecoder → InARow → InARow
on_from (Ok (answer.Event e)) n d others = then (event_words d e) n others
on_from (Ok (answer.NeedMore missing)) n d others = stopped (Ok (stop.NeedMore missing)) d
on_from (Ok answer.Finished) n d others = stopped (Ok stop.Finished) d
on_from (Err r) n d others = stopped (Err r) d

-- calls in a row on the record d with the bytes s, where there is room for n events
unfoldable pub many_calls : (TagDecoder → List ℕ → Decoded) → ℕ → TagDecoder → List ℕ → InARow
many_calls call zero d s = stopped (Ok stop.Full) d
many_calls call (suc n) d s =
    let r = call d s in
    on_from r.answer r.taken r.state (many_calls call n r.state (drop r.taken s))

-- one call: at the end of input or before it
abbrev pub one_call : Bool → List ℕ → List ℕ → TagDecoder → List ℕ → Decoded
one_call eof es ps d s = cond eof (decode_eof es ps d s) (decode es ps d s)

-- what is answered of them
abbrev pub ran_of : InARow → Ran
ran_of r = record { count = length r.events; taken = r.taken; stop = r.stop; state = r.state }

-- the lent list after them: their words in front, and past these what it held
abbrev pub listed : List (List ℕ) → List ℕ → List ℕ
listed events l = flat_map (λ words. words) events ++ drop (event_size * length events) l

-- what calls in a row answer, and the lent list after them: there is room for as many events as it has 8 words
unfoldable pub many_events : Bool → List ℕ → List ℕ → TagDecoder → List ℕ → List ℕ → Ran × List ℕ
many_events eof es ps d s l =
    let r = many_calls (one_call eof es ps) (length l / event_size) d s in
    (ran_of r, listed r.events l)

-- ---- only the contract of a helper cites this

-- why calls in a row stop at an answer; after an event, where there is no room for another
unfoldable pub stop_of : Result Answer Refusal → Result Stop Refusal
stop_of (Ok (answer.Event e)) = Ok stop.Full
stop_of (Ok (answer.NeedMore missing)) = Ok (stop.NeedMore missing)
stop_of (Ok answer.Finished) = Ok stop.Finished
stop_of (Err r) = Err r
