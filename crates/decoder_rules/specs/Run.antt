-- A run of calls on one stretch of bytes, as a caller makes it: a call, its answer, and the next call on what is left.
-- A refusal is told as document 01 tells it, by its number.
use Rattle.std.specs.Prelude.{ℕ, zero, suc, List, [], ◌∷◌, drop, Err, Ok, Result}
use Rattle.decoder_rules.specs.Numbers.{error_number}
use Rattle.decoder_rules.specs.Moving.{decode}
use Rattle.decoder_rules.specs.EndOfInput.{decode_eof}
use Rattle.decoder_rules.specs.declared.types.Answer.{Answer}
use Rattle.decoder_rules.specs.declared.types.Answer.TheVariants as answer
use Rattle.decoder_rules.specs.declared.types.Cut.{Cut}
use Rattle.decoder_rules.specs.declared.types.Decoded.{Decoded}
use Rattle.decoder_rules.specs.declared.types.DecodeError.{DecodeError}
use Rattle.decoder_rules.specs.declared.types.DecodeError.TheVariants as error
use Rattle.decoder_rules.specs.declared.types.Event.{Event}
use Rattle.decoder_rules.specs.declared.types.TagDecoder.{TagDecoder}
use Rattle.decoder_rules.specs.declared.types.Refusal.{Refusal}

-- ---- what an answer tells

-- what a refusal names besides its place: 23 the element that is cut, the others nothing
pub data Named : Type 0 where
  nothing : Named
  cut : Cut → Named

-- an event, need more of so many bytes, the finish, or a refusal by its number, its place and what it names
pub data Told : Type 0 where
  event : Event → Told
  need_more : ℕ → Told
  finish : Told
  refusal : ℕ → ℕ → Named → Told

-- what a refusal names
abbrev pub named_by : DecodeError → Named
named_by error.TableShape = nothing
named_by error.BadState = nothing
named_by error.TooFar = nothing
named_by error.AfterFinish = nothing
named_by error.InvalidTagData = nothing
named_by error.InvalidTagId = nothing
named_by error.HierarchyError = nothing
named_by error.InvalidTagSize = nothing
named_by error.OversizedChildElement = nothing
named_by error.TooManyOpen = nothing
named_by error.FromUtf8Error = nothing
named_by error.ReadF64Mismatch = nothing
named_by (error.UnexpectedEOF c) = cut c
named_by error.NotAMaster = nothing
named_by error.InvalidIdForm = nothing
named_by error.UnknownSizePastEnd = nothing

-- what an answer tells
abbrev pub told_by : Result Answer Refusal → Told
told_by (Ok (answer.Event e)) = event e
told_by (Ok (answer.NeedMore missing)) = need_more missing
told_by (Ok answer.Finished) = finish
told_by (Err r) = refusal (error_number r.error) r.place (named_by r.error)

-- ---- calls in a row

-- what a call told, and how many bytes it took
pub record Call : Type 0 where
  pub told : Told
  pub taken : ℕ

-- calls in a row, and the record and the bytes that they leave
pub record Calls : Type 0 where
  pub calls : List Call
  pub left : TagDecoder
  pub rest : List ℕ

-- a call, and then those after it
abbrev pub before : Call → Calls → Calls
before c others = record { calls = c ∷ others.calls; left = others.left; rest = others.rest }

-- a call that is the last
abbrev pub last : Call → TagDecoder → List ℕ → Calls
last c d s = record { calls = c ∷ []; left = d; rest = s }

-- the calls from one on that left the record d and the bytes s: after an event the others follow, any other answer is
-- the last
abbrev pub goes_on_with : (TagDecoder → List ℕ → Calls) → Result Answer Refusal → Call → TagDecoder → List ℕ → Calls
goes_on_with others (Ok (answer.Event e)) c d s = before c (others d s)
goes_on_with others (Ok (answer.NeedMore missing)) c d s = last c d s
goes_on_with others (Ok answer.Finished) c d s = last c d s
goes_on_with others (Err r) c d s = last c d s

-- the calls from one on that was made with the bytes s
abbrev pub from : (TagDecoder → List ℕ → Calls) → Decoded → List ℕ → Calls
from others r s = goes_on_with others r.answer (record { told = told_by r.answer; taken = r.taken }) r.state (drop r.taken s)

-- at most n calls in a row with the bytes s, each on what the one before it left
unfoldable pub in_a_row : (TagDecoder → List ℕ → Decoded) → ℕ → TagDecoder → List ℕ → Calls
in_a_row call zero d s = record { calls = []; left = d; rest = s }
in_a_row call (suc n) d s = from (in_a_row call n) (call d s) s

-- at most n calls of `decode` in a row
abbrev pub decode_calls : ℕ → List ℕ → List ℕ → TagDecoder → List ℕ → Calls
decode_calls n es ps d s = in_a_row (decode es ps) n d s

-- at most n calls at the end of input in a row
abbrev pub eof_calls : ℕ → List ℕ → List ℕ → TagDecoder → List ℕ → Calls
eof_calls n es ps d s = in_a_row (decode_eof es ps) n d s
