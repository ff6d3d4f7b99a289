-- The answers to a whole input, read strictly or as ported, with a buffer of so many bytes, and its list: no word of
-- reads, of pieces or of what stood in the buffer when.
use Rattle.std.specs.Prelude.{ℕ, Bool, cond, ◌≡◌, List, [], ◌∷◌, ◌++◌, ltb, length, take, drop, Ok, Result}
use Rattle.decoder_rules.specs.Moving.{decode}
use Rattle.decoder_rules.specs.EndOfInput.{decode_eof}
use Rattle.decoder_rules.specs.declared.types.Answer.{Answer}
use Rattle.decoder_rules.specs.declared.types.Answer.TheVariants as answer
use Rattle.decoder_rules.specs.declared.types.Decoded.{Decoded}
use Rattle.decoder_rules.specs.declared.types.Event.{Event}
use Rattle.decoder_rules.specs.declared.types.TagDecoder.{TagDecoder}
use Rattle.table.specs.BenchTable.{bench_entries, bench_parts}
use Rattle.event_list.specs.Line.{line}
use Rattle.event_list.specs.Reading.{begun}
use Rattle.decoder_rules.specs.declared.types.Refusal.{Refusal}

-- what is answered next, with s still to come: where that is less than the buffer holds, it is all that there is; else
-- the first bytes of it are all that can be seen, and need more says that the element is larger than the buffer
unfoldable pub next_answer : ℕ → TagDecoder → List ℕ → Decoded
next_answer size d s = cond (ltb (length s) size) (decode_eof bench_entries bench_parts d s) (decode bench_entries bench_parts d (take size s))

-- what a call answered, and the record that it left
pub record Answered : Type 0 where
  pub answer : Result Answer Refusal
  pub after : TagDecoder

-- what the result of a call says of it
abbrev pub answered_by : Decoded → Answered
answered_by r = record { answer = r.answer; after = r.state }

-- an event and the answers to what follows it, or the one last answer; r is the next answer
pub data Answers (size : ℕ) : Decoded → List ℕ → List Answered → Type 0 where
  goes_on : (r : Decoded) (s : List ℕ) {rs : List Answered} {e : Event} → r.answer ≡ Ok (answer.Event e)
      → Answers size (next_answer size r.state (drop r.taken s)) (drop r.taken s) rs → Answers size r s (answered_by r ∷ rs)
  ends : (r : Decoded) (s : List ℕ) → ((e : Event) → r.answer ≡ Ok (answer.Event e) → ⊥) → Answers size r s (answered_by r ∷ [])

-- these are the answers to the input s
abbrev pub AnswersTo : Bool → ℕ → List ℕ → List Answered → Type 0
AnswersTo strict size s rs = Answers size (next_answer size (begun strict) s) s rs

-- the lines of answers
unfoldable pub lines_of : List Answered → List ℕ
lines_of [] = []
lines_of (a ∷ rs) = line a.answer a.after.position ++ lines_of rs

-- the text is the list of the input s: the lines of the answers to it
pub record ListOf (strict : Bool) (size : ℕ) (s text : List ℕ) : Type 0 where
  pub answers : List Answered
  pub to : AnswersTo strict size s answers
  pub lines : text ≡ lines_of answers
