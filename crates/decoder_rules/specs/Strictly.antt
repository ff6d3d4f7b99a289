-- Document 02, CR 11: "With a checked table, no test switched off, no Global in the table and no zero byte in text,
-- what it accepts the ported mode answers alike." What these words say of one call, and of calls in a row. It holds
-- (proofs/StrictAlike.antt) of any table, checked or not, and of the tests only that of unknown IDs (15) has to be on.
-- Each of the other conditions is needed, and of a recovery it does not hold (proofs/StrictExamples.antt).
use Rattle.std.specs.Prelude.{ℕ, Bool, true, false, not, ◌||◌, List, [], ◌∷◌, ◌≡◌, eqb, take, drop, Err, Ok, Result}
use Rattle.basics.specs.Lists.{every}
use Rattle.table.specs.Check.{only_ids}
use Rattle.table.specs.Table.{Entry}
use Rattle.table.specs.declared.types.TagDataType.{TagDataType}
use Rattle.table.specs.declared.types.TagDataType.TheVariants as type
use Rattle.tag_parse.specs.Header.{read_header}
use Rattle.tag_parse.specs.declared.types.EBMLSize.{EBMLSize}
use Rattle.tag_parse.specs.declared.types.EBMLSize.TheVariants.{Known, Unknown}
use Rattle.tag_parse.specs.declared.types.TagHeader.{TagHeader}
use Rattle.decoder_rules.specs.EndOfInput.{decode_eof}
use Rattle.decoder_rules.specs.Moving.{decode}
use Rattle.decoder_rules.specs.Numbers.{answer_refusal}
use Rattle.decoder_rules.specs.Settings.{reading}
use Rattle.decoder_rules.specs.declared.types.Answer.{Answer}
use Rattle.decoder_rules.specs.declared.types.Decoded.{Decoded}
use Rattle.decoder_rules.specs.declared.types.TagDecoder.{TagDecoder}
use Rattle.tag_parse.specs.declared.types.ParseError.{ParseError}
use Rattle.decoder_rules.specs.declared.types.Refusal.{Refusal}
use Rattle.tools.specs.declared.status.Status.{Status}
use Rattle.tools.specs.declared.status.Status.TheVariants as status

-- ---- the conditions

-- "no Global in the table": the path of every entry holds IDs only
unfoldable pub no_globals : List Entry → Bool
no_globals t = every (λ e. only_ids e.path) t

-- no byte is zero
unfoldable pub no_zero : List ℕ → Bool
no_zero s = every (λ b. not (eqb b 0)) s

-- a type is Utf8
abbrev pub is_utf8 : TagDataType → Bool
is_utf8 type.UnsignedInt = false
is_utf8 type.Integer = false
is_utf8 type.Utf8 = true
is_utf8 type.Binary = false
is_utf8 type.Float = false
is_utf8 type.Master = false
is_utf8 type.Untyped = false

-- the bytes after a header of len bytes, as many as its size says, and as far as they are there
abbrev pub bytes_after : ℕ → EBMLSize → List ℕ → List ℕ
bytes_after len Unknown s = []
bytes_after len (Known n) s = take n (drop len s)

-- a header at the front of s has no text with a zero byte after it
unfoldable pub no_zero_after : TagHeader → List ℕ → Bool
no_zero_after h s = not (is_utf8 h.kind) || no_zero (bytes_after h.len h.size s)

-- the same by what was read as a header
abbrev pub no_zero_read : Result (Status TagHeader) ParseError → List ℕ → Bool
no_zero_read (Ok (status.NeedMore missing)) s = true
no_zero_read (Err e) s = true
no_zero_read (Ok (status.Complete h)) s = no_zero_after h s

-- "no zero byte in text" of the bytes lent at a call: no text at their front has one
unfoldable pub no_zero_in_text : List Entry → List ℕ → Bool
no_zero_in_text t s = no_zero_read (read_header t s) s

-- ---- one call

-- "answers alike": the same answer, as many bytes taken, and the same record but for the mode
pub record Alike (strict ported : Decoded) : Type 0 where
  pub answer : ported.answer ≡ strict.answer
  pub taken : ported.taken ≡ strict.taken
  pub state : ported.state ≡ reading strict.state false

-- ---- calls in a row

-- a call with the bytes lent at it: to decode, or at the end of input
pub data Ask : Type 0 where
  decoding : List ℕ → Ask
  ending : List ℕ → Ask

-- the bytes lent at a call
abbrev pub lent_at : Ask → List ℕ
lent_at (decoding s) = s
lent_at (ending s) = s

-- an answer, and how many bytes were taken with it
pub record Answered : Type 0 where
  pub answer : Result Answer Refusal
  pub taken : ℕ

module _ (es ps : List ℕ) where
  -- what a call gives
  abbrev pub called : TagDecoder → Ask → Decoded
  called d (decoding s) = decode es ps d s
  called d (ending s) = decode_eof es ps d s

  -- the answers to these calls, the first of them first
  unfoldable pub answers_to : TagDecoder → List Ask → List Answered
  answers_to d [] = []
  answers_to d (c ∷ cs) = record { answer = (called d c).answer; taken = (called d c).taken } ∷ answers_to (called d c).state cs

  -- the record that they leave
  unfoldable pub left_by : TagDecoder → List Ask → TagDecoder
  left_by d [] = d
  left_by d (c ∷ cs) = left_by (called d c).state cs

-- "what it accepts": no answer is a refusal
unfoldable pub no_refusal : List Answered → Bool
no_refusal l = every (λ a. eqb (answer_refusal a.answer) 0) l

-- the calls are answered alike, and leave the same record but for the mode
pub record RunAlike (es ps : List ℕ) (d : TagDecoder) (cs : List Ask) : Type 0 where
  pub answers : answers_to es ps (reading d false) cs ≡ answers_to es ps d cs
  pub left : left_by es ps (reading d false) cs ≡ reading (left_by es ps d cs) false
