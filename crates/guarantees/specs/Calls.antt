-- Any calls on one decoder that begins fresh, with what each of them answers, by the very definitions that the
-- contracts of the routines cite. A list of calls stands latest first.
use Rattle.std.specs.Prelude.{ℕ, Bool, List, [], ◌∷◌, Option, Result}
use Rattle.tools.specs.Bytes.{Octets}
use Rattle.decoder_rules.specs.Record.{fresh}
use Rattle.decoder_rules.specs.Numbers.{answer_refusal, search_refusal}
use Rattle.decoder_rules.specs.Moving.{decode}
use Rattle.decoder_rules.specs.EndOfInput.{decode_eof}
use Rattle.decoder_rules.specs.Recovery.{try_recover}
use Rattle.decoder_rules.specs.declared.types.Answer.{Answer}
use Rattle.decoder_rules.specs.declared.types.Search.{Search}
use Rattle.decoder_rules.specs.declared.types.TagDecoder.{TagDecoder}
use Rattle.decoder_rules.specs.Settings.{allowing, reading, limited_to}
use Rattle.decoder_rules.specs.declared.types.Refusal.{Refusal}

-- ---- a call, and what it answers

-- a call: decode, end of input and recovery, each with the bytes lent at it; the settings: the tests that are switched
-- off (unknown IDs, hierarchy, child sizes), strict or as ported, and the greatest size
pub data Call : Type 0 where
  decoding : List ℕ → Call
  ending : List ℕ → Call
  recovering : List ℕ → Call
  allow : Bool → Bool → Bool → Call
  strictly : Bool → Call
  limit : Option ℕ → Call

-- the bytes lent at a call
abbrev pub lent : Call → List ℕ
lent (decoding s) = s
lent (ending s) = s
lent (recovering s) = s
lent (allow ids hierarchy oversized) = []
lent (strictly b) = []
lent (limit n) = []

-- what a call answers, with the count of bytes taken; a setting answers nothing
pub data Response : Type 0 where
  answered : Result Answer Refusal → ℕ → Response
  searched : Result Search Refusal → ℕ → Response
  silent : Response

module _ (es ps : List ℕ) where
  -- what this call on this record answers
  abbrev pub response_to : TagDecoder → Call → Response
  response_to d (decoding s) = answered (decode es ps d s).answer (decode es ps d s).taken
  response_to d (ending s) = answered (decode_eof es ps d s).answer (decode_eof es ps d s).taken
  response_to d (recovering s) = searched (try_recover es ps d s).answer (try_recover es ps d s).taken
  response_to d (allow ids hierarchy oversized) = silent
  response_to d (strictly b) = silent
  response_to d (limit n) = silent

  -- the record after this call on it
  abbrev pub next : TagDecoder → Call → TagDecoder
  next d (decoding s) = (decode es ps d s).state
  next d (ending s) = (decode_eof es ps d s).state
  next d (recovering s) = (try_recover es ps d s).state
  next d (allow ids hierarchy oversized) = allowing d ids hierarchy oversized
  next d (strictly b) = reading d b
  next d (limit n) = limited_to d n

-- the same of what any call answers
abbrev pub refusal_of : Response → ℕ
refusal_of (answered a n) = answer_refusal a
refusal_of (searched a n) = search_refusal a
refusal_of silent = 0

-- ---- a run

-- one call of a run: what was asked, and what was answered
pub record Step : Type 0 where
  pub call : Call
  pub told : Response

module _ (es ps : List ℕ) where
  -- this call on this record, as one call of a run
  abbrev pub step_of : TagDecoder → Call → Step
  step_of d c = record { call = c; told = response_to es ps d c }

  -- the record after these calls on a fresh decoder
  unfoldable pub record_after : List Call → TagDecoder
  record_after [] = fresh
  record_after (c ∷ cs) = next es ps (record_after cs) c

  -- what these calls on a fresh decoder answer, latest first
  unfoldable pub history : List Call → List Step
  history [] = []
  history (c ∷ cs) = step_of (record_after cs) c ∷ history cs

-- the bytes lent at every call are octets, as their type says in code
unfoldable pub Lent : List Call → Type 0
Lent [] = Unit {0}
Lent (c ∷ cs) = Octets (lent c) × Lent cs
