-- Document 01, "Refusal numbers": those of the decoder's calls; 80 and 81: document 02, CR 11.
use Rattle.std.specs.Prelude.{ℕ, Err, Ok, Result}
use Rattle.tag_parse.specs.declared.types.ParseError.{ParseError}
use Rattle.tag_parse.specs.declared.types.ParseError.TheVariants as parse
use Rattle.decoder_rules.specs.declared.types.Answer.{Answer}
use Rattle.decoder_rules.specs.declared.types.Answer.TheVariants as answer
use Rattle.decoder_rules.specs.declared.types.DecodeError.{DecodeError}
use Rattle.decoder_rules.specs.declared.types.DecodeError.TheVariants as error
use Rattle.decoder_rules.specs.declared.types.Search.{Search}
use Rattle.decoder_rules.specs.declared.types.Search.TheVariants as search
use Rattle.decoder_rules.specs.declared.types.Refusal.{Refusal}

-- the number of a refusal
abbrev pub error_number : DecodeError → ℕ
error_number error.TableShape = 10
error_number error.BadState = 11
error_number error.TooFar = 12
error_number error.AfterFinish = 13
error_number error.InvalidTagData = 14
error_number error.InvalidTagId = 15
error_number error.HierarchyError = 16
error_number error.InvalidTagSize = 17
error_number error.OversizedChildElement = 18
error_number error.TooManyOpen = 19
error_number error.FromUtf8Error = 20
error_number error.ReadF64Mismatch = 21
error_number (error.UnexpectedEOF c) = 23
error_number error.NotAMaster = 24
error_number error.InvalidIdForm = 80
error_number error.UnknownSizePastEnd = 81

-- the decoder's refusal for what reading an element refuses
abbrev pub parse_error : ParseError → DecodeError
parse_error parse.InvalidTagData = error.InvalidTagData
parse_error parse.FromUtf8Error = error.FromUtf8Error
parse_error parse.ReadF64Mismatch = error.ReadF64Mismatch

-- the number of the refusal in an answer; 0 for any other answer
abbrev pub answer_refusal : Result Answer Refusal → ℕ
answer_refusal (Ok (answer.Event e)) = 0
answer_refusal (Ok (answer.NeedMore missing)) = 0
answer_refusal (Ok answer.Finished) = 0
answer_refusal (Err r) = error_number r.error

-- the same of what a recovery answers
abbrev pub search_refusal : Result Search Refusal → ℕ
search_refusal (Ok (search.Found passed)) = 0
search_refusal (Ok (search.NotFound passed)) = 0
search_refusal (Err r) = error_number r.error
