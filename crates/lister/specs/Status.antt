-- The exit status of a list, from its last line: Z gives 0, X and M give 1. A list without a last line gives 2, which no
-- answer does.
use Rattle.std.specs.Prelude.{ℕ, Err, Ok, Result}
use Rattle.decoder_rules.specs.declared.types.Answer.{Answer}
use Rattle.decoder_rules.specs.declared.types.Answer.TheVariants as answer
use Rattle.lister.specs.declared.status.Status.{Status}
use Rattle.lister.specs.declared.status.Status.TheVariants as status
use Rattle.decoder_rules.specs.declared.types.Refusal.{Refusal}

-- the digit of a status
abbrev pub digit_of : Status → ℕ
digit_of status.Finished = 48
digit_of status.Refused = 49
digit_of status.Broken = 50

-- the digit of the exit status, where the list ends with an answer
abbrev pub status_of : Result Answer Refusal → ℕ
status_of (Ok (answer.Event e)) = 50
status_of (Ok (answer.NeedMore missing)) = 49
status_of (Ok answer.Finished) = 48
status_of (Err r) = 49
