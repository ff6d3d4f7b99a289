-- What helpers' contracts use: what an action answers and how many bytes it takes, without the record.
-- proofs/MoveParts.antt shows that this is what `move` gives.
use Rattle.std.specs.Prelude.{ℕ, Err, Ok, Result}
use Rattle.spec_util.specs.declared.types.OpenTag.{OpenTag}
use Rattle.decoder_rules.specs.Record.{end_for}
use Rattle.decoder_rules.specs.declared.types.Action.{Action}
use Rattle.decoder_rules.specs.declared.types.Action.TheVariants as act
use Rattle.decoder_rules.specs.declared.types.Answer.{Answer}
use Rattle.decoder_rules.specs.declared.types.Answer.TheVariants as answer
use Rattle.decoder_rules.specs.declared.types.Event.TheVariants as event
use Rattle.decoder_rules.specs.declared.types.WaitingEnd.{WaitingEnd}
use Rattle.decoder_rules.specs.declared.types.DecodeError.{DecodeError}
use Rattle.decoder_rules.specs.declared.types.Refusal.{Refusal}

-- what an action answers at the position p, where this End waits first and this master is the top
unfoldable pub answer_to : Result Action DecodeError → ℕ → WaitingEnd → OpenTag → Result Answer Refusal
answer_to (Err e) p first top = Err (record { error = e; place = p })
answer_to (Ok (act.NeedMore missing)) p first top = Ok (answer.NeedMore missing)
answer_to (Ok act.Finish) p first top = Ok answer.Finished
answer_to (Ok act.HandOut) p first top = Ok (answer.Event (event.End first))
answer_to (Ok (act.Close k)) p first top = Ok (answer.Event (event.End (end_for top)))
answer_to (Ok (act.Start x size len)) p first top = Ok (answer.Event (event.Start x p))
answer_to (Ok (act.Data x v n)) p first top = Ok (answer.Event (event.Data x p v))

-- how many bytes an action takes
unfoldable pub taken_by : Result Action DecodeError → ℕ
taken_by (Err e) = 0
taken_by (Ok (act.NeedMore missing)) = 0
taken_by (Ok act.Finish) = 0
taken_by (Ok act.HandOut) = 0
taken_by (Ok (act.Close k)) = 0
taken_by (Ok (act.Start x size len)) = len
taken_by (Ok (act.Data x v n)) = n
