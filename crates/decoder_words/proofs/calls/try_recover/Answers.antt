-- `decoder_words::calls::try_recover`, by what the check of the words answers. Assumes nothing.
use Rattle.decoder_words.proofs.Answered.{taken_length, recovers, recover_refused}
use Rattle.decoder_words.proofs.calls.try_recover.Goals as goal

pub record_of-d-requires : goal.record_of-d-requires
record_of-d-requires c =
    taken_length c.args.words.now c.check_words.ensures c.in-Ok.is

pub put_words-requires : goal.put_words-requires
put_words-requires c =
    taken_length c.args.words.now c.check_words.ensures c.in-Ok.is

pub returns-in-Ok : goal.returns-in-Ok
returns-in-Ok c =
    recovers c.args.words.now c.check_words.ensures c.in-Ok.is c.record_of-d.ensures c.args.entries.now c.args.parts.now c.args.input.now c.try_recover-r.ensures c.put_words.ensures c.search_reply.ensures

pub returns-in-Err : goal.returns-in-Err
returns-in-Err c =
    recover_refused c.args.words.now c.check_words.ensures c.in-Err.is c.args.entries.now c.args.parts.now c.args.input.now c.words_refused.ensures c.plain.ensures
