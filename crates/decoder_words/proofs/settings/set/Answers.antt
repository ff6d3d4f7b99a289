-- `decoder_words::settings::set`, by what the check of the words answers. Assumes nothing.
use Rattle.decoder_words.proofs.Answered.{taken_length, sets, set_refused}
use Rattle.decoder_words.proofs.settings.set.Goals as goal

pub record_of-requires : goal.record_of-requires
record_of-requires g c =
    taken_length c.args.words.now c.check_words.ensures c.in-Ok.is

pub put_words-requires : goal.put_words-requires
put_words-requires g c =
    taken_length c.args.words.now c.check_words.ensures c.in-Ok.is

pub returns-in-Ok : goal.returns-in-Ok
returns-in-Ok g c = λ set h.
    sets c.args.words.now c.check_words.ensures c.in-Ok.is c.record_of.ensures set (h _ _ c.change.ensures) c.put_words.ensures

pub returns-in-Err : goal.returns-in-Err
returns-in-Err g c = λ set h.
    set_refused c.args.words.now c.check_words.ensures c.in-Err.is set c.words_refused.ensures
