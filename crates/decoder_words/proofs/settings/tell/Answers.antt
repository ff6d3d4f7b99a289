-- `decoder_words::settings::tell`, by what the check of the words answers. Assumes nothing.
use Rattle.decoder_words.proofs.Answered.{taken_length, tells, tell_refused}
use Rattle.decoder_words.proofs.settings.tell.Goals as goal

pub record_of-requires : goal.record_of-requires
record_of-requires g c =
    taken_length c.args.words.now c.check_words.ensures c.in-Ok.is

pub returns-in-Ok : goal.returns-in-Ok
returns-in-Ok g c = λ number h.
    tells c.args.words.now c.check_words.ensures c.in-Ok.is c.record_of.ensures number (h _ _ c.number.ensures) c.told.ensures

pub returns-in-Err : goal.returns-in-Err
returns-in-Err g c = λ number h.
    tell_refused c.args.words.now c.check_words.ensures c.in-Err.is number c.untold.ensures
