-- `decoder_words::blocks::store`, by what the check of the words answers. Assumes nothing.
use Rattle.decoder_words.proofs.Answered.{taken_length, stores, store_refused}
use Rattle.decoder_words.proofs.blocks.store.Goals as goal

pub record_of-d-requires : goal.record_of-d-requires
record_of-d-requires c =
    taken_length c.args.words.now c.check_words.ensures c.in-Ok.is

pub returns-in-Ok : goal.returns-in-Ok
returns-in-Ok c =
    stores c.args.words.now c.check_words.ensures c.in-Ok.is c.record_of-d.ensures c.args.block.now c.store.ensures c.acceptance_code.ensures

pub returns-in-Err : goal.returns-in-Err
returns-in-Err c =
    store_refused c.args.words.now c.check_words.ensures c.in-Err.is c.args.block.now c.words_refused.ensures
