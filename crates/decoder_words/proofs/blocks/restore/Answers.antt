-- `decoder_words::blocks::restore`, by what the block holds. Assumes nothing.
use Rattle.std.proofs.Common.{rules}
use Rattle.decoder_words.proofs.Answered.{restore_refused}
use Rattle.decoder_words.proofs.blocks.restore.Goals as goal

pub returns-in-Err : goal.returns-in-Err
returns-in-Err c = search (restore_refused c.args.words.now c.args.block.now, rules)
