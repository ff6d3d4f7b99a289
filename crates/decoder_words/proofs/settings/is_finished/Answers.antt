-- `decoder_words::settings::is_finished`. Assumes nothing.
use Rattle.std.proofs.Common.{rules}
use Rattle.decoder_rules.specs.Settings.{is_finished}
use Rattle.stored_decoder.specs.Words.{yes_no}
use Rattle.decoder_words.proofs.settings.is_finished.Goals as goal

pub returns : goal.returns
returns c = c.tell.ensures (λ d. yes_no (is_finished d)) (λ d n p. search rules)
