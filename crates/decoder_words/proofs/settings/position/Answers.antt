-- `decoder_words::settings::position`. Assumes nothing.
use Rattle.std.proofs.Common.{rules}
use Rattle.decoder_words.proofs.settings.position.Goals as goal

pub returns : goal.returns
returns c = c.tell.ensures (λ d. d.position) (λ d n p. search rules)
