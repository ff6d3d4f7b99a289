-- `decoder_words::settings::set_strict`. Assumes nothing.
use Rattle.std.proofs.Common.{rules}
use Rattle.decoder_rules.specs.Settings.{reading}
use Rattle.decoder_words.proofs.settings.set_strict.Goals as goal

pub returns : goal.returns
returns c = c.set.ensures (λ d. reading d c.args.strict) (λ d e p. search rules)
