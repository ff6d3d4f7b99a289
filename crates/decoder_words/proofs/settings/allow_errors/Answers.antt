-- `decoder_words::settings::allow_errors`. Assumes nothing.
use Rattle.std.proofs.Common.{rules}
use Rattle.decoder_rules.specs.Settings.{allowing}
use Rattle.decoder_words.proofs.settings.allow_errors.Goals as goal

pub returns : goal.returns
returns c = c.set.ensures (λ d. allowing d c.args.ids c.args.hierarchy c.args.oversized) (λ d e p. search rules)
