-- `decoder_words::settings::set_max_allowable_tag_size`. Assumes nothing.
use Rattle.std.proofs.Common.{rules}
use Rattle.decoder_rules.specs.Settings.{limited_to}
use Rattle.decoder_words.proofs.settings.set_max_allowable_tag_size.Goals as goal

pub returns : goal.returns
returns c = c.set.ensures (λ d. limited_to d c.args.size) (λ d e p. search rules)
