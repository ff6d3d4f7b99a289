-- How the decoder of a program begins. Assumes nothing.
use mathlib.Core.Path.{◌≡◌, refl}
use mathlib.Core.Bool.{false}
use Rattle.decoder_rules.specs.Record.{fresh, with_settings}
use Rattle.event_list.specs.Reading.{begun}

-- as ported it is a fresh one
pub ported_fresh : begun false ≡ fresh
unfolding with_settings
ported_fresh = refl
