-- `tag_decoder::settings::set_max_allowable_tag_size`: two fields set. Assumes nothing.
use Prim.Native.Nat.{ℕ}
use mathlib.Core.Path.{◌≡◌, refl}
use Rattle.std.specs.Prelude.{Option, None, Some}
use Rattle.std.specs.Option.{is_some, unwrap_or}
use Rattle.decoder_rules.specs.Record.{with_settings}
use Rattle.decoder_rules.specs.Settings.{with_greatest, limited_to}
use Rattle.decoder_rules.specs.declared.types.TagDecoder.{TagDecoder}
use Rattle.tag_decoder.proofs.settings.set_max_allowable_tag_size.Goals as goal

-- both settings at once
limits : (d : TagDecoder) (size : Option ℕ) → limited_to d size ≡ with_settings d (with_greatest d.settings (is_some size) (unwrap_or size 0))
limits d None = refl
limits d (Some n) = refl

pub returns : goal.returns
unfolding with_settings
returns c = rw (limits c.args.d c.args.size, c.is_some-d.ensures, c.unwrap_or-d.ensures)
