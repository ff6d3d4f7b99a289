-- The settings of a decoder, and what it tells of itself.
use Rattle.std.specs.Prelude.{ℕ, Bool, true, false, ◌&&◌, eqb, None, Option, Some}
use Rattle.decoder_rules.specs.Record.{with_settings}
use Rattle.decoder_rules.specs.declared.types.Settings.{Settings}
use Rattle.decoder_rules.specs.declared.types.TagDecoder.{TagDecoder}

-- the settings with exactly these tests switched off: unknown IDs (15), hierarchy (16), oversized children (18)
abbrev pub with_allowances : Settings → Bool → Bool → Bool → Settings
with_allowances s ids hierarchy oversized =
    record { allow_ids = ids; allow_hierarchy = hierarchy; allow_oversized = oversized; strict = s.strict; max_given = s.max_given; max_size = s.max_size }

-- the settings read strictly or as ported; document 02, CR 11: "A strict reading beside the ported one."
abbrev pub with_strict : Settings → Bool → Settings
with_strict s strict =
    record { allow_ids = s.allow_ids; allow_hierarchy = s.allow_hierarchy; allow_oversized = s.allow_oversized; strict = strict; max_given = s.max_given; max_size = s.max_size }

-- the settings with another greatest size, or none
abbrev pub with_greatest : Settings → Bool → ℕ → Settings
with_greatest s given n =
    record { allow_ids = s.allow_ids; allow_hierarchy = s.allow_hierarchy; allow_oversized = s.allow_oversized; strict = s.strict; max_given = given; max_size = n }

-- the record with exactly these tests switched off
abbrev pub allowing : TagDecoder → Bool → Bool → Bool → TagDecoder
allowing d ids hierarchy oversized = with_settings d (with_allowances d.settings ids hierarchy oversized)

-- the record that reads strictly from here on, or as ported
abbrev pub reading : TagDecoder → Bool → TagDecoder
reading d strict = with_settings d (with_strict d.settings strict)

-- the record with this greatest size, or none
abbrev pub limited_to : TagDecoder → Option ℕ → TagDecoder
limited_to d None = with_settings d (with_greatest d.settings false 0)
limited_to d (Some n) = with_settings d (with_greatest d.settings true n)

-- whether the end of input has come and every End is handed out
abbrev pub is_finished : TagDecoder → Bool
is_finished d = d.finished && eqb d.waiting_count 0
