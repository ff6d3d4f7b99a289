-- Document 02, CR 1: where as many bytes as are missing are never enough.
use Rattle.std.specs.Prelude.{ℕ, ◌-◌, ◌*◌, ◌^◌, ◌<◌, true, false, List, ◌++◌, ◌≡◌, length, replicate}
use Rattle.tools.specs.Bytes.{Octets}
use Rattle.table.specs.Table.{table_of, data_type_of, is_master}
use Rattle.tag_parse.specs.Header.{numeric, read_header, header_missing}
use Rattle.tag_parse.specs.Missing.{SizeBegun, size_length, size_with}
use Rattle.decoder_rules.specs.Deciding.{action_needs_more, decide}
use Rattle.decoder_rules.specs.declared.types.TagDecoder.{TagDecoder}

-- The ID is whole, the size vint is begun and not whole, and its data bits that are there are neither all 0 nor all 1:
-- filled up with zeros it is not 0, filled up with FF bytes not Unknown. The element is text, binary or raw. Whatever
-- bytes are lent besides, as many as are missing, the call waits for a payload.
pub record Stuck (es ps : List ℕ) (d : TagDecoder) (s : List ℕ) : Type 0 where
  pub begun : SizeBegun s
  pub no_master_lem : is_master (data_type_of (table_of es ps) begun.x) ≡ false
  pub no_number : numeric (data_type_of (table_of es ps) begun.x) ≡ false
  pub not_0 : 0 < size_with begun (replicate (header_missing (read_header (table_of es ps) s)) 0)
  pub not_unknown : size_with begun (replicate (header_missing (read_header (table_of es ps) s)) 255) < 2 ^ (7 * size_length begun) - 1
  pub never : (further : List ℕ) → Octets further → length further ≡ header_missing (read_header (table_of es ps) s)
      → action_needs_more (decide es ps d (s ++ further)).action ≡ true
