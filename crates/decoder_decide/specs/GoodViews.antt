-- What helpers' contracts use: what the tests have shown where a header is judged, so that no sum wraps and no place is
-- missed.
use Rattle.std.specs.Prelude.{ℕ, ◌≤◌, ◌<◌, Bool, true, cond, ◌&&◌, ◌||◌, List, ◌≡◌, length}
use Rattle.table.specs.Shape.{most_parts}
use Rattle.table.specs.Table.{table_of, parts_of, parts_in, path_of, is_typed}
use Rattle.tag_parse.specs.declared.types.TagHeader.{TagHeader}
use Rattle.spec_util.specs.Walk.{most_open}
use Rattle.decoder_rules.specs.Record.{farthest, size_limit}
use Rattle.decoder_rules.specs.OneCall.{good_form}
use Rattle.decoder_rules.specs.declared.types.DecodeError.{DecodeError}
use Rattle.decoder_rules.specs.declared.types.DecodeError.TheVariants as error
use Rattle.decoder_rules.specs.declared.types.TagDecoder.{TagDecoder}
use Rattle.decoder_look.specs.Summary.{unbounded, header_view}
use Rattle.decoder_decide.specs.Bounds.{longest_header, FitsKind}
use Rattle.decoder_decide.specs.Parts.{known_size}
use Rattle.decoder_look.specs.declared.summary.Summary.{Summary}
use Rattle.decoder_look.specs.declared.summary.HeaderView.{HeaderView}

-- refusals 11 and 12 did not come
pub record GoodRecord (d : TagDecoder) : Type 0 where
  pub few_open : d.open_count ≤ most_open
  pub few_waiting : d.waiting_count ≤ most_open
  pub near : d.position ≤ farthest

-- the same of what was seen of the record
pub record GoodView (s : HeaderView) : Type 0 where
  pub few_open : s.count ≤ most_open
  pub near : s.position ≤ farthest

-- a look that found the state good has seen so
abbrev pub SoundSummary : Summary → Type 0
SoundSummary k = k.is_state_good ≡ true → GoodView k.view

-- what is seen once a record has settled: so many masters, none of known size
abbrev pub settled_view : HeaderView → ℕ → HeaderView
settled_view s n = record {
  settings = s.settings;
  position = s.position;
  settled = true;
  count = n;
  least_end = unbounded;
}

-- a promise that is made of every record that is seen so, whatever its masters
abbrev pub ForSettled : HeaderView → (TagDecoder → Type 0) → Type 0
ForSettled s P = (d : TagDecoder) → s ≡ header_view d → P d

-- a header that was read with a table of good shape
pub record GoodHeader (es ps : List ℕ) (h : TagHeader) : Type 0 where
  pub short : h.len ≤ longest_header
  pub small : known_size h.size < size_limit
  pub fits : FitsKind h.kind h.size
  pub path : parts_in (parts_of ps) h.path ≡ path_of (table_of es ps) h.id
  pub few : length (parts_in (parts_of ps) h.path) ≤ most_parts

-- step 6, of the settings that it reads
abbrev pub is_id_allowed : Bool → Bool → TagHeader → Bool
is_id_allowed strict allowed h = good_form strict h.id && (is_typed h.kind || allowed)

-- what is refused where not
abbrev pub id_refusal : Bool → ℕ → DecodeError
id_refusal strict x = cond (good_form strict x) error.InvalidTagId error.InvalidIdForm
