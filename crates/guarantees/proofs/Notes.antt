-- The settling note that a call leaves; for a recovery the one that the places up to its end leave. Assumes nothing.
use Prim.Native.Nat.{ℕ, suc}
use mathlib.Core.List.{List}
use lib.ListN.{length}
use Rattle.table.specs.Table.{Entry, table_of}
use Rattle.decoder_rules.specs.OneCall.{check_record10to12}
use Rattle.decoder_rules.specs.Deciding.{decide}
use Rattle.decoder_rules.specs.FirstPlace.{note_before, first_place}
use Rattle.decoder_rules.specs.declared.types.TagDecoder.{TagDecoder}
use Rattle.guarantees.specs.Calls.{Call, decoding, ending, recovering, allow, strictly, limit}
use Rattle.std.specs.Prelude.{Err, None, Ok, Option, Result, ⊤}
use Rattle.decoder_rules.specs.declared.types.DecodeError.{DecodeError}
use Rattle.table.specs.declared.types.Path.{Path}

-- the note of a search
abbrev pub note_of_search : List ℕ → List Entry → TagDecoder → List ℕ → Option Path
note_of_search ps t d s = note_before t d s (suc (first_place ps t d s))

-- the note of a recovery, where no refusal comes first
abbrev pub search_note_or : List ℕ → List Entry → TagDecoder → List ℕ → Result ⊤ DecodeError → Option Path
search_note_or ps t d s (Ok _) = note_of_search ps t d s
search_note_or ps t d s (Err e) = None

module _ (es ps : List ℕ) where
  -- the note that a call leaves
  abbrev pub note_of : TagDecoder → Call → Option Path
  note_of d (decoding s) = (decide es ps d s).note
  note_of d (ending s) = (decide es ps d s).note
  note_of d (recovering s) = search_note_or ps (table_of es ps) d s (check_record10to12 es ps d (length s))
  note_of d (allow ids hierarchy oversized) = None
  note_of d (strictly b) = None
  note_of d (limit n) = None
