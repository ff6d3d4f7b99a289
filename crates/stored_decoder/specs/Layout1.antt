-- Layout 1 of document 02, CR 14, as it was stored: it "lacks the strict word and the child count words", and the later
-- words are moved up. No call stores it; this says what its blocks hold.
use Rattle.std.specs.Prelude.{ℕ, false, replicate}
use mathlib.Core.List.{List, [], ◌∷◌, ◌++◌, map, flat_map}
use Rattle.basics.specs.Lists.{filled}
use Rattle.spec_util.specs.Walk.{no_tag}
use Rattle.spec_util.specs.declared.types.OpenTag.{OpenTag}
use Rattle.decoder_rules.specs.Record.{opens, waits, no_end}
use Rattle.decoder_rules.specs.Settings.{with_strict}
use Rattle.decoder_rules.specs.declared.types.TagDecoder.{TagDecoder}
use Rattle.decoder_rules.specs.declared.types.WaitingEnd.{WaitingEnd}
use Rattle.stored_decoder.specs.Words.{yes_no, present}

-- a master without its count
unfoldable pub master_words1 : OpenTag → List ℕ
master_words1 m = m.id ∷ yes_no m.known ∷ present m.known m.size ∷ m.tag_start ∷ m.data_start ∷ []

-- an End without its count
unfoldable pub end_words1 : WaitingEnd → List ℕ
end_words1 e = e.id ∷ e.offset ∷ []

-- the words of a record in layout 1
unfoldable pub layout1_words : TagDecoder → List ℕ
layout1_words d =
    (1
    ∷ yes_no d.settings.allow_ids ∷ yes_no d.settings.allow_hierarchy ∷ yes_no d.settings.allow_oversized
    ∷ yes_no d.settings.max_given ∷ present d.settings.max_given d.settings.max_size
    ∷ d.position ∷ yes_no d.settled ∷ yes_no d.finished
    ∷ d.open_count ∷ [])
    ++ (flat_map master_words1 (filled no_tag (opens d))
    ++ (d.waiting_count
    ∷ (flat_map end_words1 (filled no_end (waits d))
    ++ replicate 85 0)))

-- a master, and an End, with the count 0
unfoldable pub uncounted : OpenTag → OpenTag
uncounted m = record { id = m.id; known = m.known; size = m.size; tag_start = m.tag_start; data_start = m.data_start; count = 0 }

unfoldable pub uncounted_end : WaitingEnd → WaitingEnd
uncounted_end e = record { id = e.id; offset = e.offset; count = 0 }

-- the record "read as ported, counts 0"
unfoldable pub as_ported : TagDecoder → TagDecoder
as_ported d = record {
  settings = with_strict d.settings false;
  position = d.position;
  settled = d.settled;
  finished = d.finished;
  «open» = map uncounted d.«open»;
  open_count = d.open_count;
  waiting = map uncounted_end d.waiting;
  waiting_count = d.waiting_count;
}
