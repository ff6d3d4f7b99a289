-- Document 02, CR 14: the decoder's record as 320 words, and the record that words hold. At
--     0   "layout 2"                                        10   "the number of open masters"
--     1   "the three allowances, strict or not"             11   "32 of ID, size known, size, start, data start, count"
--     5   "whether a greatest size is set, that size"      203   "the number of waiting Ends"
--     7   "position, settled, finished"                    204   "32 of ID, offset, count"
--                                                          300   "the rest"
-- "Absent values, empty places and the rest are 0."
use Rattle.std.specs.Prelude.{ℕ, zero, suc, Bool, cond, not, eqb, get_or, take, drop, replicate}
use mathlib.Core.List.{List, [], ◌∷◌, ◌++◌, map, flat_map}
use Rattle.basics.specs.Lists.{array_places, filled}
use Rattle.spec_util.specs.Walk.{no_tag}
use Rattle.spec_util.specs.declared.types.OpenTag.{OpenTag}
use Rattle.decoder_rules.specs.Record.{opens, waits, no_end}
use Rattle.decoder_rules.specs.declared.types.Settings.{Settings}
use Rattle.decoder_rules.specs.declared.types.TagDecoder.{TagDecoder}
use Rattle.decoder_rules.specs.declared.types.WaitingEnd.{WaitingEnd}

-- a record is so many words
abbrev pub word_count : ℕ
word_count = 320

-- so many of them are the rest
abbrev pub rest_count : ℕ
rest_count = 20

-- ---- a record's words

-- a yes-or-no word
abbrev pub yes_no : Bool → ℕ
yes_no b = cond b 1 0

-- a value that is there or not: 0 where it is absent
abbrev pub present : Bool → ℕ → ℕ
present there n = cond there n 0

-- "ID, size known, size, start, data start, count"
unfoldable pub master_words : OpenTag → List ℕ
master_words m = m.id ∷ yes_no m.known ∷ present m.known m.size ∷ m.tag_start ∷ m.data_start ∷ m.count ∷ []

-- "ID, offset, count"
unfoldable pub end_words : WaitingEnd → List ℕ
end_words e = e.id ∷ e.offset ∷ e.count ∷ []

-- what stands before the masters: settings, position, settled, finished, and how many masters are open
unfoldable pub front_words : Settings → ℕ → Bool → Bool → ℕ → List ℕ
front_words s position settled finished n =
    2
    ∷ yes_no s.allow_ids ∷ yes_no s.allow_hierarchy ∷ yes_no s.allow_oversized ∷ yes_no s.strict
    ∷ yes_no s.max_given ∷ present s.max_given s.max_size
    ∷ position ∷ yes_no settled ∷ yes_no finished
    ∷ n ∷ []

-- the words of a record
unfoldable pub decoder_words : TagDecoder → List ℕ
decoder_words d =
    front_words d.settings d.position d.settled d.finished d.open_count
    ++ (flat_map master_words (filled no_tag (opens d))
    ++ (d.waiting_count
    ∷ (flat_map end_words (filled no_end (waits d))
    ++ replicate rest_count 0)))

-- ---- the record of words

-- words as so many places of so many words each
unfoldable pub places : ℕ → ℕ → List ℕ → List (List ℕ)
places size zero w = []
places size (suc n) w = take size w ∷ places size n (drop size w)

-- the words of the 32 masters
abbrev pub masters_in : List ℕ → List (List ℕ)
masters_in w = places 6 array_places (drop 11 w)

-- the words of the 32 Ends
abbrev pub ends_in : List ℕ → List (List ℕ)
ends_in w = places 3 array_places (drop 204 w)

-- a yes-or-no word says no by 0
abbrev pub is_yes : ℕ → Bool
is_yes w = not (eqb w 0)

-- the master of the words of one place
unfoldable pub master_of : List ℕ → OpenTag
master_of w = record {
  id = get_or w 0 0;
  known = is_yes (get_or w 1 0);
  size = get_or w 2 0;
  tag_start = get_or w 3 0;
  data_start = get_or w 4 0;
  count = get_or w 5 0;
}

-- the End of the words of one place
unfoldable pub end_of : List ℕ → WaitingEnd
end_of w = record { id = get_or w 0 0; offset = get_or w 1 0; count = get_or w 2 0 }

-- the settings
unfoldable pub settings_of : List ℕ → Settings
settings_of w = record {
  allow_ids = is_yes (get_or w 1 0);
  allow_hierarchy = is_yes (get_or w 2 0);
  allow_oversized = is_yes (get_or w 3 0);
  strict = is_yes (get_or w 4 0);
  max_given = is_yes (get_or w 5 0);
  max_size = get_or w 6 0;
}

-- the record that words in layout 2 hold
unfoldable pub record_of : List ℕ → TagDecoder
record_of w = record {
  settings = settings_of w;
  position = get_or w 7 0;
  settled = is_yes (get_or w 8 0);
  finished = is_yes (get_or w 9 0);
  «open» = map master_of (masters_in w);
  open_count = get_or w 10 0;
  waiting = map end_of (ends_in w);
  waiting_count = get_or w 203 0;
}

-- ---- what storing leaves of a record

-- a master without a size that is not known
unfoldable pub clean_tag : OpenTag → OpenTag
clean_tag m = record {
  id = m.id;
  known = m.known;
  size = present m.known m.size;
  tag_start = m.tag_start;
  data_start = m.data_start;
  count = m.count;
}

-- the settings without a greatest size that is not set
unfoldable pub clean_settings : Settings → Settings
clean_settings s = record {
  allow_ids = s.allow_ids;
  allow_hierarchy = s.allow_hierarchy;
  allow_oversized = s.allow_oversized;
  strict = s.strict;
  max_given = s.max_given;
  max_size = present s.max_given s.max_size;
}

-- the record with 0 for absent values and in empty places
unfoldable pub cleaned : TagDecoder → TagDecoder
cleaned d = record {
  settings = clean_settings d.settings;
  position = d.position;
  settled = d.settled;
  finished = d.finished;
  «open» = map clean_tag (filled no_tag (opens d));
  open_count = d.open_count;
  waiting = filled no_end (waits d);
  waiting_count = d.waiting_count;
}
