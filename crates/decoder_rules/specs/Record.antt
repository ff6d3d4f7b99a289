-- The decoder's record: what stands in it, and how it moves. One definition for each group of fields that a call
-- changes.
use Rattle.std.specs.Prelude.{ℕ, zero, suc, ◌+◌, ◌-◌, ◌^◌, Bool, true, false, cond, List, [], ◌∷◌, ◌++◌, map, reverse, length, get_or, take, drop, set, replicate}
use Rattle.basics.specs.Lists.{filled}
use Rattle.table.specs.declared.types.PathPart.{PathPart}
use Rattle.table.specs.declared.types.PathPart.TheVariants.{Id, Global}
use Rattle.spec_util.specs.Walk.{most_open, open_tag, no_tag}
use Rattle.spec_util.specs.declared.types.OpenTag.{OpenTag}
use Rattle.decoder_rules.specs.declared.types.Settings.{Settings}
use Rattle.decoder_rules.specs.declared.types.WaitingEnd.{WaitingEnd}
use Rattle.decoder_rules.specs.declared.types.TagDecoder.{TagDecoder}

-- ---- limits

-- the greatest position, 2^62
abbrev pub farthest : ℕ
farthest = 2 ^ 62

-- a known size in a header is below 2^56
abbrev pub size_limit : ℕ
size_limit = 2 ^ 56

-- the greatest size that a fresh decoder takes: "4,000,000,000 at first"
abbrev pub first_greatest_size : ℕ
first_greatest_size = 4_000_000_000

-- ---- what stands in it

-- the open masters, from the outermost on
abbrev pub opens : TagDecoder → List OpenTag
opens d = take d.open_count d.«open»

-- the Ends that wait, in the order in which they are handed out
abbrev pub waits : TagDecoder → List WaitingEnd
waits d = take d.waiting_count d.waiting

-- the first place past a master of known size
abbrev pub end_of : OpenTag → ℕ
end_of m = m.data_start + m.size

-- the End of a master: its ID, where it started, and, document 02, CR 10, "how many children it had"
unfoldable pub end_for : OpenTag → WaitingEnd
end_for m = record { id = m.id; offset = m.tag_start; count = m.count }

-- what an empty place of the waiting Ends holds
abbrev pub no_end : WaitingEnd
no_end = record { id = 0; offset = 0; count = 0 }

-- the Ends of all above the first k, innermost first
unfoldable pub ends_from : TagDecoder → ℕ → List WaitingEnd
ends_from d k = map end_for (reverse (drop k (opens d)))

-- ---- how it moves

-- the settings of a fresh decoder: nothing allowed, not strict, and a size at most 4,000,000,000
abbrev pub first_settings : Settings
first_settings = record {
  allow_ids = false;
  allow_hierarchy = false;
  allow_oversized = false;
  strict = false;
  max_given = true;
  max_size = first_greatest_size;
}

-- a fresh decoder: nothing read, nothing open, nothing waits
abbrev pub fresh : TagDecoder
fresh = record {
  settings = first_settings;
  position = 0;
  settled = false;
  finished = false;
  «open» = replicate most_open no_tag;
  open_count = 0;
  waiting = replicate most_open no_end;
  waiting_count = 0;
}

-- the record with other settings
unfoldable pub with_settings : TagDecoder → Settings → TagDecoder
with_settings d s = record {
  settings = s;
  position = d.position;
  settled = d.settled;
  finished = d.finished;
  «open» = d.«open»;
  open_count = d.open_count;
  waiting = d.waiting;
  waiting_count = d.waiting_count;
}

-- the record with these places for open masters, so many of them in use
unfoldable pub with_open : TagDecoder → List OpenTag → ℕ → TagDecoder
with_open d l n = record {
  settings = d.settings;
  position = d.position;
  settled = d.settled;
  finished = d.finished;
  «open» = l;
  open_count = n;
  waiting = d.waiting;
  waiting_count = d.waiting_count;
}

-- the record with these places for waiting Ends, so many of them in use
unfoldable pub with_waiting : TagDecoder → List WaitingEnd → ℕ → TagDecoder
with_waiting d l n = record {
  settings = d.settings;
  position = d.position;
  settled = d.settled;
  finished = d.finished;
  «open» = d.«open»;
  open_count = d.open_count;
  waiting = l;
  waiting_count = n;
}

-- the record with another position, settled or not, finished or not
unfoldable pub with_notes : TagDecoder → ℕ → Bool → Bool → TagDecoder
with_notes d p s f = record {
  settings = d.settings;
  position = p;
  settled = s;
  finished = f;
  «open» = d.«open»;
  open_count = d.open_count;
  waiting = d.waiting;
  waiting_count = d.waiting_count;
}

-- the record at another position
abbrev pub at_position : TagDecoder → ℕ → TagDecoder
at_position d p = with_notes d p d.settled d.finished

-- the master that a part of a path implies: "size Unknown, offsets 0"; a Global implies none
abbrev pub implied : PathPart → OpenTag
implied (Id x) = open_tag x false 0 0 0
implied (Global min max) = no_tag

-- "the stack becomes those IDs, size Unknown, offsets 0". So D5, an Amount alone (`A2 81 78`), leaves Session and Feed
-- open, which have had no Start, and the end of input hands out their Ends, at 0 (event_list/proofs/Starred.antt)
unfoldable pub settled_to : TagDecoder → List PathPart → TagDecoder
settled_to d path = with_open (with_notes d d.position true d.finished) (filled no_tag (map implied path)) (length path)

-- a master more, at the top
unfoldable pub opened : TagDecoder → OpenTag → TagDecoder
opened d m = with_open d (set d.«open» d.open_count m) (d.open_count + 1)

-- the masters above the first k close: of their Ends the first is handed out, and the others wait
unfoldable pub closed_to : TagDecoder → ℕ → TagDecoder
closed_to d k =
    with_waiting (with_open d (filled no_tag (take k (opens d))) k) (filled no_end (drop 1 (ends_from d k))) (d.open_count - k - 1)

-- the first waiting End is handed out
unfoldable pub handed_out : TagDecoder → TagDecoder
handed_out d = with_waiting d (drop 1 d.waiting ++ (no_end ∷ [])) (d.waiting_count - 1)

-- a master with one child more
unfoldable pub with_one_more : OpenTag → OpenTag
with_one_more m = record { id = m.id; known = m.known; size = m.size; tag_start = m.tag_start; data_start = m.data_start; count = m.count + 1 }

-- of these places n are in use: the last of those, the innermost master, has one child more
unfoldable pub counted_last : ℕ → List OpenTag → List OpenTag
counted_last zero l = l
counted_last (suc n) l = set l n (with_one_more (get_or l n no_tag))

-- a Start or a Data is handed out: it counts in the innermost open master, where one is open. Document 02, CR 10: "the
-- number of Starts and Data whose innermost open master it was"
unfoldable pub counted : TagDecoder → TagDecoder
counted d = with_open d (counted_last d.open_count d.«open») d.open_count

-- a master of known size that is larger by n
abbrev pub larger : ℕ → OpenTag → OpenTag
larger n m = record { id = m.id; known = true; size = m.size + n; tag_start = m.tag_start; data_start = m.data_start; count = m.count }

-- a master whose size, if it is known, is larger by n
unfoldable pub size_grown : ℕ → OpenTag → OpenTag
size_grown n m = cond m.known (larger n m) m

-- "every open known size grows by the bytes passed over"
unfoldable pub with_sizes_grown : TagDecoder → ℕ → TagDecoder
with_sizes_grown d n = with_open d (map (size_grown n) (opens d) ++ drop d.open_count d.«open») d.open_count
