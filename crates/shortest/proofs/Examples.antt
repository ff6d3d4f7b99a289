-- Why floats of fewer bytes and unknown sizes are left out: with them fewer bytes are read as the same items. On
-- document 01's bench table, computed from the definitions. Assumes nothing.
use Prim.Native.Nat.{ℕ}
use mathlib.Core.Path.{◌≡◌, refl}
use mathlib.Core.Bool.{true, false}
use mathlib.Core.List.{List, [], ◌∷◌}
use lib.ListN.{length, replicate}
use Rattle.basics.specs.Lists.{every}
use Rattle.table.specs.BenchTable.{bench_entries, bench_parts, bench}
use Rattle.tag_parse.specs.declared.types.TagValue.TheVariants as value
use Rattle.decoder_rules.specs.declared.types.Event.{Event}
use Rattle.decoder_rules.specs.declared.types.Event.TheVariants.{Start, End, Data}
use Rattle.decoder_rules.proofs.Computing.{rules_compute}
use Rattle.tag_writer.specs.Counts.{children_in, element_counts}
use Rattle.tag_writer.specs.Items.{marks_of}
use Rattle.tag_writer.specs.ReadBack.{said_counts, IsReadAs}
use Rattle.tag_writer.specs.Write.{write}
use Rattle.tag_writer.proofs.Computing.{writer_computes}
use Rattle.written.specs.Cut.{written}
use Rattle.shortest.specs.Shortest.{is_plain}
use Rattle.std.specs.Prelude.{Ok}

-- the items are written in this many bytes, and other, fewer ones are read as them, though not all of them plainly
pub record Shorter (items vals : List ℕ) (size : ℕ) (other : List ℕ) (fewer : ℕ) : Type 0 where
  pub is_written : (write bench_entries bench_parts items vals (replicate size 7)).0 ≡ Ok size
  pub is_read : IsReadAs false bench_entries bench_parts other (marks_of vals items)
  pub count : length other ≡ fewer
  pub not_plain : every (is_plain bench other) is_read.events ≡ false

-- ---- floats

-- a Session, in it a Feed, in it a Rate of 8 bytes
abbrev rate_items : List ℕ
rate_items =
    0 ∷ 0x4E01 ∷ 0 ∷ 0
    ∷ 0 ∷ 0xA1 ∷ 0 ∷ 0
    ∷ 5 ∷ 0xA6 ∷ 0 ∷ 8
    ∷ 6 ∷ 0xA1 ∷ 0 ∷ 0
    ∷ 6 ∷ 0x4E01 ∷ 0 ∷ 0
    ∷ []

abbrev rate_events : ℕ → List Event
rate_events bits =
    Start 0x4E01 0
    ∷ Start 0xA1 3
    ∷ Data 0xA6 5 (value.Float bits)
    ∷ End (record { id = 0xA1; offset = 3; count = 1 })
    ∷ End (record { id = 0x4E01; offset = 0; count = 1 })
    ∷ []

-- the Rate 0.0 in no byte: 7 bytes where 15 are written
pub zero_in_none : Shorter rate_items (replicate 8 0) 15 (0x4E ∷ 0x01 ∷ 0x84 ∷ 0xA1 ∷ 0x82 ∷ 0xA6 ∷ 0x80 ∷ []) 7
unfolding rules_compute writer_computes said_counts children_in element_counts
zero_in_none = record {
  is_written = refl;
  is_read = record { events = rate_events 0; told = refl; same = refl; counts = refl; all_read = refl; finish = refl };
  count = refl;
  not_plain = refl;
}

-- what is written of it is read plainly
pub written_plainly : every (is_plain bench (written bench_entries bench_parts rate_items (replicate 8 0) (replicate 15 7) 15)) (rate_events 0) ≡ true
unfolding rules_compute writer_computes
written_plainly = refl

-- the Rate 1.0 in 4 bytes: 11 bytes
pub one_in_four : Shorter rate_items (0x3F ∷ 0xF0 ∷ replicate 6 0) 15 (0x4E ∷ 0x01 ∷ 0x88 ∷ 0xA1 ∷ 0x86 ∷ 0xA6 ∷ 0x84 ∷ 0x3F ∷ 0x80 ∷ 0x00 ∷ 0x00 ∷ []) 11
unfolding rules_compute writer_computes said_counts children_in element_counts
one_in_four = record {
  is_written = refl;
  is_read = record { events = rate_events 0x3FF0_0000_0000_0000; told = refl; same = refl; counts = refl; all_read = refl; finish = refl };
  count = refl;
  not_plain = refl;
}

-- a Session, in it a Feed, in it a Rate and a Blob of 115 bytes
abbrev rate_and_blob_items : List ℕ
rate_and_blob_items =
    0 ∷ 0x4E01 ∷ 0 ∷ 0
    ∷ 0 ∷ 0xA1 ∷ 0 ∷ 0
    ∷ 5 ∷ 0xA6 ∷ 0 ∷ 8
    ∷ 4 ∷ 0xA4 ∷ 8 ∷ 115
    ∷ 6 ∷ 0xA1 ∷ 0 ∷ 0
    ∷ 6 ∷ 0x4E01 ∷ 0 ∷ 0
    ∷ []

-- the Rate 0.0 in no byte, and with it the sizes of the Feed and of the Session in one byte each: one float makes 10
-- bytes
pub sizes_with_it : Shorter rate_and_blob_items (replicate 123 0) 134 (0x4E ∷ 0x01 ∷ 0xF9 ∷ 0xA1 ∷ 0xF7 ∷ 0xA6 ∷ 0x80 ∷ 0xA4 ∷ 0xF3 ∷ replicate 115 0) 124
unfolding rules_compute writer_computes said_counts children_in element_counts
sizes_with_it = record {
  is_written = refl;
  is_read = record {
    events =
        Start 0x4E01 0
        ∷ Start 0xA1 3
        ∷ Data 0xA6 5 (value.Float 0)
        ∷ Data 0xA4 7 (value.Binary (record { begin = 9; end = 124 }))
        ∷ End (record { id = 0xA1; offset = 3; count = 2 })
        ∷ End (record { id = 0x4E01; offset = 0; count = 1 })
        ∷ [];
    told = refl;
    same = refl;
    counts = refl;
    all_read = refl;
    finish = refl;
  };
  count = refl;
  not_plain = refl;
}

-- ---- unknown sizes

-- a Session, in it a Feed, in it a Blob of 125 bytes
abbrev blob_items : List ℕ
blob_items =
    0 ∷ 0x4E01 ∷ 0 ∷ 0
    ∷ 0 ∷ 0xA1 ∷ 0 ∷ 0
    ∷ 4 ∷ 0xA4 ∷ 0 ∷ 125
    ∷ 6 ∷ 0xA1 ∷ 0 ∷ 0
    ∷ 6 ∷ 0x4E01 ∷ 0 ∷ 0
    ∷ []

-- the Feed of unknown size, which a byte says, where its 127 bytes take two: 133 bytes where 134 are written
pub unknown_in_one : Shorter blob_items (replicate 125 0) 134 (0x4E ∷ 0x01 ∷ 0x40 ∷ 0x81 ∷ 0xA1 ∷ 0xFF ∷ 0xA4 ∷ 0xFD ∷ replicate 125 0) 133
unfolding rules_compute writer_computes said_counts children_in element_counts
unknown_in_one = record {
  is_written = refl;
  is_read = record {
    events =
        Start 0x4E01 0
        ∷ Start 0xA1 4
        ∷ Data 0xA4 6 (value.Binary (record { begin = 8; end = 133 }))
        ∷ End (record { id = 0xA1; offset = 4; count = 1 })
        ∷ End (record { id = 0x4E01; offset = 0; count = 1 })
        ∷ [];
    told = refl;
    same = refl;
    counts = refl;
    all_read = refl;
    finish = refl;
  };
  count = refl;
  not_plain = refl;
}
