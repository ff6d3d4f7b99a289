-- D1 written: it has one root, so that it is whole and no cut of it looks so; lent at once, in four pieces and byte by
-- byte, it is told alike. Computed from the definitions. Assumes nothing.
use Prim.Native.Nat.{ℕ}
use mathlib.Core.Path.{◌≡◌, refl}
use mathlib.Core.Bool.{true, false}
use mathlib.Core.List.{List, [], ◌∷◌, ◌++◌, map}
use lib.ListN.{replicate}
use Rattle.tools.specs.Bytes.{Octets}
use Rattle.tools.proofs.BigEndian.{octets_be_bytes}
use Rattle.table.specs.BenchTable.{bench_entries, bench_parts}
use Rattle.tag_parse.specs.declared.types.TagValue.TheVariants.{UnsignedInt, Utf8}
use Rattle.decoder_rules.specs.Record.{fresh}
use Rattle.decoder_rules.specs.Run.{Told, event, need_more, told_by, decode_calls}
use Rattle.decoder_rules.specs.declared.types.Event.TheVariants.{Start, End, Data}
use Rattle.decoder_rules.proofs.Computing.{rules_compute}
use Rattle.joining.specs.Joining.{Outcome, events_of, run_for, run, in_pieces}
use Rattle.tag_writer.specs.Items.{marks_of, run_of}
use Rattle.tag_writer.proofs.Computing.{writer_computes}
use Rattle.whole.specs.Night.{IsWhole, IsOneWhole}
use Rattle.written.specs.Cut.{written, is_one_root, NoCutLooksWhole}
use Rattle.written.specs.Pieces.{lent_in_pieces}
use Rattle.written.specs.Whole.{masters_in, masters_in_roots}
use Rattle.written.proofs.Cut.{written_cut}
use Rattle.written.proofs.Whole.{written_whole, written_one_whole}

-- D1's items: a Session, in it a Feed, in it an Amount of 120 and the Unit ml
abbrev items : List ℕ
items =
    0 ∷ 0x4E01 ∷ 0 ∷ 0
    ∷ 0 ∷ 0xA1 ∷ 0 ∷ 0
    ∷ 1 ∷ 0xA2 ∷ 0 ∷ 8
    ∷ 3 ∷ 0xA3 ∷ 8 ∷ 2
    ∷ 6 ∷ 0xA1 ∷ 0 ∷ 0
    ∷ 6 ∷ 0x4E01 ∷ 0 ∷ 0
    ∷ []

abbrev vals : List ℕ
vals = 0 ∷ 0 ∷ 0 ∷ 0 ∷ 0 ∷ 0 ∷ 0 ∷ 120 ∷ 0x6D ∷ 0x6C ∷ []

abbrev d1 : List ℕ
d1 = 0x4E ∷ 0x01 ∷ 0x89 ∷ 0xA1 ∷ 0x87 ∷ 0xA2 ∷ 0x81 ∷ 0x78 ∷ 0xA3 ∷ 0x82 ∷ 0x6D ∷ 0x6C ∷ []

-- the pieces of D1 that come after its first two bytes, the first of them empty
abbrev after_two : List (List ℕ)
after_two = [] ∷ (0x89 ∷ 0xA1 ∷ 0x87 ∷ 0xA2 ∷ 0x81 ∷ []) ∷ (0x78 ∷ 0xA3 ∷ 0x82 ∷ 0x6D ∷ 0x6C ∷ []) ∷ []

-- what the calls tell of it
abbrev told : List Told
told =
    event (Start 0x4E01 0)
    ∷ event (Start 0xA1 3)
    ∷ event (Data 0xA2 5 (UnsignedInt 120))
    ∷ event (Data 0xA3 8 (Utf8 (record { begin = 10; end = 12 })))
    ∷ event (End (record { id = 0xA1; offset = 3; count = 2 }))
    ∷ event (End (record { id = 0x4E01; offset = 0; count = 1 }))
    ∷ need_more 2
    ∷ []

-- what a run tells
abbrev told_in : Outcome → List Told
told_in o = map event (events_of o) ++ (told_by o.last ∷ [])

-- a Session with a Void of 2 bytes and two Feeds in it, the second with a Void too
abbrev with_voids : List ℕ
with_voids =
    0 ∷ 0x4E01 ∷ 0 ∷ 0
    ∷ 4 ∷ 0xEC ∷ 0 ∷ 2
    ∷ 0 ∷ 0xA1 ∷ 0 ∷ 0
    ∷ 6 ∷ 0xA1 ∷ 0 ∷ 0
    ∷ 0 ∷ 0xA1 ∷ 0 ∷ 0
    ∷ 4 ∷ 0xEC ∷ 0 ∷ 2
    ∷ 6 ∷ 0xA1 ∷ 0 ∷ 0
    ∷ 6 ∷ 0x4E01 ∷ 0 ∷ 0
    ∷ []

-- each byte of a list as a piece
unfoldable pub bytewise : List ℕ → List (List ℕ)
bytewise [] = []
bytewise (x ∷ s) = (x ∷ []) ∷ bytewise s

pub record Cases : Type 0 where
  pub is_d1 : written bench_entries bench_parts items vals (replicate 14 7) 12 ≡ d1
  pub one_root : is_one_root (run_of (marks_of vals items)) ≡ true
  -- two roots, or a value as the root, are not one master
  pub two_roots : is_one_root (run_of (marks_of vals (items ++ items))) ≡ false
  pub no_master_lem : is_one_root (run_of (marks_of vals (4 ∷ 0xEC ∷ 0 ∷ 2 ∷ []))) ≡ false
  -- the feeds are the masters directly in the root, not the values there
  pub feeds : masters_in_roots (run_of (marks_of vals items)) ≡ 1
  pub feeds_beside_a_void : masters_in_roots (run_of (marks_of vals with_voids)) ≡ 2
  pub at_once : map (λ c. c.told) (decode_calls 7 bench_entries bench_parts fresh d1).calls ≡ told
  pub in_four : told_in (lent_in_pieces false bench_entries bench_parts (0x4E ∷ 0x01 ∷ []) after_two) ≡ told
  pub byte_by_byte : told_in (lent_in_pieces false bench_entries bench_parts [] (bytewise d1)) ≡ told

-- they hold
pub cases : Cases
unfolding rules_compute writer_computes run_for run in_pieces bytewise masters_in masters_in_roots
cases = record { is_d1 = refl; one_root = refl; two_roots = refl; no_master_lem = refl; feeds = refl; feeds_beside_a_void = refl; at_once = refl; in_four = refl; byte_by_byte = refl }

-- so no cut of D1 looks whole
pub d1_cut : NoCutLooksWhole bench_entries bench_parts (written bench_entries bench_parts items vals (replicate 14 7) 12)
unfolding rules_compute writer_computes
d1_cut = written_cut bench_entries bench_parts items vals (replicate 14 7) 12 refl cases.one_root

-- the values are octets: the big-endian bytes of a number
octets : Octets vals
unfolding rules_compute
octets = octets_be_bytes 10 0x786D6C

-- so D1 is a whole night of one feed and 12 bytes
pub d1_whole : IsOneWhole false bench_entries bench_parts (written bench_entries bench_parts items vals (replicate 14 7) 12) 1 12
unfolding rules_compute writer_computes masters_in masters_in_roots
d1_whole = written_one_whole bench_entries bench_parts items vals (replicate 14 7) 12 refl octets cases.one_root

-- and two of them, one after the other, are whole too, though not one record
pub two_whole : IsWhole false bench_entries bench_parts (written bench_entries bench_parts (items ++ items) vals (replicate 24 7) 24)
unfolding rules_compute writer_computes
two_whole = written_whole bench_entries bench_parts (items ++ items) vals (replicate 24 7) 24 refl octets refl
