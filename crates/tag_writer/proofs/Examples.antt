-- Worked examples of document 02, CR 2, over document 01's bench table: D1 and other documents written, and each
-- refusal, computed. Assumes nothing.
use Prim.Native.Nat.{ℕ}
use mathlib.Core.Path.{◌≡◌, refl}
use mathlib.Core.List.{List, [], ◌∷◌, ◌++◌}
use lib.ListN.{replicate}
use Rattle.table.specs.BenchTable.{bench_entries, bench_parts}
use Rattle.tag_writer.specs.Write.{write}
use Rattle.tag_writer.specs.declared.types.WriteError.TheVariants.{TableFails, TooManyItems, Unmatched, WrongItem, OutputTooShort}
use Rattle.tag_writer.proofs.Computing.{writer_computes}
use Rattle.std.specs.Prelude.{Err, Ok, Result}
use Rattle.tag_writer.specs.declared.types.WriteError.{WriteError}

-- ---- items

abbrev start_of : ℕ → List ℕ
start_of x = 0 ∷ x ∷ 0 ∷ 0 ∷ []

abbrev end_of : ℕ → List ℕ
end_of x = 6 ∷ x ∷ 0 ∷ 0 ∷ []

-- a value of an ID as of this type, at an offset of the values and of so many bytes
abbrev value_of : ℕ → ℕ → ℕ → ℕ → List ℕ
value_of kind x offset n = kind ∷ x ∷ offset ∷ n ∷ []

-- these items in a Feed in a Session
abbrev in_feed : List ℕ → List ℕ
in_feed items = start_of 0x4E01 ++ (start_of 0xA1 ++ (items ++ (end_of 0xA1 ++ end_of 0x4E01)))

-- 120, "ml", -200, 1.0, 0 and 128, and a byte that is no text: at 0, 8, 10, 18, 26, 34 and 42
abbrev vals : List ℕ
vals =
    0 ∷ 0 ∷ 0 ∷ 0 ∷ 0 ∷ 0 ∷ 0 ∷ 120
    ∷ 0x6D ∷ 0x6C
    ∷ 0xFF ∷ 0xFF ∷ 0xFF ∷ 0xFF ∷ 0xFF ∷ 0xFF ∷ 0xFF ∷ 0x38
    ∷ 0x3F ∷ 0xF0 ∷ 0 ∷ 0 ∷ 0 ∷ 0 ∷ 0 ∷ 0
    ∷ 0 ∷ 0 ∷ 0 ∷ 0 ∷ 0 ∷ 0 ∷ 0 ∷ 0
    ∷ 0 ∷ 0 ∷ 0 ∷ 0 ∷ 0 ∷ 0 ∷ 0 ∷ 128
    ∷ 0x80
    ∷ []

abbrev amount : List ℕ
amount = value_of 1 0xA2 0 8

abbrev d1 : List ℕ
d1 = in_feed (amount ++ value_of 3 0xA3 8 2)

-- ---- what is written

-- of these items, over this table, into an output of so many bytes, all 7
abbrev into : ℕ → List ℕ → Result ℕ WriteError × List ℕ
into n items = write bench_entries bench_parts items vals (replicate n 7)

pub record Documents : Type 0 where
  -- D1; the output's last two bytes stay
  pub d1_written : into 14 d1
      ≡ (Ok 12, 0x4E ∷ 0x01 ∷ 0x89 ∷ 0xA1 ∷ 0x87 ∷ 0xA2 ∷ 0x81 ∷ 0x78 ∷ 0xA3 ∷ 0x82 ∷ 0x6D ∷ 0x6C ∷ 7 ∷ 7 ∷ [])
  pub nothing : into 0 [] ≡ (Ok 0, [])
  -- -200 in two bytes, 1.0 in eight
  pub numbers : into 20 (in_feed (value_of 2 0xA5 10 8 ++ value_of 5 0xA6 18 8))
      ≡ (Ok 19, 0x4E ∷ 0x01 ∷ 0x90 ∷ 0xA1 ∷ 0x8E ∷ 0xA5 ∷ 0x82 ∷ 0xFF ∷ 0x38 ∷ 0xA6 ∷ 0x88 ∷ 0x3F ∷ 0xF0 ∷ 0 ∷ 0 ∷ 0 ∷ 0 ∷ 0 ∷ 0 ∷ 7 ∷ [])
  -- "0 takes no byte", signed or not; 128 takes one as Unsigned and two as Integer
  pub widths : into 18 (in_feed (value_of 1 0xA2 26 8 ++ (value_of 2 0xA5 26 8 ++ (value_of 1 0xA2 34 8 ++ value_of 2 0xA5 34 8))))
      ≡ (Ok 16, 0x4E ∷ 0x01 ∷ 0x8D ∷ 0xA1 ∷ 0x8B ∷ 0xA2 ∷ 0x80 ∷ 0xA5 ∷ 0x80 ∷ 0xA2 ∷ 0x81 ∷ 0x80 ∷ 0xA5 ∷ 0x82 ∷ 0 ∷ 0x80 ∷ 7 ∷ 7 ∷ [])
  -- a Void goes anywhere: before a Session, in it, and in a Feed; and there are two Sessions
  pub voids : into 15 (value_of 4 0xEC 8 1 ++ (start_of 0x4E01 ++ (value_of 4 0xEC 0 0 ++ (end_of 0x4E01 ++ in_feed (value_of 4 0xEC 9 0)))))
      ≡ (Ok 15, 0xEC ∷ 0x81 ∷ 0x6D ∷ 0x4E ∷ 0x01 ∷ 0x82 ∷ 0xEC ∷ 0x80 ∷ 0x4E ∷ 0x01 ∷ 0x84 ∷ 0xA1 ∷ 0x82 ∷ 0xEC ∷ 0x80 ∷ [])

pub documents : Documents
unfolding writer_computes
documents = record { d1_written = refl; nothing = refl; numbers = refl; widths = refl; voids = refl }

-- ---- what is refused: the output stays

pub record Refusals : Type 0 where
  -- 40: of bad shape, and with an ID that is no Element ID; before 41
  pub shape : write bench_entries [] (replicate 2_052 0) vals (7 ∷ []) ≡ (Err TableFails, 7 ∷ [])
  pub rule : write (1 ∷ 0 ∷ 0 ∷ 0 ∷ []) [] d1 vals (7 ∷ []) ≡ (Err TableFails, 7 ∷ [])
  -- 41: 513 items, all of them Starts; before 42. Of 512 it is 42
  pub many : into 1 (replicate 2_052 0) ≡ (Err TooManyItems, 7 ∷ [])
  pub most : into 1 (replicate 2_048 0) ≡ (Err Unmatched, 7 ∷ [])
  -- 42: no End, no Start, an End of another ID; before 43: a Feed is no root
  pub no_end : into 1 (start_of 0xA1) ≡ (Err Unmatched, 7 ∷ [])
  pub no_start : into 1 (end_of 0x4E01) ≡ (Err Unmatched, 7 ∷ [])
  pub other_end : into 1 (start_of 0x4E01 ++ (start_of 0xA1 ++ (end_of 0x4E01 ++ end_of 0xA1))) ≡ (Err Unmatched, 7 ∷ [])
  -- 43, wrong place: a Feed as a root, an Amount in a Session; before 44
  pub no_root : into 0 (start_of 0xA1 ++ end_of 0xA1) ≡ (Err WrongItem, [])
  pub no_child : into 0 (start_of 0x4E01 ++ (amount ++ end_of 0x4E01)) ≡ (Err WrongItem, [])
  -- 43, wrong kind: a text for a number, a value for a Master, a Start for a value, a kind over 6, words left over
  pub other_kind : into 0 (in_feed (value_of 3 0xA2 8 2)) ≡ (Err WrongItem, [])
  pub no_value : into 0 (value_of 4 0x4E01 0 0) ≡ (Err WrongItem, [])
  pub no_master_lem : into 0 (in_feed (start_of 0xA2 ++ end_of 0xA2)) ≡ (Err WrongItem, [])
  pub no_kind : into 0 (in_feed (value_of 7 0xA2 0 8)) ≡ (Err WrongItem, [])
  pub words_left : into 14 (d1 ++ (0 ∷ [])) ≡ (Err WrongItem, replicate 14 7)
  -- 43: "an ID not in the table", "bad text", "a number not of 8 bytes", "a range outside the buffer"
  pub no_entry : into 0 (value_of 4 0xEE 0 0) ≡ (Err WrongItem, [])
  pub bad_text : into 0 (in_feed (value_of 3 0xA3 42 1)) ≡ (Err WrongItem, [])
  pub seven_bytes : into 0 (in_feed (value_of 1 0xA2 1 7)) ≡ (Err WrongItem, [])
  pub outside : into 0 (in_feed (value_of 4 0xA4 43 1)) ≡ (Err WrongItem, [])
  pub far_outside : into 0 (in_feed (value_of 4 0xA4 0xffff_ffff_ffff_ffff 1)) ≡ (Err WrongItem, [])
  -- 44: one byte too short for D1
  pub too_short : into 11 d1 ≡ (Err OutputTooShort, replicate 11 7)

pub refusals : Refusals
unfolding writer_computes
refusals = record {
  shape = refl;
  rule = refl;
  many = refl;
  most = refl;
  no_end = refl;
  no_start = refl;
  other_end = refl;
  no_root = refl;
  no_child = refl;
  other_kind = refl;
  no_value = refl;
  no_master_lem = refl;
  no_kind = refl;
  words_left = refl;
  no_entry = refl;
  bad_text = refl;
  seven_bytes = refl;
  outside = refl;
  far_outside = refl;
  too_short = refl;
}
