-- Records that were cut, computed: D1 cut inside its Session, which never looks whole; and cut records that do, though
-- every size is filled in, so that no promise can say more than where a finish comes. Assumes nothing.
use Prim.Native.Nat.{ℕ}
use mathlib.Core.Path.{◌≡◌, refl}
use mathlib.Core.Bool.{Bool, true, false}
use mathlib.Core.List.{List, [], ◌∷◌, ◌++◌}
use native.Mathlib.Omega.{arith}
use lib.ListN.{take, drop}
use Rattle.table.specs.BenchTable.{bench_entries, bench_parts}
use Rattle.decoder_rules.specs.declared.types.Answer.{Answer}
use Rattle.decoder_rules.specs.declared.types.Answer.TheVariants.{Event, Finished}
use Rattle.decoder_rules.specs.declared.types.Event.TheVariants.{End}
use Rattle.guarantees.specs.Calls.{Call, allow, history, Lent}
use Rattle.guarantees.specs.Promises.{Answers, position_at, at_the_end}
use Rattle.guarantees.specs.CutRecords.{InOrder, BeginsWithMaster, ever_started, every_known, last_top_end}
use Rattle.guarantees.proofs.Computing.{history_computes}
use Rattle.guarantees.proofs.Examples.{lending, d1, bench}
use Rattle.guarantees.proofs.CutRecords.{bench_cut_records}
use Rattle.std.specs.Prelude.{Ok, Option, Result, Some}
use Rattle.decoder_rules.specs.declared.types.Refusal.{Refusal}

-- ---- the records

-- D9, whose Feed is of unknown size and begins at the end of its Session
abbrev d9 : List ℕ
d9 = 0x4E ∷ 0x01 ∷ 0x81 ∷ 0xA1 ∷ 0xFF ∷ []

-- a Session that ends at 4, with a Feed in it that ends at 7 and is cut at 5
abbrev oversized : List ℕ
oversized = 0x4E ∷ 0x01 ∷ 0x81 ∷ 0xA1 ∷ 0x82 ∷ []

-- one empty Void
abbrev void : List ℕ
void = 0xEC ∷ 0x80 ∷ []

-- ---- the list

-- however these bytes are read in order, no call answers the finish
abbrev NeverFinishes : List ℕ → Type 0
NeverFinishes s = (cs : List Call) (c : Call) → Lent (c ∷ cs) → InOrder bench_entries bench_parts s (c ∷ cs) → Answers bench_entries bench_parts cs c (Ok Finished) → ⊥

-- what the end of input with no byte answers after these calls, where the last element at the top ends, the position,
-- and whether every Start was of known size
abbrev ended : List Call → Result Answer Refusal × Option ℕ × ℕ × Bool
ended cs = (at_the_end bench_entries bench_parts cs, last_top_end bench (history bench_entries bench_parts cs), position_at bench_entries bench_parts cs, every_known bench (history bench_entries bench_parts cs))

-- the same of these bytes read to their end, where the calls take as many as this list says
abbrev read_by : List ℕ → List ℕ → Result Answer Refusal × Option ℕ × ℕ × Bool
read_by taken s = ended (lending taken s [])

-- what is so of these records
pub record CutExamples : Type 0 where
  -- D1 cut after 8 bytes, which is D3, and inside its first header
  pub d1_at_8 : NeverFinishes (take 8 d1)
  pub d1_at_2 : NeverFinishes (take 2 d1)
  -- the calls that read D3 are in order
  pub in_order : InOrder bench_entries bench_parts (take 8 d1) (lending (3 ∷ 2 ∷ 3 ∷ 0 ∷ []) (take 8 d1) [])
  -- D1 whole
  pub d1_whole : read_by (3 ∷ 2 ∷ 3 ∷ 4 ∷ 0 ∷ 0 ∷ []) d1 ≡ (Ok Finished, Some 12, 12, true)
  -- looks whole: no byte at all
  pub empty : read_by [] [] ≡ (Ok Finished, Some 0, 0, true)
  -- looks whole: two nights, cut between them
  pub nights : read_by (3 ∷ 2 ∷ 3 ∷ 4 ∷ 0 ∷ 0 ∷ 3 ∷ 2 ∷ 3 ∷ 4 ∷ 0 ∷ 0 ∷ []) (d1 ++ d1) ≡ (Ok Finished, Some 24, 24, true)
  pub nights_cut : read_by (3 ∷ 2 ∷ 3 ∷ 4 ∷ 0 ∷ 0 ∷ []) (take 12 (d1 ++ d1)) ≡ (Ok Finished, Some 12, 12, true)
  -- looks whole: a night with a Void after it, cut before the Void
  pub padded : read_by (3 ∷ 2 ∷ 3 ∷ 4 ∷ 0 ∷ 0 ∷ 2 ∷ []) (d1 ++ void) ≡ (Ok Finished, Some 14, 14, true)
  pub padded_cut : read_by (3 ∷ 2 ∷ 3 ∷ 4 ∷ 0 ∷ 0 ∷ []) (take 12 (d1 ++ void)) ≡ (Ok Finished, Some 12, 12, true)
  -- looks whole: D1 without its first three bytes, a Feed alone; its Session, implied, has an End at 0 and had no Start
  pub front_missing : read_by (2 ∷ 3 ∷ 4 ∷ 0 ∷ 0 ∷ []) (drop 3 d1) ≡ (Ok Finished, Some 9, 9, true)
  pub front_end : read_by (2 ∷ 3 ∷ 4 ∷ 0 ∷ []) (drop 3 d1) ≡ (Ok (Event (End (record { id = 0x4E01; offset = 0; count = 1 }))), Some 9, 9, true)
  -- D9, a Start of unknown size: the finish comes past the end of the last element at the top
  pub unknown_size : read_by (3 ∷ 2 ∷ 0 ∷ 0 ∷ []) d9 ≡ (Ok Finished, Some 4, 5, false)
  -- looks whole: the child-size test off, and a Feed that ends at 7 cut at 5
  pub test_off : ended (lending (3 ∷ 2 ∷ 0 ∷ 0 ∷ []) oversized (allow false false true ∷ [])) ≡ (Ok Finished, Some 4, 5, true)
  pub test_off_starts : ever_started bench (history bench_entries bench_parts (lending (3 ∷ 2 ∷ []) oversized (allow false false true ∷ [])))
      ≡ record { id = 0xA1; offset = 3; end = Some 7 } ∷ record { id = 0x4E01; offset = 0; end = Some 4 } ∷ []

begins_8 : BeginsWithMaster bench (take 8 d1 ++ drop 8 d1) 12
unfolding history_computes
begins_8 = record { its = _; read = refl; master = refl; size = 9; known = refl; ends = refl }

begins_2 : BeginsWithMaster bench (take 2 d1 ++ drop 2 d1) 12
unfolding history_computes
begins_2 = record { its = _; read = refl; master = refl; size = 9; known = refl; ends = refl }

-- and it is so
pub cut_examples : CutExamples
unfolding history_computes lending InOrder ever_started last_top_end
cut_examples = record {
  d1_at_8 = bench_cut_records.cut_root (take 8 d1) (drop 8 d1) 12 begins_8 (omega arith) (omega arith);
  d1_at_2 = bench_cut_records.cut_root (take 2 d1) (drop 2 d1) 12 begins_2 (omega arith) (omega arith);
  in_order = (refl, (refl, (refl, (refl, tt))));
  d1_whole = refl;
  empty = refl;
  nights = refl;
  nights_cut = refl;
  padded = refl;
  padded_cut = refl;
  front_missing = refl;
  front_end = refl;
  unknown_size = refl;
  test_off = refl;
  test_off_starts = refl;
}
