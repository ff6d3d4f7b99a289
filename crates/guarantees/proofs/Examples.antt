-- Document 01's D1, D2, D3 and D5 as histories: what a caller can tell from the calls and their answers, computed.
-- Assumes nothing.
use Prim.Native.Nat.{ℕ, ◌*◌}
use mathlib.Core.Path.{◌≡◌, refl}
use mathlib.Core.List.{List, [], ◌∷◌}
use lib.ListN.{take, drop}
use Rattle.decoder_rules.specs.Numbers.{answer_refusal}
use Rattle.guarantees.proofs.Computing.{history_computes}
use Rattle.table.specs.Table.{Entry, table_of}
use Rattle.table.specs.BenchTable.{bench_entries, bench_parts}
use Rattle.guarantees.specs.Calls.{Call, decoding, ending, recovering, history}
use Rattle.guarantees.specs.History.{Started, starts_open, parents_left, position}
use Rattle.guarantees.specs.Promises.{at_the_end}
use Rattle.guarantees.specs.Counts.{child_counts, children_since, total}
use Rattle.guarantees.specs.Skipped.{taken_by_events, skipped}
use Rattle.std.specs.Prelude.{None, Some}

-- the calls of a caller who lends all that is left each time, up to the end of input: the first n calls on the bytes s,
-- of which each takes as many as this list says; latest first
unfoldable pub lending : List ℕ → List ℕ → List Call → List Call
lending [] s made = made
lending (n ∷ taken) s made = lending taken (drop n s) (ending s ∷ made)

-- D1
abbrev pub d1 : List ℕ
d1 = 0x4E ∷ 0x01 ∷ 0x89 ∷ 0xA1 ∷ 0x87 ∷ 0xA2 ∷ 0x81 ∷ 0x78 ∷ 0xA3 ∷ 0x82 ∷ 0x6D ∷ 0x6C ∷ []

abbrev d2 : List ℕ
d2 = 0x4E ∷ 0x01 ∷ 0xFF ∷ 0xA1 ∷ 0xFF ∷ 0xA2 ∷ 0x81 ∷ 0x78 ∷ []

abbrev d5 : List ℕ
d5 = 0xA2 ∷ 0x81 ∷ 0x78 ∷ []

-- the bench table
abbrev pub bench : List Entry
bench = table_of bench_entries bench_parts

-- what a caller can tell after these calls: the Starts that are open, the implied parents that are left, and the
-- position
abbrev seen : List Call → List Started × List ℕ × ℕ
seen cs = (starts_open bench (history bench_entries bench_parts cs), parents_left bench_parts bench (history bench_entries bench_parts cs), position (history bench_entries bench_parts cs))

-- the children so far of every master that has not had its End
abbrev counts : List Call → List ℕ
counts cs = child_counts bench_parts bench (history bench_entries bench_parts cs)

-- D1 up to its Amount, and then a recovery that passes over two bytes
abbrev after_two : List Call
after_two = recovering (0x00 ∷ 0x00 ∷ 0xA3 ∷ 0x80 ∷ []) ∷ lending (3 ∷ 2 ∷ 3 ∷ []) d1 []

-- what is seen of these records, call by call
pub record Seen : Type 0 where
  -- D1 after its Data, after the first End, and at the finish
  pub d1_data : seen (lending (3 ∷ 2 ∷ 3 ∷ 4 ∷ []) d1 []) ≡ (record { id = 0xA1; offset = 3; end = Some 12 } ∷ record { id = 0x4E01; offset = 0; end = Some 12 } ∷ [], [], 12)
  pub d1_end : seen (lending (3 ∷ 2 ∷ 3 ∷ 4 ∷ 0 ∷ []) d1 []) ≡ (record { id = 0x4E01; offset = 0; end = Some 12 } ∷ [], [], 12)
  pub d1_finish : seen (lending (3 ∷ 2 ∷ 3 ∷ 4 ∷ 0 ∷ 0 ∷ 0 ∷ []) d1 []) ≡ ([], [], 12)
  -- D2: sizes unknown
  pub d2_data : seen (lending (3 ∷ 2 ∷ 3 ∷ []) d2 []) ≡ (record { id = 0xA1; offset = 3; end = None } ∷ record { id = 0x4E01; offset = 0; end = None } ∷ [], [], 8)
  -- D3, D1 cut after 8 bytes: Session and Feed are open and not full, and the end of input answers 23
  pub d3_data : seen (lending (3 ∷ 2 ∷ 3 ∷ []) (take 8 d1) []) ≡ (record { id = 0xA1; offset = 3; end = Some 12 } ∷ record { id = 0x4E01; offset = 0; end = Some 12 } ∷ [], [], 8)
  pub d3_cut : answer_refusal (at_the_end bench_entries bench_parts (lending (3 ∷ 2 ∷ 3 ∷ []) (take 8 d1) [])) ≡ 23
  -- D5: reading begins below the root, so that Feed and Session are implied
  pub d5_data : seen (lending (3 ∷ []) d5 []) ≡ ([], 0xA1 ∷ 0x4E01 ∷ [], 3)
  pub d5_end : seen (lending (3 ∷ 0 ∷ []) d5 []) ≡ ([], 0x4E01 ∷ [], 3)
  pub d5_finish : seen (lending (3 ∷ 0 ∷ 0 ∷ 0 ∷ []) d5 []) ≡ ([], [], 3)
  -- the open ends of D1 grow by the two bytes that are passed over
  pub recovered : seen after_two ≡ (record { id = 0xA1; offset = 3; end = Some 14 } ∷ record { id = 0x4E01; offset = 0; end = Some 14 } ∷ [], [], 10)
  -- of the 10 bytes up to there events took 8, and 2 were passed over
  pub took : taken_by_events (history bench_entries bench_parts after_two) ≡ 8
  pub passed_over : skipped (history bench_entries bench_parts after_two) ≡ 2
  -- D1 after its Data: Feed has had two children, Session one; D5 after its Amount: Feed has had one, and Session none,
  -- since Feed never started
  pub d1_counts : counts (lending (3 ∷ 2 ∷ 3 ∷ 4 ∷ []) d1 []) ≡ 2 ∷ 1 ∷ []
  pub d5_counts : counts (lending (3 ∷ []) d5 []) ≡ 1 ∷ 0 ∷ []
  -- the same looked up from the last event back to the Start of each
  pub d1_back : children_since bench_parts bench (history bench_entries bench_parts (lending (3 ∷ 2 ∷ 3 ∷ 4 ∷ []) d1 [])) 1 ≡ 1
  pub d5_back : children_since bench_parts bench (history bench_entries bench_parts (lending (3 ∷ []) d5 [])) 1 ≡ 0
  -- an Amount of two bytes alone: the sum of the counts is just half the position, so `at_most_half` says no less than
  -- it can
  pub half_reached : 2 * total (counts (lending (2 ∷ []) (0xA2 ∷ 0x80 ∷ []) [])) ≡ position (history bench_entries bench_parts (lending (2 ∷ []) (0xA2 ∷ 0x80 ∷ []) []))
  -- a recovery on a fresh decoder settles
  pub implying : seen (recovering d5 ∷ []) ≡ ([], 0xA1 ∷ 0x4E01 ∷ [], 0)
  -- a place that settles and then fails (17) leaves its parents implied
  pub implying_failed : seen (recovering (0xA4 ∷ 0x08 ∷ 0xEE ∷ 0x6B ∷ 0x28 ∷ 0x01 ∷ []) ∷ []) ≡ ([], 0xA1 ∷ 0x4E01 ∷ [], 1)
  -- 13 settles nothing
  pub not_read : seen (decoding d5 ∷ ending [] ∷ []) ≡ ([], [], 0)

-- and it is so
pub seen_so : Seen
unfolding history_computes lending
seen_so = record {
  d1_data = refl;
  d1_end = refl;
  d1_finish = refl;
  d2_data = refl;
  d3_data = refl;
  d3_cut = refl;
  d5_data = refl;
  d5_end = refl;
  d5_finish = refl;
  recovered = refl;
  took = refl;
  passed_over = refl;
  d1_counts = refl;
  d5_counts = refl;
  d1_back = refl;
  d5_back = refl;
  half_reached = refl;
  implying = refl;
  implying_failed = refl;
  not_read = refl;
}
