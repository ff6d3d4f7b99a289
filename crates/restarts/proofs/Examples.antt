-- A record read back with every count 0, in the middle of a night: the counts of the Ends, computed. Assumes nothing.
use Prim.Native.Nat.{ℕ}
use mathlib.Core.Path.{◌≡◌, refl}
use mathlib.Core.List.{List, [], ◌∷◌, ◌++◌}
use Rattle.table.specs.BenchTable.{bench_entries, bench_parts}
use Rattle.decoder_rules.specs.declared.types.Answer.TheVariants as answer
use Rattle.decoder_rules.specs.declared.types.Event.TheVariants as event
use Rattle.guarantees.specs.Calls.{Call, decoding, ending, Response, answered, searched, silent, Step, record_after}
use Rattle.guarantees.proofs.Computing.{history_computes}
use Rattle.restarts.specs.Comparing.{seen_master, seen_end, seen_record}
use Rattle.restarts.specs.Runs.{record_from, history_from}
use Rattle.restarts.specs.Since.{history_since}
use Rattle.std.specs.Prelude.{Err, Ok}

-- the count in what a call tells, where it is an End
abbrev count_told : Response → List ℕ
count_told (answered (Ok (answer.Event (event.Start x o))) n) = []
count_told (answered (Ok (answer.Event (event.End end))) n) = end.count ∷ []
count_told (answered (Ok (answer.Event (event.Data x o v))) n) = []
count_told (answered (Ok (answer.NeedMore missing)) n) = []
count_told (answered (Ok answer.Finished) n) = []
count_told (answered (Err r) n) = []
count_told (searched a n) = []
count_told silent = []

-- the counts in the Ends of a history, latest first
unfoldable pub end_counts : List Step → List ℕ
end_counts [] = []
end_counts (s ∷ h) = count_told s.told ++ end_counts h

-- before the reading: a Session and a Feed of Unknown size start, and an Amount is handed out
abbrev before : List Call
before =
    decoding (0xA2 ∷ 0x81 ∷ 0x78 ∷ [])
    ∷ decoding (0xA1 ∷ 0xFF ∷ [])
    ∷ decoding (0x4E ∷ 0x01 ∷ 0xFF ∷ [])
    ∷ []

-- since the reading: a second Feed ends the first and starts, two Amounts are handed out, and the input ends
abbrev since : List Call
since =
    ending []
    ∷ ending []
    ∷ decoding (0xA2 ∷ 0x81 ∷ 0x78 ∷ [])
    ∷ decoding (0xA2 ∷ 0x81 ∷ 0x78 ∷ [])
    ∷ decoding (0xA1 ∷ 0xFF ∷ [])
    ∷ decoding (0xA1 ∷ 0xFF ∷ [])
    ∷ []

-- the counts in the Ends of Session, of the second Feed and of the first
pub record Read : Type 0 where
  -- without the reading
  pub without : end_counts (history_from bench_entries bench_parts (record_after bench_entries bench_parts before) since) ≡ 2 ∷ 2 ∷ 1 ∷ []
  -- with it: Session has had one child since, the first Feed none, and the second, which starts later, has all its own
  pub with_reading : end_counts (history_since bench_entries bench_parts before since) ≡ 1 ∷ 2 ∷ 0 ∷ []

-- and it is so
pub read_so : Read
unfolding history_computes record_from history_from seen_master seen_end seen_record end_counts
read_so = record { without = refl; with_reading = refl }
