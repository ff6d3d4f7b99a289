-- What a finish says, of every table that the check passes, and so of document 01's bench table. Assumes nothing.
use Prim.Native.Nat.{ℕ}
use mathlib.Core.Path.{◌≡◌}
use mathlib.Core.List.{List, ◌∷◌}
use Rattle.table.specs.BenchTable.{bench_entries, bench_parts}
use Rattle.table.specs.Check.{check_table}
use Rattle.table.proofs.Examples.{checks}
use Rattle.guarantees.specs.Calls.{Call, Lent}
use Rattle.guarantees.specs.Promises.{Runs}
use Rattle.guarantees.specs.CutRecords.{CutRecords}
use Rattle.guarantees.proofs.FullEnds.{end_is_full, finish_is_whole}
use Rattle.guarantees.proofs.InOrder.{finish_reads_all}
use Rattle.guarantees.proofs.CutRoot.{cut_root, cut_root_unfinished}
use Rattle.guarantees.proofs.TopLevel.{finish_at_the_end}
use Rattle.guarantees.proofs.WholeElements.{finished_is_row}
use Rattle.std.specs.Prelude.{Ok}

-- it holds of every table that the check passes
pub cut_records : (es ps : List ℕ) → check_table es ps ≡ Ok tt → CutRecords es ps
cut_records es ps checked = record {
  cut_root = λ s rest f w some cut cs c l. cut_root es ps s rest f w some cut cs c (runs (c ∷ cs) l);
  cut_root_unfinished = λ s rest f w some cut cs l. cut_root_unfinished es ps s rest f w some cut cs (runs cs l);
  finish_reads_all = λ s cs c l. finish_reads_all es ps s cs c (runs (c ∷ cs) l);
  end_is_full = λ cs c l. end_is_full es ps cs c (runs (c ∷ cs) l);
  finish_is_whole = λ cs c l. finish_is_whole es ps cs c (runs (c ∷ cs) l);
  finish_at_the_end = λ cs c l. finish_at_the_end es ps cs c (runs (c ∷ cs) l);
  finished_is_row = λ s cs c l. finished_is_row es ps s cs c (runs (c ∷ cs) l);
}
  where
    runs : (cs : List Call) → Lent cs → Runs es ps cs
    runs cs l = record { checked = checked; octets = l }

-- so it holds of document 01's bench table
pub bench_cut_records : CutRecords bench_entries bench_parts
bench_cut_records = cut_records bench_entries bench_parts checks.bench_passes
