-- Demand 3, of every table that the check passes, and so of document 01's bench table. Assumes nothing.
use Prim.Native.Nat.{ℕ}
use mathlib.Core.Path.{◌≡◌}
use mathlib.Core.List.{List, ◌∷◌}
use Rattle.table.specs.Check.{check_table}
use Rattle.table.proofs.Examples.{checks}
use Rattle.table.specs.BenchTable.{bench_entries, bench_parts}
use Rattle.guarantees.specs.Calls.{Call, ending, Lent}
use Rattle.guarantees.specs.Promises.{Runs}
use Rattle.guarantees.specs.Demand3.{Demand3}
use Rattle.guarantees.proofs.Counted.{child_counts_lem}
use Rattle.guarantees.proofs.CutRecord.{one_more, cut_always_told}
use Rattle.guarantees.proofs.Guarantees as promise
use Rattle.guarantees.proofs.Finish.{finish_closes_parents, is_finished_closes_parents}
use Rattle.guarantees.proofs.ImpliedFirst.{implied_first}
use Rattle.guarantees.proofs.Results.{run_is, lent_run_is}
use Rattle.guarantees.proofs.Cut as cut
use Rattle.std.specs.Prelude.{Ok}

-- demand 3 holds of every table that the check passes
pub demand_3 : (es ps : List ℕ) → check_table es ps ≡ Ok tt → Demand3 es ps
demand_3 es ps checked = record {
  of_routines = λ cs d h r. run_is es ps cs d h r;
  of_lent_routines = λ cs d h r. lent_run_is es ps cs d h r;
  no_table_fault = λ cs c l. promise.no_table_fault es ps cs c (runs (c ∷ cs) l);
  kind_of_table = λ cs c l. promise.kind_of_table es ps cs c (runs (c ∷ cs) l);
  element_header = λ cs c l. promise.element_header es ps cs c (runs (c ∷ cs) l);
  offset_is_position = λ cs c l. promise.offset_is_position es ps cs c (runs (c ∷ cs) l);
  start_takes_header = λ cs c l. promise.start_takes_header es ps cs c (runs (c ∷ cs) l);
  data-whole = λ cs c l. promise.data-whole es ps cs c (runs (c ∷ cs) l);
  end_matches = λ cs c l. promise.end_matches es ps cs c (runs (c ∷ cs) l);
  children = child_counts_lem es ps checked;
  implied_first = λ cs c l. implied_first es ps cs c (runs (c ∷ cs) l);
  finish_closes = λ cs c l. promise.finish_closes es ps cs c (runs (c ∷ cs) l);
  finish_closes_parents = λ cs c l. finish_closes_parents es ps cs c (runs (c ∷ cs) l);
  is_finished_closes = λ cs l. promise.is_finished_closes es ps cs (runs cs l);
  is_finished_closes_parents = λ cs l. is_finished_closes_parents es ps cs (runs cs l);
  element_ends_inside = λ cs c l. promise.element_ends_inside es ps cs c (runs (c ∷ cs) l);
  no_bad_state = λ cs c l. promise.no_bad_state es ps cs c (runs (c ∷ cs) l);
  at_most_32 = λ cs l. promise.at_most_32 es ps cs (runs cs l);
  arrays_hold = λ cs l. promise.arrays_hold es ps cs (runs cs l);
  at_19_full = λ cs c l. promise.at_19_full es ps cs c (runs (c ∷ cs) l);
  cut_not_finished = λ cs s l n. cut.cut_not_finished es ps cs s (runs (ending s ∷ cs) l) n;
  cut_is_told = λ cs l n. cut.cut_is_told es ps cs (one_more es ps cs (runs cs l)) n;
  cut_always_told = λ cs l on n. cut_always_told es ps cs (runs cs l) on n;
}
  where
    runs : (cs : List Call) → Lent cs → Runs es ps cs
    runs cs l = record { checked = checked; octets = l }

-- so it holds of document 01's bench table
pub bench_guaranteed : Demand3 bench_entries bench_parts
bench_guaranteed = demand_3 bench_entries bench_parts checks.bench_passes
