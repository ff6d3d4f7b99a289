-- `ebml::checks::ebml_check_table`, by the answer of `check_table`. Assumes nothing.
use Prim.Native.Nat.{◌<◌}
use mathlib.Core.Path.{sym, ap, ◌∙◌}
use native.Mathlib.Omega.{arith}
use Rattle.std.specs.Prelude.{Err}
use Rattle.ebml.proofs.Laws.{few_faults, rule_small}
use Rattle.ebml.proofs.checks.ebml_check_table.Goals as goal

pub overflow_mul-result : goal.overflow_mul-result
overflow_mul-result c =
    let entry-small : c.in-Err-Fault.entry < 64 = few_faults _ _ (sym c.check_table.ensures ∙ c.in-Err-Fault.is ∙ ap Err c.in-Err-Fault.field-0-is) in
    let h = entry-small in omega arith

pub overflow_add-result-in-Err-Fault : goal.overflow_add-result-in-Err-Fault
overflow_add-result-in-Err-Fault c =
    let entry-small : c.in-Err-Fault.entry < 64 = few_faults _ _ (sym c.check_table.ensures ∙ c.in-Err-Fault.is ∙ ap Err c.in-Err-Fault.field-0-is) in
    let h = rule_small c.in-Err-Fault.rule in let k = entry-small in omega (arith, c.rule_number.ensures)
