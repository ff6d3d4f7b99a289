-- `table::check::check_table`. The invariant: each entry passed breaks no rule. Assumes nothing.
use Prim.Native.Nat.{◌+◌, ◌-◌, ◌/◌}
use mathlib.Core.Path.{refl, ap, ◌≡◌, sym, ◌∙◌}
use native.Mathlib.Omega.{arith}
use Rattle.std.specs.Prelude.{Ok, Err, Result, ⊤}
use Rattle.table.specs.declared.types.TableError.TheVariants as fault
use Rattle.std.proofs.Common.{rules}
use Rattle.std.specs.Result.{is_ok}
use Rattle.std.proofs.lemmas.Result.{err_from_is_err_and}
use Rattle.table.specs.declared.types.Rule.{Rule}
use Rattle.table.specs.declared.types.TableError.{TableError}
use lib.ListN.{length}
use Rattle.table.specs.Table.{table_of}
use Rattle.table.specs.Check.{check_from, check_table}
use Rattle.table.proofs.Entries.{length_table}
use Rattle.table.proofs.Judging.{check_stops, check_goes_on}
use Rattle.table.proofs.check.check_table.Goals as goal

-- what `map_err` gives back says of what it was given
passed : (r : Result ⊤ Rule) (m : Result ⊤ TableError) → is_ok m ≡ is_ok r → m ≡ Ok tt → r ≡ Ok tt
passed (Ok _) m k e = refl
passed (Err x) m k e = absurd (cc)

broken : (r : Result ⊤ Rule) (m : Result ⊤ TableError) (d : TableError) → is_ok m ≡ is_ok r → m ≡ Err d → (e : Rule) × (r ≡ Err e)
broken (Ok x) m d k e = absurd (cc)
broken (Err x) m d k e = (x, refl)

pub returns-then-not-good_shape : goal.returns-then-not-good_shape
unfolding check_table
returns-then-not-good_shape c = rw (← c.good_shape.ensures, c.if-not-good_shape.true)

pub loop-i-init : goal.loop-i-init
unfolding check_table
loop-i-init c =
    let a = c.args in
    let n : length a.entries.now / 4 - 0 ≡ length (table_of a.entries.now a.parts.now) = omega (arith, length_table a.entries.now a.parts.now) in
    rw (← c.good_shape.ensures, c.if-not-good_shape.false, n)

pub returns-in_err-map_err : goal.returns-in_err-map_err
returns-in_err-map_err c =
    let p = err_from_is_err_and c.from_residual.result c.from_residual.ensures.1 in
    let b = broken c.first_broken.result c.map_err.result c.in_err-map_err.field-0.0 c.map_err.ensures.variant c.in_err-map_err.was in
    let q = rw b.1 at c.map_err.ensures.cases in
    let h : c.map_err.result ≡ Err (fault.Fault b.0 c.loop-i.i-counter) = search rules in
    let f : c.from_residual.result ≡ Err (fault.Fault b.0 c.loop-i.i-counter) = p.1 ∙ ap Err p.2 ∙ sym c.in_err-map_err.was ∙ h in
    f ∙ sym (c.loop-i.invariant ∙ check_stops _ _ _ _ (omega arith) (sym c.first_broken.ensures ∙ b.1))

pub loop-i-preserved : goal.loop-i-preserved
loop-i-preserved c =
    let all = length c.args.entries.now / 4 in
    let n : all - (c.loop-i.i-counter + 1) ≡ all - c.loop-i.i-counter - 1 = omega arith in
    let e = sym c.first_broken.ensures ∙ passed _ _ c.map_err.ensures.variant c.in_ok-map_err.was in
    c.loop-i.invariant ∙ check_goes_on _ _ _ (omega arith) e ∙ rw n

pub returns : goal.returns
unfolding check_from
returns c =
    let a = c.args in
    let n : length a.entries.now / 4 - c.loop-i.i-counter ≡ 0 = omega arith in
    sym (rw n at c.loop-i.invariant)
