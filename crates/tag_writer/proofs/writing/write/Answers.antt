-- `tag_writer::writing::write`: one law for each answer. Assumes nothing.
use Prim.Native.Nat.{ℕ, ◌/◌, ◌%◌, ◌≤◌}
use mathlib.Core.Path.{◌≡◌, refl, sym, ap, subst, ◌∙◌}
use mathlib.Core.Bool.{true, false}
use mathlib.Core.List.{List, []}
use native.Mathlib.Omega.{arith}
use borrow.Author.Tests.{not-true, not-false}
use lib.ListN.{length}
use Rattle.tools.proofs.Cases.{gives}
use Rattle.table.specs.Check.{check_table}
use Rattle.table.specs.Table.{table_of}
use Rattle.tag_writer.specs.Flat.{all_asked}
use Rattle.tag_writer.specs.Items.{marks_of, matched}
use Rattle.tag_writer.specs.Sizing.{SizesIn}
use Rattle.tag_writer.specs.Write.{is_passed}
use Rattle.tag_writer.proofs.WriteLaws.{fails_40, fails_41, fails_42, fails_words, fails_43, sizable, whole_run, all_sized_lem, fails_size, fails_44, bytes_count, writes}
use Rattle.tag_writer.proofs.writing.write.Goals as goal
use Rattle.std.specs.Prelude.{Ok, Err, Result}
use Rattle.std.proofs.lemmas.Result.{err_from_is_err_and}
use Rattle.table.specs.declared.types.TableError.{TableError}
use Rattle.table.specs.declared.types.TableError.TheVariants as fault
use Rattle.tag_writer.specs.declared.types.WriteError.{WriteError}

made : {m n : ℕ} {o u : List ℕ} → m ≡ n → o ≡ u → ◌≡◌ {A = Result ℕ WriteError × List ℕ} (Ok m, o) (Ok n, u)
made e f = rw (e, f)

fault_fails : (e : TableError) → is_passed (Err e) ≡ false
fault_fails fault.BadShape = refl
fault_fails (fault.Fault rule entry) = refl

pub returns-in_err-check_table : goal.returns-in_err-check_table
returns-in_err-check_table c =
    let a = c.args in
    let p = err_from_is_err_and c.from_residual.result c.from_residual.ensures.1 in
    rw (p.1, p.2) (gives (fails_40 a.entries.now a.parts.now a.items.now a.values.now a.out.now (ap is_passed (sym c.check_table.ensures ∙ c.in_err-check_table.was) ∙ fault_fails _)))

pub returns-then-item_count-gt-MOST_ITEMS : goal.returns-then-item_count-gt-MOST_ITEMS
returns-then-item_count-gt-MOST_ITEMS c =
    let a = c.args in
    let passes : is_passed (check_table a.entries.now a.parts.now) ≡ true = ap is_passed (sym c.check_table.ensures ∙ c.in_ok-check_table.was) in
    gives (fails_41 a.entries.now a.parts.now a.items.now a.values.now a.out.now passes (omega (arith, c.item_count.ensures, c.if-item_count-gt-MOST_ITEMS.true)))

pub returns-then-not-is_matched : goal.returns-then-not-is_matched
returns-then-not-is_matched c =
    let a = c.args in
    let passes : is_passed (check_table a.entries.now a.parts.now) ≡ true = ap is_passed (sym c.check_table.ensures ∙ c.in_ok-check_table.was) in
    let few : length a.items.now / 4 ≤ 512 = omega (arith, c.item_count.ensures, c.if-item_count-gt-MOST_ITEMS.false) in
    gives (fails_42 a.entries.now a.parts.now a.items.now a.values.now a.out.now passes few (sym (c.is_matched.ensures a.values.now) ∙ c.if-not-is_matched.true))

pub returns-then-items-ne0 : goal.returns-then-items-ne0
returns-then-items-ne0 c =
    let a = c.args in
    let passes : is_passed (check_table a.entries.now a.parts.now) ≡ true = ap is_passed (sym c.check_table.ensures ∙ c.in_ok-check_table.was) in
    let few : length a.items.now / 4 ≤ 512 = omega (arith, c.item_count.ensures, c.if-item_count-gt-MOST_ITEMS.false) in
    let match : matched [] (marks_of a.values.now a.items.now) ≡ true = sym (c.is_matched.ensures a.values.now) ∙ c.if-not-is_matched.false in
    gives (fails_words a.entries.now a.parts.now a.items.now a.values.now a.out.now passes few match c.if-items-ne0.true)

pub returns-then-not-all_asked : goal.returns-then-not-all_asked
returns-then-not-all_asked c =
    let a = c.args in
    let passes : is_passed (check_table a.entries.now a.parts.now) ≡ true = ap is_passed (sym c.check_table.ensures ∙ c.in_ok-check_table.was) in
    let few : length a.items.now / 4 ≤ 512 = omega (arith, c.item_count.ensures, c.if-item_count-gt-MOST_ITEMS.false) in
    let match : matched [] (marks_of a.values.now a.items.now) ≡ true = sym (c.is_matched.ensures a.values.now) ∙ c.if-not-is_matched.false in
    gives (fails_43 a.entries.now a.parts.now a.items.now a.values.now a.out.now passes few match (sym c.all_asked.ensures ∙ c.if-not-all_asked.true))

pub size_of_run-all-requires : goal.size_of_run-all-requires
size_of_run-all-requires c =
    let a = c.args in
    let passes : is_passed (check_table a.entries.now a.parts.now) ≡ true = ap is_passed (sym c.check_table.ensures ∙ c.in_ok-check_table.was) in
    let few : length a.items.now / 4 ≤ 512 = omega (arith, c.item_count.ensures, c.if-item_count-gt-MOST_ITEMS.false) in
    let match : matched [] (marks_of a.values.now a.items.now) ≡ true = sym (c.is_matched.ensures a.values.now) ∙ c.if-not-is_matched.false in
    let words : length a.items.now % 4 ≡ 0 = omega (arith, c.if-items-ne0.false) in
    let asks : all_asked (table_of a.entries.now a.parts.now) [] (marks_of a.values.now a.items.now) ≡ true = sym c.all_asked.ensures ∙ c.if-not-all_asked.false in (
      sizable a.entries.now a.parts.now a.items.now a.values.now a.out.now passes few match words asks,
      whole_run a.entries.now a.parts.now a.items.now a.values.now a.out.now passes few match,
      few,
    )

pub returns-then-not-all : goal.returns-then-not-all
returns-then-not-all c =
    let a = c.args in
    let passes : is_passed (check_table a.entries.now a.parts.now) ≡ true = ap is_passed (sym c.check_table.ensures ∙ c.in_ok-check_table.was) in
    let few : length a.items.now / 4 ≤ 512 = omega (arith, c.item_count.ensures, c.if-item_count-gt-MOST_ITEMS.false) in
    let match : matched [] (marks_of a.values.now a.items.now) ≡ true = sym (c.is_matched.ensures a.values.now) ∙ c.if-not-is_matched.false in
    let words : length a.items.now % 4 ≡ 0 = omega (arith, c.if-items-ne0.false) in
    let asks : all_asked (table_of a.entries.now a.parts.now) [] (marks_of a.values.now a.items.now) ≡ true = sym c.all_asked.ensures ∙ c.if-not-all_asked.false in
    gives (fails_size a.entries.now a.parts.now a.items.now a.values.now a.out.now passes few match words asks c.size_of_run-all.result c.size_of_run-all.ensures.0 (not-true _ c.if-not-all.true))

pub returns-then-out-size : goal.returns-then-out-size
returns-then-out-size c =
    let a = c.args in
    let passes : is_passed (check_table a.entries.now a.parts.now) ≡ true = ap is_passed (sym c.check_table.ensures ∙ c.in_ok-check_table.was) in
    let few : length a.items.now / 4 ≤ 512 = omega (arith, c.item_count.ensures, c.if-item_count-gt-MOST_ITEMS.false) in
    let match : matched [] (marks_of a.values.now a.items.now) ≡ true = sym (c.is_matched.ensures a.values.now) ∙ c.if-not-is_matched.false in
    let words : length a.items.now % 4 ≡ 0 = omega (arith, c.if-items-ne0.false) in
    let asks : all_asked (table_of a.entries.now a.parts.now) [] (marks_of a.values.now a.items.now) ≡ true = sym c.all_asked.ensures ∙ c.if-not-all_asked.false in
    gives (fails_44 a.entries.now a.parts.now a.items.now a.values.now a.out.now passes few match words asks c.size_of_run-all.result c.size_of_run-all.ensures.0 (not-false _ c.if-not-all.false) (omega (arith, c.index-size.ensures, c.if-out-size.true)))

pub put_items-requires : goal.put_items-requires
put_items-requires c =
    let a = c.args in
    let passes : is_passed (check_table a.entries.now a.parts.now) ≡ true = ap is_passed (sym c.check_table.ensures ∙ c.in_ok-check_table.was) in
    let few : length a.items.now / 4 ≤ 512 = omega (arith, c.item_count.ensures, c.if-item_count-gt-MOST_ITEMS.false) in
    let match : matched [] (marks_of a.values.now a.items.now) ≡ true = sym (c.is_matched.ensures a.values.now) ∙ c.if-not-is_matched.false in
    let words : length a.items.now % 4 ≡ 0 = omega (arith, c.if-items-ne0.false) in
    let asks : all_asked (table_of a.entries.now a.parts.now) [] (marks_of a.values.now a.items.now) ≡ true = sym c.all_asked.ensures ∙ c.if-not-all_asked.false in
    let n = bytes_count a.entries.now a.parts.now a.items.now a.values.now a.out.now passes few match words asks c.size_of_run-all.result c.size_of_run-all.ensures.0 (not-false _ c.if-not-all.false) in (
      sizable a.entries.now a.parts.now a.items.now a.values.now a.out.now passes few match words asks,
      match,
      omega (arith, n, c.index-size.ensures, c.if-out-size.false),
      omega (arith, few, c.size_of_run-all.auto.sizes),
      subst (λ (k : ℕ). SizesIn (marks_of a.values.now a.items.now) 0 k c.size_of_run-all.new.sizes)
          (all_sized_lem a.entries.now a.parts.now a.items.now a.values.now a.out.now passes few match words asks c.size_of_run-all.result c.size_of_run-all.ensures.0) c.size_of_run-all.ensures.1,
    )

pub returns : goal.returns
returns c =
    let a = c.args in
    let passes : is_passed (check_table a.entries.now a.parts.now) ≡ true = ap is_passed (sym c.check_table.ensures ∙ c.in_ok-check_table.was) in
    let few : length a.items.now / 4 ≤ 512 = omega (arith, c.item_count.ensures, c.if-item_count-gt-MOST_ITEMS.false) in
    let match : matched [] (marks_of a.values.now a.items.now) ≡ true = sym (c.is_matched.ensures a.values.now) ∙ c.if-not-is_matched.false in
    let words : length a.items.now % 4 ≡ 0 = omega (arith, c.if-items-ne0.false) in
    let asks : all_asked (table_of a.entries.now a.parts.now) [] (marks_of a.values.now a.items.now) ≡ true = sym c.all_asked.ensures ∙ c.if-not-all_asked.false in
    let w = writes a.entries.now a.parts.now a.items.now a.values.now a.out.now passes few match words asks c.size_of_run-all.result c.size_of_run-all.ensures.0 (not-false _ c.if-not-all.false) (omega (arith, c.index-size.ensures, c.if-out-size.false)) in
    gives (w ∙ made (sym c.index-size.ensures) (sym c.put_items.ensures))
