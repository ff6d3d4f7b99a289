-- `spec_util::ended::is_ended_strictly`: by the type and the path that were looked up. Assumes nothing.
use mathlib.Core.Path.{◌≡◌, sym, ap, ◌∙◌}
use mathlib.Core.Bool.{true, false}
use Rattle.std.proofs.lemmas.Bool.{false≢true}
use Rattle.table.specs.Check.{only_ids}
use Rattle.table.specs.Table.{table_of, data_type_of, path_of, is_typed}
use Rattle.table.specs.declared.types.Spec.{Spec}
use Rattle.table.proofs.Entries.{path_of_lem}
use Rattle.spec_util.specs.Ended.{is_ended_strictly}
use Rattle.spec_util.proofs.ended.is_ended_strictly.Goals.{then-is_typed, else-is_typed}
use Rattle.spec_util.proofs.ended.is_ended_strictly.Goals as goal

pub returns-then-only_ids : goal.returns-then-only_ids
unfolding is_ended_strictly
returns-then-only_ids c =
    let typed-is : let a = c.args in c.is_typed.result ≡ is_typed (data_type_of (table_of a.entries.now a.parts.now) a.test_id) = c.is_typed.ensures ∙ ap (λ (s : Spec). is_typed s.kind) c.look_up-test.ensures in
    elim c.if-is_typed.branch [
      | then-is_typed w ↦
          let a = c.args in
          let ids_are : w.only_ids.result ≡ only_ids (path_of (table_of a.entries.now a.parts.now) a.test_id) = w.only_ids.ensures ∙ ap only_ids (path_of_lem a.entries.now a.parts.now a.test_id (ap (λ (s : Spec). s.path) c.look_up-test.ensures)) in
          let both : w.only_ids.result ≡ true = sym w.value-is ∙ c.if-only_ids.true in
          rw (← typed-is, w.if-is_typed.true, ← ids_are, both) c.is_ended_by.ensures
      | else-is_typed w ↦ absurd (false≢true (sym w.if-is_typed.false ∙ sym w.value-is ∙ c.if-only_ids.true))
    ]

pub returns-else-only_ids : goal.returns-else-only_ids
unfolding is_ended_strictly
returns-else-only_ids c =
    let typed-is : let a = c.args in c.is_typed.result ≡ is_typed (data_type_of (table_of a.entries.now a.parts.now) a.test_id) = c.is_typed.ensures ∙ ap (λ (s : Spec). is_typed s.kind) c.look_up-test.ensures in
    elim c.if-is_typed.branch [
      | then-is_typed w ↦
          let a = c.args in
          let ids_are : w.only_ids.result ≡ only_ids (path_of (table_of a.entries.now a.parts.now) a.test_id) = w.only_ids.ensures ∙ ap only_ids (path_of_lem a.entries.now a.parts.now a.test_id (ap (λ (s : Spec). s.path) c.look_up-test.ensures)) in
          let none : w.only_ids.result ≡ false = sym w.value-is ∙ c.if-only_ids.false in
          rw (← typed-is, w.if-is_typed.true, ← ids_are, none) c.if-only_ids.false
      | else-is_typed w ↦ rw (← typed-is, w.if-is_typed.false) c.if-only_ids.false
    ]
