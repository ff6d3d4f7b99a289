-- `decoder_decide::closing::close_or_fault`: by the test of the masters' IDs. Assumes nothing.
use mathlib.Core.Path.{◌≡◌, sym, ◌∙◌}
use lib.ListN.{drop}
use Rattle.basics.specs.Lists.{every}
use Rattle.table.specs.Table.{table_of, data_type_of, is_master}
use Rattle.decoder_rules.specs.Record.{opens}
use Rattle.decoder_rules.specs.OneCall.{close_or_fault}
use Rattle.decoder_rules.specs.declared.types.TagDecoder.{TagDecoder}
use Rattle.spec_util.specs.Walk.{ShownIds}
use Rattle.decoder_look.proofs.Shown.{every_shown}
use Rattle.decoder_decide.proofs.closing.close_or_fault.Goals as goal

pub returns-then-all_masters : goal.returns-then-all_masters
unfolding close_or_fault
returns-then-all_masters c d shown =
    let tested : (d : TagDecoder) → let a = c.args in ShownIds a.ids.now a.n (opens d) → every (λ m. is_master (data_type_of (table_of a.entries.now a.parts.now) m.id)) (drop a.k (opens d)) ≡ c.all_masters.result = λ d shown. sym (c.all_masters.ensures ∙ every_shown (λ x. is_master (data_type_of _ x)) c.args.k c.requires shown) in
    rw (tested d shown, c.if-all_masters.true)

pub returns-else-all_masters : goal.returns-else-all_masters
unfolding close_or_fault
returns-else-all_masters c d shown =
    let tested : (d : TagDecoder) → let a = c.args in ShownIds a.ids.now a.n (opens d) → every (λ m. is_master (data_type_of (table_of a.entries.now a.parts.now) m.id)) (drop a.k (opens d)) ≡ c.all_masters.result = λ d shown. sym (c.all_masters.ensures ∙ every_shown (λ x. is_master (data_type_of _ x)) c.args.k c.requires shown) in
    rw (tested d shown, c.if-all_masters.false)
