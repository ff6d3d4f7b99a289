-- `decoder_decide::decide::steps8_11`: the header's tests, then what closes, then step 11, of every record that is seen
-- so. Assumes nothing.
use mathlib.Core.Path.{◌≡◌, sym, ap, ◌∙◌}
use Rattle.std.specs.Prelude.{Err}
use Rattle.std.proofs.lemmas.Result.{err_from_is_err_and}
use Rattle.table.specs.Table.{table_of}
use Rattle.decoder_rules.specs.Record.{opens}
use Rattle.decoder_rules.specs.OneCall.{close_or_fault}
use Rattle.decoder_rules.specs.declared.types.TagDecoder.{TagDecoder}
use Rattle.spec_util.specs.Walk.{Shown}
use Rattle.decoder_look.specs.Summary.{header_view}
use Rattle.decoder_rules.proofs.Exits.{Valid, valid_by, ends_tops, closing_exits, header_decides, invalid_decides, element_decides}
use Rattle.decoder_decide.proofs.decide.steps8_11.Goals as goal

pub returns-in_err-valid_header : goal.returns-in_err-valid_header
returns-in_err-valid_header c d e shown =
    let p = err_from_is_err_and c.from_residual.result c.from_residual.ensures.1 in
    p.1 ∙ ap Err p.2 ∙ invalid_decides _ d _ _ (sym (c.valid_header.ensures d e shown) ∙ c.in_err-valid_header.was)

pub returns-then-kept-count : goal.returns-then-kept-count
returns-then-kept-count c d e shown =
    let valid : (d : TagDecoder) → let a = c.args in a.view ≡ header_view d → Shown a.ids.now a.knowns.now a.view.count (opens d) → Valid (table_of a.entries.now a.parts.now) d a.h = λ d e shown. valid_by _ d _ (sym (c.valid_header.ensures d e shown) ∙ c.in_ok-valid_header.was) in
    let q = rw e at (c.left_open-kept.ensures (opens d) shown) in
    let v = valid d e shown in
    c.close_or_fault.ensures d shown.shown_ids ∙ ap (close_or_fault _ d) q
    ∙ header_decides _ d _ _ (ends_tops v (rw q at (rw e at c.if-kept-count.true)) (closing_exits _ d _))

pub returns : goal.returns
returns c d e shown =
    let valid : (d : TagDecoder) → let a = c.args in a.view ≡ header_view d → Shown a.ids.now a.knowns.now a.view.count (opens d) → Valid (table_of a.entries.now a.parts.now) d a.h = λ d e shown. valid_by _ d _ (sym (c.valid_header.ensures d e shown) ∙ c.in_ok-valid_header.was) in
    let q = rw e at (c.left_open-kept.ensures (opens d) shown) in
    let v = valid d e shown in
    element_decides _ d _ _ (record { valid = v; none_ended = rw q at (rw e at c.if-kept-count.false) }) (rw e at c.step11.ensures)
