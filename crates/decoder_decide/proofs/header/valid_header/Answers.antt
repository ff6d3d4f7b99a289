-- `decoder_decide::header::valid_header`: by the path, then by the size. Assumes nothing.
use mathlib.Core.Path.{◌≡◌, sym, ◌∙◌}
use mathlib.Core.Bool.{true}
use Rattle.table.specs.Table.{table_of}
use Rattle.decoder_rules.specs.OneCall.{step8}
use Rattle.decoder_look.specs.Summary.{ForEveryRecordSeenAs}
use Rattle.decoder_decide.proofs.Fields.{invalid_8, valid_9}
use Rattle.decoder_decide.proofs.header.valid_header.Goals as goal

pub returns-then-not-step8 : goal.returns-then-not-step8
returns-then-not-step8 c d e shown = invalid_8 _ _ _ (sym (c.step8.ensures d e shown) ∙ c.if-not-step8.true)

pub returns-in-Unknown : goal.returns-in-Unknown
returns-in-Unknown c d e shown =
    let path-valid : let a = c.args in ForEveryRecordSeenAs a.view a.ids.now a.knowns.now (λ d. step8 (table_of a.entries.now a.parts.now) d a.h ≡ true) = λ d e shown. sym (c.step8.ensures d e shown) ∙ c.if-not-step8.false in
    valid_9 _ _ _ (path-valid d e shown) (rw c.in-Unknown.is (c.unknown_checked.ensures d e))

pub returns-in-Known : goal.returns-in-Known
returns-in-Known c d e shown =
    let path-valid : let a = c.args in ForEveryRecordSeenAs a.view a.ids.now a.knowns.now (λ d. step8 (table_of a.entries.now a.parts.now) d a.h ≡ true) = λ d e shown. sym (c.step8.ensures d e shown) ∙ c.if-not-step8.false in
    valid_9 _ _ _ (path-valid d e shown) (rw c.in-Known.is (c.known_checked.ensures d e))
