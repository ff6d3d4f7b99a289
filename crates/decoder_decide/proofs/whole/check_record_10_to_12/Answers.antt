-- `decoder_decide::whole::check_record_10_to_12`, from a look. Assumes nothing.
use mathlib.Core.Path.{◌≡◌, sym, ap, ◌∙◌}
use borrow.Author.Tests.{eq-eqb}
use Rattle.basics.specs.Lists.{every}
use Rattle.decoder_rules.specs.Record.{waits}
use Rattle.decoder_rules.specs.OneCall.{good_end}
use Rattle.decoder_look.specs.declared.summary.Summary.{Summary}
use Rattle.decoder_look.proofs.GoodEnds.{none_waits, with_ends}
use Rattle.decoder_decide.proofs.Fields.{refused12_for}
use Rattle.decoder_decide.proofs.whole.check_record_10_to_12.Goals as goal
use Rattle.decoder_decide.proofs.whole.check_record_10_to_12.Goals.{then-d-eq0, else-d-eq0}

pub returns : goal.returns
returns c =
    let ends_found : let d = c.args.d in c.if-d-eq0.ends ≡ every (good_end d.position) (waits d) =
    let d = c.args.d in
    elim c.if-d-eq0.branch [
      | then-d-eq0 w ↦ w.ends-is ∙ eq-eqb _ _ w.if-d-eq0.true ∙ sym (none_waits d w.if-d-eq0.true)
      | else-d-eq0 w ↦ w.ends-is ∙ w.good_ends-ends.ensures
    ] in
    let a = c.args in
    refused12_for a.entries.now a.parts.now a.d a.n (ap (λ (s : Summary). s.is_state_good) (with_ends a.d ends_found c.summarize-summary.ensures.0)) c.check_10_to_12.ensures
