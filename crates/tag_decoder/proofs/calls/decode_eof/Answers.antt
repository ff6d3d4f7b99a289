-- `tag_decoder::calls::decode_eof`, by the call's answer. Assumes nothing.
use mathlib.Core.Path.{ap, sym, ◌∙◌}
use Rattle.decoder_rules.proofs.EndExits.{is_quiet}
use Rattle.decoder_move.proofs.DecisionApplies.{after_quiet, eof_of}
use Rattle.tag_decoder.proofs.calls.decode_eof.Goals as goal
use Rattle.std.specs.Prelude.{Ok}

pub end_of_input-requires : goal.end_of_input-requires
end_of_input-requires c =
    let a = c.args in
    let g = after_quiet a.entries.now a.parts.now a.d a.input.now (λ i. (c.type_inv.input i).fits) _ c.decode-r.ensures (ap is_quiet (c.in-Ok-NeedMore.is ∙ ap Ok (rw c.in-Ok-NeedMore.is at c.in-Ok-NeedMore.field-0-is))) in
    (g.few, g.near)

pub end_of_input-requires-in-Ok-Finished : goal.end_of_input-requires-in-Ok-Finished
end_of_input-requires-in-Ok-Finished c =
    let a = c.args in
    let g = after_quiet a.entries.now a.parts.now a.d a.input.now (λ i. (c.type_inv.input i).fits) _ c.decode-r.ensures (ap is_quiet (c.in-Ok-Finished.is ∙ ap Ok (rw c.in-Ok-Finished.is at c.in-Ok-Finished.field-0-is))) in
    (g.few, g.near)

pub returns-in-Ok-Event : goal.returns-in-Ok-Event
returns-in-Ok-Event c =
    let a = c.args in
    let e = eof_of a.entries.now a.parts.now a.d a.input.now (λ i. (c.type_inv.input i).fits) _ c.decode-r.ensures _ (c.in-Ok-Event.is ∙ ap Ok (rw c.in-Ok-Event.is at c.in-Ok-Event.field-0-is)) in
    sym e

pub returns-in-Ok-NeedMore : goal.returns-in-Ok-NeedMore
returns-in-Ok-NeedMore c =
    let a = c.args in
    let e = eof_of a.entries.now a.parts.now a.d a.input.now (λ i. (c.type_inv.input i).fits) _ c.decode-r.ensures _ (c.in-Ok-NeedMore.is ∙ ap Ok (rw c.in-Ok-NeedMore.is at c.in-Ok-NeedMore.field-0-is)) in
    c.end_of_input.ensures ∙ sym e

pub returns-in-Ok-Finished : goal.returns-in-Ok-Finished
returns-in-Ok-Finished c =
    let a = c.args in
    let e = eof_of a.entries.now a.parts.now a.d a.input.now (λ i. (c.type_inv.input i).fits) _ c.decode-r.ensures _ (c.in-Ok-Finished.is ∙ ap Ok (rw c.in-Ok-Finished.is at c.in-Ok-Finished.field-0-is)) in
    c.end_of_input-in-Ok-Finished.ensures ∙ sym e

pub returns-in-Err : goal.returns-in-Err
returns-in-Err c =
    let a = c.args in
    let e = eof_of a.entries.now a.parts.now a.d a.input.now (λ i. (c.type_inv.input i).fits) _ c.decode-r.ensures _ c.in-Err.is in
    sym e
