-- `decoder_decide::decide::steps6_11`: an ID without a type, or the note, and steps 8 to 11 on the record with it.
-- Assumes nothing.
use mathlib.Core.Path.{◌≡◌, sym, ap, ◌∙◌}
use mathlib.Core.Bool.{true}
use Rattle.table.specs.Table.{table_of}
use Rattle.decoder_rules.specs.OneCall.{noted, step6, step7}
use Rattle.decoder_rules.specs.Deciding.{plain}
use Rattle.decoder_rules.specs.declared.types.DecodeError.{DecodeError}
use Rattle.decoder_rules.specs.declared.types.TagDecoder.{TagDecoder}
use Rattle.decoder_look.specs.Summary.{header_view}
use Rattle.decoder_rules.proofs.Exits.{id_refused_decides, noted_decides}
use Rattle.decoder_decide.proofs.GoodHeaders.{note_of_path}
use Rattle.decoder_decide.proofs.decide.steps6_11.Goals as goal
use Rattle.std.specs.Prelude.{Err, None, Some}

pub returns-then-not-is_id_allowed : goal.returns-then-not-is_id_allowed
returns-then-not-is_id_allowed c d e shown =
    let refused = rw e at c.id_refusal.ensures in
    c.plain.ensures ∙ ap (λ (x : DecodeError). plain (Err x)) refused
    ∙ id_refused_decides _ _ d _ _ (sym (rw e at c.is_id_allowed.ensures) ∙ c.if-not-is_id_allowed.true)

pub returns-in-Some : goal.returns-in-Some
unfolding noted
returns-in-Some c d e shown =
    let allowed : (d : TagDecoder) → let a = c.args in a.view ≡ header_view d → step6 d a.h ≡ true = λ d e. sym (rw e at c.is_id_allowed.ensures) ∙ c.if-not-is_id_allowed.false in
    let noted-by : (d : TagDecoder) → let a = c.args in a.view ≡ header_view d → c.settling_note-note.result ≡ step7 (table_of a.entries.now a.parts.now) d a.h = λ d e. rw e at c.settling_note-note.ensures ∙ note_of_path _ _ d _ c.requires.good_view.1 in
    noted_decides _ _ d _ _ (Some _) (allowed d e) (sym c.in-Some.is ∙ noted-by d e) (c.settling.ensures d e)

pub returns : goal.returns
unfolding noted
returns c d e shown =
    let allowed : (d : TagDecoder) → let a = c.args in a.view ≡ header_view d → step6 d a.h ≡ true = λ d e. sym (rw e at c.is_id_allowed.ensures) ∙ c.if-not-is_id_allowed.false in
    let noted-by : (d : TagDecoder) → let a = c.args in a.view ≡ header_view d → c.settling_note-note.result ≡ step7 (table_of a.entries.now a.parts.now) d a.h = λ d e. rw e at c.settling_note-note.ensures ∙ note_of_path _ _ d _ c.requires.good_view.1 in
    c.plain-2.ensures ∙ noted_decides _ _ d _ _ None (allowed d e) (sym c.in_default.is ∙ noted-by d e) (c.steps8_11.ensures d e shown)
