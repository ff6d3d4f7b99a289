-- `decoder_decide::decide::decide_shaped`: the steps in their order, of every record that looks so. Assumes nothing.
use Prim.Native.Nat.{◌≤◌}
use mathlib.Core.Path.{◌≡◌, refl, sym, ap, ◌∙◌}
use native.Mathlib.Omega.{arith}
use lib.ListN.{length}
use Rattle.table.specs.Table.{table_of}
use Rattle.tag_parse.specs.Header.{read_header}
use Rattle.decoder_rules.specs.OneCall.{and_then, check10to12, check13, step1}
use Rattle.decoder_rules.specs.Deciding.{plain}
use Rattle.decoder_rules.specs.declared.types.TagDecoder.{TagDecoder}
use Rattle.decoder_look.specs.Summary.{summary}
use Rattle.decoder_look.specs.declared.summary.Summary.{Summary}
use Rattle.decoder_decide.proofs.Fields.{step1_for}
use Rattle.decoder_rules.proofs.Exits.{Admitted, Reading, NoneFull, AtBytes, hands_out, finished, closes_full, no_byte, header_incomplete, header_refused, admitted_by, closing_exits, refused_decides, read_decides, exit_decides}
use Rattle.decoder_rules.proofs.GoodState.{first_passed, PassedFor, passed_for}
use Rattle.decoder_decide.specs.GoodViews.{GoodView}
use Rattle.decoder_decide.proofs.GoodHeaders.{good_header}
use Rattle.decoder_decide.proofs.SettledView.{all_shown}
use Rattle.decoder_decide.proofs.decide.decide_shaped.Goals as goal
use Rattle.std.specs.Prelude.{Ok}
use Rattle.tools.specs.declared.status.Status.TheVariants as status

pub returns-in-Err : goal.returns-in-Err
unfolding check10to12
returns-in-Err c d e shown =
    let shaped : let a = c.args in c.check_11_to_13.result ≡ and_then (check10to12 a.entries.now a.parts.now a.summary.is_state_good a.summary.view.position (length a.input.now)) (check13 a.summary.finished (length a.input.now)) = c.check_11_to_13.ensures ∙ rw c.requires.parts_value in
    let first : (d : TagDecoder) → let a = c.args in a.summary ≡ summary d → c.check_11_to_13.result ≡ step1 a.entries.now a.parts.now d (length a.input.now) = λ d e. step1_for _ _ d _ refl (rw e at shaped) in
    c.plain.ensures ∙ refused_decides _ _ d _ (sym (first d e) ∙ c.in-Err.is)

pub returns-then-summary-gt0 : goal.returns-then-summary-gt0
unfolding check10to12
returns-then-summary-gt0 c d e shown =
    let shaped : let a = c.args in c.check_11_to_13.result ≡ and_then (check10to12 a.entries.now a.parts.now a.summary.is_state_good a.summary.view.position (length a.input.now)) (check13 a.summary.finished (length a.input.now)) = c.check_11_to_13.ensures ∙ rw c.requires.parts_value in
    let first : (d : TagDecoder) → let a = c.args in a.summary ≡ summary d → c.check_11_to_13.result ≡ step1 a.entries.now a.parts.now d (length a.input.now) = λ d e. step1_for _ _ d _ refl (rw e at shaped) in
    let admitted : (d : TagDecoder) → let a = c.args in a.summary ≡ summary d → Admitted a.entries.now a.parts.now d a.input.now = λ d e. admitted_by _ _ d _ (sym (first d e) ∙ c.in_default.is) in
    c.plain-then-summary-gt0.ensures ∙ exit_decides _ _ d _ (hands_out (admitted d e) (rw e at c.if-summary-gt0.true))

pub returns-then-summary : goal.returns-then-summary
unfolding check10to12
returns-then-summary c d e shown =
    let shaped : let a = c.args in c.check_11_to_13.result ≡ and_then (check10to12 a.entries.now a.parts.now a.summary.is_state_good a.summary.view.position (length a.input.now)) (check13 a.summary.finished (length a.input.now)) = c.check_11_to_13.ensures ∙ rw c.requires.parts_value in
    let first : (d : TagDecoder) → let a = c.args in a.summary ≡ summary d → c.check_11_to_13.result ≡ step1 a.entries.now a.parts.now d (length a.input.now) = λ d e. step1_for _ _ d _ refl (rw e at shaped) in
    let admitted : (d : TagDecoder) → let a = c.args in a.summary ≡ summary d → Admitted a.entries.now a.parts.now d a.input.now = λ d e. admitted_by _ _ d _ (sym (first d e) ∙ c.in_default.is) in
    let none : d.waiting_count ≤ 0 = rw e at c.if-summary-gt0.false in
    c.plain-then-summary.ensures ∙ exit_decides _ _ d _ (finished (admitted d e) (omega arith) (rw e at c.if-summary.true))

pub returns-then-summary-count : goal.returns-then-summary-count
unfolding check10to12
returns-then-summary-count c d e shown =
    let shaped : let a = c.args in c.check_11_to_13.result ≡ and_then (check10to12 a.entries.now a.parts.now a.summary.is_state_good a.summary.view.position (length a.input.now)) (check13 a.summary.finished (length a.input.now)) = c.check_11_to_13.ensures ∙ rw c.requires.parts_value in
    let first : (d : TagDecoder) → let a = c.args in a.summary ≡ summary d → c.check_11_to_13.result ≡ step1 a.entries.now a.parts.now d (length a.input.now) = λ d e. step1_for _ _ d _ refl (rw e at shaped) in
    let passed : let a = c.args in PassedFor a.entries.now a.parts.now a.summary.is_state_good a.summary.view.position (length a.input.now) = passed_for _ _ _ _ _ (first_passed _ _ (sym shaped ∙ c.in_default.is)) in
    let admitted : (d : TagDecoder) → let a = c.args in a.summary ≡ summary d → Admitted a.entries.now a.parts.now d a.input.now = λ d e. admitted_by _ _ d _ (sym (first d e) ∙ c.in_default.is) in
    let sound : GoodView c.args.summary.view = c.requires.ids_len.2 passed.found in
    let reading : (d : TagDecoder) → let a = c.args in a.summary ≡ summary d → Reading a.entries.now a.parts.now d a.input.now =
    λ d e. let none : d.waiting_count ≤ 0 = rw e at c.if-summary-gt0.false in
    record { admitted = admitted d e; none_waiting = omega arith; unfinished = rw e at c.if-summary.false } in
    let closing = c.close_or_fault.ensures d (all_shown d e sound shown).shown_ids in
    c.plain-then-summary-count.ensures ∙ ap plain (rw e at closing)
    ∙ exit_decides _ _ d _ (closes_full (reading d e) (rw e at c.if-summary-count.true) (closing_exits _ d _))

pub returns-then-n-eq0 : goal.returns-then-n-eq0
unfolding check10to12
returns-then-n-eq0 c d e shown =
    let shaped : let a = c.args in c.check_11_to_13.result ≡ and_then (check10to12 a.entries.now a.parts.now a.summary.is_state_good a.summary.view.position (length a.input.now)) (check13 a.summary.finished (length a.input.now)) = c.check_11_to_13.ensures ∙ rw c.requires.parts_value in
    let first : (d : TagDecoder) → let a = c.args in a.summary ≡ summary d → c.check_11_to_13.result ≡ step1 a.entries.now a.parts.now d (length a.input.now) = λ d e. step1_for _ _ d _ refl (rw e at shaped) in
    let admitted : (d : TagDecoder) → let a = c.args in a.summary ≡ summary d → Admitted a.entries.now a.parts.now d a.input.now = λ d e. admitted_by _ _ d _ (sym (first d e) ∙ c.in_default.is) in
    let reading : (d : TagDecoder) → let a = c.args in a.summary ≡ summary d → Reading a.entries.now a.parts.now d a.input.now =
    λ d e. let none : d.waiting_count ≤ 0 = rw e at c.if-summary-gt0.false in
    record { admitted = admitted d e; none_waiting = omega arith; unfinished = rw e at c.if-summary.false } in
    let none_full : (d : TagDecoder) → let a = c.args in a.summary ≡ summary d → NoneFull a.entries.now a.parts.now d a.input.now = λ d e. record { reading = reading d e; none_full = rw e at c.if-summary-count.false } in
    c.plain-then-n-eq0.ensures ∙ exit_decides _ _ d _ (no_byte (none_full d e) c.if-n-eq0.true)

pub steps6_11-requires : goal.steps6_11-requires
unfolding check10to12
steps6_11-requires c =
    let shaped : let a = c.args in c.check_11_to_13.result ≡ and_then (check10to12 a.entries.now a.parts.now a.summary.is_state_good a.summary.view.position (length a.input.now)) (check13 a.summary.finished (length a.input.now)) = c.check_11_to_13.ensures ∙ rw c.requires.parts_value in
    let passed : let a = c.args in PassedFor a.entries.now a.parts.now a.summary.is_state_good a.summary.view.position (length a.input.now) = passed_for _ _ _ _ _ (first_passed _ _ (sym shaped ∙ c.in_default.is)) in
    let sound : GoodView c.args.summary.view = c.requires.ids_len.2 passed.found in
    let h : read_header (table_of c.args.entries.now c.args.parts.now) c.args.input.now ≡ Ok (status.Complete _) = sym c.read_header.ensures ∙ (c.in-Ok-Complete.is ∙ ap Ok c.in-Ok-Complete.field-0-is) in
    record { ids_len = (c.requires.ids_len.0, c.requires.ids_len.1); good_view = (sound, good_header _ _ _ _ passed.shape (λ i. (c.type_inv.input i).fits) h) }

pub returns-in-Ok-NeedMore : goal.returns-in-Ok-NeedMore
unfolding check10to12
returns-in-Ok-NeedMore c d e shown =
    let shaped : let a = c.args in c.check_11_to_13.result ≡ and_then (check10to12 a.entries.now a.parts.now a.summary.is_state_good a.summary.view.position (length a.input.now)) (check13 a.summary.finished (length a.input.now)) = c.check_11_to_13.ensures ∙ rw c.requires.parts_value in
    let first : (d : TagDecoder) → let a = c.args in a.summary ≡ summary d → c.check_11_to_13.result ≡ step1 a.entries.now a.parts.now d (length a.input.now) = λ d e. step1_for _ _ d _ refl (rw e at shaped) in
    let admitted : (d : TagDecoder) → let a = c.args in a.summary ≡ summary d → Admitted a.entries.now a.parts.now d a.input.now = λ d e. admitted_by _ _ d _ (sym (first d e) ∙ c.in_default.is) in
    let reading : (d : TagDecoder) → let a = c.args in a.summary ≡ summary d → Reading a.entries.now a.parts.now d a.input.now =
    λ d e. let none : d.waiting_count ≤ 0 = rw e at c.if-summary-gt0.false in
    record { admitted = admitted d e; none_waiting = omega arith; unfinished = rw e at c.if-summary.false } in
    let none_full : (d : TagDecoder) → let a = c.args in a.summary ≡ summary d → NoneFull a.entries.now a.parts.now d a.input.now = λ d e. record { reading = reading d e; none_full = rw e at c.if-summary-count.false } in
    let at_bytes : (d : TagDecoder) → let a = c.args in a.summary ≡ summary d → AtBytes a.entries.now a.parts.now d a.input.now = λ d e. record { none_full = none_full d e; some_byte = omega (arith, c.if-n-eq0.false) } in
    c.plain-in-Ok-NeedMore.ensures ∙ exit_decides _ _ d _ (header_incomplete (at_bytes d e) (sym c.read_header.ensures ∙ (c.in-Ok-NeedMore.is ∙ ap Ok c.in-Ok-NeedMore.field-0-is)))

pub returns-in-Err-read_header : goal.returns-in-Err-read_header
unfolding check10to12
returns-in-Err-read_header c d e shown =
    let shaped : let a = c.args in c.check_11_to_13.result ≡ and_then (check10to12 a.entries.now a.parts.now a.summary.is_state_good a.summary.view.position (length a.input.now)) (check13 a.summary.finished (length a.input.now)) = c.check_11_to_13.ensures ∙ rw c.requires.parts_value in
    let first : (d : TagDecoder) → let a = c.args in a.summary ≡ summary d → c.check_11_to_13.result ≡ step1 a.entries.now a.parts.now d (length a.input.now) = λ d e. step1_for _ _ d _ refl (rw e at shaped) in
    let admitted : (d : TagDecoder) → let a = c.args in a.summary ≡ summary d → Admitted a.entries.now a.parts.now d a.input.now = λ d e. admitted_by _ _ d _ (sym (first d e) ∙ c.in_default.is) in
    let reading : (d : TagDecoder) → let a = c.args in a.summary ≡ summary d → Reading a.entries.now a.parts.now d a.input.now =
    λ d e. let none : d.waiting_count ≤ 0 = rw e at c.if-summary-gt0.false in
    record { admitted = admitted d e; none_waiting = omega arith; unfinished = rw e at c.if-summary.false } in
    let none_full : (d : TagDecoder) → let a = c.args in a.summary ≡ summary d → NoneFull a.entries.now a.parts.now d a.input.now = λ d e. record { reading = reading d e; none_full = rw e at c.if-summary-count.false } in
    let at_bytes : (d : TagDecoder) → let a = c.args in a.summary ≡ summary d → AtBytes a.entries.now a.parts.now d a.input.now = λ d e. record { none_full = none_full d e; some_byte = omega (arith, c.if-n-eq0.false) } in
    c.plain-in-Err-read_header.ensures ∙ rw c.into.ensures
    (exit_decides _ _ d _ (header_refused _ (at_bytes d e) (sym c.read_header.ensures ∙ c.in-Err-read_header.is)))

pub returns-in-Ok-Complete : goal.returns-in-Ok-Complete
unfolding check10to12
returns-in-Ok-Complete c d e shown =
    let shaped : let a = c.args in c.check_11_to_13.result ≡ and_then (check10to12 a.entries.now a.parts.now a.summary.is_state_good a.summary.view.position (length a.input.now)) (check13 a.summary.finished (length a.input.now)) = c.check_11_to_13.ensures ∙ rw c.requires.parts_value in
    let first : (d : TagDecoder) → let a = c.args in a.summary ≡ summary d → c.check_11_to_13.result ≡ step1 a.entries.now a.parts.now d (length a.input.now) = λ d e. step1_for _ _ d _ refl (rw e at shaped) in
    let passed : let a = c.args in PassedFor a.entries.now a.parts.now a.summary.is_state_good a.summary.view.position (length a.input.now) = passed_for _ _ _ _ _ (first_passed _ _ (sym shaped ∙ c.in_default.is)) in
    let admitted : (d : TagDecoder) → let a = c.args in a.summary ≡ summary d → Admitted a.entries.now a.parts.now d a.input.now = λ d e. admitted_by _ _ d _ (sym (first d e) ∙ c.in_default.is) in
    let sound : GoodView c.args.summary.view = c.requires.ids_len.2 passed.found in
    let reading : (d : TagDecoder) → let a = c.args in a.summary ≡ summary d → Reading a.entries.now a.parts.now d a.input.now =
    λ d e. let none : d.waiting_count ≤ 0 = rw e at c.if-summary-gt0.false in
    record { admitted = admitted d e; none_waiting = omega arith; unfinished = rw e at c.if-summary.false } in
    let none_full : (d : TagDecoder) → let a = c.args in a.summary ≡ summary d → NoneFull a.entries.now a.parts.now d a.input.now = λ d e. record { reading = reading d e; none_full = rw e at c.if-summary-count.false } in
    let at_bytes : (d : TagDecoder) → let a = c.args in a.summary ≡ summary d → AtBytes a.entries.now a.parts.now d a.input.now = λ d e. record { none_full = none_full d e; some_byte = omega (arith, c.if-n-eq0.false) } in
    let seen = all_shown d e sound shown in
    read_decides _ _ d _ (record { at_bytes = at_bytes d e; read = sym c.read_header.ensures ∙ (c.in-Ok-Complete.is ∙ ap Ok c.in-Ok-Complete.field-0-is) })
    (c.steps6_11.ensures d (ap (λ (k : Summary). k.view) e) seen)
