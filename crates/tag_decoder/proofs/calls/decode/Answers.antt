-- `tag_decoder::calls::decode`: what was seen decides, the decision fits the record, the note is made, and the record
-- moves part by part. Assumes nothing.
use Prim.Native.Nat.{ℕ, ◌+◌, ◌≤◌, ◌<◌}
use mathlib.Core.Path.{◌≡◌, refl, sym, ap, ◌∙◌}
use native.Mathlib.Omega.{arith}
use mathlib.Core.List.{List}
use lib.ListN.{length, get_or, set}
use Rattle.spec_util.specs.Walk.{no_tag}
use Rattle.spec_util.specs.declared.types.OpenTag.{OpenTag}
use Rattle.decoder_rules.specs.Record.{farthest, waits, with_open, with_notes, at_position, counted_last, counted, opened}
use Rattle.decoder_rules.specs.Deciding.{decide}
use Rattle.decoder_move.specs.Answers.{taken_by}
use Rattle.decoder_rules.specs.Moving.{gives, master_at, move, apply, decode}
use Rattle.decoder_rules.specs.declared.types.Action.{Action}
use Rattle.decoder_rules.specs.declared.types.TagDecoder.{TagDecoder}
use Rattle.basics.specs.Lists.{every}
use Rattle.decoder_rules.specs.OneCall.{good_end, noted}
use Rattle.decoder_look.specs.Summary.{summary}
use Rattle.decoder_look.proofs.GoodEnds.{none_waits, with_ends}
use Rattle.decoder_look.proofs.Shown.{shown_in_front}
use Rattle.decoder_decide.proofs.SettledView.{sound_summary}
use Rattle.decoder_move.specs.Applies.{CountsFit, ActionApplies, DecisionApplies}
use Rattle.decoder_move.proofs.DecisionApplies.{decide_applies, note_settles, noted_long, hands_out, closes, starts, start_counts, passes_on, data-counts, top_fits}
use Rattle.decoder_move.proofs.MoveParts.{moved_parts, child_counted}
use Rattle.basics.proofs.ArrayOf32.{length_of_map}
use borrow.Author.Rules.{rules}
use borrow.Author.Tests.{eq-eqb}
use Rattle.tag_decoder.proofs.calls.decode.Goals as goal
use Rattle.tag_decoder.proofs.calls.decode.Goals.{then-d-eq0, else-d-eq0, in-Some, in_default, After-answer_to-answer}
use Rattle.std.specs.Prelude.{Result, Ok}
use Rattle.decoder_rules.specs.declared.types.DecodeError.{DecodeError}

module _ (c : After-answer_to-answer) where
  -- the Ends are found good or not, so what was seen is what the tests ask
  seen : c.summarize-summary.result ≡ summary c.args.d
  seen =
      let ends_found : c.if-d-eq0.ends ≡ every (good_end c.args.d.position) (waits c.args.d) = elim c.if-d-eq0.branch [
        | then-d-eq0 w ↦ w.ends-is ∙ eq-eqb _ _ w.if-d-eq0.true ∙ sym (none_waits c.args.d w.if-d-eq0.true)
        | else-d-eq0 w ↦ w.ends-is ∙ w.good_ends-ends.ensures
      ] in
      with_ends c.args.d ends_found c.summarize-summary.ensures.0

  -- what was seen decides for the record
  decided : c.decide-decision.result ≡ decide c.args.entries.now c.args.parts.now c.args.d c.args.input.now
  decided = c.decide-decision.ensures c.args.d seen (shown_in_front c.summarize-summary.ensures.1)

  -- what was decided fits
  fits : DecisionApplies c.args.parts.now c.args.d (length c.args.input.now) c.decide-decision.result
  fits = rw decided (decide_applies c.args.entries.now c.args.parts.now c.args.d c.args.input.now (λ i. (c.type_inv.input i).fits))

  -- the record has the note, whichever it is
  has_note : c.match-note.d ≡ noted c.args.parts.now c.args.d c.decide-decision.result.note
  unfolding noted
  has_note =
      elim c.match-note.branch [
        | in-Some w ↦ rw w.in-Some.is (w.d-is ∙ w.settled_to-d.ensures)
        | in_default w ↦ rw w.in_default.is w.d-is
      ]

  -- the record's array has its places
  long : length c.args.d.«open» ≡ 32
  long = let w = c.well_formed in search length_of_map

  -- and so it has with the note
  long_noted : length c.match-note.d.«open» ≡ 32
  long_noted =
      rw has_note (noted_long c.args.parts.now c.args.d c.decide-decision.result.note fits.note long)

  -- so the action fits it
  action_fits : ActionApplies c.match-note.d (length c.args.input.now) c.decide-decision.result.action
  action_fits = rw has_note fits.action

  -- the top's count fits, where a master is open
  top_room : CountsFit c.match-note.d → 0 < c.match-note.d.open_count → (get_or c.match-note.d.«open» c.top_place-top.result no_tag).count ≤ farthest
  top_room f h = top_fits c.match-note.d _ long_noted f (λ k. omega (arith, c.top_place-top.ensures, f.0)) h

  -- the answer, where the record is as the action moves it
  ends : (taken : ℕ) (a : Result Action DecodeError) (e : TagDecoder) → taken ≡ taken_by c.decide-decision.result.action → c.decide-decision.result.action ≡ a → e ≡ (move c.match-note.d a).state
      → gives c.answer_to-answer.result taken e ≡ decode c.args.entries.now c.args.parts.now c.args.d c.args.input.now
  unfolding apply
  ends taken a e t k h =
      rw (c.answer_to-answer.ensures, t, h, ← k)
      (moved_parts c.match-note.d _ c.top_place-top.result _ long_noted action_fits (λ h. omega (arith, c.top_place-top.ensures)) ∙ rw (has_note, decided))

pub decide-decision-requires : goal.decide-decision-requires
decide-decision-requires c =
    let i : length c.summarize-summary.new.ids ≡ 32 = search rules in
    let j : length c.summarize-summary.new.knowns ≡ 32 = search rules in
    let ends_found : c.if-d-eq0.ends ≡ every (good_end c.args.d.position) (waits c.args.d) = elim c.if-d-eq0.branch [
      | then-d-eq0 w ↦ w.ends-is ∙ eq-eqb _ _ w.if-d-eq0.true ∙ sym (none_waits c.args.d w.if-d-eq0.true)
      | else-d-eq0 w ↦ w.ends-is ∙ w.good_ends-ends.ensures
    ] in
    (i, j, sound_summary c.args.d (with_ends c.args.d ends_found c.summarize-summary.ensures.0))

pub settled_to-d-requires : goal.settled_to-d-requires
settled_to-d-requires c =
    let a = c.args in
    let ends_found : c.if-d-eq0.ends ≡ every (good_end c.args.d.position) (waits c.args.d) = elim c.if-d-eq0.branch [
      | then-d-eq0 w ↦ w.ends-is ∙ eq-eqb _ _ w.if-d-eq0.true ∙ sym (none_waits c.args.d w.if-d-eq0.true)
      | else-d-eq0 w ↦ w.ends-is ∙ w.good_ends-ends.ensures
    ] in
    let decided = c.decide-decision.ensures a.d (with_ends a.d ends_found c.summarize-summary.ensures.0) (shown_in_front c.summarize-summary.ensures.1) in
    let fits : DecisionApplies a.parts.now a.d (length a.input.now) c.decide-decision.result =
    rw decided (decide_applies a.entries.now a.parts.now a.d a.input.now (λ i. (c.type_inv.input i).fits)) in
    note_settles _ _ (rw c.in-Some.is at fits.note)

pub handed_out-d-requires : goal.handed_out-d-requires
handed_out-d-requires c =
    let m = goal.at.handed_out-d-requires c in
    hands_out _ _ (rw (c.in-Ok-HandOut.is ∙ ap Ok (rw c.in-Ok-HandOut.is at c.in-Ok-HandOut.field-0-is)) at (action_fits m.After-answer_to-answer))

pub closed_to-d-requires : goal.closed_to-d-requires
closed_to-d-requires c =
    let m = goal.at.closed_to-d-requires c in
    closes _ _ _ (rw (c.in-Ok-Close.is ∙ ap Ok (rw c.in-Ok-Close.is at c.in-Ok-Close.field-0-is)) at (action_fits m.After-answer_to-answer))

pub with_child-requires : goal.with_child-requires
with_child-requires c =
    let m = goal.at.with_child-requires c in
    top_room m.After-answer_to-answer (start_counts _ _ _ _ _ (rw (c.in-Ok-Start.is ∙ ap Ok (rw c.in-Ok-Start.is at c.in-Ok-Start.field-0-is)) at (action_fits m.After-answer_to-answer)))

pub master_at-requires : goal.master_at-requires
master_at-requires c =
    let m = goal.at.master_at-requires c in
    let room = starts _ _ _ _ _ (rw (c.in-Ok-Start.is ∙ ap Ok (rw c.in-Ok-Start.is at c.in-Ok-Start.field-0-is)) at (action_fits m.After-answer_to-answer)) in
    (omega arith, omega arith)

pub offset_bounds-d-n : goal.offset_bounds-d-n
offset_bounds-d-n c =
    let m = goal.at.offset_bounds-d-n c in
    omega (arith, starts _ _ _ _ _ (rw (c.in-Ok-Start.is ∙ ap Ok (rw c.in-Ok-Start.is at c.in-Ok-Start.field-0-is)) at (action_fits m.After-answer_to-answer)))

pub bounds-d-n : goal.bounds-d-n
bounds-d-n c =
    let m = goal.at.bounds-d-n c in
    omega (arith, starts _ _ _ _ _ (rw (c.in-Ok-Start.is ∙ ap Ok (rw c.in-Ok-Start.is at c.in-Ok-Start.field-0-is)) at (action_fits m.After-answer_to-answer)))

pub overflow_add-d : goal.overflow_add-d
overflow_add-d c =
    let m = goal.at.overflow_add-d c in
    omega (arith, starts _ _ _ _ _ (rw (c.in-Ok-Start.is ∙ ap Ok (rw c.in-Ok-Start.is at c.in-Ok-Start.field-0-is)) at (action_fits m.After-answer_to-answer)))

pub with_child-requires-in-Ok-Data : goal.with_child-requires-in-Ok-Data
with_child-requires-in-Ok-Data c =
    let m = goal.at.with_child-requires-in-Ok-Data c in
    top_room m.After-answer_to-answer (data-counts _ _ _ _ _ (rw (c.in-Ok-Data.is ∙ ap Ok (rw c.in-Ok-Data.is at c.in-Ok-Data.field-0-is)) at (action_fits m.After-answer_to-answer)))

pub overflow_add-d-in-Ok-Data : goal.overflow_add-d-in-Ok-Data
overflow_add-d-in-Ok-Data c =
    let m = goal.at.overflow_add-d-in-Ok-Data c in
    omega (arith, passes_on _ _ _ _ _ (rw (c.in-Ok-Data.is ∙ ap Ok (rw c.in-Ok-Data.is at c.in-Ok-Data.field-0-is)) at (action_fits m.After-answer_to-answer)))

pub returns-in-Err : goal.returns-in-Err
unfolding move
returns-in-Err c =
    let m = goal.at.returns-in-Err c in
    ends m.After-answer_to-answer _ _ _ c.taken_by-taken.ensures c.in-Err.is refl

pub returns-in-Ok-NeedMore : goal.returns-in-Ok-NeedMore
unfolding move
returns-in-Ok-NeedMore c =
    let m = goal.at.returns-in-Ok-NeedMore c in
    ends m.After-answer_to-answer _ _ _ c.taken_by-taken.ensures (c.in-Ok-NeedMore.is ∙ ap Ok (rw c.in-Ok-NeedMore.is at c.in-Ok-NeedMore.field-0-is)) refl

pub returns-in-Ok-Finish : goal.returns-in-Ok-Finish
unfolding move
returns-in-Ok-Finish c =
    let m = goal.at.returns-in-Ok-Finish c in
    ends m.After-answer_to-answer _ _ _ c.taken_by-taken.ensures (c.in-Ok-Finish.is ∙ ap Ok (rw c.in-Ok-Finish.is at c.in-Ok-Finish.field-0-is)) refl

pub returns-in-Ok-HandOut : goal.returns-in-Ok-HandOut
unfolding move
returns-in-Ok-HandOut c =
    let m = goal.at.returns-in-Ok-HandOut c in
    ends m.After-answer_to-answer _ _ _ c.taken_by-taken.ensures (c.in-Ok-HandOut.is ∙ ap Ok (rw c.in-Ok-HandOut.is at c.in-Ok-HandOut.field-0-is)) c.handed_out-d.ensures

pub returns-in-Ok-Close : goal.returns-in-Ok-Close
unfolding move
returns-in-Ok-Close c =
    let m = goal.at.returns-in-Ok-Close c in
    ends m.After-answer_to-answer _ _ _ c.taken_by-taken.ensures (c.in-Ok-Close.is ∙ ap Ok (rw c.in-Ok-Close.is at c.in-Ok-Close.field-0-is)) c.closed_to-d.ensures

pub returns-in-Ok-Start : goal.returns-in-Ok-Start
unfolding move counted opened with_open with_notes
returns-in-Ok-Start c =
    let m = goal.at.returns-in-Ok-Start c in
    let d = c.match-note.d in
    let top = c.top_place-top.result in
    let room = starts _ _ _ _ _ (rw (c.in-Ok-Start.is ∙ ap Ok (rw c.in-Ok-Start.is at c.in-Ok-Start.field-0-is)) at (action_fits m.After-answer_to-answer)) in
    let its_child : set d.«open» top c.with_child.result ≡ counted_last d.open_count d.«open» =
    ap (set d.«open» top) c.with_child.ensures ∙ child_counted d.«open» d.open_count top (omega (arith, room)) c.top_place-top.ensures in
    ends m.After-answer_to-answer _ _ _ c.taken_by-taken.ensures (c.in-Ok-Start.is ∙ ap Ok (rw c.in-Ok-Start.is at c.in-Ok-Start.field-0-is))
    (rw c.master_at.ensures (ap (λ (l : List OpenTag). opened (with_open (at_position d (d.position + c.in-Ok-Start.len)) l d.open_count) (master_at c.in-Ok-Start.id c.in-Ok-Start.size d.position c.in-Ok-Start.len)) its_child))

pub returns-in-Ok-Data : goal.returns-in-Ok-Data
unfolding move counted with_open with_notes
returns-in-Ok-Data c =
    let m = goal.at.returns-in-Ok-Data c in
    let d = c.match-note.d in
    let top = c.top_place-top.result in
    let f = data-counts _ _ _ _ _ (rw (c.in-Ok-Data.is ∙ ap Ok (rw c.in-Ok-Data.is at c.in-Ok-Data.field-0-is)) at (action_fits m.After-answer_to-answer)) in
    let its_child : set d.«open» top c.with_child-in-Ok-Data.result ≡ counted_last d.open_count d.«open» =
    ap (set d.«open» top) c.with_child-in-Ok-Data.ensures ∙ child_counted d.«open» d.open_count top f.0 c.top_place-top.ensures in
    ends m.After-answer_to-answer _ _ _ c.taken_by-taken.ensures (c.in-Ok-Data.is ∙ ap Ok (rw c.in-Ok-Data.is at c.in-Ok-Data.field-0-is)) (ap (λ (l : List OpenTag). with_open (at_position d (d.position + c.in-Ok-Data.n)) l d.open_count) its_child)
