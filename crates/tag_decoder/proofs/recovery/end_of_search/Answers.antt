-- `tag_decoder::recovery::end_of_search`: where no header reads the search stops; else the record there, with its note,
-- is judged. Assumes nothing.
use Prim.Native.Nat.{◌+◌}
use mathlib.Core.Path.{◌≡◌, sym, ap, ◌∙◌, subst}
use native.Mathlib.Omega.{arith}
use lib.ListN.{drop}
use Rattle.table.specs.Table.{table_of}
use Rattle.tag_parse.specs.Header.{read_header}
use Rattle.tag_parse.proofs.Cases.{octets_drop, rest_is}
use Rattle.decoder_rules.proofs.GoodState.{GoodState, good_state_lem}
use Rattle.decoder_rules.specs.Record.{at_position, with_notes}
use Rattle.decoder_rules.specs.OneCall.{step7, noted, valid_header}
use Rattle.decoder_rules.specs.declared.types.TagDecoder.{TagDecoder}
use Rattle.decoder_decide.specs.GoodViews.{GoodHeader}
use Rattle.decoder_decide.proofs.GoodHeaders.{good_header, note_of_path}
use Rattle.decoder_move.specs.Applies.{NoteApplies}
use Rattle.decoder_move.proofs.DecisionApplies.{note_settles}
use Rattle.tag_decoder.proofs.Recovering.{step7_applies, searched_first, NoHeader, part_is_none, refusal_is_none, searched_all, searched_stop, with_note_good, searched_found, searched_on}
use Rattle.tag_decoder.proofs.recovery.end_of_search.Goals as goal
use Rattle.tag_decoder.proofs.recovery.end_of_search.Goals.{in-Some, in_default, In-Ok-Complete, In-Some, Joined-settling_note}
use Rattle.std.specs.Prelude.{Ok}
use Rattle.tools.specs.declared.status.Status.TheVariants as status

-- a header was read there
read_is : (c : In-Ok-Complete) → read_header (table_of c.args.entries.now c.args.parts.now) (drop c.loop-i.i c.args.input.now) ≡ Ok (status.Complete c.in-Ok-Complete.h)
read_is c =
    let t = table_of c.args.entries.now c.args.parts.now in
    sym (c.read_header.ensures ∙ ap (read_header t) (rest_is c.loop-i.i c.args.input.now)) ∙ (c.in-Ok-Complete.is ∙ ap Ok c.in-Ok-Complete.field-0-is)

-- a good one
good : (c : In-Ok-Complete) → GoodHeader c.args.entries.now c.args.parts.now c.in-Ok-Complete.h
good c =
    good_header c.args.entries.now c.args.parts.now (drop c.loop-i.i c.args.input.now) c.in-Ok-Complete.h c.requires.1
    (octets_drop c.loop-i.i c.args.input.now (λ i. (c.type_inv.input i).fits)) (read_is c)

-- the record there has the header's note
has_note : (c : Joined-settling_note) → GoodHeader c.args.entries.now c.args.parts.now c.in-Ok-Complete.h → let d = at_position c.loop-i.e (c.args.d.position + c.loop-i.i) in
    c.match-settling_note.e ≡ noted c.args.parts.now d (step7 (table_of c.args.entries.now c.args.parts.now) d c.in-Ok-Complete.h)
unfolding noted with_notes
has_note c g =
    let d = at_position c.loop-i.e (c.args.d.position + c.loop-i.i) in
    let with = noted c.args.parts.now d in
    let e : c.match-settling_note.e ≡ with c.settling_note.result =
    elim c.match-settling_note.branch [
      | in-Some w ↦ (w.e-is ∙ w.settled_to-e.ensures) ∙ ap with (sym w.in-Some.is)
      | in_default w ↦ w.e-is ∙ ap with (sym w.in_default.is)
    ] in
    e ∙ ap with (c.settling_note.ensures ∙ note_of_path c.args.entries.now c.args.parts.now d c.in-Ok-Complete.h g)

pub loop-i-init : goal.loop-i-init
loop-i-init c = searched_first _ _ _ _ _ (good_state_lem _ c.requires.0) c.next_place-i.ensures

pub returns-in-Ok-NeedMore : goal.returns-in-Ok-NeedMore
unfolding with_notes
returns-in-Ok-NeedMore c =
    let l = c.loop-i in
    let read = c.read_header.ensures ∙ ap (read_header (table_of c.args.entries.now c.args.parts.now)) (rest_is l.i c.args.input.now) in
    searched_stop c.args.entries.now c.args.parts.now c.requires.1 c.args.d c.args.input.now c.requires.2 l.e l.i l.invariant (omega arith) (subst NoHeader read (part_is_none (c.in-Ok-NeedMore.is ∙ ap Ok c.in-Ok-NeedMore.field-0-is)))

pub returns-in-Err : goal.returns-in-Err
unfolding with_notes
returns-in-Err c =
    let l = c.loop-i in
    let read = c.read_header.ensures ∙ ap (read_header (table_of c.args.entries.now c.args.parts.now)) (rest_is l.i c.args.input.now) in
    searched_stop c.args.entries.now c.args.parts.now c.requires.1 c.args.d c.args.input.now c.requires.2 l.e l.i l.invariant (omega arith) (subst NoHeader read (refusal_is_none c.in-Err.is))

pub settled_to-e-requires : goal.settled_to-e-requires
unfolding with_notes
settled_to-e-requires c =
    let h = (goal.at.settled_to-e-requires c).In-Ok-Complete in
    let d = at_position c.loop-i.e (c.args.d.position + c.loop-i.i) in
    let noted_by = c.settling_note.ensures ∙ note_of_path c.args.entries.now c.args.parts.now d c.in-Ok-Complete.h (good h) in
    let n = subst (NoteApplies c.args.parts.now) (sym noted_by) (step7_applies c.args.entries.now c.args.parts.now c.requires.1 d _ c.in-Ok-Complete.h (read_is h)) in
    note_settles _ _ (subst (NoteApplies c.args.parts.now) c.in-Some.is n)

pub valid_header_of-requires : goal.valid_header_of-requires
valid_header_of-requires c =
    let m = goal.at.valid_header_of-requires c in
    let h = m.In-Ok-Complete in
    let l = c.loop-i in
    let g = good h in
    let w = subst GoodState (sym (has_note m.Joined-settling_note g))
    (with_note_good c.args.entries.now c.args.parts.now c.requires.1 c.args.d c.args.input.now c.requires.2 l.e l.i l.invariant (omega arith) c.in-Ok-Complete.h (read_is h)) in
    record { open_count_bound = (w.open_count, w.place, g.short, g.small); path_value = g.path }

pub returns-in-Ok : goal.returns-in-Ok
returns-in-Ok c =
    let m = goal.at.returns-in-Ok c in
    let h = m.In-Ok-Complete in
    let l = c.loop-i in
    let t = table_of c.args.entries.now c.args.parts.now in
    let e = has_note m.Joined-settling_note (good h) in
    let judged_by = sym (c.valid_header_of.ensures ∙ ap (λ (x : TagDecoder). valid_header t x c.in-Ok-Complete.h) e) in
    rw e
    (searched_found c.args.entries.now c.args.parts.now c.requires.1 c.args.d c.args.input.now c.requires.2 l.e l.i l.invariant (omega arith) c.in-Ok-Complete.h (read_is h) (judged_by ∙ c.in-Ok.is))

pub loop-i-preserved : goal.loop-i-preserved
loop-i-preserved c =
    let m = goal.at.loop-i-preserved c in
    let h = m.In-Ok-Complete in
    let l = c.loop-i in
    let t = table_of c.args.entries.now c.args.parts.now in
    let e = has_note m.Joined-settling_note (good h) in
    let judged_by = sym (c.valid_header_of.ensures ∙ ap (λ (x : TagDecoder). valid_header t x c.in-Ok-Complete.h) e) in
    rw e
    (searched_on c.args.entries.now c.args.parts.now c.requires.1 c.args.d c.args.input.now c.requires.2 l.e l.i l.invariant (omega arith) c.in-Ok-Complete.h (read_is h)
    (judged_by ∙ c.in_default-valid_header_of.is) c.next_place-i-in-loop-i.result c.next_place-i-in-loop-i.ensures)

pub returns : goal.returns
unfolding with_notes
returns c =
    let l = c.loop-i in
    searched_all c.args.entries.now c.args.parts.now c.requires.1 c.args.d c.args.input.now c.requires.2 l.e l.i l.invariant (omega arith)
