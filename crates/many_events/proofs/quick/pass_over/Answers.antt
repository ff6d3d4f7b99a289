-- `many_events::quick::pass_over`. The invariant: some turns were made, what was seen is what the tests ask of the
-- record, the lent words show its masters, no End waits, where the record was found clean its other places are empty,
-- and `around` is the least end of the masters around the top one, or 0. Assumes nothing.
use Prim.Native.Nat.{◌+◌, ◌*◌, ◌≤◌}
use mathlib.Core.Bool.{true}
use mathlib.Core.Path.{◌≡◌, refl, sym, ap, ◌∙◌, subst}
use native.Mathlib.Omega.{arith}
use borrow.Author.Rules.{rules}
use borrow.Author.Tests.{leb-true}
use lib.Dec.{leb}
use lib.ListN.{set, length-drop}
use lib.Seq.{sets}
use Rattle.basics.proofs.Bools.{both}
use Rattle.basics.proofs.ArrayOf32.{length_of_map}
use Rattle.table.specs.Shape.{good_shape}
use Rattle.tools.specs.Bytes.{Octets}
use Rattle.decoder_rules.specs.Record.{with_open, with_notes, at_position, counted, opened}
use Rattle.decoder_rules.specs.declared.types.TagDecoder.{TagDecoder}
use Rattle.decoder_rules.proofs.MoveEffects.{Arrays}
use Rattle.decoder_look.proofs.GoodEnds.{none_waits}
use Rattle.decoder_decide.proofs.SettledView.{sound_summary}
use Rattle.decoder_move.proofs.DecisionApplies.{top_fits}
use Rattle.many_events.specs.Events.{event_size}
use Rattle.many_events.specs.Turns.{PassesOver}
use Rattle.many_events.proofs.Ends.{Around, around_none}
use Rattle.many_events.proofs.Passing.{its_action, data_made, start_made, end_made, moved_by_child, moved_around, opened_around, goes_anew, passes_none, data-goes-on, data-goes-full, data-goes-anew, start_goes_on, end_passes, end_goes_on, end_goes_within}
use Rattle.many_events.proofs.Tidy.{closed_so, pops_top, pops_to, pops_tidy, Tidy, tidy_first, moved_tidy, opened_tidy}
use Rattle.many_events.proofs.quick.pass_over.Goals as goal
use Rattle.std.specs.Prelude.{Some}

pub loop-n-init : goal.loop-n-init
loop-n-init c =
    let begun : let a = c.args in (a.d.waiting_count ≤ 0) × (good_shape a.entries.now a.parts.now ≡ true) =
    let a = c.args in
    let b = both (leb a.d.waiting_count 0) (good_shape a.entries.now a.parts.now) (sym c.may_begin.ensures ∙ c.if-not-may_begin.false) in
    (leb-true _ 0 b.left, b.right) in
    let arrays : Arrays c.args.d = record { masters = search length_of_map; ends = search (length_of_map, c.well_formed) } in
    let d = c.args.d in
    let none : d.waiting_count ≡ 0 = omega (arith, begun.0) in (
      goes_anew
          (record { ids_long = search rules; knowns_long = search rules; look = c.summarize-k.ensures.0; front = c.summarize-k.ensures.1 })
          c.requires refl arrays (sym (none_waits d none)) (passes_none _ _ _ _ _ _ _),
      tidy_first d none,
      around_none d,
    )

pub decide_shaped-decision-requires-clause-ids_len : goal.decide_shaped-decision-requires-clause-ids_len
decide_shaped-decision-requires-clause-ids_len c = (c.loop-n.invariant.0.ids_long, c.loop-n.invariant.0.knowns_long, sound_summary c.loop-n.d c.loop-n.invariant.0.seen)

pub with_child-requires : goal.with_child-requires
with_child-requires c =
    let g = c.loop-n.invariant.0 in
    let bytes : Octets c.args.input.now = λ i. (c.type_inv.input i).fits in
    let m = its_action g bytes c.decide_shaped-decision.ensures c.quick_of-quick.ensures (c.in-Some-Data.is ∙ ap Some (rw c.in-Some-Data.is at c.in-Some-Data.field-0-is)) refl in
    let w = data_made g bytes m in
    top_fits c.loop-n.d _ g.arrays.masters w.2 (λ k. omega (arith, c.top_place-top.ensures, w.2.0))

pub overflow_add-d : goal.overflow_add-d
overflow_add-d c =
    let g = c.loop-n.invariant.0 in
    let bytes : Octets c.args.input.now = λ i. (c.type_inv.input i).fits in
    let m = its_action g bytes c.decide_shaped-decision.ensures c.quick_of-quick.ensures (c.in-Some-Data.is ∙ ap Some (rw c.in-Some-Data.is at c.in-Some-Data.field-0-is)) refl in
    let w = data_made g bytes m in
    omega arith

pub overflow_add-at : goal.overflow_add-at
overflow_add-at c =
    let g = c.loop-n.invariant.0 in
    let bytes : Octets c.args.input.now = λ i. (c.type_inv.input i).fits in
    let m = its_action g bytes c.decide_shaped-decision.ensures c.quick_of-quick.ensures (c.in-Some-Data.is ∙ ap Some (rw c.in-Some-Data.is at c.in-Some-Data.field-0-is)) refl in
    let w = data_made g bytes m in
    let k = length-drop c.loop-n.at c.args.input.now in
    omega arith

pub loop-n-preserved-then-d-around : goal.loop-n-preserved-then-d-around
unfolding with_open with_notes
loop-n-preserved-then-d-around c =
    let g = c.loop-n.invariant.0 in
    let bytes : Octets c.args.input.now = λ i. (c.type_inv.input i).fits in
    let m = its_action g bytes c.decide_shaped-decision.ensures c.quick_of-quick.ensures (c.in-Some-Data.is ∙ ap Some (rw c.in-Some-Data.is at c.in-Some-Data.field-0-is)) refl in
    let w = data_made g bytes m in
    let d = c.loop-n.d in
    let to = d.position + c.in-Some-Data.taken in
    let top = c.top_place-top in
    let put = c.put.ensures ∙ ap (sets c.loop-n.events (event_size * c.loop-n.n)) c.value_words.ensures in
    let moved : with_open (at_position d to) (set d.«open» top.result c.with_child.result) d.open_count ≡ counted (at_position d to) =
    moved_by_child d g.arrays w.2.0 to top.result c.with_child.result top.ensures c.with_child.ensures in (
      data-goes-full g bytes c.loop-n-test.true m.found _ _ m.some _ m.decided put moved c.loop-n.invariant.2 c.if-d-around.true (omega (arith, c.if-k-d.true)) top.result top.ensures c.seen_as-k.ensures,
      subst (Tidy c.loop-n.clean) (sym moved) (moved_tidy d g.arrays w.2.0 c.loop-n.invariant.1 to),
      subst (Around c.loop-n.around) (sym moved) (moved_around d g.arrays w.2.0 to c.loop-n.invariant.2),
    )

pub loop-n-preserved-else-d-around : goal.loop-n-preserved-else-d-around
unfolding with_open with_notes
loop-n-preserved-else-d-around c =
    let g = c.loop-n.invariant.0 in
    let bytes : Octets c.args.input.now = λ i. (c.type_inv.input i).fits in
    let m = its_action g bytes c.decide_shaped-decision.ensures c.quick_of-quick.ensures (c.in-Some-Data.is ∙ ap Some (rw c.in-Some-Data.is at c.in-Some-Data.field-0-is)) refl in
    let w = data_made g bytes m in
    let d = c.loop-n.d in
    let to = d.position + c.in-Some-Data.taken in
    let top = c.top_place-top in
    let put = c.put.ensures ∙ ap (sets c.loop-n.events (event_size * c.loop-n.n)) c.value_words.ensures in
    let moved : with_open (at_position d to) (set d.«open» top.result c.with_child.result) d.open_count ≡ counted (at_position d to) =
    moved_by_child d g.arrays w.2.0 to top.result c.with_child.result top.ensures c.with_child.ensures in (
      data-goes-anew g bytes c.loop-n-test.true m.found _ _ m.some _ m.decided put moved
          (record {
            ids_long = c.summarize-k-else-d-around.auto.ids ∙ g.ids_long;
            knowns_long = c.summarize-k-else-d-around.auto.knowns ∙ g.knowns_long;
            look = c.summarize-k-else-d-around.ensures.0;
            front = c.summarize-k-else-d-around.ensures.1;
          }),
      subst (Tidy c.loop-n.clean) (sym moved) (moved_tidy d g.arrays w.2.0 c.loop-n.invariant.1 to),
      subst (Around c.loop-n.around) (sym moved) (moved_around d g.arrays w.2.0 to c.loop-n.invariant.2),
    )

pub loop-n-preserved-else-k-d : goal.loop-n-preserved-else-k-d
unfolding with_open with_notes
loop-n-preserved-else-k-d c =
    let g = c.loop-n.invariant.0 in
    let bytes : Octets c.args.input.now = λ i. (c.type_inv.input i).fits in
    let m = its_action g bytes c.decide_shaped-decision.ensures c.quick_of-quick.ensures (c.in-Some-Data.is ∙ ap Some (rw c.in-Some-Data.is at c.in-Some-Data.field-0-is)) refl in
    let w = data_made g bytes m in
    let d = c.loop-n.d in
    let to = d.position + c.in-Some-Data.taken in
    let top = c.top_place-top in
    let put = c.put.ensures ∙ ap (sets c.loop-n.events (event_size * c.loop-n.n)) c.value_words.ensures in
    let moved : with_open (at_position d to) (set d.«open» top.result c.with_child.result) d.open_count ≡ counted (at_position d to) =
    moved_by_child d g.arrays w.2.0 to top.result c.with_child.result top.ensures c.with_child.ensures in (
      data-goes-on g bytes c.loop-n-test.true m.found _ _ m.some _ m.decided put moved c.if-k-d.false c.seen_as-k-else-k-d.ensures,
      subst (Tidy c.loop-n.clean) (sym moved) (moved_tidy d g.arrays w.2.0 c.loop-n.invariant.1 to),
      subst (Around c.loop-n.around) (sym moved) (moved_around d g.arrays w.2.0 to c.loop-n.invariant.2),
    )

pub master_at-m-requires : goal.master_at-m-requires
master_at-m-requires c =
    let g = c.loop-n.invariant.0 in
    let bytes : Octets c.args.input.now = λ i. (c.type_inv.input i).fits in
    let m = its_action g bytes c.decide_shaped-decision.ensures c.quick_of-quick.ensures (c.in-Some-Start.is ∙ ap Some (rw c.in-Some-Start.is at c.in-Some-Start.field-0-is)) refl in
    let w = start_made g bytes m in
    (omega arith, omega arith)

pub with_child-requires-in-Some-Start : goal.with_child-requires-in-Some-Start
with_child-requires-in-Some-Start c =
    let g = c.loop-n.invariant.0 in
    let bytes : Octets c.args.input.now = λ i. (c.type_inv.input i).fits in
    let m = its_action g bytes c.decide_shaped-decision.ensures c.quick_of-quick.ensures (c.in-Some-Start.is ∙ ap Some (rw c.in-Some-Start.is at c.in-Some-Start.field-0-is)) refl in
    let w = start_made g bytes m in
    top_fits c.loop-n.d _ g.arrays.masters w.3 (λ k. omega (arith, c.top_place-top.ensures, w.3.0))

pub offset_bounds-d-count : goal.offset_bounds-d-count
offset_bounds-d-count c =
    let g = c.loop-n.invariant.0 in
    let bytes : Octets c.args.input.now = λ i. (c.type_inv.input i).fits in
    let m = its_action g bytes c.decide_shaped-decision.ensures c.quick_of-quick.ensures (c.in-Some-Start.is ∙ ap Some (rw c.in-Some-Start.is at c.in-Some-Start.field-0-is)) refl in
    let w = start_made g bytes m in
    omega arith

pub bounds-d-count : goal.bounds-d-count
bounds-d-count c =
    let g = c.loop-n.invariant.0 in
    let bytes : Octets c.args.input.now = λ i. (c.type_inv.input i).fits in
    let m = its_action g bytes c.decide_shaped-decision.ensures c.quick_of-quick.ensures (c.in-Some-Start.is ∙ ap Some (rw c.in-Some-Start.is at c.in-Some-Start.field-0-is)) refl in
    let w = start_made g bytes m in
    omega arith

pub overflow_add-d-in-Some-Start : goal.overflow_add-d-in-Some-Start
overflow_add-d-in-Some-Start c =
    let g = c.loop-n.invariant.0 in
    let bytes : Octets c.args.input.now = λ i. (c.type_inv.input i).fits in
    let m = its_action g bytes c.decide_shaped-decision.ensures c.quick_of-quick.ensures (c.in-Some-Start.is ∙ ap Some (rw c.in-Some-Start.is at c.in-Some-Start.field-0-is)) refl in
    let w = start_made g bytes m in
    omega arith

pub overflow_add-at-in-Some-Start : goal.overflow_add-at-in-Some-Start
overflow_add-at-in-Some-Start c =
    let g = c.loop-n.invariant.0 in
    let bytes : Octets c.args.input.now = λ i. (c.type_inv.input i).fits in
    let m = its_action g bytes c.decide_shaped-decision.ensures c.quick_of-quick.ensures (c.in-Some-Start.is ∙ ap Some (rw c.in-Some-Start.is at c.in-Some-Start.field-0-is)) refl in
    let w = start_made g bytes m in
    let k = length-drop c.loop-n.at c.args.input.now in
    omega arith

pub loop-n-preserved-in-Some-Start : goal.loop-n-preserved-in-Some-Start
unfolding opened with_open with_notes
loop-n-preserved-in-Some-Start c =
    let g = c.loop-n.invariant.0 in
    let bytes : Octets c.args.input.now = λ i. (c.type_inv.input i).fits in
    let m = its_action g bytes c.decide_shaped-decision.ensures c.quick_of-quick.ensures (c.in-Some-Start.is ∙ ap Some (rw c.in-Some-Start.is at c.in-Some-Start.field-0-is)) refl in
    let w = start_made g bytes m in
    let d = c.loop-n.d in
    let to = d.position + c.in-Some-Start.len in
    let top = c.top_place-top in
    let its = c.master_at-m.result in
    let put = c.put-in-Some-Start.ensures ∙ ap (sets c.loop-n.events (event_size * c.loop-n.n)) c.start_words.ensures in
    let moved : opened (with_open (at_position d to) (set d.«open» top.result c.with_child-in-Some-Start.result) d.open_count) its ≡ opened (counted (at_position d to)) its =
    ap (λ (y : TagDecoder). opened y its) (moved_by_child d g.arrays w.3.0 to top.result c.with_child-in-Some-Start.result top.ensures c.with_child-in-Some-Start.ensures) in (
      start_goes_on g bytes c.loop-n-test.true m.found _ _ m.some _ m.decided its c.master_at-m.ensures put moved
          (record {
            ids_long = c.summarize-k-in-Some-Start.auto.ids ∙ g.ids_long;
            knowns_long = c.summarize-k-in-Some-Start.auto.knowns ∙ g.knowns_long;
            look = c.summarize-k-in-Some-Start.ensures.0;
            front = c.summarize-k-in-Some-Start.ensures.1;
          }),
      subst (Tidy c.loop-n.clean) (sym moved) (opened_tidy d g.arrays w.3.0 c.loop-n.invariant.1 to its w.0),
      subst (Around c.loop-n.k.view.least_end) (sym moved) (opened_around d g.arrays w.3.0 to g.seen its w.0),
    )

pub offset_bounds-d-below : goal.offset_bounds-d-below
offset_bounds-d-below c =
    let g = c.loop-n.invariant.0 in
    let bytes : Octets c.args.input.now = λ i. (c.type_inv.input i).fits in
    let m = its_action g bytes c.decide_shaped-decision.ensures c.quick_of-quick.ensures (c.in-Some-End.is ∙ ap Some (rw c.in-Some-End.is at c.in-Some-End.field-0-is)) refl in
    let w = end_made g bytes m in
    omega arith

pub bounds-d-below : goal.bounds-d-below
bounds-d-below c =
    let g = c.loop-n.invariant.0 in
    let bytes : Octets c.args.input.now = λ i. (c.type_inv.input i).fits in
    let m = its_action g bytes c.decide_shaped-decision.ensures c.quick_of-quick.ensures (c.in-Some-End.is ∙ ap Some (rw c.in-Some-End.is at c.in-Some-End.field-0-is)) refl in
    let w = end_made g bytes m in
    omega arith

pub loop-n-preserved-then-position-around : goal.loop-n-preserved-then-position-around
unfolding with_open
loop-n-preserved-then-position-around c =
    let g = c.loop-n.invariant.0 in
    let bytes : Octets c.args.input.now = λ i. (c.type_inv.input i).fits in
    let m = its_action g bytes c.decide_shaped-decision.ensures c.quick_of-quick.ensures (c.in-Some-End.is ∙ ap Some (rw c.in-Some-End.is at c.in-Some-End.field-0-is)) refl in
    let w = end_made g bytes m in
    let d = c.loop-n.d in
    let t = c.loop-n.invariant.1 in
    let top = c.top_place-top in
    let put = c.put-in-Some-End.ensures ∙ ap (sets c.loop-n.events (event_size * c.loop-n.n)) c.end_words.ensures in (
      end_goes_within g bytes c.loop-n-test.true _ m.decided top.result top.ensures _ c.end_for.ensures put (pops_to d g.arrays w.1 c.in-Some-End.below t top.ensures c.pops_one.ensures c.if-pops_one.true w.0 c.no_tag-empty.ensures)
          (pops_top d g.arrays w.1 c.in-Some-End.below t top.ensures c.pops_one.ensures c.if-pops_one.true w.0) t.none_waiting m.found c.loop-n.invariant.2 c.if-position-around.true c.seen_as-k-then-position-around.ensures,
      pops_tidy d g.arrays w.1 c.in-Some-End.below t top.ensures c.pops_one.ensures c.if-pops_one.true w.0 c.no_tag-empty.ensures,
      around_none _,
    )

pub loop-n-preserved-else-position-around : goal.loop-n-preserved-else-position-around
unfolding with_open
loop-n-preserved-else-position-around c =
    let g = c.loop-n.invariant.0 in
    let bytes : Octets c.args.input.now = λ i. (c.type_inv.input i).fits in
    let m = its_action g bytes c.decide_shaped-decision.ensures c.quick_of-quick.ensures (c.in-Some-End.is ∙ ap Some (rw c.in-Some-End.is at c.in-Some-End.field-0-is)) refl in
    let w = end_made g bytes m in
    let d = c.loop-n.d in
    let t = c.loop-n.invariant.1 in
    let top = c.top_place-top in
    let put = c.put-in-Some-End.ensures ∙ ap (sets c.loop-n.events (event_size * c.loop-n.n)) c.end_words.ensures in (
      end_goes_on g bytes c.loop-n-test.true _ m.decided top.result top.ensures _ c.end_for.ensures put (pops_to d g.arrays w.1 c.in-Some-End.below t top.ensures c.pops_one.ensures c.if-pops_one.true w.0 c.no_tag-empty.ensures) t.none_waiting
          (record {
            ids_long = c.summarize-k-else-position-around.auto.ids ∙ g.ids_long;
            knowns_long = c.summarize-k-else-position-around.auto.knowns ∙ g.knowns_long;
            look = c.summarize-k-else-position-around.ensures.0;
            front = c.summarize-k-else-position-around.ensures.1;
          }),
      pops_tidy d g.arrays w.1 c.in-Some-End.below t top.ensures c.pops_one.ensures c.if-pops_one.true w.0 c.no_tag-empty.ensures,
      around_none _,
    )

pub closed_to-d-requires : goal.closed_to-d-requires
closed_to-d-requires c =
    let g = c.loop-n.invariant.0 in
    let bytes : Octets c.args.input.now = λ i. (c.type_inv.input i).fits in
    let m = its_action g bytes c.decide_shaped-decision.ensures c.quick_of-quick.ensures (c.in-Some-End.is ∙ ap Some (rw c.in-Some-End.is at c.in-Some-End.field-0-is)) refl in
    let w = end_made g bytes m in
    w

pub returns-then-d-gt0 : goal.returns-then-d-gt0
returns-then-d-gt0 c =
    let g = c.loop-n.invariant.0 in
    let bytes : Octets c.args.input.now = λ i. (c.type_inv.input i).fits in
    let m = its_action g bytes c.decide_shaped-decision.ensures c.quick_of-quick.ensures (c.in-Some-End.is ∙ ap Some (rw c.in-Some-End.is at c.in-Some-End.field-0-is)) refl in
    let top = c.top_place-top in
    let put = c.put-in-Some-End.ensures ∙ ap (sets c.loop-n.events (event_size * c.loop-n.n)) c.end_words.ensures in
    let a = c.args in
    subst (PassesOver a.entries.now a.parts.now a.input.now a.events.now c.put-in-Some-End.new.events a.d a.n a.at) (sym c.passed_to-then-d-gt0.ensures)
    (end_passes g bytes c.loop-n-test.true _ m.decided top.result top.ensures _ c.end_for.ensures put c.closed_to-d.ensures)

pub loop-n-preserved : goal.loop-n-preserved
loop-n-preserved c =
    let g = c.loop-n.invariant.0 in
    let bytes : Octets c.args.input.now = λ i. (c.type_inv.input i).fits in
    let m = its_action g bytes c.decide_shaped-decision.ensures c.quick_of-quick.ensures (c.in-Some-End.is ∙ ap Some (rw c.in-Some-End.is at c.in-Some-End.field-0-is)) refl in
    let w = end_made g bytes m in
    let top = c.top_place-top in
    let put = c.put-in-Some-End.ensures ∙ ap (sets c.loop-n.events (event_size * c.loop-n.n)) c.end_words.ensures in
    let none : c.closed_to-d.result.waiting_count ≡ 0 = omega (arith, c.if-d-gt0.false) in (
      end_goes_on g bytes c.loop-n-test.true _ m.decided top.result top.ensures _ c.end_for.ensures put c.closed_to-d.ensures none
          (record {
            ids_long = c.summarize-k-else-pops_one.auto.ids ∙ g.ids_long;
            knowns_long = c.summarize-k-else-pops_one.auto.knowns ∙ g.knowns_long;
            look = c.summarize-k-else-pops_one.ensures.0;
            front = c.summarize-k-else-pops_one.ensures.1;
          }),
      closed_so c.loop-n.d g.arrays w.1 c.in-Some-End.below w.0 c.closed_to-d.ensures none,
      around_none _,
    )
