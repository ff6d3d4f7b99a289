-- `many_events::run::run`. The invariant: what was handed out, joined to the calls from here on with the room that is left,
-- is what all the calls answer; `pass_over` keeps it, and so does a call. Assumes nothing.
use Prim.Native.Nat.{ℕ, ◌≤◌}
use mathlib.Core.List.{List}
use mathlib.Core.Path.{◌≡◌, sym, ap, ◌∙◌, subst}
use native.Mathlib.Omega.{arith}
use lib.ListN.{length, get_or, drop, length-drop}
use Rattle.tools.specs.Bytes.{Octets}
use Rattle.tag_parse.proofs.Cases.{octets_drop, rest_is}
use Rattle.spec_util.specs.Walk.{no_tag}
use Rattle.decoder_rules.specs.declared.types.Answer.TheVariants as answer
use Rattle.decoder_rules.specs.declared.types.Decoded.{Decoded}
use Rattle.decoder_rules.proofs.MoveLaws.{is_no_event}
use Rattle.many_events.specs.Events.{is_innermost}
use Rattle.many_events.specs.Many.{one_call, stop_of}
use Rattle.many_events.specs.declared.quick.Passed.{Passed}
use Rattle.many_events.specs.declared.types.Ran.{Ran}
use Rattle.many_events.specs.declared.types.Stop.{Stop}
use Rattle.many_events.proofs.Calling.{call_within, start_innermost}
use Rattle.many_events.specs.Turns.{ended}
use Rattle.many_events.proofs.Passing.{passes_turns}
use Rattle.many_events.proofs.Turns.{first_turn, full_turn, stop_turn, event_turn}
use Rattle.many_events.proofs.run.run.Goals as goal
use Rattle.std.specs.Prelude.{Ok, Result}
use Rattle.decoder_rules.specs.declared.types.Refusal.{Refusal}

pub loop-n-init : goal.loop-n-init
loop-n-init c = let a = c.args in first_turn a.eof a.entries.now a.parts.now a.d a.input.now a.events.now

pub returns-then-room-n : goal.returns-then-room-n
returns-then-room-n c =
    let passed = passes_turns c.pass_over-passed.ensures c.args.eof c.loop-n.invariant.as_long c.loop-n.invariant in
    let e = full_turn passed c.if-room-n.true in
    record { answer = c.ran.ensures ∙ ap (λ (p : Ran × List ℕ). p.0) e; bytes = ap (λ (p : Ran × List ℕ). p.1) e }

pub slice_bounds-one_call-start : goal.slice_bounds-one_call-start
slice_bounds-one_call-start c =
    let passed = passes_turns c.pass_over-passed.ensures c.args.eof c.loop-n.invariant.as_long c.loop-n.invariant in
    omega (arith, passed)

pub slice_bounds-one_call-count : goal.slice_bounds-one_call-count
slice_bounds-one_call-count c =
    let passed = passes_turns c.pass_over-passed.ensures c.args.eof c.loop-n.invariant.as_long c.loop-n.invariant in
    omega (arith, passed)

pub returns-in-Ok-NeedMore : goal.returns-in-Ok-NeedMore
unfolding stop_of
returns-in-Ok-NeedMore c =
    let over : Passed = c.pass_over-passed.result in
    let passed = passes_turns c.pass_over-passed.ensures c.args.eof c.loop-n.invariant.as_long c.loop-n.invariant in
    let a = c.args in
    let called : c.one_call-r.result ≡ one_call a.eof a.entries.now a.parts.now over.state (drop over.taken a.input.now) = c.one_call-r.ensures ∙ ap (one_call a.eof a.entries.now a.parts.now over.state) (rest_is over.taken a.input.now) in
    let is = c.in-Ok-NeedMore.is ∙ ap Ok (rw c.in-Ok-NeedMore.is at c.in-Ok-NeedMore.field-0-is) in
    let e = stop_turn passed c.if-room-n.false c.one_call-r.result called (ap is_no_event is) in
    record {
      answer = c.ran-in-Ok-NeedMore.ensures ∙ ap (λ (w : Result Stop Refusal). ended over.count over.taken w c.one_call-r.result.state) (sym (ap stop_of is)) ∙ ap (λ (p : Ran × List ℕ). p.0) e;
      bytes = ap (λ (p : Ran × List ℕ). p.1) e;
    }

pub returns-in-Ok-Finished : goal.returns-in-Ok-Finished
unfolding stop_of
returns-in-Ok-Finished c =
    let over : Passed = c.pass_over-passed.result in
    let passed = passes_turns c.pass_over-passed.ensures c.args.eof c.loop-n.invariant.as_long c.loop-n.invariant in
    let a = c.args in
    let called : c.one_call-r.result ≡ one_call a.eof a.entries.now a.parts.now over.state (drop over.taken a.input.now) = c.one_call-r.ensures ∙ ap (one_call a.eof a.entries.now a.parts.now over.state) (rest_is over.taken a.input.now) in
    let is = c.in-Ok-Finished.is ∙ ap Ok (rw c.in-Ok-Finished.is at c.in-Ok-Finished.field-0-is) in
    let e = stop_turn passed c.if-room-n.false c.one_call-r.result called (ap is_no_event is) in
    record {
      answer = c.ran-in-Ok-Finished.ensures ∙ ap (λ (w : Result Stop Refusal). ended over.count over.taken w c.one_call-r.result.state) (sym (ap stop_of is)) ∙ ap (λ (p : Ran × List ℕ). p.0) e;
      bytes = ap (λ (p : Ran × List ℕ). p.1) e;
    }

pub returns-in-Err : goal.returns-in-Err
unfolding stop_of
returns-in-Err c =
    let over : Passed = c.pass_over-passed.result in
    let passed = passes_turns c.pass_over-passed.ensures c.args.eof c.loop-n.invariant.as_long c.loop-n.invariant in
    let a = c.args in
    let called : c.one_call-r.result ≡ one_call a.eof a.entries.now a.parts.now over.state (drop over.taken a.input.now) = c.one_call-r.ensures ∙ ap (one_call a.eof a.entries.now a.parts.now over.state) (rest_is over.taken a.input.now) in
    let is = c.in-Err.is in
    let e = stop_turn passed c.if-room-n.false c.one_call-r.result called (ap is_no_event is) in
    record {
      answer = c.ran-in-Err.ensures ∙ ap (λ (w : Result Stop Refusal). ended over.count over.taken w c.one_call-r.result.state) (sym (ap stop_of is)) ∙ ap (λ (p : Ran × List ℕ). p.0) e;
      bytes = ap (λ (p : Ran × List ℕ). p.1) e;
    }

pub overflow_mul-n : goal.overflow_mul-n
overflow_mul-n c =
    let passed = passes_turns c.pass_over-passed.ensures c.args.eof c.loop-n.invariant.as_long c.loop-n.invariant in
    let h = c.if-room-n.false in
    omega arith

pub put_event-requires : goal.put_event-requires
put_event-requires c =
    let passed = passes_turns c.pass_over-passed.ensures c.args.eof c.loop-n.invariant.as_long c.loop-n.invariant in
    let h = c.if-room-n.false in
    omega arith

pub overflow_add-at : goal.overflow_add-at
overflow_add-at c =
    let over : Passed = c.pass_over-passed.result in
    let passed = passes_turns c.pass_over-passed.ensures c.args.eof c.loop-n.invariant.as_long c.loop-n.invariant in
    let a = c.args in
    let called : c.one_call-r.result ≡ one_call a.eof a.entries.now a.parts.now over.state (drop over.taken a.input.now) = c.one_call-r.ensures ∙ ap (one_call a.eof a.entries.now a.parts.now over.state) (rest_is over.taken a.input.now) in
    let bytes : Octets (drop over.taken c.args.input.now) = octets_drop over.taken c.args.input.now (λ i. (c.type_inv.input i).fits) in
    let takes : c.one_call-r.result.taken ≤ length (drop over.taken a.input.now) =
    subst (λ (r : Decoded). r.taken ≤ length (drop over.taken a.input.now)) (sym called) (call_within a.entries.now a.parts.now over.state (drop over.taken a.input.now) a.eof bytes) in
    let k = length-drop over.taken c.args.input.now in
    omega arith

pub loop-n-preserved : goal.loop-n-preserved
unfolding is_innermost
loop-n-preserved c =
    let over : Passed = c.pass_over-passed.result in
    let passed = passes_turns c.pass_over-passed.ensures c.args.eof c.loop-n.invariant.as_long c.loop-n.invariant in
    let a = c.args in
    let called : c.one_call-r.result ≡ one_call a.eof a.entries.now a.parts.now over.state (drop over.taken a.input.now) = c.one_call-r.ensures ∙ ap (one_call a.eof a.entries.now a.parts.now over.state) (rest_is over.taken a.input.now) in
    let bytes : Octets (drop over.taken c.args.input.now) = octets_drop over.taken c.args.input.now (λ i. (c.type_inv.input i).fits) in
    let takes : c.one_call-r.result.taken ≤ length (drop over.taken a.input.now) =
    subst (λ (r : Decoded). r.taken ≤ length (drop over.taken a.input.now)) (sym called) (call_within a.entries.now a.parts.now over.state (drop over.taken a.input.now) a.eof bytes) in
    let innermost-put : is_innermost c.one_call-r.result.state c.in-Ok-Event.e (get_or c.one_call-r.result.state.«open» c.top_place.result no_tag) = λ x o q.
    start_innermost a.entries.now a.parts.now over.state (drop over.taken a.input.now) bytes a.eof c.one_call-r.result called
    ((c.in-Ok-Event.is ∙ ap Ok (rw c.in-Ok-Event.is at c.in-Ok-Event.field-0-is)) ∙ ap (λ e. Ok (answer.Event e)) q) c.top_place.result c.top_place.ensures in
    event_turn passed c.if-room-n.false c.one_call-r.result called c.in-Ok-Event.e (c.in-Ok-Event.is ∙ ap Ok (rw c.in-Ok-Event.is at c.in-Ok-Event.field-0-is)) takes
    (c.put_event.ensures c.one_call-r.result.state innermost-put)

pub returns : goal.returns
returns c =
    let e = full_turn c.loop-n.invariant c.loop-n-test.false in
    record { answer = c.ran-2.ensures ∙ ap (λ (p : Ran × List ℕ). p.0) e; bytes = ap (λ (p : Ran × List ℕ). p.1) e }
