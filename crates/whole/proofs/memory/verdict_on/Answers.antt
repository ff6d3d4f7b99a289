-- `whole::memory::verdict_on`. The invariant: the place is within the input, whose length is a `usize`, and the verdict
-- on what is left, with what is kept, is that on all of it. The measure is how far the end is. Assumes nothing.
use mathlib.Core.Path.{◌≡◌, sym, ap, ◌∙◌}
use mathlib.Core.Bool.{true}
use native.Mathlib.Omega.{arith}
use Rattle.whole.specs.Checking.{verdict_of}
use Rattle.whole.proofs.InMemory.{from_fresh, TurnOn, turn_last, turn_on}
use Rattle.whole.proofs.memory.verdict_on.Goals as goal

pub loop-r-init : goal.loop-r-init
loop-r-init c =
    let a = c.args in (
      omega arith,
      omega arith,
      rw (c.start-seen.ensures, c.set_strict-decoder.ensures, c.new.ensures) (ap verdict_of (from_fresh a.strict a.entries.now a.parts.now a.input.now)),
    )

pub returns-then-not-is_event : goal.returns-then-not-is_event
returns-then-not-is_event c =
    let l = c.loop-r in
    let a = c.args in
    c.verdict_at.ensures
    ∙ turn_last a.entries.now a.parts.now l.decoder a.input.now l.at l.seen l.invariant.0 c.decode_eof-r.ensures (sym c.is_event.ensures ∙ c.if-not-is_event.true)
    ∙ l.invariant.2

pub overflow_add-at : goal.overflow_add-at
overflow_add-at c =
    let turn : (c.is_event.result ≡ true) → let l = c.loop-r in let a = c.args in TurnOn a.entries.now a.parts.now l.decoder a.input.now l.at l.seen c.decode_eof-r.result =
    λ e. let l = c.loop-r in
    let a = c.args in
    turn_on a.entries.now a.parts.now l.decoder a.input.now l.at l.seen l.invariant.0 c.decode_eof-r.ensures (λ i. (c.type_inv.input i).fits) (sym c.is_event.ensures ∙ e) in
    omega (arith, (turn c.if-not-is_event.false).within)

pub loop-r-smaller : goal.loop-r-smaller
loop-r-smaller c =
    let turn : (c.is_event.result ≡ true) → let l = c.loop-r in let a = c.args in TurnOn a.entries.now a.parts.now l.decoder a.input.now l.at l.seen c.decode_eof-r.result =
    λ e. let l = c.loop-r in
    let a = c.args in
    turn_on a.entries.now a.parts.now l.decoder a.input.now l.at l.seen l.invariant.0 c.decode_eof-r.ensures (λ i. (c.type_inv.input i).fits) (sym c.is_event.ensures ∙ e) in
    (turn c.if-not-is_event.false).nearer

pub loop-r-preserved : goal.loop-r-preserved
loop-r-preserved c =
    let turn : (c.is_event.result ≡ true) → let l = c.loop-r in let a = c.args in TurnOn a.entries.now a.parts.now l.decoder a.input.now l.at l.seen c.decode_eof-r.result =
    λ e. let l = c.loop-r in
    let a = c.args in
    turn_on a.entries.now a.parts.now l.decoder a.input.now l.at l.seen l.invariant.0 c.decode_eof-r.ensures (λ i. (c.type_inv.input i).fits) (sym c.is_event.ensures ∙ e) in
    let t = turn c.if-not-is_event.false in
    let l = c.loop-r in
    (t.within, l.invariant.1, rw c.seen_after-seen.ensures (t.same ∙ l.invariant.2))
