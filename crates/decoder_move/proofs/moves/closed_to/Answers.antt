-- `decoder_move::moves::closed_to`. The invariant: the masters from place i on are gone, and their Ends, but for the
-- top's, wait in turn. Assumes nothing.
use Prim.Native.Nat.{◌+◌, ◌-◌, ◌≤◌, ◌<◌}
use mathlib.Core.Path.{◌≡◌, ap, ◌∙◌}
use native.Mathlib.Omega.{arith}
use borrow.Author.Rules.{rules}
use lib.ListN.{length, get_or, take, length-take, drop_of_length-le}
use lib.Seq.{take_all, get_or-take, take-take}
use Rattle.spec_util.specs.Walk.{most_open, no_tag}
use Rattle.decoder_rules.specs.Record.{end_for, no_end, with_open, with_waiting, closed_to, ends_from}
use Rattle.basics.proofs.ArrayOf32.{length_of_map, filled_at, filled_whole, filled_reversed, filled_shorter, drop_past, reversed_rest}
use Rattle.decoder_move.proofs.moves.closed_to.Invariants.{closing_at}
use Rattle.decoder_move.proofs.moves.closed_to.Goals as goal
use Rattle.decoder_move.proofs.moves.closed_to.Goals.{then-i-top, else-i-top}

pub loop-i-init : goal.loop-i-init
unfolding with_open with_waiting
loop-i-init c =
    let d = c.args.d in
    let n : length d.«open» ≡ most_open = search (rules, length_of_map) in
    (omega arith, omega arith, n, c.no_tag-tag.ensures, rw (c.no_end-end.ensures, take_all most_open d.«open» (omega arith), filled_whole no_tag d.«open» n, drop_of_length-le (take (d.open_count - 1) d.«open») {i = most_open} (simp length-take (omega arith))))

pub loop-i-preserved : goal.loop-i-preserved
unfolding with_open with_waiting
loop-i-preserved c =
    let as_it_was : get_or c.loop-i.d.«open» (c.loop-i.i - 1) no_tag ≡ get_or c.args.d.«open» (c.loop-i.i - 1) no_tag =
    let o = c.args.d.«open» in
    let i = c.loop-i.i in
    let h = c.loop-i.invariant in
    let k : i - 1 < length (take i o) = simp length-take (omega (arith, h.2)) in
    rw h.4 (filled_at no_tag (take i o) (i - 1) no_tag k ∙ get_or-take i o (i - 1) no_tag (omega arith)) in
    let after_test : c.if-i-top.d ≡ closing_at c.args.d c.args.k (c.args.d.open_count - 1) c.loop-i.i (c.loop-i.i - 1) =
    let d = c.args.d in
    let top = d.open_count - 1 in
    let i = c.loop-i.i in
    let h = c.loop-i.invariant in
    let m = as_it_was in
    let below : top ≤ length d.«open» = omega arith in
    let one : i ≡ i - 1 + 1 = omega arith in
    elim c.if-i-top.branch [
      | then-i-top w ↦ w.d-is ∙ rw (h.4, w.end_for.ensures ∙ ap end_for m, filled_reversed no_end end_for d.«open» top i (i - 1) no_tag one w.if-i-top.true below (omega arith))
      | else-i-top w ↦ w.d-is ∙ h.4 ∙ rw (drop_past d.«open» top i (i - 1) (omega (arith, w.if-i-top.false)) w.if-i-top.false)
    ] in
    let d = c.args.d in
    let i = c.loop-i.i in
    let h = c.loop-i.invariant in
    (omega arith, omega arith, h.2, h.3, rw (after_test, h.3, filled_shorter no_tag d.«open» i (i - 1) (omega arith) (omega arith) (omega arith)))

pub returns : goal.returns
unfolding with_open with_waiting closed_to ends_from
returns c =
    let a = c.args in
    let d = a.d in
    let h = c.loop-i.invariant in
    let e : c.loop-i.i ≡ a.k = omega arith in
    let t : take a.k (take d.open_count d.«open») ≡ take a.k d.«open» = take-take a.k d.open_count d.«open» (omega arith) in
    let r = reversed_rest d.«open» end_for d.open_count (d.open_count - 1) a.k no_tag (omega arith) (omega arith) (omega arith) in
    let s : d.open_count - 1 - a.k ≡ d.open_count - a.k - 1 = omega arith in
    h.4 ∙ rw (e, t, r, s)
