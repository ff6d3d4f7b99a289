-- `decoder_move::moves::handed_out`. The invariant: the first i places hold the Ends after them, and all else is as it
-- was. Assumes nothing.
use Prim.Native.Nat.{◌-◌}
use mathlib.Core.Path.{◌≡◌, refl}
use native.Mathlib.Omega.{arith}
use borrow.Author.Rules.{rules}
use Rattle.spec_util.specs.Walk.{most_open}
use Rattle.decoder_rules.specs.Record.{no_end, with_waiting, handed_out}
use Rattle.basics.proofs.ArrayOf32.{length_of_map, moved, moved_at, moved_next, moved_last}
use Rattle.decoder_move.proofs.moves.handed_out.Goals as goal

pub loop-i-init : goal.loop-i-init
unfolding with_waiting moved
loop-i-init c = (omega arith, search (rules, length_of_map), refl)

pub loop-i-preserved : goal.loop-i-preserved
unfolding with_waiting
loop-i-preserved c =
    let w = c.args.d.waiting in
    let i = c.loop-i.i in
    let h = c.loop-i.invariant in
    (omega arith, h.1, rw (h.2, moved_at i w no_end (omega arith), moved_next i w no_end (omega arith)))

pub overflow_sub-d : goal.overflow_sub-d
unfolding with_waiting
overflow_sub-d c =
    let e : c.loop-i.d.waiting_count ≡ c.args.d.waiting_count = rw c.loop-i.invariant.2 in
    omega arith

pub returns : goal.returns
unfolding with_waiting handed_out
returns c =
    let w = c.args.d.waiting in
    let h = c.loop-i.invariant in
    let e : c.loop-i.i ≡ most_open - 1 = omega arith in
    rw (h.2, e, c.no_end.ensures, moved_last w (most_open - 1) no_end h.1)
