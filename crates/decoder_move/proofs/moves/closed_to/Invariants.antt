-- `decoder_move::moves::closed_to`. The invariant: the masters from place i on are gone, and their Ends, but for the
-- top's, wait in turn. Assumes nothing.
use Prim.Native.Nat.{ℕ, ◌-◌, ◌≤◌}
use mathlib.Core.Path.{◌≡◌}
use mathlib.Core.List.{map, reverse}
use lib.ListN.{length, take, drop}
use Rattle.spec_util.specs.Walk.{most_open, no_tag}
use Rattle.decoder_rules.specs.declared.types.TagDecoder.{TagDecoder}
use Rattle.basics.specs.Lists.{filled}
use Rattle.decoder_rules.specs.Record.{end_for, no_end, with_open, with_waiting}
use Rattle.decoder_move.proofs.moves.closed_to.Given as goal

-- the masters from place i on are gone, the Ends from place j on wait; the master at `top` has none
abbrev pub closing_at : TagDecoder → ℕ → ℕ → ℕ → ℕ → TagDecoder
closing_at d k top i j =
    with_waiting (with_open d (filled no_tag (take i d.«open»)) k)
    (filled no_end (map end_for (reverse (drop j (take top d.«open»))))) (top - k)

abbrev pub invariant-loop-i : goal.invariant-loop-i
invariant-loop-i l = (l.k ≤ l.i) × (l.i ≤ most_open) × (length l.initial.d.«open» ≡ most_open) × (l.tag ≡ no_tag) × (l.d ≡ closing_at l.initial.d l.k l.top l.i l.i)

abbrev pub decreases-loop-i : goal.decreases-loop-i
decreases-loop-i l = l.i
