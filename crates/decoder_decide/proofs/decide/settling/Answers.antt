-- `decoder_decide::decide::settling`. The invariant: the first i words are the IDs of the first i parts. Assumes
-- nothing.
use mathlib.Core.Path.{◌≡◌, ap, ◌∙◌}
use mathlib.Core.Bool.{false}
use native.Mathlib.Omega.{arith}
use lib.ListN.{length, get_or-replicate}
use Rattle.spec_util.specs.Walk.{most_open}
use Rattle.table.specs.Table.{parts_of, parts_in}
use Rattle.decoder_rules.specs.Record.{settled_to}
use Rattle.decoder_decide.specs.GoodViews.{settled_view}
use Rattle.decoder_decide.proofs.SettledView.{settled_seen, settled_shown}
use Rattle.decoder_decide.proofs.decide.settling.Goals as goal

pub returns : goal.returns
returns c d e =
    let a = c.args in
    let path = parts_in (parts_of a.parts.now) a.path in
    let n : c.path_length-count.result ≡ length path = c.path_length-count.ensures in
    let q = c.settled_view-noted.ensures ∙ ap (settled_view a.view) n in
    c.steps8_11.ensures (settled_to d path) (q ∙ settled_seen d path e)
    (rw q (settled_shown d path (λ i h. c.loop-i.invariant.2 i (omega arith)) (λ i h. get_or-replicate most_open i false false (omega arith))))
