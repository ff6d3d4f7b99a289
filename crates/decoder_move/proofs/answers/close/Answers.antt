-- `decoder_move::answers::close`: the top's End, and the record closed. Assumes nothing.
use mathlib.Core.Path.{◌≡◌, ◌∙◌}
use native.Mathlib.Omega.{arith}
use lib.ListN.{length}
use Rattle.spec_util.specs.Walk.{most_open}
use Rattle.basics.proofs.ArrayOf32.{length_of_map}
use Rattle.decoder_rules.specs.Moving.{move}
use Rattle.decoder_rules.proofs.MoveEffects.{ends_head}
use Rattle.decoder_move.proofs.answers.close.Goals as goal

pub returns : goal.returns
unfolding move
returns c =
    let long : length c.args.d.«open» ≡ most_open = search length_of_map in
    let a = c.args in
    let d = a.d in
    let n = long in
    c.taking_none.ensures ∙ rw (c.closed_to.ensures, ends_head d a.k (omega arith) (omega arith), c.end_for.ensures)
