-- `ebml::answers::hand_out_signed`: its 64 bits were written, or refused. Assumes nothing.
use mir.Syntax.{w64}
use mir.ValLaws.{to_z-of_z}
use Rattle.ebml.proofs.Laws.{handed}
use Rattle.ebml.proofs.answers.hand_out_signed.Goals as goal

pub returns : goal.returns
returns c =
    handed _ _ _ c.result_of.ensures (rw (to_z-of_z w64 c.args.value c.ranges.value) at c.i64_to_arr.ensures)
