-- `ebml::answers::hand_out`: the value was written, or refused. Assumes nothing.
use Rattle.ebml.proofs.Laws.{handed}
use Rattle.ebml.proofs.answers.hand_out.Goals as goal

pub returns : goal.returns
returns c = handed _ _ _ c.result_of.ensures c.u64_to_arr.ensures
