-- `stored_decoder::taken::good_state`. Assumes nothing.
use mathlib.Core.Path.{ap}
use Rattle.decoder_look.specs.declared.summary.Summary.{Summary}
use Rattle.decoder_look.proofs.GoodEnds.{with_ends}
use Rattle.stored_decoder.proofs.taken.good_state.Goals as goal

pub returns : goal.returns
returns c =
    let d = c.args.d in
    ap (λ (k : Summary). k.is_state_good) (with_ends d c.good_ends-ends.ensures c.summarize-summary.ensures.0)
