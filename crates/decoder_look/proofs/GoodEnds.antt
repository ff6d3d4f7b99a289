-- What was seen of a record whose waiting Ends were found good or not is what its tests ask. Assumes nothing.
use Prim.Native.Nat.{ℕ}
use mathlib.Core.Path.{◌≡◌, ap, ◌∙◌}
use mathlib.Core.Bool.{Bool, true}
use lib.ListN.{take}
use Rattle.basics.specs.Lists.{every}
use Rattle.decoder_rules.specs.Record.{waits}
use Rattle.decoder_rules.specs.OneCall.{good_end, good_state}
use Rattle.decoder_rules.specs.declared.types.TagDecoder.{TagDecoder}
use Rattle.decoder_look.specs.Summary.{good_state_with, summary_with, summary}
use Rattle.decoder_look.specs.declared.summary.Summary.{Summary}

-- where none waits, all that wait are good
pub none_waits : (d : TagDecoder) → d.waiting_count ≡ 0 → every (good_end d.position) (waits d) ≡ true
unfolding every
none_waits d z = ap (λ (n : ℕ). every (good_end d.position) (take n d.waiting)) z

-- with the Ends as they are it is what the tests ask
pub with_ends : {k : Summary} {ends : Bool} (d : TagDecoder) → ends ≡ every (good_end d.position) (waits d) → k ≡ summary_with ends d → k ≡ summary d
unfolding good_state good_state_with
with_ends d e s = s ∙ ap (λ (b : Bool). summary_with b d) e
