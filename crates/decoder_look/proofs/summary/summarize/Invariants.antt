-- `decoder_look::summary::summarize`. The invariant: from place i on the masters are found and written. Assumes
-- nothing.
use Prim.Native.Nat.{ℕ, ◌≤◌}
use mathlib.Core.Path.{◌≡◌}
use mathlib.Core.Bool.{Bool, false}
use mathlib.Core.List.{List}
use lib.ListN.{length, take}
use Rattle.spec_util.specs.declared.types.OpenTag.{OpenTag}
use Rattle.decoder_look.proofs.OnePass.{Found, Written, KeptPast}
use Rattle.decoder_look.proofs.summary.summarize.Given as goal

pub record NoneBefore (p : ℕ) (l : List OpenTag) (ids₀ ids : List ℕ) (knowns₀ knowns : List Bool) (sound : Bool) (done least i : ℕ) : Type 0 where
  pub within : i ≤ length l
  pub short : length l ≤ 32
  pub ids_long : length ids ≡ 32
  pub knowns_long : length knowns ≡ 32
  pub ids_kept : KeptPast 0 l ids₀ ids
  pub knowns_kept : KeptPast false l knowns₀ knowns
  pub found : Found p l sound done least i
  pub ids_written : Written (λ m. m.id) 0 l ids i
  pub knowns_written : Written (λ m. m.known) false l knowns i

abbrev pub invariant-loop-i : goal.invariant-loop-i
invariant-loop-i l = NoneBefore l.position (take l.d.open_count l.d.«open») l.initial.ids l.ids l.initial.knowns l.knowns l.sound l.first_full l.least_end l.i

abbrev pub decreases-loop-i : goal.decreases-loop-i
decreases-loop-i l = l.i
