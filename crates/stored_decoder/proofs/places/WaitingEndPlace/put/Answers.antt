-- `put` of a waiting End. Assumes nothing.
use Prim.Native.Nat.{◌+◌, ◌-◌}
use mathlib.Core.Path.{◌≡◌, refl, ap, ◌∙◌}
use native.Mathlib.Omega.{arith}
use borrow.Rule.Slice.PartMut.{put_mid}
use Rattle.stored_decoder.specs.Words.{end_words}
use Rattle.stored_decoder.proofs.Overwriting.{over_put}
use Rattle.stored_decoder.proofs.places.WaitingEndPlace.put.Goals as goal

pub returns : goal.returns
unfolding end_words
returns c =
    let a = c.args in
    let k : a.at + 3 - a.at ≡ 3 = omega arith in
    rw k (ap (put_mid a.at 3 a.words.now) c.copy_from_slice.ensures.after ∙ over_put a.at 3 (end_words a.self) a.words.now refl)
