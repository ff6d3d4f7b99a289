-- `put` of an open master. Assumes nothing.
use Prim.Native.Nat.{◌+◌, ◌-◌}
use mathlib.Core.Path.{◌≡◌, refl, ap, ◌∙◌}
use native.Mathlib.Omega.{arith}
use borrow.Rule.Slice.PartMut.{put_mid}
use Rattle.stored_decoder.specs.Words.{master_words}
use Rattle.stored_decoder.proofs.Overwriting.{over_put}
use Rattle.stored_decoder.proofs.UsedPlaces.{yes_no_word}
use Rattle.stored_decoder.proofs.places.OpenTagPlace.put.Goals as goal

pub returns : goal.returns
unfolding master_words
returns c =
    let a = c.args in
    let k : a.at + 6 - a.at ≡ 6 = omega arith in
    let e : c.copy_from_slice.new.self ≡ master_words a.self = simp (yes_no_word, c.from.ensures, c.present.ensures) at c.copy_from_slice.ensures.after in
    rw k (ap (put_mid a.at 6 a.words.now) e ∙ over_put a.at 6 (master_words a.self) a.words.now refl)
