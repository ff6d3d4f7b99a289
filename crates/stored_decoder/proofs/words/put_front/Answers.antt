-- `stored_decoder::words::put_front`. Assumes nothing.
use mathlib.Core.Path.{◌≡◌, refl, ap, ◌∙◌}
use borrow.Rule.Slice.PartMut.{put_mid}
use Rattle.stored_decoder.specs.Words.{front_words}
use Rattle.stored_decoder.proofs.Overwriting.{over_put}
use Rattle.stored_decoder.proofs.UsedPlaces.{yes_no_word}
use Rattle.stored_decoder.proofs.words.put_front.Goals as goal

pub returns : goal.returns
unfolding front_words
returns c =
    let a = c.args in
    let w = front_words a.s a.position a.settled a.finished a.«open» in
    let e : c.copy_from_slice.new.self ≡ w = simp (yes_no_word, c.from.ensures, c.from-2.ensures, c.from-3.ensures, c.from-4.ensures, c.from-5.ensures, c.present.ensures, c.from-6.ensures, c.from-7.ensures) at c.copy_from_slice.ensures.after in
    ap (put_mid 0 11 a.words.now) e ∙ over_put 0 11 w a.words.now refl
