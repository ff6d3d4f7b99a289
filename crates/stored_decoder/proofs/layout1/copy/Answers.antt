-- `stored_decoder::layout1::copy`. Assumes nothing.
use Prim.Native.Nat.{ℕ, ◌+◌, ◌-◌}
use mathlib.Core.Path.{◌≡◌, ap, ◌∙◌}
use native.Mathlib.Omega.{arith}
use borrow.Rule.Slice.PartMut.{put_mid}
use lib.ListN.{length, take, drop, length-take, length-drop}
use Rattle.stored_decoder.proofs.Overwriting.{over_put}
use Rattle.stored_decoder.proofs.layout1.copy.Goals as goal

pub returns : goal.returns
returns c =
    let a = c.args in
    let m : a.to + a.n - a.to ≡ a.n = omega arith in
    let f : a.from + a.n - a.from ≡ a.n = omega arith in
    let n : length (take a.n (drop a.from a.words.now)) ≡ a.n = simp (length-take, length-drop) (omega arith) in
    rw m (ap (put_mid a.to a.n a.out.now) (c.copy_from_slice.ensures.after ∙ ap (λ (k : ℕ). take k (drop a.from a.words.now)) f) ∙ over_put a.to a.n (take a.n (drop a.from a.words.now)) a.out.now n)
