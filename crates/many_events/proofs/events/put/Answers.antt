-- `many_events::events::put`. Assumes nothing.
use Prim.Native.Nat.{ℕ, ◌+◌, ◌-◌}
use mathlib.Core.Path.{◌≡◌, sym, ap, ◌∙◌}
use mathlib.Core.List.{List, ◌++◌, append_assoc}
use native.Mathlib.Omega.{arith}
use borrow.Rule.Slice.PartMut.{put_mid}
use lib.ListN.{take, drop}
use lib.Seq.{sets-eq, drop-drop}
use Rattle.many_events.specs.Events.{in_order}
use Rattle.many_events.proofs.events.put.Goals as goal

pub returns : goal.returns
returns c =
    let a = c.args in
    let l = in_order a.w in
    let m = a.events.now in
    let k : a.at + 8 - a.at ≡ 8 = omega arith in
    rw k
    (ap (put_mid a.at 8 m) c.copy_from_slice.ensures.after ∙ ap (λ (x : List ℕ). take a.at m ++ (l ++ x)) (drop-drop 8 a.at m)
    ∙ sym (sets-eq l m a.at c.requires ∙ append_assoc (take a.at m) l (drop (a.at + 8) m)))
