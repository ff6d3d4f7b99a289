-- `tag_writer::putting::put_part`. The invariant: the first i bytes are put. Assumes nothing.
use Prim.Native.Nat.{ℕ, ◌+◌, ◌<◌}
use mathlib.Core.Path.{◌≡◌, sym, ◌∙◌}
use mathlib.Core.List.{List}
use native.Mathlib.Numerals.{add-one}
use native.Mathlib.Omega.{arith}
use lib.ListN.{length, get_or, take, drop, set, length-take, length-drop}
use lib.Seq.{paste, paste-suc, get_or-take, get_or-drop}
use Rattle.tag_writer.proofs.putting.put_part.Goals as goal

-- a turn of the loop
turn : (d o s : List ℕ) (at j b : ℕ) → o ≡ paste d at s j → at + j < length d → j < length s → b ≡ get_or s j 0 → set o (at + j) b ≡ paste d at s (j + 1)
turn d o s at j b e hd hs f = rw (e, f, add-one j) (paste-suc d at s j 0 hd hs)

pub loop-i-preserved : goal.loop-i-preserved
loop-i-preserved c =
    let l = c.loop-i in
    let a = c.args in
    let part = drop a.from a.values.now in
    let hs : l.i < length (take a.n part) = omega (arith, length-take a.n part, length-drop a.from a.values.now) in
    let b : get_or a.values.now (a.from + l.i) 0 ≡ get_or (take a.n part) l.i 0 = sym (get_or-take a.n part l.i 0 (omega arith) ∙ get_or-drop a.from a.values.now l.i 0) in
    (omega arith, turn a.out.now l.out (take a.n part) a.at l.i (get_or a.values.now (a.from + l.i) 0) l.invariant.1 (omega arith) hs b)
