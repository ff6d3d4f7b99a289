-- `stored_decoder::blocks::put_bytes`. The invariant: the bytes of the first i words are written. Assumes nothing.
use Prim.Native.Nat.{ℕ, ◌+◌, ◌*◌, ◌-◌, ◌<◌}
use mathlib.Core.Path.{◌≡◌, ap, ◌∙◌}
use mathlib.Core.List.{List, flat_map}
use native.Mathlib.Omega.{arith}
use borrow.Rule.Slice.PartMut.{put_mid}
use lib.ListN.{length, get_or, take}
use lib.Seq.{take_all}
use Rattle.tools.specs.Bytes.{be_bytes}
use Rattle.tools.proofs.BigEndian.{length-be_bytes}
use Rattle.stored_decoder.specs.Words.{word_count}
use Rattle.stored_decoder.specs.Block.{bytes_of}
use Rattle.stored_decoder.specs.Writing.{over}
use Rattle.stored_decoder.proofs.Overwriting.{over_put, over_none, over_whole, over_next, over-length, flat_front, flat_length}
use Rattle.stored_decoder.proofs.PutBytes.{eight_bytes}
use Rattle.stored_decoder.proofs.blocks.put_bytes.Goals as goal

pub loop-i-init : goal.loop-i-init
loop-i-init c =
    (omega arith, c.requires.1, unfold flat_map in over_none 0 c.args.block.now)

pub loop-i-preserved : goal.loop-i-preserved
loop-i-preserved c =
    let i = c.loop-i.i in
    let v = c.loop-i.invariant in
    let w = c.args.words.now in
    let b = c.loop-i.block in
    let h : i < word_count = c.loop-i-test.true in
    let k : 8 * i + 8 - 8 * i ≡ 8 = omega arith in
    let g : c.copy_from_slice.new.self ≡ be_bytes 8 (get_or w i 0) = c.copy_from_slice.ensures.after ∙ c.to_be_bytes.ensures ∙ eight_bytes (get_or w i 0) in
    let n = length-be_bytes 8 (get_or w i 0) in
    let e : put_mid (8 * i) (8 * i + 8 - 8 * i) b c.copy_from_slice.new.self ≡ over 0 (flat_map (be_bytes 8) (take (i + 1) w)) c.args.block.now =
    ap (put_mid (8 * i) (8 * i + 8 - 8 * i) b) g ∙ over_put (8 * i) (8 * i + 8 - 8 * i) (be_bytes 8 (get_or w i 0)) b (omega arith) ∙ ap (over (8 * i) (be_bytes 8 (get_or w i 0))) v.2
    ∙ ap (λ (o : ℕ). over o (be_bytes 8 (get_or w i 0)) (over 0 (flat_map (be_bytes 8) (take i w)) c.args.block.now)) (omega arith)
    ∙ over_next (be_bytes 8) 8 w 0 (λ j k. length-be_bytes 8 (get_or w j 0)) 0 i c.args.block.now (omega (arith, c.requires.0)) (omega (arith, c.requires)) in
    (omega arith, ap length e ∙ over-length 0 (flat_map (be_bytes 8) (take (i + 1) w)) c.args.block.now (omega (arith, flat_front (be_bytes 8) 8 w 0 (λ j k. length-be_bytes 8 (get_or w j 0)) (i + 1) (omega (arith, c.requires.0)), c.requires.1)) ∙ c.requires.1, e)

pub returns : goal.returns
unfolding bytes_of
returns c =
    let w = c.args.words.now in
    c.loop-i.invariant.2 ∙ ap (λ (l : List ℕ). over 0 (flat_map (be_bytes 8) l) c.args.block.now) (take_all c.loop-i.i w (omega (arith, c.requires.0)))
    ∙ over_whole (flat_map (be_bytes 8) w) c.args.block.now (flat_length (be_bytes 8) 8 w 0 (λ j k. length-be_bytes 8 (get_or w j 0)) ∙ omega (arith, c.requires.0, c.requires.1))
