-- `stored_decoder::blocks::read_words`. The invariant: the first i words are read. Assumes nothing.
use Prim.Native.Nat.{ℕ, ◌/◌, ◌<◌}
use mathlib.Core.Path.{◌≡◌, sym, ap, ◌∙◌}
use mathlib.Core.List.{List, [], map}
use native.Mathlib.Omega.{arith}
use lib.ListN.{length, get_or, length-take, length-drop, length-set, length-map}
use lib.Seq.{take_all}
use Rattle.std.specs.Int.{w64, from_be_bytes}
use Rattle.std.specs.Simd.{first_chunks}
use Rattle.tools.specs.Bytes.{be_number}
use Rattle.stored_decoder.specs.Words.{word_count, places}
use Rattle.stored_decoder.specs.Block.{words_of}
use Rattle.stored_decoder.specs.Writing.{over}
use Rattle.stored_decoder.proofs.InPlaces.{places-length, place_at, chunks_are_places}
use Rattle.stored_decoder.proofs.Overwriting.{over_none, over_whole, over_mapped}
use Rattle.stored_decoder.proofs.PutBytes.{word_of_bytes}
use Rattle.stored_decoder.proofs.blocks.read_words.Goals as goal

pub loop-i-init : goal.loop-i-init
loop-i-init c =
    (omega arith, c.requires.1, over_none 0 c.args.words.now)

pub loop-i-preserved : goal.loop-i-preserved
loop-i-preserved c =
    let i = c.loop-i.i in
    let v = c.loop-i.invariant in
    let b = c.args.block.now in
    let n : length (places 8 word_count b) ≡ word_count = places-length 8 word_count b in
    let h : i < word_count = c.loop-i-test.true in
    let p : first_chunks 8 (length b / 8) b ≡ places 8 word_count b = rw c.requires.0 (chunks_are_places 8 word_count b) in
    let o : get_or c.as_chunks.result.0.now i [] ≡ get_or (places 8 word_count b) i [] = ap (λ (l : List (List ℕ)). get_or l i []) (c.as_chunks.ensures.front ∙ p) in
    let l : length (get_or (places 8 word_count b) i []) ≡ 8 = rw (place_at 8 word_count b i h, length-take, length-drop) (omega (arith, c.requires.0)) in
    let e : c.from_be_bytes.result ≡ be_number (get_or (places 8 word_count b) i []) = c.from_be_bytes.ensures ∙ ap (from_be_bytes w64) o ∙ word_of_bytes (get_or (places 8 word_count b) i []) l in
    (omega arith, simp length-set v.1, rw (v.2, e) (over_mapped be_number (places 8 word_count b) i [] c.args.words.now (omega arith) (omega (arith, c.requires.1))))

pub returns : goal.returns
unfolding words_of
returns c =
    let ps = places 8 word_count c.args.block.now in
    let n : length ps ≡ word_count = places-length 8 word_count c.args.block.now in
    c.loop-i.invariant.2 ∙ ap (λ (l : List (List ℕ)). over 0 (map be_number l) c.args.words.now) (take_all c.loop-i.i ps (omega arith))
    ∙ over_whole (map be_number ps) c.args.words.now (length-map ps be_number ∙ n ∙ sym c.requires.1)
