-- `stored_decoder::layout1::copy_places`. The invariant: the first i places are written, each with a 0 behind it.
-- Assumes nothing.
use Prim.Native.Nat.{ℕ, ◌+◌, ◌*◌}
use mathlib.Core.Path.{◌≡◌, sym, ap, ◌∙◌}
use mathlib.Core.List.{List, [], ◌∷◌, ◌++◌, flat_map}
use native.Mathlib.Omega.{arith}
use lib.ListN.{length, get_or, take, drop, set, length-set, length-take, length-drop, length-append}
use lib.Seq.{take_all}
use Rattle.basics.specs.Lists.{array_places}
use Rattle.stored_decoder.specs.Words.{places}
use Rattle.stored_decoder.specs.Block.{with_counts}
use Rattle.stored_decoder.specs.Writing.{over}
use Rattle.stored_decoder.proofs.Overwriting.{over_none, over_next, over_more, reach}
use Rattle.stored_decoder.proofs.InPlaces.{places-length, place_from, place_size}
use Rattle.stored_decoder.proofs.layout1.copy_places.Goals as goal

pub loop-i-init : goal.loop-i-init
loop-i-init c =
    (omega arith, c.requires.3, unfold flat_map in over_none c.args.to c.args.out.now)

pub loop-i-preserved : goal.loop-i-preserved
loop-i-preserved c =
    let i = c.loop-i.i in
    let h = c.loop-i-test.true in
    let v = c.loop-i.invariant in
    let k = c.args.size in
    let r = reach c.args.to (k + 1) i array_places (length c.args.out.now) h c.requires.0 in
    let q = reach c.args.from k i array_places (length c.args.words.now) h c.requires.1 in
    let p = c.requires in
    let w = c.args.words.now in
    let ps = places k array_places (drop c.args.from w) in
    let long : length ps ≡ array_places = places-length k array_places (drop c.args.from w) in
    let o = c.args.to + (k + 1) * i in
    let g : take k (drop (c.args.from + k * i) w) ≡ get_or ps i [] = sym (place_from c.args.from k array_places w i h) in
    let m : length (take k (drop (c.args.from + k * i) w)) ≡ k = simp (length-take, length-drop) (omega arith) in
    let e : set c.copy.new.out (o + k) 0 ≡ over c.args.to (flat_map (λ v. v ++ (0 ∷ [])) (take (i + 1) ps)) c.args.out.now =
    ap (λ (l : List ℕ). set l (o + k) 0) c.copy.ensures
    ∙ over_more o (o + k) (take k (drop (c.args.from + k * i) w)) 0 c.loop-i.out (omega arith) (omega arith)
    ∙ ap (λ (l : List ℕ). over o (l ++ (0 ∷ [])) c.loop-i.out) g
    ∙ ap (over o (get_or ps i [] ++ (0 ∷ []))) v.2
    ∙ over_next (λ v. v ++ (0 ∷ [])) (k + 1) ps [] (λ j f. length-append (get_or ps j []) (0 ∷ []) ∙ ap (λ (x : ℕ). x + 1) (place_size c.args.from k array_places w j (omega arith) c.requires.1)) c.args.to i c.args.out.now (omega arith) (rw long c.requires.0) in
    (omega arith, simp length-set (omega arith), e)

pub returns : goal.returns
unfolding with_counts
returns c =
    let ps = places c.args.size array_places (drop c.args.from c.args.words.now) in
    let long : length ps ≡ array_places = places-length c.args.size array_places (drop c.args.from c.args.words.now) in
    c.loop-i.invariant.2 ∙ ap (λ (l : List (List ℕ)). over c.args.to (flat_map (λ v. v ++ (0 ∷ [])) l) c.args.out.now) (take_all c.loop-i.i ps (omega arith))
