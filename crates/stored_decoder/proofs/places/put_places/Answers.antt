-- `stored_decoder::places::put_places`. The invariant: the words of the first i places are written. Assumes nothing.
use Prim.Native.Nat.{◌<◌}
use mathlib.Core.Path.{◌≡◌, refl, sym, ap, ◌∙◌}
use mathlib.Core.Bool.{cond}
use lib.Dec.{ltb}
use mathlib.Core.List.{List, flat_map}
use native.Mathlib.Omega.{arith}
use lib.ListN.{length, get_or, take}
use lib.Seq.{take_all}
use Rattle.std.proofs.lemmas.List.{get_or_default}
use Rattle.basics.specs.Lists.{array_places, filled}
use Rattle.stored_decoder.specs.Writing.{over}
use Rattle.stored_decoder.proofs.Overwriting.{over_none, over_next}
use Rattle.stored_decoder.proofs.UsedPlaces.{used_at, used_length}
use Rattle.stored_decoder.proofs.places.put_places.Goals as goal

pub loop-i-init : goal.loop-i-init
unfolding flat_map
loop-i-init g c = (refl, over_none c.args.from c.args.words.now)

pub loop-i-preserved : goal.loop-i-preserved
loop-i-preserved g c =
    let i = c.loop-i.i in
    let v = c.loop-i.invariant in
    let w = c.args.words.now in
    let l = c.args.places.now in
    let z = g.P.Place.unused in
    let p = filled z (take c.args.count l) in
    let long : length p ≡ array_places = used_length z l c.requires.1 c.args.count in
    let h : i < array_places = c.loop-i-test.true in
    let same : c.index-places-i.result ≡ get_or l i z = c.index-places-i.is ∙ get_or_default l i c.index-places-i.result z (omega (arith, c.requires.1)) in
    let x : c.used.result ≡ get_or p i z = c.used.ensures ∙ ap (λ (y : _). cond (ltb i c.args.count) y z) same ∙ sym (used_at z l c.requires.1 c.args.count i h) in
    (c.put.auto.words ∙ v.0, c.put.ensures ∙ rw (v.1, x, c.SIZE.ensures) (over_next g.P.Place.words_of g.P.Place.SIZE p z (λ j k. g.met.P.Place.each (get_or p j z)) c.args.from i w (omega arith) (rw long c.requires.0)))

pub returns : goal.returns
returns g c =
    let z = g.P.Place.unused in
    let p = filled z (take c.args.count c.args.places.now) in
    let long : length p ≡ array_places = used_length z c.args.places.now c.requires.1 c.args.count in
    c.loop-i.invariant.1 ∙ ap (λ (k : List _). over c.args.from (flat_map g.P.Place.words_of k) c.args.words.now) (take_all c.loop-i.i p (omega arith))
