-- `stored_decoder::places::read_places`. The invariant: the first i places are read. Assumes nothing.
use Prim.Native.Nat.{ℕ, ◌+◌, ◌*◌}
use mathlib.Core.Path.{◌≡◌, sym, ap, ◌∙◌}
use mathlib.Core.List.{List, [], map}
use native.Mathlib.Omega.{arith}
use lib.ListN.{length, get_or, take, drop, length-set, length-map}
use lib.Seq.{take_all}
use Rattle.basics.specs.Lists.{array_places}
use Rattle.stored_decoder.specs.Words.{places}
use Rattle.stored_decoder.specs.Writing.{over}
use Rattle.stored_decoder.proofs.InPlaces.{places-length, place_from}
use Rattle.stored_decoder.proofs.Overwriting.{over_none, over_whole, over_mapped}
use Rattle.stored_decoder.proofs.places.read_places.Goals as goal

pub loop-i-init : goal.loop-i-init
loop-i-init g c = (c.requires.1, over_none 0 c.args.out.now)

pub loop-i-preserved : goal.loop-i-preserved
loop-i-preserved g c =
    let i = c.loop-i.i in
    let v = c.loop-i.invariant in
    let w = c.args.words.now in
    let f = g.P.Place.place_of in
    let k = g.P.Place.SIZE in
    let ps = places k array_places (drop c.args.from w) in
    let n : length ps ≡ array_places = places-length k array_places (drop c.args.from w) in
    let e : c.read.result ≡ f (get_or ps i []) = c.read.ensures ∙ ap (λ (o : ℕ). f (take k (drop (c.args.from + o * i) w))) c.SIZE.ensures ∙ ap f (sym (place_from c.args.from k array_places w i c.loop-i-test.true)) in
    (simp length-set v.0, rw (v.1, e) (over_mapped f ps i [] c.args.out.now (omega arith) (omega (arith, c.requires))))

pub returns : goal.returns
returns g c =
    let f = g.P.Place.place_of in
    let ps = places g.P.Place.SIZE array_places (drop c.args.from c.args.words.now) in
    let n : length ps ≡ array_places = places-length g.P.Place.SIZE array_places (drop c.args.from c.args.words.now) in
    c.loop-i.invariant.1 ∙ ap (λ (l : List (List ℕ)). over 0 (map f l) c.args.out.now) (take_all c.loop-i.i ps (omega arith))
    ∙ over_whole (map f ps) c.args.out.now (length-map ps f ∙ n ∙ sym c.requires.1)
