-- `stored_decoder::layout1::from_layout_1`: each group is written behind the one before it. Assumes nothing.
use Prim.Native.Nat.{ℕ}
use mathlib.Core.Path.{ap, ◌∙◌}
use mathlib.Core.List.{List}
use lib.ListN.{set, replicate, take, drop}
use Rattle.stored_decoder.specs.Words.{rest_count}
use Rattle.stored_decoder.specs.Block.{with_counts}
use Rattle.stored_decoder.specs.Writing.{over}
use Rattle.stored_decoder.proofs.Written.{widened}
use Rattle.stored_decoder.proofs.layout1.from_layout_1.Goals as goal

pub returns : goal.returns
returns c =
    let w = c.args.words.now in
    widened w c.requires.0 c.args.out.now c.put_rest.new.words c.requires.1
    (c.put_rest.ensures ∙ ap (over 300 (replicate rest_count 0)) (c.copy_places-2.ensures
    ∙ ap (over 204 (with_counts 2 (drop 171 w))) (c.copy-3.ensures
    ∙ ap (over 203 (take 1 (drop 170 w))) (c.copy_places.ensures
    ∙ ap (over 11 (with_counts 5 (drop 10 w))) (c.copy-2.ensures
    ∙ ap (λ (l : List ℕ). over 5 (take 6 (drop 4 w)) (set l 4 0)) c.copy.ensures)))))
