-- `stored_decoder::layout1::all_zero`. Assumes nothing.
use mathlib.Core.Path.{◌≡◌, sym, ◌∙◌}
use borrow.Author.Rules.{rules}
use borrow.Author.Tests.{tests}
use lib.Dec.{eqb}
use Rattle.std.specs.List.{list_all}
use Rattle.std.proofs.lemmas.Iterator.{YieldsList-from_slice}
use Rattle.std.proofs.lemmas.Iterator.Search.{all_from_yields_List}
use Rattle.stored_decoder.proofs.InPlaces.{all_zero_is}
use Rattle.stored_decoder.proofs.layout1.all_zero.Goals as goal

pub returns : goal.returns
returns c =
    let w = c.args.words.now in
    let e : c.all.result ≡ list_all (λ x. eqb x 0) w = all_from_yields_List (λ x. eqb x 0) _ _ c.all.result c.all.ensures.ran (YieldsList-from_slice w cc) (λ x b q k. search (rules, tests)) in
    e ∙ sym (all_zero_is w)
