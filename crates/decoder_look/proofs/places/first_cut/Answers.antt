-- `decoder_look::places::first_cut`: what `position` over the open masters answers. Assumes nothing.
use Prim.Native.Nat.{◌≤◌}
use mathlib.Core.Path.{◌≡◌, ◌∙◌}
use native.Mathlib.Omega.{arith}
use borrow.Author.Tests.{tests}
use lib.ListN.{length}
use lib.Seq.{length-take-le}
use Rattle.std.proofs.Common.{rules}
use Rattle.std.proofs.lemmas.Iterator.{YieldsList-from_slice}
use Rattle.std.proofs.lemmas.Iterator.Search.{position_from_yields_List}
use Rattle.spec_util.specs.Walk.{most_open}
use Rattle.spec_util.proofs.Iterating.{position_is}
use Rattle.decoder_rules.specs.Record.{opens}
use Rattle.decoder_rules.specs.EndOfInput.{is_cut}
use Rattle.basics.proofs.ArrayOf32.{length_of_map}
use Rattle.decoder_look.proofs.places.first_cut.Goals as goal

pub returns : goal.returns
returns c =
    let d = c.args.d in
    let reach : d.open_count ≤ length d.«open» = let h : length d.«open» ≡ most_open = search length_of_map in omega arith in
    c.unwrap_or.ensures
    ∙ position_is (is_cut d.position) (opens d) d.open_count _ (length-take-le _ _ reach)
    (position_from_yields_List (is_cut d.position) _ _ c.position.result c.position.ensures.ran (YieldsList-from_slice (opens d) c.iter.ensures.rest) (λ x b q k. search (rules, tests)))
