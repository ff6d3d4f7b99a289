-- `decoder_look::summary::good_ends`: what `all` over the waiting Ends answers. Assumes nothing.
use Prim.Native.Nat.{ℕ, min}
use mathlib.Core.Path.{◌≡◌, ap, ◌∙◌}
use native.Mathlib.Omega.{arith}
use lib.ListN.{length, take}
use borrow.Author.Tests.{tests}
use Rattle.std.proofs.Common.{rules}
use Rattle.std.proofs.lemmas.List.{take_min}
use Rattle.basics.proofs.ArrayOf32.{length_of_map}
use Rattle.spec_util.specs.Walk.{most_open}
use Rattle.std.proofs.lemmas.Iterator.{YieldsList-from_slice}
use Rattle.std.proofs.lemmas.Iterator.Search.{all_from_yields_List}
use Rattle.spec_util.proofs.Iterating.{all_is}
use Rattle.decoder_rules.specs.Record.{waits}
use Rattle.decoder_rules.specs.OneCall.{good_end}
use Rattle.decoder_look.proofs.summary.good_ends.Goals as goal

pub returns : goal.returns
unfolding good_end
returns c =
    let d = c.args.d in
    let many : length d.waiting ≡ most_open = search length_of_map in
    let n : c.at_most_32-n.result ≡ min d.waiting_count (length d.waiting) = omega arith in
    let shown = c.iter.ensures.rest ∙ (ap (λ (k : ℕ). take k d.waiting) n ∙ take_min d.waiting_count d.waiting) in
    all_from_yields_List (good_end d.position) _ _ c.all.result c.all.ensures.ran (YieldsList-from_slice (waits d) shown) (λ x b q k. search (rules, tests))
    ∙ all_is (good_end d.position) (waits d)
