-- `spec_util::place::ends_none`: what `all` over the indices answers. Assumes nothing.
use Prim.Native.Nat.{◌<◌}
use mathlib.Core.Path.{◌≡◌, refl, ◌∙◌}
use mathlib.Core.Bool.{true, false, not}
use mathlib.Core.List.{List}
use borrow.Author.Tests.{tests}
use native.Mathlib.Omega.{arith}
use lib.ListN.{length, get_or}
use Rattle.std.proofs.Common.{rules}
use Rattle.std.proofs.lemmas.Iterator.{YieldsList-from_range}
use Rattle.std.proofs.lemmas.Iterator.Search.{all_from_yields_List}
use Rattle.table.specs.Table.{Entry, table_of}
use Rattle.spec_util.specs.Walk.{no_tag, unknown_and_ended, masters_shown}
use Rattle.spec_util.specs.declared.types.OpenTag.{OpenTag}
use Rattle.spec_util.proofs.Shown.{length-shown, shown_id, shown_known}
use Rattle.spec_util.proofs.Iterating.{all_over}
use Rattle.spec_util.proofs.place.ends_none.Goals as goal

pub returns : goal.returns
returns c =
    let a = c.args in
    let t : List Entry = table_of a.entries.now a.parts.now in
    let l : List OpenTag = masters_shown a.ids.now a.knowns.now a.count in
    let many : length l ≡ a.count = length-shown a.ids.now a.knowns.now a.count ∙ omega (arith, c.requires) in
    all_from_yields_List (λ i. not (unknown_and_ended true t (get_or a.knowns.now i false) (get_or a.ids.now i 0) a.id)) _ _ _ c.all.ensures.ran (YieldsList-from_range 0 a.count a.count refl (omega arith)) (λ x b q k. search (rules, tests))
    ∙ all_over (λ m. not (unknown_and_ended true t m.known m.id a.id)) no_tag _ l a.count many
    (λ i h. let k : i < length l = omega (arith, many) in rw (shown_id a.ids.now a.knowns.now a.count i k, shown_known a.ids.now a.knowns.now a.count i k))
