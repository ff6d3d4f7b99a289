-- `spec_util::ids::has_id`: what `any` over the indices answers. Assumes nothing.
use mathlib.Core.Path.{refl, sym, ◌∙◌}
use mathlib.Core.List.{List}
use borrow.Author.Tests.{tests}
use native.Mathlib.Omega.{arith}
use lib.ListN.{get_or}
use Rattle.std.proofs.Common.{rules}
use Rattle.std.proofs.lemmas.Iterator.{YieldsList-from_range}
use Rattle.std.proofs.lemmas.Iterator.Search.{any_from_yields_List}
use Rattle.table.specs.Table.{parts_of, parts_in}
use Rattle.table.specs.declared.types.PathPart.{PathPart}
use Rattle.table.specs.declared.types.PathPart.TheVariants.{Id}
use Rattle.spec_util.specs.Ended.{is_id_of, has_id}
use Rattle.spec_util.proofs.Iterating.{any_over}
use Rattle.spec_util.proofs.ids.has_id.Goals as goal

pub returns : goal.returns
unfolding has_id
returns c =
    let path : List PathPart = parts_in (parts_of c.args.parts.now) c.args.path in
    let n = c.path_length.result in
    any_from_yields_List (λ i. is_id_of c.args.id (get_or path i (Id 0))) _ _ _ c.any.ensures.ran (YieldsList-from_range 0 n n refl (omega arith)) (λ x b q k. search (rules, tests))
    ∙ any_over (is_id_of c.args.id) (Id 0) _ path n (sym c.path_length.ensures) (λ i h. refl)
