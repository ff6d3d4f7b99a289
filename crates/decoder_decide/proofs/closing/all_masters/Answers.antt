-- `decoder_decide::closing::all_masters`: what `all` over the indices from k on answers. Assumes nothing.
use Prim.Native.Nat.{ℕ, ◌+◌, ◌-◌}
use mathlib.Core.Path.{◌≡◌, refl, sym, ap, ◌∙◌}
use mathlib.Core.Bool.{Bool}
use mathlib.Core.List.{List}
use borrow.Author.Tests.{tests}
use native.Mathlib.Omega.{arith}
use lib.ListN.{length, get_or, take, drop}
use lib.Seq.{get_or-take, length-take-le}
use Rattle.std.proofs.Common.{rules}
use Rattle.std.proofs.lemmas.List.{get_or-drop, length-drop}
use Rattle.std.proofs.lemmas.Iterator.{YieldsList-from_range}
use Rattle.std.proofs.lemmas.Iterator.Search.{all_from_yields_List}
use Rattle.spec_util.proofs.Iterating.{all_from}
use Rattle.table.specs.Table.{table_of, data_type_of, is_master}
use Rattle.decoder_decide.proofs.closing.all_masters.Goals as goal

pub returns : goal.returns
returns c =
    let a = c.args in
    let master : ℕ → Bool = λ x. is_master (data_type_of (table_of a.entries.now a.parts.now) x) in
    let l : List ℕ = drop a.k (take a.n a.ids.now) in
    let many : length l ≡ a.n - a.k = length-drop a.k (take a.n a.ids.now) ∙ ap (λ (m : ℕ). m - a.k) (length-take-le a.n a.ids.now c.requires) in
    all_from_yields_List (λ i. master (get_or a.ids.now i 0)) _ _ _ c.all.ensures.ran (YieldsList-from_range a.k a.n (a.n - a.k) refl refl) (λ x b q k. search (rules, tests))
    ∙ all_from master 0 (λ i. master (get_or a.ids.now i 0)) l a.k (a.n - a.k) many (λ i h. ap master (sym (get_or-drop a.k (take a.n a.ids.now) i 0 ∙ get_or-take a.n a.ids.now (a.k + i) 0 (omega arith))))
