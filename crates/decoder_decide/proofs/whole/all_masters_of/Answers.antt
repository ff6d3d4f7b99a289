-- `decoder_decide::whole::all_masters_of`, from a look. Assumes nothing.
use Prim.Native.Nat.{ℕ, min, ◌≤◌}
use mathlib.Core.Path.{◌≡◌, ◌∙◌, subst}
use native.Mathlib.Omega.{arith}
use borrow.Author.Rules.{rules}
use lib.ListN.{length}
use Rattle.table.specs.Table.{table_of, data_type_of, is_master}
use Rattle.decoder_rules.specs.Record.{opens}
use Rattle.spec_util.specs.Walk.{ShownIds}
use Rattle.decoder_look.proofs.Shown.{shown_in_front, every_shown}
use Rattle.decoder_decide.proofs.whole.all_masters_of.Goals as goal

pub returns : goal.returns
returns c =
    let d = c.args.d in
    let n : min d.open_count 32 ≡ d.open_count = omega (arith, c.requires) in
    let many : length c.summarize-summary.new.ids ≡ 32 = search rules in
    let h : d.open_count ≤ length c.summarize-summary.new.ids = omega (arith, c.requires) in
    c.all_masters.ensures
    ∙ every_shown (λ x. is_master (data_type_of (table_of c.args.entries.now c.args.parts.now) x)) 0 h (subst (λ (x : ℕ). ShownIds c.summarize-summary.new.ids x (opens d)) n (shown_in_front c.summarize-summary.ensures.1).shown_ids)
