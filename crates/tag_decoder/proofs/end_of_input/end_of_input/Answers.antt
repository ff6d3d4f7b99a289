-- `tag_decoder::end_of_input::end_of_input`: bytes left, a master that is cut, or all close. Assumes nothing.
use Prim.Native.Nat.{◌≤◌, ◌<◌}
use mathlib.Core.Path.{sym, ◌∙◌}
use borrow.Author.Tests.{lt-ltb, le-ltb}
use Rattle.decoder_rules.specs.Record.{opens}
use Rattle.basics.specs.Lists.{first_index}
use Rattle.decoder_rules.specs.EndOfInput.{is_cut, end_of_input}
use Rattle.basics.proofs.Bools.{cond_yes, cond_no}
use Rattle.tag_decoder.proofs.end_of_input.end_of_input.Goals as goal

pub returns-then-input-gt0 : goal.returns-then-input-gt0
unfolding end_of_input
returns-then-input-gt0 c = c.refuse.ensures ∙ rw c.cut_bytes.ensures (sym (cond_yes _ _ _ (lt-ltb _ _ c.if-input-gt0.true)))

pub returns-then-k-d : goal.returns-then-k-d
unfolding end_of_input
returns-then-k-d c =
    let d = c.args.d in
    let h : first_index (is_cut d.position) (opens d) < d.open_count = rw (← c.first_cut-k.ensures) c.if-k-d.true in
    c.refuse-then-k-d.ensures ∙ rw (c.cut_master.ensures, c.first_cut-k.ensures)
    (sym (cond_no _ _ _ (le-ltb _ _ c.if-input-gt0.false) ∙ cond_yes _ _ _ (lt-ltb _ _ h)))

pub returns : goal.returns
unfolding end_of_input
returns c =
    let d = c.args.d in
    let h : d.open_count ≤ first_index (is_cut d.position) (opens d) = rw (← c.first_cut-k.ensures) c.if-k-d.false in
    c.close_all.ensures ∙ sym (cond_no _ _ _ (le-ltb _ _ c.if-input-gt0.false) ∙ cond_no _ _ _ (le-ltb _ _ h))
