-- `tag_decoder::end_of_input::finish`: none is open, or all close. Assumes nothing.
use mathlib.Core.Path.{sym, ◌∙◌}
use native.Mathlib.Omega.{arith}
use borrow.Author.Tests.{eq-eqb, ne_eqb}
use Rattle.decoder_rules.specs.EndOfInput.{finish}
use Rattle.decoder_rules.specs.Record.{with_notes}
use Rattle.basics.proofs.Bools.{cond_yes, cond_no}
use Rattle.tag_decoder.proofs.end_of_input.finish.Goals as goal

pub returns-then-count-eq0 : goal.returns-then-count-eq0
unfolding finish
returns-then-count-eq0 c = c.taking_none.ensures ∙ rw c.with_finished-done.ensures (sym (cond_yes _ _ _ (eq-eqb _ _ c.if-count-eq0.true)))

pub close-requires : goal.close-requires
unfolding with_notes
close-requires c = rw c.with_finished-done.ensures (omega arith, c.requires)

pub returns : goal.returns
unfolding finish
returns c = c.close.ensures ∙ rw c.with_finished-done.ensures (sym (cond_no _ _ _ (ne_eqb _ _ c.if-count-eq0.false)))
