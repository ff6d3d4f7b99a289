-- `tag_decoder::end_of_input::close_all`: all are Masters, or 24. Assumes nothing.
use mathlib.Core.Path.{sym, ◌∙◌}
use Rattle.decoder_rules.specs.EndOfInput.{close_all}
use Rattle.basics.proofs.Bools.{cond_yes, cond_no}
use Rattle.tag_decoder.proofs.end_of_input.close_all.Goals as goal

pub returns-then-all_masters_of : goal.returns-then-all_masters_of
unfolding close_all
returns-then-all_masters_of c = c.finish.ensures ∙ sym (cond_yes _ _ _ (sym c.all_masters_of.ensures ∙ c.if-all_masters_of.true))

pub returns : goal.returns
unfolding close_all
returns c = c.refuse.ensures ∙ sym (cond_no _ _ _ (sym c.all_masters_of.ensures ∙ c.if-all_masters_of.false))
