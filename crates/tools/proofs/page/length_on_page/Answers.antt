-- `tools::page::length_on_page`: the code's constant is the page of the definitions. Assumes nothing.
use Rattle.tools.specs.Page.{vint_lengths}
use Rattle.tools.proofs.PageRule.{on_page}
use Rattle.tools.proofs.page.length_on_page.Goals as goal

pub returns : goal.returns
unfolding vint_lengths
returns c = rw (c.from-2.ensures, c.from.ensures) (on_page c.args.first c.ranges.first.fits)
