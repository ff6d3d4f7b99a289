-- `decoder_decide::element::step11`: too many open, a Start, or a payload. Assumes nothing.
use borrow.Author.Tests.{le-leb, lt-leb}
use Rattle.decoder_rules.specs.OneCall.{step11}
use Rattle.decoder_decide.proofs.element.step11.Goals as goal

pub returns-then-open_count-ge-MOST_OPEN : goal.returns-then-open_count-ge-MOST_OPEN
unfolding step11
returns-then-open_count-ge-MOST_OPEN c = rw (← c.is_master.ensures, c.if-is_master.true, le-leb _ _ c.if-open_count-ge-MOST_OPEN.true)

pub returns-then-is_master : goal.returns-then-is_master
unfolding step11
returns-then-is_master c = rw (← c.is_master.ensures, c.if-is_master.true, lt-leb _ _ c.if-open_count-ge-MOST_OPEN.false)

pub returns : goal.returns
unfolding step11
returns c = rw (← c.is_master.ensures, c.if-is_master.false) c.element_of.ensures
