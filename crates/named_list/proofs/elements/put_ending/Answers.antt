-- `named_list::elements::put_ending`, by the test. Assumes nothing.
use Rattle.std.proofs.Common.{rules}
use Rattle.named_list.proofs.EndingText.{ending_missing, ending_whole}
use Rattle.named_list.proofs.elements.put_ending.Goals as goal

pub returns-then-starts-eq0 : goal.returns-then-starts-eq0
returns-then-starts-eq0 c = search (rules, ending_missing)

pub returns : goal.returns
returns c = search (rules, ending_whole)
