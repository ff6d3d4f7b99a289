-- `whole::line::put_counts`. Assumes nothing.
use Rattle.numerals.proofs.Putting.{and_then, within}
use native.Mathlib.Omega.{arith}
use Rattle.whole.proofs.line.put_counts.Goals as goal

pub returns : goal.returns
returns c = within (omega arith) (and_then (and_then c.put_counted-after_feeds.ensures c.put_text-after_comma.ensures) c.put_counted.ensures)
