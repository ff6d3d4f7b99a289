-- `table::parts::part_at`: three words make the part at a place. Assumes nothing.
use mathlib.Core.Path.{sym}
use lib.ListN.{get_or-eq_default}
use Rattle.table.specs.Table.{parts_of}
use Rattle.table.specs.declared.types.PathPart.TheVariants.{Id}
use Rattle.table.proofs.Words.{length-threes}
use Rattle.table.proofs.parts.part_at.Goals as goal

pub returns-then-parts-i : goal.returns-then-parts-i
returns-then-parts-i c = sym (get_or-eq_default (parts_of c.args.parts.now) (Id 0) (rw length-threes c.if-parts-i.true))
