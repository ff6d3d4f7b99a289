-- `tag_writer::asking::type_word`. Assumes nothing.
use Rattle.tag_writer.specs.Write.{type_word}
use Rattle.tag_writer.proofs.asking.type_word.Goals as goal

pub returns-in-Untyped : goal.returns-in-Untyped
unfolding type_word
returns-in-Untyped c = rw c.in-Untyped.is

pub returns-in-Master : goal.returns-in-Master
unfolding type_word
returns-in-Master c = rw c.in-Master.is

pub returns-in-UnsignedInt : goal.returns-in-UnsignedInt
unfolding type_word
returns-in-UnsignedInt c = rw c.in-UnsignedInt.is

pub returns-in-Integer : goal.returns-in-Integer
unfolding type_word
returns-in-Integer c = rw c.in-Integer.is

pub returns-in-Utf8 : goal.returns-in-Utf8
unfolding type_word
returns-in-Utf8 c = rw c.in-Utf8.is

pub returns-in-Binary : goal.returns-in-Binary
unfolding type_word
returns-in-Binary c = rw c.in-Binary.is

pub returns-in-Float : goal.returns-in-Float
unfolding type_word
returns-in-Float c = rw c.in-Float.is
