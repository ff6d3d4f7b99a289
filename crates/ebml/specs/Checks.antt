-- The table check as one result number.
use Rattle.std.specs.Prelude.{ℕ, ◌+◌, ◌*◌, Err, Ok, Result, ⊤}
use Rattle.table.specs.Check.{rule_number}
use Rattle.table.specs.declared.types.TableError.{TableError}
use Rattle.table.specs.declared.types.TableError.TheVariants as fault

-- 0 for a table that passed; 256 plus 10, or plus the rule's number 31 to 35, with the faulty entry, counted from 0, in
-- the bits above the lowest 16
abbrev pub checked_out : Result ⊤ TableError → ℕ
checked_out (Ok _) = 0
checked_out (Err fault.BadShape) = 256 + 10
checked_out (Err (fault.Fault rule entry)) = 65536 * entry + (256 + rule_number rule)
