-- `tools::element_id::element_id_length`. The invariant: it is an ID of no length passed, so the least from here on is the
-- least of all. Assumes nothing.
use Prim.Native.Nat.{ℕ, ◌-◌}
use mathlib.Core.Path.{◌≡◌}
use mathlib.Core.Bool.{Bool}
use Rattle.tools.specs.Vint.{least_from}
use Rattle.tools.specs.ElementId.{is_id_of, element_id_length}
use Rattle.tools.proofs.element_id.element_id_length.Given as goal

abbrev pub test : ℕ → ℕ → Bool
test x L = is_id_of L x

abbrev pub invariant-loop-length : goal.invariant-loop-length
invariant-loop-length l = least_from (test l.id) (9 - l.length) l.length ≡ element_id_length l.id
