-- `tools::bytes::be_number`. The invariant: value is the number of the bytes passed, below 2 ^ 8 for each of them. Assumes
-- nothing.
use Prim.Native.Nat.{◌*◌, ◌^◌, ◌<◌}
use mathlib.Core.Path.{◌≡◌}
use lib.ListN.{take}
use Rattle.tools.specs.Bytes.{be_number}
use Rattle.tools.proofs.bytes.be_number.Given as goal

abbrev pub invariant-loop-byte : goal.invariant-loop-byte
invariant-loop-byte l = (l.value ≡ be_number (take l.byte-index l.bytes)) × (l.value < 2 ^ (8 * l.byte-index))
