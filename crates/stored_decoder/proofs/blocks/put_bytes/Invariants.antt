-- `stored_decoder::blocks::put_bytes`. The invariant: the bytes of the first i words are written. Assumes nothing.
use Prim.Native.Nat.{◌≤◌}
use mathlib.Core.Path.{◌≡◌}
use mathlib.Core.List.{flat_map}
use lib.ListN.{length, take}
use Rattle.tools.specs.Bytes.{be_bytes}
use Rattle.stored_decoder.specs.Words.{word_count}
use Rattle.stored_decoder.specs.Block.{block_length}
use Rattle.stored_decoder.specs.Writing.{over}
use Rattle.stored_decoder.proofs.blocks.put_bytes.Given as goal

abbrev pub invariant-loop-i : goal.invariant-loop-i
invariant-loop-i l = (l.i ≤ word_count) × (length l.block ≡ block_length) × (l.block ≡ over 0 (flat_map (be_bytes 8) (take l.i l.words)) l.initial.block)
