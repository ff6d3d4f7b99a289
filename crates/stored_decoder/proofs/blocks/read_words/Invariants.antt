-- `stored_decoder::blocks::read_words`. The invariant: the first i words are read. Assumes nothing.
use Prim.Native.Nat.{◌≤◌}
use mathlib.Core.Path.{◌≡◌}
use mathlib.Core.List.{map}
use lib.ListN.{length, take}
use Rattle.tools.specs.Bytes.{be_number}
use Rattle.stored_decoder.specs.Words.{word_count, places}
use Rattle.stored_decoder.specs.Writing.{over}
use Rattle.stored_decoder.proofs.blocks.read_words.Given as goal

abbrev pub invariant-loop-i : goal.invariant-loop-i
invariant-loop-i l = (l.i ≤ word_count) × (length l.words ≡ word_count) × (l.words ≡ over 0 (map be_number (take l.i (places 8 word_count l.block))) l.initial.words)
