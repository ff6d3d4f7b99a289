-- `Line::put` of script_text. The invariant: the bytes that were passed stand behind what was written. Assumes nothing.
use Rattle.std.proofs.Common.{◌≡◌, ◌++◌, take}
use Rattle.script_text.proofs.answers.Line.put.Given as goal

abbrev pub invariant-loop-byte : goal.invariant-loop-byte
invariant-loop-byte l = l.self-inside.text.items ≡ l.initial.self-inside.text.items ++ take l.byte-index l.byte-items
