-- `script_text::reading::read_digits` meets its contract. The invariant: what was read are digits, and those that are
-- left, read after the number so far, say the whole number. Assumes nothing.
use Rattle.std.proofs.Common.{◌≡◌, ◌<◌, ℕ, drop, get_or}
use Rattle.numerals.specs.Numeral.{read_from, read_back}
use Rattle.script_text.specs.Number.{IsDigit}
use Rattle.script_text.proofs.reading.read_digits.Given as goal

abbrev pub invariant-loop-byte : goal.invariant-loop-byte
invariant-loop-byte l = record {
  digits : (k : ℕ) → k < l.byte-index → IsDigit l.base (get_or l.word k 0);
  value : read_from l.base l.value (drop l.byte-index l.word) ≡ read_back l.base l.word;
}
