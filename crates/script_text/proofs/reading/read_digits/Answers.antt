use Rattle.std.proofs.Common.{arith}
use Rattle.script_text.proofs.Digits.{all_said}
use Rattle.script_text.proofs.reading.read_digits.Goals as goal

pub returns-clause-value : goal.returns-clause-value
returns-clause-value c =
    all_said c.args.base c.loop-byte.value c.loop-byte.byte-index c.args.word.now c.loop-byte-test.false (omega arith)
    c.loop-byte.invariant.digits c.loop-byte.invariant.value
