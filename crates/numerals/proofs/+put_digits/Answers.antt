use Rattle.numerals.proofs.Digits.{digit_more}
use Rattle.numerals.proofs.+put_digits.Goals as goal

pub returns : goal.returns
returns t c =
    digit_more c.args.base c.args.k c.args.n c.if-k-eq0.false c.put_digits-next.ensures c.glyph_of.ensures c.put.ensures
