-- Numbers as digits.
use Rattle.std.specs.Prelude.{ℕ, ◌<◌, ◌≡◌, List, All}
use Rattle.numerals.specs.Numeral.{glyph, digit_of, read_back}

-- c is the ASCII code of a digit in a base up to 16: 0 to 9, A to F
pub record IsDigit (base c : ℕ) : Type 0 where
  pub low : digit_of c < base
  pub same : glyph (digit_of c) ≡ c

-- the text says n in a base up to 16
pub record SaysNumber (base : ℕ) (text : List ℕ) (n : ℕ) : Type 0 where
  pub digits : All (IsDigit base) text
  pub value : n ≡ read_back base text
