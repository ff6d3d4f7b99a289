-- A float in decimal, where that is short and exact: a multiple of 1/8. A binary64 pattern with the exponent e and the
-- fraction f, neither e all zeros nor all ones, denotes (2^52 + f) * 2^(e - 1075), with the sign of its highest bit.
use Rattle.std.specs.Prelude.{ℕ, ◌+◌, ◌-◌, ◌/◌, ◌%◌, ◌^◌, cond, List, [], ◌++◌, eqb, ltb}
use Rattle.numerals.specs.Numeral.{hex16, decimal}
use Rattle.texts.specs.Ascii.{ascii}

-- the exponent of a pattern
abbrev pub exponent_of : ℕ → ℕ
exponent_of bits = bits / 2 ^ 52 % 2 ^ 11

-- 2^52 and the fraction of a pattern
abbrev pub significand_of : ℕ → ℕ
significand_of bits = bits % 2 ^ 52 + 2 ^ 52

-- how many eighths a float has, its sign left out: (2^52 + f) / 2^(1072 - e), where that divides; 0 where it does not,
-- and for an exponent below 1020 or above 1072
unfoldable pub eighths_of : ℕ → ℕ
eighths_of bits =
    cond (ltb (exponent_of bits) 1020) 0
    (cond (ltb 1072 (exponent_of bits)) 0
    (cond (eqb (significand_of bits % 2 ^ (1072 - exponent_of bits)) 0) (significand_of bits / 2 ^ (1072 - exponent_of bits)) 0))

-- n eighths, n below 8, behind the whole number
unfoldable pub eighths_text : ℕ → List ℕ
eighths_text n =
    cond (eqb n 1) (ascii ".125")
    (cond (eqb n 2) (ascii ".25")
    (cond (eqb n 3) (ascii ".375")
    (cond (eqb n 4) (ascii ".5")
    (cond (eqb n 5) (ascii ".625")
    (cond (eqb n 6) (ascii ".75")
    (cond (eqb n 7) (ascii ".875") []))))))

-- n eighths in decimal
unfoldable pub decimal_text : ℕ → List ℕ
decimal_text n = decimal (n / 8) ++ eighths_text (n % 8)

-- a float: 0, a multiple of 1/8 in decimal, or its bits in hex
unfoldable pub float_text : ℕ → List ℕ
float_text bits =
    cond (eqb bits 0) (ascii "0")
    (cond (eqb (eighths_of bits) 0) (ascii "float " ++ hex16 bits)
    (cond (ltb bits (2 ^ 63)) (decimal_text (eighths_of bits)) (ascii "-" ++ decimal_text (eighths_of bits))))
