-- What a call answers that puts a text into lent bytes.
use Rattle.std.specs.Prelude.{ℕ, cond, List, ◌++◌, ltb, length, drop}

-- the text's length, and the text at the front of the lent bytes out, the others as they were; 0 and nothing written
-- where fewer than so many are lent
unfoldable pub text_out : ℕ → List ℕ → List ℕ → ℕ × List ℕ
text_out most text out = cond (ltb (length out) most) (0, out) (length text, text ++ drop (length text) out)
