-- The settings of the decoder as numbers, of which one that is not 0 is a yes.
use Rattle.std.specs.Prelude.{ℕ, cond, None, Option, Some}
use Rattle.stored_decoder.specs.Words.{is_yes}

-- a greatest size, or none where it is not given
abbrev pub greatest_size : ℕ → ℕ → Option ℕ
greatest_size given size = cond (is_yes given) (Some size) None
