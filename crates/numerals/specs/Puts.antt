-- How a function puts text at a place of lent bytes.
use Rattle.std.specs.Prelude.{ℕ, ◌+◌, ◌≤◌, ◌≡◌, List, length}
use Rattle.std.proofs.lemmas.List.Edits.{sets}

-- the text s was stored from the place at on: r is the place after it, o what the lent bytes o₀ became; s has at most
-- so many bytes
pub record Puts (most r : ℕ) (o o₀ : List ℕ) (at : ℕ) (s : List ℕ) : Type 0 where
  pub place : r ≡ at + length s
  pub bytes : o ≡ sets o₀ at s
  pub few : length s ≤ most
