-- How a contract fixes an answer together with lent bytes.
use Rattle.std.specs.Prelude.{ℕ, ◌≡◌, List}

-- the answer r and the lent bytes o, as they are at exit, are the two that the definition gives
pub record Gives {A : Type 0} (r : A) (o : List ℕ) (p : A × List ℕ) : Type 0 where
  pub answer : r ≡ p.0
  pub bytes : o ≡ p.1
