-- What the helpers of `is_utf8` say in their contracts. Nothing that `is_utf8` says rests on it.
use Rattle.std.specs.Prelude.{ℕ, zero, suc, ◌≤◌, ◌≡◌, List, [], ◌∷◌, length, drop}
use Rattle.utf8.specs.Rfc3629.{Range, tail, is_text}

-- the ranges of n octets after a character's first, of which the next has the range given
unfoldable pub following : ℕ → Range → List Range
following zero r = []
following (suc n) r = r ∷ following n tail

-- from i to r whole characters are passed over: what is left from r on is a text exactly where what is left from i on
-- is
pub record Passed (s : List ℕ) (i r : ℕ) : Type 0 where
  pub forward : i ≤ r
  pub inside : r ≤ length s
  pub same : is_text (drop r s) ≡ is_text (drop i s)
