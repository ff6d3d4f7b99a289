-- Document 02, CR 1: what the number of a need-more says. `missing s` is the number that the answer to the bytes s has, 0
-- where it is no need-more.
use Rattle.std.specs.Prelude.{ℕ, ◌+◌, ◌≤◌, List, ◌++◌, ◌≡◌, length}
use Rattle.tools.specs.Bytes.{Octets}

-- "With fewer further bytes the answer is still need-more": of n missing bytes at least n - k are missing behind k
-- further ones, whatever they are
abbrev pub FewerStillMissing : (List ℕ → ℕ) → List ℕ → Type 0
FewerStillMissing missing s = (further : List ℕ) → missing s ≤ length further + missing (s ++ further)

-- with some further bytes, as many as are missing, nothing is missing: no greater number could be told
pub record Enough (missing : List ℕ → ℕ) (s : List ℕ) : Type 0 where
  pub further : List ℕ
  pub bytes : Octets further
  pub count : length further ≡ missing s
  pub none : missing (s ++ further) ≡ 0

-- so the number is the least number of further bytes with which the answer can be another
pub record TellsMissing (missing : List ℕ → ℕ) (s : List ℕ) : Type 0 where
  pub fewer : FewerStillMissing missing s
  pub enough : Enough missing s
