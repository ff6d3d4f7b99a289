-- Tests over the elements of a list, proper prefixes, and a list in an array of 32 places.
use Rattle.std.specs.Prelude.{ℕ, ◌+◌, ◌-◌, ◌<◌, Bool, true, false, cond, ◌&&◌, ◌||◌, List, [], ◌∷◌, ◌++◌, ◌≡◌, length, replicate}

-- each element passes
unfoldable pub every : {A : Type 0} → (A → Bool) → List A → Bool
every test [] = true
every test (a ∷ l) = test a && every test l

-- some element passes
unfoldable pub any : {A : Type 0} → (A → Bool) → List A → Bool
any test [] = false
any test (a ∷ l) = test a || any test l

-- how many elements stand before the first that passes: all, where none does
unfoldable pub first_index : {A : Type 0} → (A → Bool) → List A → ℕ
first_index test [] = 0
first_index test (a ∷ l) = cond (test a) 0 (first_index test l + 1)

-- s is the front of l, and not all of it: something is missing behind it. The empty list is a proper prefix of every
-- other.
pub record ProperPrefix {A : Type 0} (s l : List A) : Type 0 where
  pub missing : List A
  pub some : 0 < length missing
  pub joined : s ++ missing ≡ l

-- the places of the arrays of a decoder's record
abbrev pub array_places : ℕ
array_places = 32

-- a list of at most 32 in its 32 places, the others holding `none`
abbrev pub filled : {A : Type 0} → A → List A → List A
filled none l = l ++ replicate (array_places - length l) none
