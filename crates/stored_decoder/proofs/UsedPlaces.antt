-- Arrays of 32 places of which the first are in use: what stands in each place, as the code reads it. Assumes nothing.
use Prim.Native.Nat.{ℕ, ◌≤◌, ◌<◌}
use mathlib.Core.Path.{◌≡◌, refl}
use mathlib.Core.Bool.{Bool, true, false, cond}
use mir.Val.{bool_byte}
use mathlib.Core.List.{List}
use native.Mathlib.Decide.{dec_lt}
use native.Mathlib.Omega.{arith}
use borrow.Author.Tests.{lt-ltb, le-ltb}
use lib.Dec.{ltb}
use lib.ListN.{length, get_or, take, length-take}
use lib.Seq.{get_or-take}
use Rattle.basics.specs.Lists.{array_places, filled}
use Rattle.basics.proofs.ArrayOf32.{filled-length, filled_at, filled_at_empty}
use Rattle.stored_decoder.specs.Words.{yes_no}

-- a yes-or-no word as the library converts one
pub yes_no_word : (b : Bool) → bool_byte b ≡ yes_no b
yes_no_word true = refl
yes_no_word false = refl

module _ {A : Type 0} (none : A) (l : List A) (many : length l ≡ array_places) (n : ℕ) where
  pub used_length : length (filled none (take n l)) ≡ array_places
  used_length = filled-length none (take n l) (simp length-take (omega arith))

  -- place i holds its element where it is in use
  pub used_at : (i : ℕ) → i < array_places → get_or (filled none (take n l)) i none ≡ cond (ltb i n) (get_or l i none) none
  used_at i h = go (dec_lt i n)
    where
      go : Dec (i < n) → get_or (filled none (take n l)) i none ≡ cond (ltb i n) (get_or l i none) none
      go (yes k) = rw (lt-ltb i n k, filled_at none (take n l) i none (simp length-take (omega arith)), get_or-take n l i none k)
      go (no f) =
          let k : n ≤ i = omega arith in
          rw (le-ltb i n k) (filled_at_empty none (take n l) i (simp length-take (omega arith)))
