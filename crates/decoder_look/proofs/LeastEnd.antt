-- The least of the masters' ends stands for all: an end reaches beyond none where it is not beyond the least. Assumes
-- nothing.
use Prim.Native.Nat.{ℕ, ◌-◌, ◌^◌, ◌≤◌, min}
use mathlib.Core.Path.{◌≡◌, refl, sym}
use mathlib.Core.Bool.{Bool, true, false, ◌&&◌}
use mathlib.Core.List.{List, [], ◌∷◌}
use native.Mathlib.Decide.{dec_le}
use native.Mathlib.Omega.{arith}
use borrow.Author.Tests.{le-leb, lt-leb}
use lib.Dec.{leb}
use Rattle.basics.specs.Lists.{every}
use Rattle.spec_util.specs.declared.types.OpenTag.{OpenTag}
use Rattle.decoder_rules.specs.Record.{end_of}
use Rattle.decoder_rules.specs.OneCall.{reaches}
use Rattle.decoder_look.specs.Summary.{shown_end, least_end}
use Rattle.basics.proofs.Sums.{same_test}

-- not beyond both is not beyond the lesser
within_both : (e a b : ℕ) → (leb e a && leb e b) ≡ leb e (min a b)
within_both e a b = go (dec_le e a)
  where
    go : Dec (e ≤ a) → (leb e a && leb e b) ≡ leb e (min a b)
    go (yes h) = rw (le-leb e a h) (same_test e b e (min a b) (λ k. omega arith) (λ k. omega arith))
    go (no f) = rw (lt-leb e a (omega arith)) (sym (lt-leb e (min a b) (omega arith)))

module _ (e : ℕ) (h : e ≤ 2 ^ 64 - 1) where
  reaches_shown : (m : OpenTag) → reaches e m ≡ leb e (shown_end m)
  unfolding reaches shown_end
  reaches_shown m = go m.known refl
    where
      go : (b : Bool) → m.known ≡ b → reaches e m ≡ leb e (shown_end m)
      go true k = rw k (same_test e (end_of m) e (min (end_of m) (2 ^ 64 - 1)) (λ j. omega arith) (λ j. omega arith))
      go false k = rw k (sym (le-leb e (2 ^ 64 - 1) h))

  -- all of the masters go as far as an end where the least of their ends does
  pub every_reaches : (l : List OpenTag) → every (reaches e) l ≡ leb e (least_end l)
  unfolding every least_end
  every_reaches [] = sym (le-leb e (2 ^ 64 - 1) h)
  every_reaches (m ∷ l) = rw (reaches_shown m, every_reaches l) (within_both e (shown_end m) (least_end l))
