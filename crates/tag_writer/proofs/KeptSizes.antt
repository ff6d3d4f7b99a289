-- A list of sizes as it is filled: of which items it has the sizes. Assumes nothing.
use Prim.Native.Nat.{ℕ, ◌+◌, ◌≤◌, ◌<◌}
use mathlib.Core.Path.{◌≡◌, refl, sym, subst, ◌∙◌}
use mathlib.Core.Bool.{true}
use mathlib.Core.List.{List, ◌∷◌, ◌++◌}
use native.Mathlib.Decide.{dec_le}
use native.Mathlib.Omega.{arith}
use lib.ListN.{length, get_or, drop, set}
use lib.Seq.{get_or-set_same, get_or-set_other}
use Rattle.tag_writer.specs.Document.{Run, size_of_run}
use Rattle.tag_writer.specs.Items.{Mark, start, run_marks}
use Rattle.tag_writer.specs.Sizing.{stops, SizesIn, KeptBelow}

-- ---- what is kept

-- all of a list that is not changed
pub kept_all : (at : ℕ) (s : List ℕ) → KeptBelow at s s
kept_all at s = record { same = λ j h. refl }

-- of one change and then another, what both keep
pub kept_both : {a b : ℕ} {s t u : List ℕ} → a ≤ b → KeptBelow a s t → KeptBelow b t u → KeptBelow a s u
kept_both h p q = record { same = λ j g. q.same j (omega arith) ∙ p.same j g }

-- what is kept below a place is kept below those before it
pub kept_less : {a b : ℕ} {s t : List ℕ} → a ≤ b → KeptBelow b s t → KeptBelow a s t
kept_less h p = record { same = λ j g. p.same j (omega arith) }

-- a size that is set
pub kept_set : (at n : ℕ) (s : List ℕ) → KeptBelow at s (set s at n)
kept_set at n s = record { same = λ j h. get_or-set_other s at j n 0 (λ e. omega arith) }

-- ---- which sizes are there

module _ (ms : List Mark) where
  -- of no item nothing is asked
  pub in_none : (at : ℕ) (s : List ℕ) → SizesIn ms at at s
  in_none at s = record { at_start = λ j x run tail f u st q. absurd (omega arith) }

  -- an item that is no Start has no size
  pub in_other : (at : ℕ) (s : List ℕ) → ((x : ℕ) (l : List Mark) → drop at ms ≡ start x ∷ l → ⊥) → SizesIn ms at (at + 1) s
  in_other at s other =
      record { at_start = λ j x run tail f u st q. let e : j ≡ at = omega arith in absurd (other x (run_marks run ++ tail) (subst (λ (k : ℕ). drop k ms ≡ start x ∷ (run_marks run ++ tail)) e q)) }

  -- a Start's size is set
  pub in_set : (at n : ℕ) (s : List ℕ) → at < length s → ((x : ℕ) (run : Run) (tail : List Mark) → stops tail ≡ true → drop at ms ≡ start x ∷ (run_marks run ++ tail) → n ≡ size_of_run run)
      → SizesIn ms at (at + 1) (set s at n)
  in_set at n s h size =
      record {
        at_start = λ j x run tail f u st q.
            let e : j ≡ at = omega arith in
            subst (λ (k : ℕ). drop k ms ≡ start x ∷ (run_marks run ++ tail) → get_or (set s at n) k 0 ≡ size_of_run run) (sym e) (λ d. get_or-set_same s at n 0 h ∙ size x run tail st d) q;
      }

  -- another list with the same sizes there
  pub in_same : {a b : ℕ} {s t : List ℕ} → SizesIn ms a b s → ((j : ℕ) → a ≤ j → j < b → get_or t j 0 ≡ get_or s j 0) → SizesIn ms a b t
  in_same p same = record { at_start = λ j x run tail f u st q. same j f u ∙ p.at_start j x run tail f u st q }

  -- first some items, then others
  pub in_both : {a b c : ℕ} {s : List ℕ} → SizesIn ms a b s → SizesIn ms b c s → SizesIn ms a c s
  in_both {a} {b} {c} {s} p q = record { at_start = λ j x run tail f u st e. by j x run tail f u st e (dec_le b j) }
    where
      by : (j x : ℕ) (run : Run) (tail : List Mark) → a ≤ j → j < c → stops tail ≡ true → drop j ms ≡ start x ∷ (run_marks run ++ tail) → Dec (b ≤ j) → get_or s j 0 ≡ size_of_run run
      by j x run tail f u st e (yes g) = q.at_start j x run tail g u st e
      by j x run tail f u st e (no g) = p.at_start j x run tail f (omega arith) st e
