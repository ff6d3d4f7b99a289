-- The page obeys the rule: a test that is computed over the whole page, and with it the rule at each entry. Assumes
-- nothing.
use Prim.Native.Nat.{ℕ, ◌≤◌, ◌<◌}
use mathlib.Core.Bool.{Bool, true}
use mathlib.Core.Path.{◌≡◌, refl}
use native.Mathlib.Omega.{arith}
use native.Mathlib.Decide.{dec_le}
use borrow.Author.Tests.{eq-eqb, ne_eqb, eqb-true}
use lib.Count.{count_leading_zeros}
use lib.Dec.{eqb}
use lib.ListN.{length}
use Rattle.basics.proofs.Every.{every_place, every_place_at}
use Rattle.tools.specs.Vint.{vint_length}
use Rattle.tools.specs.Page.{vint_lengths, length_on_page, length_rule, OnPage}
use Rattle.tools.proofs.Marker.{length-le_8}

-- ---- the rule

pub rule_zero : (first : ℕ) → first ≡ 0 → length_rule first ≡ 0
rule_zero first h = rw (eq-eqb _ _ h)

pub rule_vint : (first : ℕ) → (first ≡ 0 → ⊥) → length_rule first ≡ vint_length first
rule_vint first h = rw (ne_eqb _ _ h)

pub rule_le_8 : (first : ℕ) → first < 256 → length_rule first ≤ 8
rule_le_8 first l = go (dec_le 1 first)
  where
    go : Dec (1 ≤ first) → length_rule first ≤ 8
    go (yes h) = rw (rule_vint first (λ e. omega arith)) (length-le_8 first h l)
    go (no f) = rw (rule_zero first (omega arith)) (omega arith)

-- ---- the page

pub page_whole : length vint_lengths ≡ 256
unfolding vint_lengths
page_whole = refl

-- an entry is what the rule says of its place
as_ruled : ℕ → ℕ → Bool
as_ruled first entry = eqb entry (length_rule first)

page_passes : every_place as_ruled 0 vint_lengths ≡ true
unfolding every_place as_ruled vint_lengths count_leading_zeros
page_passes = refl

pub page_obeys : (first : ℕ) → first < 256 → length_on_page first ≡ length_rule first
unfolding as_ruled
page_obeys first h = eqb-true _ _ (every_place_at as_ruled vint_lengths 0 page_passes first (rw page_whole h))

pub on_page : (first : ℕ) → first < 256 → OnPage first (length_on_page first)
on_page first h =
    let e = page_obeys first h in
    record { printed = refl; ruled = e; at_most_8 = rw e (rule_le_8 first h) }
