-- The eighths of a float, by the tests. Assumes nothing.
use Prim.Native.Nat.{ℕ, ◌-◌, ◌/◌, ◌%◌, ◌^◌, ◌≤◌, ◌<◌}
use mathlib.Core.Path.{◌≡◌, sym, ap, ◌∙◌}
use borrow.Author.Tests.{lt-ltb, le-ltb, eq-eqb, ne_eqb}
use Rattle.named_list.specs.Floats.{exponent_of, significand_of, eighths_of}

module _ (bits : ℕ) where
  -- below 1/8
  pub too_small : exponent_of bits < 1020 → 0 ≡ eighths_of bits
  unfolding eighths_of
  too_small h = rw (lt-ltb (exponent_of bits) 1020 h)

  -- 2^50 and above, infinities and NaNs
  pub too_large : 1020 ≤ exponent_of bits → 1072 < exponent_of bits → 0 ≡ eighths_of bits
  unfolding eighths_of
  too_large h l = rw (le-ltb (exponent_of bits) 1020 h, lt-ltb 1072 (exponent_of bits) l)

  module _ (h : 1020 ≤ exponent_of bits) (l : exponent_of bits ≤ 1072) {u : ℕ} (e : u ≡ 2 ^ (1072 - exponent_of bits)) where
    -- a multiple of 1/8
    pub whole_eighths : significand_of bits % u ≡ 0 → significand_of bits / u ≡ eighths_of bits
    unfolding eighths_of
    whole_eighths q =
        rw (le-ltb (exponent_of bits) 1020 h, le-ltb 1072 (exponent_of bits) l, eq-eqb (significand_of bits % 2 ^ (1072 - exponent_of bits)) 0 (ap (λ (k : ℕ). significand_of bits % k) (sym e) ∙ q))
        (ap (λ (k : ℕ). significand_of bits / k) e)

    -- no multiple of 1/8
    pub no_eighths : (significand_of bits % u ≡ 0 → ⊥) → 0 ≡ eighths_of bits
    unfolding eighths_of
    no_eighths f =
        rw (le-ltb (exponent_of bits) 1020 h, le-ltb 1072 (exponent_of bits) l, ne_eqb (significand_of bits % 2 ^ (1072 - exponent_of bits)) 0 (λ q. f (ap (λ (k : ℕ). significand_of bits % k) e ∙ q)))
