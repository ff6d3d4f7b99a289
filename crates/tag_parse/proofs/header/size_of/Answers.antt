-- `tag_parse::header::size_of`: whether the value is the all-ones one of its length. Assumes nothing.
use Prim.Native.Nat.{ℕ, ◌-◌, ◌*◌, ◌%◌, ◌^◌, ◌≤◌, ◌<◌}
use mathlib.Core.Path.{◌≡◌, sym, ◌∙◌}
use native.Mathlib.Nat.{one-mul}
use native.Mathlib.Omega.{arith}
use lib.Dec.{lit<}
use lib.Pow.{pow_mono, shl_exact}
use Rattle.tag_parse.proofs.Cases.{size_unknown, size_known}
use Rattle.tag_parse.proofs.header.size_of.Goals.{else-length-le9-via-else-length-le9, else-length-le9-via-then-length-le9+else-size-length}
use Rattle.tag_parse.proofs.header.size_of.Goals as goal

power : (L : ℕ) → L ≤ 9 → (1 * 2 ^ (7 * L)) % 2 ^ 64 ≡ 2 ^ (7 * L)
power L h = shl_exact {a = 1} 1 (7 * L) 64 (lit< tt) (omega arith) ∙ one-mul (2 ^ (7 * L))

-- no 64-bit number has all the data bits of ten bytes
too_many : (v L : ℕ) → v < 2 ^ 64 → 9 < L → v ≡ 2 ^ (7 * L) - 1 → ⊥
too_many v L f h e =
    let l : 65 ≤ 7 * L = omega arith in
    let p : 2 ^ 65 ≤ 2 ^ (7 * L) = pow_mono l in
    omega arith

pub returns-then-size-length : goal.returns-then-size-length
returns-then-size-length c = sym (size_unknown _ _ (c.if-size-length.true ∙ rw (power c.args.length c.if-length-le9.true)))

pub returns-else-length-le9 : goal.returns-else-length-le9
returns-else-length-le9 c =
    elim c.else-length-le9.branch [
      | else-length-le9-via-else-length-le9 w ↦ sym (size_known _ _ (too_many _ _ c.ranges.size.fits w.if-length-le9.false))
      | else-length-le9-via-then-length-le9+else-size-length w ↦ sym (size_known _ _ (λ e. w.if-size-length.false (e ∙ rw (power c.args.length w.if-length-le9.true))))
    ]
