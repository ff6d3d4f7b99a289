-- `tag_parse::payload::before_zero`: the place of the first zero byte, or the end. Assumes nothing.
use lib.Dec.{eqb}
use mathlib.Core.Bool.{Bool, true, false, cond}
use Prim.Native.Nat.{ℕ, suc, ◌+◌, ◌≤◌}
use mathlib.Core.Path.{◌≡◌, refl, ◌∙◌, sym}
use mathlib.Core.List.{List, [], ◌∷◌}
use borrow.Author.Tests.{eq-eqb, ne_eqb, tests}
use borrow.Author.Rules.{rules}
use native.Mathlib.Omega.{arith}
use lib.ListN.{length}
use Rattle.basics.specs.Lists.{first_index}
use Rattle.std.proofs.lemmas.Iterator.{IsFirst-from_position, YieldsList-from_slice, index_from_first}
use Rattle.tag_parse.specs.Payload.{before_zero}
use Rattle.tag_parse.proofs.payload.before_zero.Goals as goal

hit : (b : ℕ) (s : List ℕ) → b ≡ 0 → before_zero (b ∷ s) ≡ 0
unfolding first_index
hit b s e = rw (eq-eqb _ _ e)

miss : (b : ℕ) (s : List ℕ) → (b ≡ 0 → ⊥) → before_zero (b ∷ s) ≡ before_zero s + 1
unfolding first_index
miss b s n = rw (ne_eqb _ _ n)

none : before_zero [] ≡ 0
unfolding first_index
none = refl

one_more : (t : Bool) (n m : ℕ) → n ≤ m → cond t 0 (n + 1) ≤ suc m
one_more true n m h = omega arith
one_more false n m h = omega arith

at_most : (s : List ℕ) → before_zero s ≤ length s
unfolding first_index
at_most [] = omega arith
at_most (b ∷ s) = one_more (eqb b 0) (before_zero s) (length s) (at_most s)

pub returns : goal.returns
returns c =
    let s = c.args.raw_data.now in
    let first = IsFirst-from_position _ _ _ (λ b. b ≡ 0) (λ b. b ≡ 0 → ⊥) c.position.ensures.ran (YieldsList-from_slice s cc) (λ x q k. search (rules, tests)) (λ x q k. search (rules, tests)) in
    let e = index_from_first before_zero (λ b. b ≡ 0) (λ b. b ≡ 0 → ⊥) none hit miss s c.position.result first in
    let is : c.unwrap_or.result ≡ before_zero s = c.unwrap_or.ensures ∙ sym e in
    (is, rw is (at_most s))
