-- `decoder_look::places::is_full`: by the tests in their order; the end is compared as a difference. Assumes nothing.
use Prim.Native.Nat.{◌+◌, ◌<◌}
use mathlib.Core.Path.{sym, ◌∙◌}
use mathlib.Core.Logic.{inl, inr}
use native.Mathlib.Omega.{arith}
use borrow.Author.Tests.{lt-leb}
use Rattle.std.proofs.lemmas.Bool.{false≢true}
use Rattle.decoder_rules.specs.OneCall.{is_full}
use Rattle.basics.proofs.Sums.{sum-within}
use Rattle.decoder_look.proofs.places.is_full.Goals.{then-m, else-m}
use Rattle.decoder_look.proofs.places.is_full.Goals as goal

pub returns-then-m-position : goal.returns-then-m-position
unfolding is_full
returns-then-m-position c = let e = c.if-m-position.true in rw e.0 (sum-within _ _ _ e.1)

pub returns-else-m-position : goal.returns-else-m-position
unfolding is_full
returns-else-m-position c = elim c.if-m.branch [
  | then-m w ↦ elim c.if-m-position.either [
    | inl e ↦
        let a = c.args in
        let h : a.position < a.m.data_start + a.m.size = omega (arith, e.1) in
        rw w.if-m.true (w.t-4-is ∙ (lt-leb _ _ e.1 ∙ sym (lt-leb _ _ h)))
    | inr e ↦ absurd (false≢true (sym e ∙ w.if-m.true))
  ]
  | else-m w ↦ w.t-4-is ∙ rw w.if-m.false
]
