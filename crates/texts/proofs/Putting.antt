-- Laws of a whole text put into lent bytes. Assumes nothing.
use Prim.Native.Nat.{ℕ, ◌+◌, ◌≤◌, ◌<◌}
use mathlib.Core.Path.{◌≡◌, refl, sym, ap, ◌∙◌}
use mathlib.Core.List.{List, ◌++◌, append_assoc}
use native.Mathlib.Omega.{arith}
use borrow.Author.Tests.{lt-ltb, le-ltb}
use lib.ListN.{length, take, drop}
use lib.Seq.{sets-eq, drop-drop}
use borrow.Rule.Slice.PartMut.{put_mid}
use Rattle.tools.specs.Answers.{Gives}
use Rattle.numerals.specs.Puts.{Puts}
use Rattle.texts.specs.Out.{text_out}

module _ (most : ℕ) (text : List ℕ) where
  -- too few bytes are lent
  pub put_none : {out : List ℕ} → length out < most → Gives 0 out (text_out most text out) × (0 ≤ length out)
  unfolding text_out
  put_none {out} h = (rw (lt-ltb (length out) most h) (record { answer = refl; bytes = refl }), omega arith)

  -- the text is put at their front
  pub put_whole : {r : ℕ} {o o₀ : List ℕ} → most ≤ length o₀ → Puts most r o o₀ 0 text → Gives r o (text_out most text o₀) × (r ≤ length o₀)
  unfolding text_out
  put_whole {r} {o} {o₀} h whole =
      let few = whole.few in
      let fits : 0 + length text ≤ length o₀ = omega arith in
      let z : 0 + length text ≡ length text = omega arith in
      let place = whole.place in (
        rw (le-ltb (length o₀) most h)
            (record {
              answer = whole.place ∙ z;
              bytes = whole.bytes ∙ sets-eq text o₀ 0 fits ∙ ap (λ (k : ℕ). text ++ drop k o₀) z;
            }),
        omega arith,
      )

-- a text that was copied to a place of lent bytes, n of them
pub all_put : (text mid out : List ℕ) (at n : ℕ) → at + length text ≤ length out → n ≡ length text → mid ≡ text
    → Puts (length text) (at + length text) (put_mid at n out mid) out at text
all_put text mid out at n h e m =
    let behind = ap (λ (k : List ℕ). take at out ++ (text ++ k)) (drop-drop (length text) at out) in
    let whole = sym (append_assoc (take at out) text (drop (at + length text) out)) ∙ sym (sets-eq text out at h) in
    rw (m, e) (record { place = refl; bytes = behind ∙ whole; few = omega arith })
