-- Laws of a whole line put into lent bytes. Assumes nothing.
use Prim.Native.Nat.{ℕ, ◌+◌, ◌≤◌, ◌<◌}
use mathlib.Core.Path.{◌≡◌, refl, ap, ◌∙◌}
use mathlib.Core.List.{List, [], ◌∷◌, ◌++◌}
use native.Mathlib.Omega.{arith}
use borrow.Author.Tests.{lt-ltb, le-ltb}
use lib.ListN.{length, drop}
use lib.Seq.{sets-eq}
use Rattle.tools.specs.Answers.{Gives}
use Rattle.decoder_rules.specs.declared.types.Answer.{Answer}
use Rattle.event_list.specs.Line.{answer_text, line, most_line, line_out}
use Rattle.numerals.specs.Puts.{Puts}
use Rattle.numerals.proofs.Putting.{and_then}
use Rattle.std.specs.Prelude.{Result}
use Rattle.decoder_rules.specs.declared.types.Refusal.{Refusal}

pub put_none : (a : Result Answer Refusal) (p : ℕ) {out : List ℕ} → length out < most_line → Gives 0 out (line_out a p out) × (0 ≤ length out)
unfolding line_out
put_none a p {out} h = (rw (lt-ltb (length out) most_line h) (record { answer = refl; bytes = refl }), omega arith)

pub put_whole : (a : Result Answer Refusal) (p : ℕ) {r r' : ℕ} {o o₀ o' : List ℕ} → most_line ≤ length o₀
    → Puts 81 r o o₀ 0 (answer_text a p) → Puts 1 r' o' o r (10 ∷ []) → Gives r' o' (line_out a p o₀) × (r' ≤ length o₀)
unfolding line_out line
put_whole a p {r} {r'} {o} {o₀} {o'} h t n =
    let whole = and_then t n in
    let few : length (line a p) ≤ most_line = whole.few in
    let fits : 0 + length (line a p) ≤ length o₀ = omega arith in
    let z : 0 + length (line a p) ≡ length (line a p) = omega arith in
    let place = whole.place in (
      rw (le-ltb (length o₀) most_line h)
          (record {
            answer = whole.place ∙ z;
            bytes = whole.bytes ∙ sets-eq (line a p) o₀ 0 fits ∙ ap (λ (k : ℕ). line a p ++ drop k o₀) z;
          }),
      omega arith,
    )
