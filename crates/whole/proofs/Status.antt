-- The exit status of ebml-check goes by the first word of the line: it is WHOLE just where the verdict is. Assumes
-- nothing.
use Prim.Native.Nat.{ℕ}
use mathlib.Core.Path.{◌≡◌, refl, ap}
use mathlib.Core.Bool.{true}
use mathlib.Core.List.{List}
use native.Mathlib.Omega.{arith}
use lib.ListN.{take, get_or}
use Rattle.texts.specs.Ascii.{ascii}
use Rattle.whole.specs.Line.{verdict_text, verdict_line}
use Rattle.whole.specs.declared.types.Verdict.{Verdict}
use Rattle.whole.specs.declared.types.Verdict.TheVariants as verdict
use Rattle.whole.proofs.Verdicts.{says_whole}

-- the first word of a line, with the space behind it
abbrev first_word : Verdict → List ℕ
first_word v = take 6 (verdict_line v)

-- where the verdict is WHOLE, so is the word
pub whole_says_so : (n m : ℕ) → first_word (verdict.Whole n m) ≡ ascii "WHOLE "
unfolding verdict_line verdict_text
whole_says_so n m = refl

-- two texts that begin with other letters
other_letter : {A : Type 0} {s t : List ℕ} → s ≡ t → (get_or s 0 0 ≡ get_or t 0 0 → ⊥) → A
other_letter e n = absurd (n (ap (λ (l : List ℕ). get_or l 0 0) e))

-- and where the word is, the verdict is
pub only_whole_says_so : (v : Verdict) → first_word v ≡ ascii "WHOLE " → says_whole v ≡ true
unfolding verdict_line verdict_text
only_whole_says_so (verdict.Whole n m) e = refl
only_whole_says_so verdict.Empty e = other_letter e (λ q. omega arith)
only_whole_says_so verdict.FrontMissing e = other_letter e (λ q. omega arith)
only_whole_says_so (verdict.Refused n p) e = other_letter e (λ q. omega arith)
only_whole_says_so (verdict.TooLarge p) e = other_letter e (λ q. omega arith)
only_whole_says_so (verdict.Cut p r m) e = other_letter e (λ q. omega arith)
only_whole_says_so (verdict.CannotTell x p) e = other_letter e (λ q. omega arith)
only_whole_says_so (verdict.More k n m) e = other_letter e (λ q. omega arith)
only_whole_says_so verdict.NotEnded e = other_letter e (λ q. omega arith)
