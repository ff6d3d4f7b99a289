-- The text of an End, by whether its Start is missing. Assumes nothing.
use Rattle.std.proofs.Common.{ℕ, ◌≡◌, List, arith}
use borrow.Author.Tests.{eq-eqb, ne_eqb}
use mathlib.Core.List.{append-nil}
use Rattle.numerals.specs.Puts.{Puts}
use Rattle.numerals.proofs.Putting.{and_then, within}
use Rattle.texts.specs.Ascii.{ascii}
use Rattle.named_list.specs.Named.{ending_text}
use Rattle.named_list.specs.Words.{name_of}

-- its Start is missing
pub ending_missing : (x n : ℕ) {at p q r : ℕ} {o₀ o o' o'' : List ℕ} → n ≡ 0 → Puts 7 p o o₀ at (ascii "end of ") → Puts 16 q o' o p (name_of x)
    → Puts 23 r o'' o' q (ascii " (its start is missing)") → Puts 64 r o'' o₀ at (ending_text x n)
unfolding ending_text
ending_missing x n e f g h = simp (eq-eqb _ _ e) (within (omega arith) (and_then f (and_then g h)))

-- it is not
pub ending_whole : (x n : ℕ) {at p q : ℕ} {o₀ o o' : List ℕ} → (n ≡ 0 → ⊥) → Puts 7 p o o₀ at (ascii "end of ") → Puts 16 q o' o p (name_of x)
    → Puts 64 q o' o₀ at (ending_text x n)
unfolding ending_text
ending_whole x n e f g = simp (ne_eqb _ _ e) (rw (append-nil (name_of x)) (within (omega arith) (and_then f g)))
