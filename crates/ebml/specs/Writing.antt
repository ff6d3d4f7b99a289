-- Document 02, CR 2: the writer's answer as one result number, with the document's length in lent bytes.
use Rattle.std.specs.Prelude.{ℕ, ◌+◌, cond, ◌≡◌, List, ltb, length, Err, Ok, Result}
use Rattle.tools.specs.declared.errors.ToolError.TheVariants.{OutputTooShort}
use Rattle.tag_writer.specs.Refusals.{error_number}
use Rattle.tag_writer.specs.Write.{write}
use Rattle.tag_writer.specs.declared.types.WriteError.{WriteError}
use Rattle.ebml.specs.Numbers.{refusal_of, value_out}

-- a refusal of the writer gives 256 plus its number
abbrev pub write_refusal_of : WriteError → ℕ
write_refusal_of e = 256 + error_number e

-- the length as a value, with the result 8, or a refusal, which leaves the lent bytes as they are
abbrev pub wrote_out : Result ℕ WriteError → List ℕ → ℕ × List ℕ
wrote_out (Ok n) told = value_out 8 n told
wrote_out (Err e) told = (write_refusal_of e, told)

-- the result, the lent output and the lent bytes for the length; 5 before all others where those are fewer than 8
abbrev pub write_out : List ℕ → List ℕ → List ℕ → List ℕ → List ℕ → List ℕ → ℕ × List ℕ × List ℕ
write_out es ps items vals out told =
    let p = write es ps items vals out in
    let q = wrote_out p.0 told in
    cond (ltb (length told) 8) (refusal_of OutputTooShort, out, told) (q.0, p.1, q.1)

-- the result r, the lent output o and the lent bytes w, as they are at exit, are the three that the definition gives
pub record GivesBoth (r : ℕ) (o w : List ℕ) (p : ℕ × List ℕ × List ℕ) : Type 0 where
  pub answer : r ≡ p.0
  pub document : o ≡ p.1
  pub told : w ≡ p.2
