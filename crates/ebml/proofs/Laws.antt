-- Laws of the C calls' answers. Assumes nothing.
use Prim.Native.Nat.{ℕ, ◌≤◌, ◌<◌}
use mathlib.Core.Path.{◌≡◌, refl, sym, ap, ap₂, ◌∙◌}
use mathlib.Core.List.{List}
use native.Mathlib.Omega.{arith}
use native.Mathlib.Decide.{dec_le}
use borrow.Author.Tests.{lt-ltb, le-ltb}
use lib.ListN.{length}
use Rattle.tools.specs.Answers.{Gives}
use Rattle.tools.specs.Integer.{u64_to_arr}
use Rattle.tools.specs.Refusals.{number_of}
use Rattle.tools.specs.declared.errors.ToolError.{ToolError}
use Rattle.tools.specs.declared.errors.ToolError.TheVariants.{ReadVintOverflow, WriteVintOverflow, WriteSignedVintOverflow, WidthMismatch, OutputTooShort, ReadU64Overflow, ReadI64Overflow, ReadF64Mismatch}
use Rattle.table.specs.Check.{rule_number, check_table}
use Rattle.table.specs.declared.types.Rule.{Rule}
use Rattle.table.specs.declared.types.Rule.TheVariants.{NoElementId, Repeated, GlobalInMaster, NoMaster, OtherPath}
use Rattle.table.proofs.Entries.{length_table}
use Rattle.table.proofs.Passed.{answered, fault_is}
use Rattle.table.proofs.Shaped.{shaped}
use Rattle.tag_writer.specs.Refusals.{error_number}
use Rattle.tag_writer.specs.Write.{write}
use Rattle.tag_writer.specs.declared.types.WriteError.{WriteError}
use Rattle.tag_writer.specs.declared.types.WriteError.TheVariants as refused
use Rattle.tag_writer.specs.declared.types.WriteError.TheVariants.{TableFails, TooManyItems, Unmatched, WrongItem}
use Rattle.ebml.specs.Writing.{wrote_out, write_out, GivesBoth}
use Rattle.ebml.specs.Numbers.{refusal_of, need_more_of, code_of, result_of, value_out, written_out}
use Rattle.std.specs.Prelude.{Err, Result}
use Rattle.table.specs.declared.types.TableError.TheVariants as fault
use Rattle.std.specs.Prelude.{⊤}
use Rattle.table.specs.declared.types.TableError.{TableError}

pub number_small : (e : ToolError) → number_of e ≤ 7
number_small ReadVintOverflow = omega arith
number_small WriteVintOverflow = omega arith
number_small WriteSignedVintOverflow = omega arith
number_small WidthMismatch = omega arith
number_small OutputTooShort = omega arith
number_small ReadU64Overflow = omega arith
number_small ReadI64Overflow = omega arith
number_small ReadF64Mismatch = omega arith

pub write_number_small : (e : WriteError) → error_number e ≤ 44
write_number_small TableFails = omega arith
write_number_small TooManyItems = omega arith
write_number_small Unmatched = omega arith
write_number_small WrongItem = omega arith
write_number_small refused.OutputTooShort = omega arith

-- a refusal's result is below that of every need-more
pub refusal_below : (e : ToolError) (missing : ℕ) → refusal_of e < need_more_of missing
refusal_below e missing = omega (arith, number_small e)

-- the number of what a writer answered, and the bytes that it left
pub written : {w : Result ℕ ToolError} {r : ℕ} {o : List ℕ} {p : Result ℕ ToolError × List ℕ} → r ≡ code_of w → Gives w o p → Gives r o (written_out p)
written e g = record { answer = e ∙ ap code_of g.answer; bytes = g.bytes }

-- a value that was handed to the lent bytes
pub handed : (result v : ℕ) (out : List ℕ) {w : Result ℕ ToolError} {r : ℕ} {o : List ℕ}
    → r ≡ result_of result w → Gives w o (u64_to_arr v out) → Gives r o (value_out result v out)
unfolding u64_to_arr
handed result v out {w} {r} {o} e g = go (dec_le 8 (length out))
  where
    go : Dec (8 ≤ length out) → Gives r o (value_out result v out)
    go (yes h) = rw (le-ltb _ _ h) (record { answer = e ∙ ap (result_of result) (rw (le-ltb _ _ h) at g.answer); bytes = rw (le-ltb _ _ h) at g.bytes })
    go (no f) =
        let h : length out < 8 = omega arith in
        rw (lt-ltb _ _ h) (record { answer = e ∙ ap (result_of result) (rw (lt-ltb _ _ h) at g.answer); bytes = rw (lt-ltb _ _ h) at g.bytes })

-- ---- the table check

pub rule_small : (r : Rule) → rule_number r ≤ 35
rule_small NoElementId = omega arith
rule_small Repeated = omega arith
rule_small GlobalInMaster = omega arith
rule_small NoMaster = omega arith
rule_small OtherPath = omega arith

-- a fault is of one of at most 64 entries
pub few_faults : (es ps : List ℕ) {r : Rule} {i : ℕ} → check_table es ps ≡ Err (fault.Fault r i) → i < 64
few_faults es ps {r} {i} e =
    let f = fault_is es ps e in
    let good = answered es ps (λ b. never (sym e ∙ b)) in
    omega (arith, f.there, length_table es ps, (shaped es ps good).few_entries)
  where
    never : ◌≡◌ {A = Result ⊤ TableError} (Err (fault.Fault r i)) (Err fault.BadShape) → ⊥
    never b = let z : ◌≡◌ {A = ℕ} 0 1 = cc in omega arith

-- ---- the writer

-- fewer than 8 bytes lent for the length
pub told_short : (es ps items vals out told : List ℕ) {r : ℕ} → length told < 8 → r ≡ refusal_of OutputTooShort
    → GivesBoth r out told (write_out es ps items vals out told)
told_short es ps items vals out told h e = rw (lt-ltb _ _ h) (record { answer = e; document = refl; told = refl })

-- what the writer answered, handed to 8 bytes or more
pub told-length : (es ps items vals out told : List ℕ) {w : Result ℕ WriteError} {r : ℕ} {o t : List ℕ} → 8 ≤ length told
    → Gives w o (write es ps items vals out) → Gives r t (wrote_out w told)
    → GivesBoth r o t (write_out es ps items vals out told)
told-length es ps items vals out told h g k =
    rw (le-ltb _ _ h)
    (record {
      answer = k.answer ∙ ap (λ w. (wrote_out w told).0) g.answer;
      document = g.bytes;
      told = k.bytes ∙ ap (λ w. (wrote_out w told).1) g.answer;
    })

-- what `GivesBoth` fixes: the result, and the two lists of lent bytes as a pair
pub given_both : {r : ℕ} {o w : List ℕ} {p : ℕ × List ℕ × List ℕ}
    → GivesBoth r o w p → ◌≡◌ {A = ℕ × (List ℕ × List ℕ)} (r, (o, w)) (p.0, (p.1, p.2))
given_both {r} {o} {w} {p} g =
    let q : ◌≡◌ {A = List ℕ × List ℕ} (o, w) (p.1, p.2) = ap₂ (λ o w. (o, w)) g.document g.told in
    ap₂ (λ r q. (r, q)) g.answer q
