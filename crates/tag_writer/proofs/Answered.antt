-- What the writer's answer says: a refusal writes nothing, and a document is written only where nothing is refused.
-- Assumes nothing.
use Prim.Native.Nat.{ℕ, ◌≤◌}
use mathlib.Core.Path.{◌≡◌, refl, sym, ap}
use mathlib.Core.Bool.{true, ◌&&◌}
use mathlib.Core.List.{List, [], ◌++◌}
use native.Mathlib.Omega.{arith}
use borrow.Author.Tests.{leb-true}
use lib.Dec.{leb}
use lib.ListN.{length, drop}
use Rattle.basics.proofs.Bools.{pick, either, both}
use Rattle.table.specs.Check.{check_table}
use Rattle.table.specs.Table.{table_of}
use Rattle.tag_writer.specs.Document.{Run, size_of_run, run_bytes}
use Rattle.tag_writer.specs.Items.{Mark, marks_of, matched, run_of}
use Rattle.tag_writer.specs.Write.{good_run, whole_items, most_items, is_passed, write}
use Rattle.tag_writer.specs.declared.types.WriteError.{WriteError}
use Rattle.std.specs.Prelude.{Err, Ok, Result}

-- what holds where n bytes are written, and the output is o after it
pub record WrittenSo (es ps items vals out : List ℕ) (n : ℕ) (o : List ℕ) : Type 0 where
  pub passed : is_passed (check_table es ps) ≡ true
  pub few : length (marks_of vals items) ≤ most_items
  pub match : matched [] (marks_of vals items) ≡ true
  pub whole : whole_items items ≡ true
  pub good : good_run (table_of es ps) [] (run_of (marks_of vals items)) ≡ true
  pub size : n ≡ size_of_run (run_of (marks_of vals items))
  pub room : n ≤ length out
  pub bytes : o ≡ run_bytes (run_of (marks_of vals items)) ++ drop n out

module _ (es ps items vals out : List ℕ) where
  abbrev ms : List Mark
  ms = marks_of vals items

  abbrev r : Run
  r = run_of ms

  -- "nothing written"
  pub refused_writes_nothing : (e : WriteError) → (write es ps items vals out).0 ≡ Err e → (write es ps items vals out).1 ≡ out
  unfolding write
  refused_writes_nothing e =
      either P (is_passed (check_table es ps)) _ _
      (either P (leb (length ms) most_items) _ _
      (either P (matched [] ms) _ _
      (either P (whole_items items && good_run (table_of es ps) [] r) _ _
      (either P (leb (size_of_run r) (length out)) _ _ never (λ q. refl)) (λ q. refl)) (λ q. refl)) (λ q. refl)) (λ q. refl)
    where
      P : Result ℕ WriteError × List ℕ → Type 0
      P p = p.0 ≡ Err e → p.1 ≡ out

      never : {n : ℕ} {o : List ℕ} → Ok n ≡ Err e → o ≡ out
      never {n} q = let z : ◌≡◌ {A = ℕ} 0 1 = cc in absurd (omega arith)

  -- nothing was refused
  pub written_so : (n : ℕ) → (write es ps items vals out).0 ≡ Ok n → WrittenSo es ps items vals out n (write es ps items vals out).1
  unfolding write
  written_so n =
      pick P (is_passed (check_table es ps)) _ _
      (λ a. pick P (leb (length ms) most_items) _ _
      (λ b. pick P (matched [] ms) _ _
      (λ c. pick P (whole_items items && good_run (table_of es ps) [] r) _ _
      (λ d. pick P (leb (size_of_run r) (length out)) _ _
      (λ f q. all a b c d f cc) (λ f. never)) (λ d. never)) (λ c. never)) (λ b. never)) (λ a. never)
    where
      P : Result ℕ WriteError × List ℕ → Type 0
      P p = p.0 ≡ Ok n → WrittenSo es ps items vals out n p.1

      never : {e : WriteError} {o : List ℕ} → Err e ≡ Ok n → WrittenSo es ps items vals out n o
      never {e} q = let z : ◌≡◌ {A = ℕ} 0 1 = cc in absurd (omega arith)

      all : is_passed (check_table es ps) ≡ true → leb (length ms) most_items ≡ true → matched [] ms ≡ true → (whole_items items && good_run (table_of es ps) [] r) ≡ true
          → leb (size_of_run r) (length out) ≡ true → n ≡ size_of_run r → WrittenSo es ps items vals out n (run_bytes r ++ drop (size_of_run r) out)
      all a b c d f q =
          let g = both (whole_items items) (good_run (table_of es ps) [] r) d in
          record {
            passed = a;
            few = leb-true _ _ b;
            match = c;
            whole = g.left;
            good = g.right;
            size = q;
            room = rw q (leb-true _ _ f);
            bytes = ap (λ (k : ℕ). run_bytes r ++ drop k out) (sym q);
          }
