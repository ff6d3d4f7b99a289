-- No cut of a written document of one root looks whole: it begins with a master of known size that ends where the
-- document does. Assumes nothing.
use Prim.Native.Nat.{ℕ}
use mathlib.Core.Path.{◌≡◌, refl, sym, ap, subst, ◌∙◌}
use mathlib.Core.Bool.{true, false, false≢true}
use mathlib.Core.List.{List, [], ◌++◌, append_assoc, append-nil}
use native.Mathlib.Omega.{arith}
use lib.ListN.{length, take, drop}
use lib.Seq.{take_at}
use Rattle.table.specs.Table.{Entry, table_of, data_type_of}
use Rattle.table.proofs.Rules.{master_is}
use Rattle.tag_parse.specs.Header.{too_long, numeric}
use Rattle.guarantees.specs.CutRecords.{BeginsWithMaster}
use Rattle.guarantees.proofs.CutRecords.{cut_records}
use Rattle.tag_writer.specs.Document.{value, master, Run, none, then, header_bytes, size_of_element, size_of_run, element_bytes, run_bytes}
use Rattle.tag_writer.specs.Items.{marks_of, run_of}
use Rattle.tag_writer.specs.Write.{good_element, good_run, write}
use Rattle.tag_writer.proofs.Asked.{asked_master, asked_run}
use Rattle.tag_writer.proofs.HeaderBack.{head_of, header_back}
use Rattle.tag_writer.proofs.Lengths.{element_length, run_length}
use Rattle.tag_writer.proofs.RoundTrip.{is_written}
use Rattle.tag_writer.proofs.ValueBack.{not_numeric}
use Rattle.written.specs.Cut.{written, is_one_root, NoCutLooksWhole}
use Rattle.std.specs.Prelude.{Ok}

-- what is written are the bytes of the document that the items say
pub written_bytes : (es ps items vals out : List ℕ) (n : ℕ) → (write es ps items vals out).0 ≡ Ok n → written es ps items vals out n ≡ run_bytes (run_of (marks_of vals items))
written_bytes es ps items vals out n e =
    let w = is_written es ps items vals out n e in
    let doc : Run = run_of (marks_of vals items) in
    ap (take n) w.bytes ∙ take_at (run_bytes doc) (drop n out) n (run_length doc ∙ sym w.size)

-- a master that is well placed begins with its header, of known size, whatever stands after it
pub master_begins : (t : List Entry) (opened : List ℕ) (x : ℕ) (r : Run) (rest : List ℕ) → good_element t opened (master x r) ≡ true
    → BeginsWithMaster t (element_bytes (master x r) ++ rest) (size_of_element (master x r))
unfolding element_bytes size_of_element
master_begins t opened x r rest good =
    let n = size_of_run r in
    let H = header_bytes x n in
    let g = asked_master t opened x r good in
    let kind = master_is (data_type_of t x) g.kind in
    let short : too_long (data_type_of t x) n ≡ false = not_numeric (data_type_of t x) n (ap numeric kind) in
    record {
      its = head_of t x n;
      read = rw (append_assoc H (run_bytes r) rest) (header_back t x n (run_bytes r ++ rest) g.back (omega (arith, g.size)) short);
      master = kind;
      size = n;
      known = refl;
      ends = refl;
    }

-- a document of one root begins with a master that ends where it does
pub root_begins : (t : List Entry) (doc : Run) → is_one_root doc ≡ true → good_run t [] doc ≡ true → BeginsWithMaster t (run_bytes doc) (length (run_bytes doc))
unfolding run_bytes size_of_run
root_begins t none one good = absurd (false≢true one)
root_begins t (then (value x v) none) one good = absurd (false≢true one)
root_begins t (then (master x r) none) one good =
    let e : size_of_element (master x r) ≡ length (element_bytes (master x r) ++ []) = sym (ap length (append-nil (element_bytes (master x r))) ∙ element_length (master x r)) in
    subst (λ (f : ℕ). BeginsWithMaster t (element_bytes (master x r) ++ []) f) e (master_begins t [] x r [] (asked_run t [] (master x r) none good).0)
root_begins t (then e (then f r)) one good = absurd (false≢true one)

module _ (es ps items vals out : List ℕ) (n : ℕ) (e : (write es ps items vals out).0 ≡ Ok n) (one : is_one_root (run_of (marks_of vals items)) ≡ true) where
  begins : BeginsWithMaster (table_of es ps) (written es ps items vals out n) (length (written es ps items vals out n))
  begins =
      let w = is_written es ps items vals out n e in
      rw (written_bytes es ps items vals out n e) (root_begins (table_of es ps) (run_of (marks_of vals items)) one w.good)

  -- no proper front of what is written, but the empty one, ever looks whole
  pub written_cut : NoCutLooksWhole es ps (written es ps items vals out n)
  written_cut =
      let w = is_written es ps items vals out n e in
      let all = cut_records es ps w.passed in
      let b : (s rest : List ℕ) → s ++ rest ≡ written es ps items vals out n → BeginsWithMaster (table_of es ps) (s ++ rest) (length (written es ps items vals out n)) =
      λ s rest q. subst (λ (l : List ℕ). BeginsWithMaster (table_of es ps) l (length (written es ps items vals out n))) (sym q) begins in
      record {
        unanswered = λ s rest q some cut. all.cut_root s rest (length (written es ps items vals out n)) (b s rest q) some cut;
        unfinished = λ s rest q some cut. all.cut_root_unfinished s rest (length (written es ps items vals out n)) (b s rest q) some cut;
      }
