-- What is written says its document with known sizes and floats in 8 bytes, and nothing that does so is shorter.
-- Assumes nothing.
use Prim.Native.Nat.{ℕ, ◌+◌, ◌-◌, ◌≤◌}
use mathlib.Core.Path.{◌≡◌, refl, sym, ap, subst, ◌∙◌}
use mathlib.Core.Bool.{Bool, true, false≢true}
use mathlib.Core.List.{List, [], ◌∷◌, ◌++◌, append_assoc, append-nil}
use native.Mathlib.Omega.{arith}
use lib.ListN.{length, take, drop, length-append}
use lib.Seq.{take_all, take_at, drop_at}
use Rattle.basics.specs.Lists.{every}
use Rattle.basics.proofs.Bools.{both}
use Rattle.tools.specs.Bytes.{Octets}
use Rattle.tools.proofs.BigEndian.{length-be_bytes}
use Rattle.table.specs.Table.{Entry, table_of, data_type_of}
use Rattle.table.proofs.Rules.{master_is}
use Rattle.tag_parse.specs.Header.{numeric, read_header}
use Rattle.tag_parse.specs.declared.types.Range.{Range}
use Rattle.decoder_rules.specs.OneCall.{good_form}
use Rattle.tag_writer.specs.Document.{Value, unsigned, integer, text, binary, float, wrong, Element, value, master, Run, none, then, payload, header_bytes, size_of_run, element_bytes, run_bytes}
use Rattle.tag_writer.specs.Items.{Mark, datum, marks_of, run_of, run_marks}
use Rattle.tag_writer.specs.ReadBack.{part, said_value, is_taken}
use Rattle.tag_writer.specs.Write.{is_of_kind, good_element, good_run, write}
use Rattle.tag_writer.proofs.Asked.{asked_value, asked_master, asked_run}
use Rattle.tag_writer.proofs.HeaderBack.{head_of, header_back}
use Rattle.tag_writer.proofs.InRange.{fits_run, marks_fit}
use Rattle.tag_writer.proofs.Lengths.{run_length}
use Rattle.tag_writer.proofs.Marks.{matched_marks}
use Rattle.tag_writer.proofs.Reading.{FitsElement, FitsRun}
use Rattle.tag_writer.proofs.RoundTrip.{IsWritten, is_written}
use Rattle.tag_writer.proofs.ValueBack.{Fits, value_told, value_back, not_numeric, value_short}
use Rattle.written.specs.Cut.{written}
use Rattle.written.proofs.Cut.{written_bytes}
use Rattle.shortest.specs.Says.{SaysValue, is_float, SaysElement, Says}
use Rattle.shortest.specs.Shortest.{IsShortest}
use Rattle.shortest.proofs.Least.{run_least}
use Rattle.shortest.proofs.Reading.{read_says}
use Rattle.std.specs.Prelude.{Ok}
use Rattle.tools.specs.declared.status.Status.TheVariants as status

-- ---- it says its document

-- where a payload lies that stands alone
abbrev alone : List ℕ → Range
alone s = record { begin = 0; end = length s }

part_alone : (s : List ℕ) → part s (alone s) ≡ s
part_alone s = take_all (length s - 0) s (omega arith)

told_alone : (v : Value) → said_value (payload v) (value_told v (alone (payload v))) ≡ v
unfolding payload
told_alone (unsigned n) = refl
told_alone (integer z) = refl
told_alone (text s) = ap text (part_alone s)
told_alone (binary s) = ap binary (part_alone s)
told_alone (float b) = refl
told_alone wrong = refl

float_wide : (v : Value) → is_float v ≡ true → length (payload v) ≡ 8
unfolding payload
float_wide (unsigned n) e = absurd (false≢true e)
float_wide (integer z) e = absurd (false≢true e)
float_wide (text s) e = absurd (false≢true e)
float_wide (binary s) e = absurd (false≢true e)
float_wide (float b) e = length-be_bytes 8 b
float_wide wrong e = absurd (false≢true e)

module _ (strict : Bool) (t : List Entry) where
  value_says : (x : ℕ) (v : Value) → is_of_kind (data_type_of t x) v ≡ true → Fits v → is_taken strict (datum x v) ≡ true → SaysValue strict (data_type_of t x) (payload v) v
  unfolding is_taken
  value_says x v kind fits taken = record {
    told = value_told v (alone (payload v));
    read = value_back strict (data_type_of t x) (alone (payload v)) v kind fits (both (good_form strict x) _ taken).right (omega arith);
    same = told_alone v;
  }

  mutual
    unfolding SaysElement Says element_bytes FitsElement

    element_says : (opened : List ℕ) (e : Element) (rest : List ℕ) → good_element t opened e ≡ true → FitsElement strict e → SaysElement strict t (element_bytes e ++ rest) e rest
    element_says opened (value x v) rest good fits =
        let P = payload v in
        let n = length P in
        let H = header_bytes x n in
        let g = asked_value t opened x v good in
        let split = append_assoc H P rest in
        let read : read_header t ((H ++ P) ++ rest) ≡ Ok (status.Complete (head_of t x n)) =
        ap (read_header t) split ∙ header_back t x n (P ++ rest) g.back (omega (arith, g.size)) (value_short (data_type_of t x) v g.kind) in
        let whole : length H + n ≤ length ((H ++ P) ++ rest) = omega (arith, length-append (H ++ P) rest, length-append H P) in
        let left : rest ≡ drop (length H + n) ((H ++ P) ++ rest) = sym (drop_at (H ++ P) rest (length H + n) (length-append H P)) in
        let its : P ≡ take n (drop (length H) ((H ++ P) ++ rest)) = sym (ap (λ (l : List ℕ). take n (drop (length H) l)) split ∙ ap (take n) (drop_at H (P ++ rest) (length H) refl) ∙ take_at P rest n refl) in
        record {
          size = n;
          headed = record { its = head_of t x n; read = read; id = refl; known = refl; whole = whole; after = left };
          says = subst (λ (l : List ℕ). SaysValue strict (data_type_of t x) l v) its (value_says x v g.kind fits.0 fits.1);
          wide = float_wide v;
        }
    element_says opened (master x r) rest good fits =
        let n = size_of_run r in
        let H = header_bytes x n in
        let g = asked_master t opened x r good in
        let kind = master_is (data_type_of t x) g.kind in
        let split = append_assoc H (run_bytes r) rest in
        let read : read_header t ((H ++ run_bytes r) ++ rest) ≡ Ok (status.Complete (head_of t x n)) =
        ap (read_header t) split ∙ header_back t x n (run_bytes r ++ rest) g.back (omega (arith, g.size)) (not_numeric (data_type_of t x) n (ap numeric kind)) in
        let size : length (H ++ run_bytes r) ≡ length H + n = length-append H (run_bytes r) ∙ ap (λ (k : ℕ). length H + k) (run_length r) in
        let whole : length H + n ≤ length ((H ++ run_bytes r) ++ rest) = omega (arith, length-append (H ++ run_bytes r) rest, size) in
        let left : rest ≡ drop (length H + n) ((H ++ run_bytes r) ++ rest) = sym (drop_at (H ++ run_bytes r) rest (length H + n) size) in
        let inside : run_bytes r ++ rest ≡ drop (length H) ((H ++ run_bytes r) ++ rest) = sym (ap (drop (length H)) split ∙ drop_at H (run_bytes r ++ rest) (length H) refl) in (
          n,
          record { its = head_of t x n; read = read; id = refl; known = refl; whole = whole; after = left },
          kind,
          subst (λ (l : List ℕ). Says strict t l r rest) inside (run_says (opened ++ (x ∷ [])) r rest g.children fits.1),
        )

    -- the bytes of a run that is well placed, in range and taken say it, whatever stands after them
    pub run_says : (opened : List ℕ) (r : Run) (rest : List ℕ) → good_run t opened r ≡ true → FitsRun strict r → Says strict t (run_bytes r ++ rest) r rest
    run_says opened none rest good fits = refl
    run_says opened (then e r) rest good fits =
        let g = asked_run t opened e r good in (
          run_bytes r ++ rest,
          subst (λ (l : List ℕ). SaysElement strict t l e (run_bytes r ++ rest)) (sym (append_assoc (element_bytes e) (run_bytes r) rest)) (element_says opened e (run_bytes r ++ rest) g.0 fits.0),
          run_says opened r rest g.1 fits.1,
        )

-- ---- what the writer writes

module _ (es ps items vals out : List ℕ) (n : ℕ) (e : (write es ps items vals out).0 ≡ Ok n) (strict : Bool) where
  -- it says its document, in either mode where its items are taken so
  pub written_says : Octets vals → every (is_taken strict) (marks_of vals items) ≡ true → Says strict (table_of es ps) (written es ps items vals out n) (run_of (marks_of vals items)) []
  written_says byte taken =
      let w = is_written es ps items vals out n e in
      let ms = marks_of vals items in
      let doc : Run = run_of ms in
      let marks : run_marks doc ≡ ms = matched_marks ms w.match in
      let says = run_says strict (table_of es ps) [] doc [] w.good (fits_run strict doc (rw marks (marks_fit vals byte items)) (rw marks taken)) in
      subst (λ (l : List ℕ). Says strict (table_of es ps) l doc []) (append-nil (run_bytes doc) ∙ sym (written_bytes es ps items vals out n e)) says

  -- and no other bytes that do so, or that are read as its items, are shorter
  pub written_shortest : IsShortest strict es ps (written es ps items vals out n) (marks_of vals items)
  written_shortest = record {
    of_all_that_say = least_of_lem;
    of_all_that_are_read = λ other byte r plain. least_of_lem other byte (read_says es ps other strict w.passed byte ms w.match r plain);
  }
    where
      w : IsWritten es ps items vals out n
      w = is_written es ps items vals out n e

      ms : List Mark
      ms = marks_of vals items

      least_of_lem : (other : List ℕ) → Octets other → Says strict (table_of es ps) other (run_of ms) [] → length (written es ps items vals out n) ≤ length other
      least_of_lem other byte says =
          omega (arith, run_least strict (table_of es ps) (run_of ms) other [] byte says, ap length (written_bytes es ps items vals out n e), run_length (run_of ms))
