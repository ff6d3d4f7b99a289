-- What is written is read where it was put: it begins with the header of a root, so no parent is implied, and its sizes
-- are known. Of one root no front but all of it comes to the finish. Assumes nothing.
use Prim.Native.Nat.{ℕ, ◌+◌, ◌<◌}
use mathlib.Core.Path.{◌≡◌, refl, sym, ap, subst, ◌∙◌}
use mathlib.Core.Bool.{true, false, false≢true}
use mathlib.Core.List.{List, [], ◌∷◌, ◌++◌, map, append_assoc, append-nil}
use native.Mathlib.Omega.{arith}
use lib.ListN.{length, length-append}
use Rattle.basics.specs.Lists.{every}
use Rattle.table.specs.Check.{check_table, only_ids}
use Rattle.table.specs.Table.{Entry, table_of, data_type_of, path_of, is_typed}
use Rattle.table.specs.declared.types.PathPart.TheVariants.{Id}
use Rattle.table.specs.declared.types.TagDataType.{TagDataType}
use Rattle.table.specs.declared.types.TagDataType.TheVariants.{Master}
use Rattle.table.proofs.Consequences.{master_of_ids_lem}
use Rattle.table.proofs.Passed.{passed_gives}
use Rattle.table.proofs.Rules.{master_is}
use Rattle.spec_util.proofs.WalkByRfc.{accepted_in_its_path}
use Rattle.tag_parse.specs.Header.{too_long, numeric}
use Rattle.decoder_rules.specs.declared.types.Answer.TheVariants as answer
use Rattle.decoder_rules.specs.declared.types.Event.TheVariants as event
use Rattle.decoder_rules.specs.declared.types.WaitingEnd.{WaitingEnd}
use Rattle.guarantees.specs.Calls.{Call, Lent}
use Rattle.guarantees.specs.CutRecords.{InOrder}
use Rattle.guarantees.specs.History.{child_test_never_off}
use Rattle.guarantees.specs.Promises.{Answers}
use Rattle.guarantees.proofs.CutRecords.{cut_records}
use Rattle.known_places.specs.CountedInFile.{EndCounts}
use Rattle.known_places.specs.FromRoot.{BeginsAtRoot}
use Rattle.known_places.specs.KnownPlaces.{hierarchy_test_on, KnownHere}
use Rattle.known_places.proofs.CountedInFile.{counted_in_file}
use Rattle.known_places.proofs.FromRoot.{from_root}
use Rattle.known_places.proofs.KnownPlaces.{parts_of_ids, known_places}
use Rattle.tag_writer.specs.Document.{value, master, Run, none, then, header_bytes, size_of_run, element_bytes, run_bytes}
use Rattle.tag_writer.specs.Items.{marks_of, run_of}
use Rattle.tag_writer.specs.Write.{goes_in, good_run, write}
use Rattle.tag_writer.proofs.Asked.{asked_master, asked_run}
use Rattle.tag_writer.proofs.HeaderBack.{head_of, header_back}
use Rattle.tag_writer.proofs.Placing.{placed}
use Rattle.tag_writer.proofs.RoundTrip.{is_written}
use Rattle.tag_writer.proofs.ValueBack.{not_numeric}
use Rattle.written.specs.Cut.{written, is_one_root}
use Rattle.written.specs.Places.{PlacesKnown, FiledAsWritten}
use Rattle.written.specs.Whole.{begins_with_root}
use Rattle.written.proofs.Cut.{written_bytes, written_cut}
use Rattle.written.proofs.Sizes.{written_starts}
use Rattle.written.proofs.Whole.{one_begins}
use Rattle.std.specs.Prelude.{Ok}

-- ---- a document that begins with a master begins at a root

module _ (es ps : List ℕ) (checked : check_table es ps ≡ (Ok tt)) where
  abbrev t : List Entry
  t = table_of es ps

  -- a master that goes where none is open has an empty path
  root_path : (x : ℕ) → data_type_of t x ≡ Master → goes_in t [] x ≡ true → path_of t x ≡ []
  unfolding every
  root_path x kind goes =
      let ids : only_ids (path_of t x) ≡ true = master_of_ids_lem t (passed_gives es ps checked) x kind in
      let none = (accepted_in_its_path t x [] ids refl).0 (placed false t x [] refl goes) in
      sym (parts_of_ids (path_of t x) ids) ∙ ap (map (λ (y : ℕ). Id y)) (sym none)

  begins_at_root : (doc : Run) → begins_with_root doc ≡ true → good_run t [] doc ≡ true → BeginsAtRoot t (run_bytes doc)
  unfolding run_bytes element_bytes is_typed
  begins_at_root none b good = absurd (false≢true b)
  begins_at_root (then (value x v) r) b good = absurd (false≢true b)
  begins_at_root (then (master x children) r) b good =
      let n = size_of_run children in
      let g = asked_master t [] x children (asked_run t [] (master x children) r good).0 in
      let kind = master_is (data_type_of t x) g.kind in
      let short : too_long (data_type_of t x) n ≡ false = not_numeric (data_type_of t x) n (ap numeric kind) in
      record {
        its = head_of t x n;
        read = rw (append_assoc (header_bytes x n) (run_bytes children) (run_bytes r)) (header_back t x n (run_bytes children ++ run_bytes r) g.back (omega (arith, g.size)) short);
        typed = ap (λ (k : TagDataType). is_typed k) kind;
        root = root_path x kind g.goes;
      }

-- ---- of what the writer writes

module _ (es ps items vals out : List ℕ) (n : ℕ) (e : (write es ps items vals out).0 ≡ Ok n) (root : begins_with_root (run_of (marks_of vals items)) ≡ true) where
  begins : BeginsAtRoot (table_of es ps) (written es ps items vals out n)
  begins =
      let w = is_written es ps items vals out n e in
      rw (written_bytes es ps items vals out n e) (begins_at_root es ps w.passed (run_of (marks_of vals items)) root w.good)

  -- and so does what any front of it begins
  begins_so : (s rest : List ℕ) → s ++ rest ≡ written es ps items vals out n → BeginsAtRoot (table_of es ps) (s ++ rest)
  begins_so s rest is = subst (BeginsAtRoot (table_of es ps)) (sym is) begins

  here : (s rest : List ℕ) → s ++ rest ≡ written es ps items vals out n → (cs : List Call) (c : Call) → Lent (c ∷ cs) → InOrder es ps s (c ∷ cs) → hierarchy_test_on cs ≡ true → KnownHere es ps cs c
  unfolding Lent InOrder
  here s rest is cs c l i on =
      (from_root es ps (is_written es ps items vals out n e).passed).known_here s rest (begins_so s rest is) cs c l i on ((written_starts es ps items vals out n e).known s rest is cs l.1 i.1)

  counted : (s rest : List ℕ) → s ++ rest ≡ written es ps items vals out n → (cs : List Call) (c : Call) → Lent (c ∷ cs) → InOrder es ps s (c ∷ cs) → child_test_never_off cs ≡ true
      → (end : WaitingEnd) → Answers es ps cs c (Ok (answer.Event (event.End end))) → EndCounts es ps s cs end
  unfolding Lent InOrder
  counted s rest is cs c l i on =
      let passed = (is_written es ps items vals out n e).passed in
      (counted_in_file es ps passed).end_counts_lem s cs c l i on ((from_root es ps passed).none_implied s rest (begins_so s rest is) (c ∷ cs) l i)
      ((written_starts es ps items vals out n e).known s rest is cs l.1 i.1)

  -- what is written is read where it was put
  pub written_places : PlacesKnown es ps (written es ps items vals out n)
  written_places = record {
    known_here = here;
    place = λ s rest is cs c l i on x of. (known_places es ps (is_written es ps items vals out n e).passed).place_here cs c (here s rest is cs c l i on) x of;
    end_counts_lem = counted;
  }

-- ---- of a night of one root

module _ (es ps items vals out : List ℕ) (n : ℕ) (e : (write es ps items vals out).0 ≡ Ok n) (one : is_one_root (run_of (marks_of vals items)) ≡ true) where
  abbrev w : List ℕ
  w = written es ps items vals out n

  -- a front that comes to the finish is all of it
  all_of_it : (s rest : List ℕ) → s ++ rest ≡ w → 0 < length s → (cs : List Call) (c : Call) → Lent (c ∷ cs) → InOrder es ps s (c ∷ cs) → Answers es ps cs c (Ok answer.Finished) → s ≡ w
  all_of_it s [] is some cs c l i a = sym (append-nil s) ∙ is
  all_of_it s (y ∷ rest) is some cs c l i a =
      let total : length s + length (y ∷ rest) ≡ length w = sym (length-append s (y ∷ rest)) ∙ ap length is in
      absurd ((written_cut es ps items vals out n e one).unanswered s (y ∷ rest) is some (omega (arith, total)) cs c l i a)

  -- what the pump writes is what the importer files
  pub filed_as_written : FiledAsWritten es ps w
  filed_as_written = record {
    all_there = λ s rest is some cs c l i a.
        let all = all_of_it s rest is some cs c l i a in
        (all, (cut_records es ps (is_written es ps items vals out n e).passed).finish_reads_all s cs c l i a ∙ ap length all);
    places = written_places es ps items vals out n e (one_begins (run_of (marks_of vals items)) one).0;
  }
