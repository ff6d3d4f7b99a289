-- The answers of the writer, one law for each exit of the code; and what the calls before have shown. Assumes nothing.
use Prim.Native.Nat.{ℕ, ◌/◌, ◌%◌, ◌≤◌, ◌<◌}
use mathlib.Core.Path.{◌≡◌, refl, sym, ap, subst, ◌∙◌}
use mathlib.Core.Bool.{Bool, true, false, ◌&&◌}
use mathlib.Core.List.{List, [], ◌∷◌, ◌++◌, append-nil}
use native.Mathlib.Omega.{arith}
use borrow.Author.Tests.{le-leb, lt-leb, eq-eqb, ne_eqb}
use lib.Dec.{leb, eqb}
use lib.ListN.{length, drop}
use Rattle.table.specs.Check.{check_table}
use Rattle.basics.specs.Lists.{every}
use Rattle.table.specs.Table.{Entry, table_of, data_type_of}
use Rattle.basics.proofs.Bools.{both, and_both}
use Rattle.tag_writer.specs.Document.{payload, Run, size_of_run}
use Rattle.tag_writer.specs.Flat.{asked, opened_after, all_asked, marks_bytes}
use Rattle.tag_writer.specs.Items.{Mark, start, end, datum, marks_of, matched, run_of, run_marks}
use Rattle.tag_writer.specs.Sizing.{run_fits, is_small, Sizable, stops, RunAt, RunSized}
use Rattle.tag_writer.specs.Write.{reads_back, goes_in, is_of_kind, greatest_size, good_run, whole_items, is_passed, write}
use Rattle.tag_writer.specs.declared.types.Sized.{Sized}
use Rattle.tag_writer.specs.declared.types.WriteError.TheVariants.{TableFails, TooManyItems, Unmatched, WrongItem, OutputTooShort}
use Rattle.tag_writer.proofs.FlatLaws.{flat_good, flat_bytes}
use Rattle.tag_writer.proofs.Lengths.{run_length}
use Rattle.tag_writer.proofs.Marks.{matched_marks}
use Rattle.tag_writer.proofs.Shapes.{marks_count}
use Rattle.std.specs.Prelude.{Err, Ok}

-- what is asked of each item makes its value small
asked_small : (t : List Entry) (opened : List ℕ) (m : Mark) → asked t opened m ≡ true → is_small m ≡ true
unfolding asked
asked_small t opened (start x) e = refl
asked_small t opened (end x) e = refl
asked_small t opened (datum x v) e = (both (reads_back x && goes_in t opened x && is_of_kind (data_type_of t x) v) (leb (length (payload v)) greatest_size) e).right

pub all_small : (t : List Entry) (opened : List ℕ) (ms : List Mark) → all_asked t opened ms ≡ true → every is_small ms ≡ true
unfolding all_asked every
all_small t opened [] e = refl
all_small t opened (m ∷ ms) e =
    let b = both (asked t opened m) (all_asked t (opened_after opened m) ms) e in
    and_both (asked_small t opened m b.left) (all_small t (opened_after opened m) ms b.right)

and_no : (b : Bool) → (b && false) ≡ false
and_no true = refl
and_no false = refl

module _ (es ps items vals out : List ℕ) where
  abbrev ms : List Mark
  ms = marks_of vals items

  pub fails_40 : is_passed (check_table es ps) ≡ false → write es ps items vals out ≡ (Err TableFails, out)
  unfolding write
  fails_40 a = rw a

  module _ (a : is_passed (check_table es ps) ≡ true) where
    pub fails_41 : 512 < length items / 4 → write es ps items vals out ≡ (Err TooManyItems, out)
    unfolding write
    fails_41 h = rw (a, lt-leb (length ms) 512 (rw (marks_count vals items) h))

    module _ (few : length items / 4 ≤ 512) where
      small : leb (length ms) 512 ≡ true
      small = le-leb (length ms) 512 (rw (marks_count vals items) few)

      pub fails_42 : matched [] ms ≡ false → write es ps items vals out ≡ (Err Unmatched, out)
      unfolding write
      fails_42 m = rw (a, small, m)

      module _ (match : matched [] ms ≡ true) where
        pub fails_words : (length items % 4 ≡ 0 → ⊥) → write es ps items vals out ≡ (Err WrongItem, out)
        unfolding write
        fails_words n = rw (a, small, match, ne_eqb (length items % 4) 0 n)

        pub fails_43 : all_asked (table_of es ps) [] ms ≡ false → write es ps items vals out ≡ (Err WrongItem, out)
        unfolding write
        fails_43 e = rw (a, small, match, flat_good ms match (table_of es ps), e, and_no (whole_items items))

        whole : drop 0 ms ≡ run_marks (run_of ms) ++ []
        whole = sym (append-nil (run_marks (run_of ms)) ∙ matched_marks ms match)

        pub whole_run : RunAt ms 0
        whole_run = record { run = run_of ms; tail = []; stop = refl; is = whole }

        module _ (words : length items % 4 ≡ 0) (asks : all_asked (table_of es ps) [] ms ≡ true) where
          all_words : eqb (length items % 4) 0 ≡ true
          all_words = eq-eqb (length items % 4) 0 words

          pub sizable : Sizable ms
          sizable = record { few = rw (marks_count vals items) few; small = all_small (table_of es ps) [] ms asks }

          module _ (s : Sized) (sized : (run : Run) (tail : List Mark) → stops tail ≡ true → drop 0 ms ≡ run_marks run ++ tail → RunSized ms 0 s run) where
            it : RunSized ms 0 s (run_of ms)
            it = sized (run_of ms) [] refl whole

            -- the sizing comes to the end of the list
            pub all_sized_lem : s.next ≡ length items / 4
            all_sized_lem = omega (arith, it.next, ap length (matched_marks ms match), marks_count vals items)

            good : good_run (table_of es ps) [] (run_of ms) ≡ s.fits
            good = flat_good ms match (table_of es ps) ∙ ap (λ (b : Bool). b && run_fits (run_of ms)) asks ∙ sym it.fits

            pub fails_size : s.fits ≡ false → write es ps items vals out ≡ (Err WrongItem, out)
            unfolding write
            fails_size e = rw (a, small, match, all_words, good, e)

            module _ (fits : s.fits ≡ true) where
              pub fails_44 : length out < s.size → write es ps items vals out ≡ (Err OutputTooShort, out)
              unfolding write
              fails_44 h = rw (a, small, match, all_words, good, fits, lt-leb (size_of_run (run_of ms)) (length out) (subst (λ (n : ℕ). length out < n) it.size h)) refl

              pub bytes_count : length (marks_bytes ms) ≡ s.size
              bytes_count = ap length (flat_bytes ms match) ∙ run_length (run_of ms) ∙ sym it.size

              pub writes : s.size ≤ length out → write es ps items vals out ≡ (Ok s.size, marks_bytes ms ++ drop (length (marks_bytes ms)) out)
              unfolding write
              writes h =
                  rw (a, small, match, all_words, good, fits, le-leb (size_of_run (run_of ms)) (length out) (subst (λ (n : ℕ). n ≤ length out) it.size h))
                  (rw (bytes_count, flat_bytes ms match, it.size))
