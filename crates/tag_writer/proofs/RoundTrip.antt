-- Document 02, CR 2: "What is written decodes from a fresh decoder, settings as at first, to the same kinds, IDs and
-- values, then the finish." Assumes nothing.
use Prim.Native.Nat.{ℕ, zero, suc, ◌+◌, ◌-◌, ◌^◌, ◌≤◌}
use mathlib.Core.Path.{◌≡◌, refl, sym, ap, subst, ◌∙◌}
use mathlib.Core.Bool.{Bool, true, false, cond, ◌&&◌, false≢true}
use mathlib.Core.List.{List, [], ◌∷◌, ◌++◌, map, append_assoc, append-nil, map-append}
use native.Mathlib.Omega.{arith}
use borrow.Author.Tests.{leb-true}
use lib.Dec.{leb}
use lib.ListN.{length, take, drop, length-append}
use lib.Seq.{take_at, drop_at}
use Rattle.basics.specs.Lists.{every, first_index}
use Rattle.basics.proofs.Bools.{both}
use Rattle.tools.specs.Bytes.{Octets}
use Rattle.table.specs.Check.{check_table}
use Rattle.table.specs.Shape.{good_shape}
use Rattle.table.specs.Table.{table_of}
use Rattle.spec_util.specs.declared.types.OpenTag.{OpenTag}
use Rattle.decoder_rules.specs.Deciding.{least_header}
use Rattle.decoder_rules.specs.EndOfInput.{finish, close_all, end_of_input, ended_or, decode_eof}
use Rattle.decoder_rules.specs.Moving.{gives, decode}
use Rattle.decoder_rules.specs.Record.{with_settings, counted_last, fresh}
use Rattle.decoder_rules.specs.Settings.{reading}
use Rattle.decoder_rules.specs.declared.types.Answer.TheVariants as answer
use Rattle.decoder_rules.specs.declared.types.Decoded.{Decoded}
use Rattle.decoder_rules.specs.declared.types.Event.{Event}
use Rattle.decoder_rules.specs.declared.types.Event.TheVariants as event
use Rattle.decoder_rules.specs.declared.types.TagDecoder.{TagDecoder}
use Rattle.tag_writer.specs.Counts.{children_in, element_counts, run_counts}
use Rattle.tag_writer.specs.Document.{Value, unsigned, integer, text, binary, float, wrong, Element, value, master, Run, none, then, payload, header_bytes, size_of_element, size_of_run, element_bytes, run_bytes}
use Rattle.tag_writer.specs.Items.{Mark, start, end, datum, marks_of, matched, run_of, element_marks, run_marks}
use Rattle.tag_writer.specs.ReadBack.{part, said_value, said, said_counts, is_taken, IsReadAs}
use Rattle.tag_writer.specs.Write.{good_run, whole_items, most_items, is_passed, write}
use Rattle.tag_writer.specs.declared.types.WriteError.TheVariants.{TableFails, TooManyItems, Unmatched, WrongItem, OutputTooShort}
use Rattle.tag_writer.proofs.Children.{times_more}
use Rattle.tag_writer.proofs.Ends.{Stands, stands_clear}
use Rattle.tag_writer.proofs.InRange.{FitsMarks, all_taken, fits_run, marks_fit}
use Rattle.tag_writer.proofs.Lengths.{element_length, run_length}
use Rattle.tag_writer.proofs.Marks.{matched_marks, size_run}
use Rattle.tag_writer.proofs.NeedsMore.{needs_more_lem}
use Rattle.tag_writer.proofs.Reading.{range_at, element_events, run_events, Ran, runs_run, shape}
use Rattle.tag_writer.proofs.Standing.{standing, fresh_stands, All}
use Rattle.tag_writer.proofs.Telling.{Tells, tells_calls}
use Rattle.tag_writer.proofs.ValueBack.{value_told}
use Rattle.std.specs.Prelude.{Err, Ok, Result, ⊤}
use Rattle.table.specs.declared.types.TableError.{TableError}
use Rattle.tag_writer.specs.declared.types.WriteError.{WriteError}
use Rattle.table.specs.declared.types.TableError.TheVariants as fault

-- ---- the events say the marks

-- the payload is the part of the document that its range names
part_is : (w pre H data-bytes post : List ℕ) → w ≡ pre ++ ((H ++ data-bytes) ++ post) → part w (range_at (length pre) (length H) (length data-bytes)) ≡ data-bytes
part_is w pre H bs post e =
    let n : length pre + (length H + length bs) - (length pre + length H) ≡ length bs = omega arith in
    let split : w ≡ (pre ++ H) ++ (bs ++ post) = e ∙ ap (λ (l : List ℕ). pre ++ l) (append_assoc H bs post) ∙ sym (append_assoc pre H (bs ++ post)) in
    let at : drop (length pre + length H) w ≡ bs ++ post = ap (drop (length pre + length H)) split ∙ drop_at (pre ++ H) (bs ++ post) (length pre + length H) (length-append pre H) in
    rw (n, at) (take_at bs post (length bs) refl)

said_value_lem : (w pre H : List ℕ) (v : Value) (post : List ℕ) → w ≡ pre ++ ((H ++ payload v) ++ post)
    → said_value w (value_told v (range_at (length pre) (length H) (length (payload v)))) ≡ v
unfolding payload
said_value_lem w pre H (unsigned n) post e = refl
said_value_lem w pre H (integer z) post e = refl
said_value_lem w pre H (text s) post e = ap text (part_is w pre H s post e)
said_value_lem w pre H (binary s) post e = ap binary (part_is w pre H s post e)
said_value_lem w pre H (float b) post e = refl
said_value_lem w pre H wrong post e = refl

mutual
  unfolding element_events element_marks element_bytes

  said_element : (w : List ℕ) (e : Element) (pre post : List ℕ) → w ≡ pre ++ (element_bytes e ++ post) → map (said w) (element_events (length pre) e) ≡ element_marks e
  said_element w (value x v) pre post e = ap (λ (u : Value). datum x u ∷ []) (said_value_lem w pre (header_bytes x (length (payload v))) v post e)
  said_element w (master x r) pre post e =
      let H = header_bytes x (size_of_run r) in
      let split : w ≡ (pre ++ H) ++ (run_bytes r ++ post) = e ∙ ap (λ (l : List ℕ). pre ++ l) (append_assoc H (run_bytes r) post) ∙ sym (append_assoc pre H (run_bytes r ++ post)) in
      let inner : map (said w) (run_events (length pre + length H) r) ≡ run_marks r =
      subst (λ (n : ℕ). map (said w) (run_events n r) ≡ run_marks r) (length-append pre H) (said_run w r (pre ++ H) post split) in
      ap (λ (l : List Mark). start x ∷ l)
      (map-append (said w) (run_events (length pre + length H) r) (event.End (record { id = x; offset = length pre; count = children_in r }) ∷ []) ∙ ap (λ (l : List Mark). l ++ (end x ∷ [])) inner)

  -- the events of a run say its marks
  pub said_run : (w : List ℕ) (r : Run) (pre post : List ℕ) → w ≡ pre ++ (run_bytes r ++ post) → map (said w) (run_events (length pre) r) ≡ run_marks r
  said_run w none pre post e = refl
  said_run w (then d r) pre post e =
      let E = element_bytes d in
      let first : w ≡ pre ++ (E ++ (run_bytes r ++ post)) = e ∙ ap (λ (l : List ℕ). pre ++ l) (append_assoc E (run_bytes r) post) in
      let second : w ≡ (pre ++ E) ++ (run_bytes r ++ post) = first ∙ sym (append_assoc pre E (run_bytes r ++ post)) in
      let n : length (pre ++ E) ≡ length pre + size_of_element d = length-append pre E ∙ ap (λ (k : ℕ). length pre + k) (element_length d) in
      let others : map (said w) (run_events (length pre + size_of_element d) r) ≡ run_marks r =
      subst (λ (k : ℕ). map (said w) (run_events k r) ≡ run_marks r) n (said_run w r (pre ++ E) post second) in
      map-append (said w) (element_events (length pre) d) (run_events (length pre + size_of_element d) r)
      ∙ rw (said_element w d pre (run_bytes r ++ post) first, others)

-- ---- the Ends say the counts

counts-append : (l k : List Event) → said_counts (l ++ k) ≡ said_counts l ++ said_counts k
unfolding said_counts
counts-append [] k = refl
counts-append (event.Start x o ∷ l) k = counts-append l k
counts-append (event.End e ∷ l) k = ap (λ (c : List ℕ). e.count ∷ c) (counts-append l k)
counts-append (event.Data x o v ∷ l) k = counts-append l k

mutual
  unfolding element_events said_counts element_counts

  counts_element : (p : ℕ) (e : Element) → said_counts (element_events p e) ≡ element_counts e
  counts_element p (value x v) = refl
  counts_element p (master x r) =
      let q = p + length (header_bytes x (size_of_run r)) in
      counts-append (run_events q r) (event.End (record { id = x; offset = p; count = children_in r }) ∷ [])
      ∙ ap (λ (c : List ℕ). c ++ (children_in r ∷ [])) (counts_run q r)

  -- the events of a run say the number of children of each master in it
  pub counts_run : (p : ℕ) (r : Run) → said_counts (run_events p r) ≡ run_counts r
  counts_run p none = refl
  counts_run p (then e r) =
      counts-append (element_events p e) (run_events (p + size_of_element e) r)
      ∙ rw (counts_element p e, counts_run (p + size_of_element e) r)

-- ---- the finish

module _ (es ps : List ℕ) (good : good_shape es ps ≡ true) (strict b : Bool) (n : ℕ) (near : n ≤ 2 ^ 62) where
  abbrev last : TagDecoder
  last = standing strict b n [] []

  -- the end of input, where no byte is left: the finish
  pub finishes : (decode_eof es ps last []).answer ≡ Ok answer.Finished
  unfolding decode_eof end_of_input close_all finish every first_index
  finishes = ap (λ (r : Decoded). (ended_or (table_of es ps) [] r r.answer).answer) (needs_more_lem es ps good strict b n near)

-- ---- a document that is good

-- the calls on a document from a fresh decoder answer its events, no master is open after them, and the call after
-- them needs more, the end of input the finish
pub record ToldAll (strict : Bool) (es ps : List ℕ) (doc : Run) : Type 0 where
  pub after : TagDecoder
  pub tells : Tells es ps (run_events 0 doc) 0 (reading fresh strict) (run_bytes doc) 0 after []
  pub more : decode es ps after [] ≡ gives (Ok (answer.NeedMore least_header)) 0 after
  pub finish : (decode_eof es ps after []).answer ≡ Ok answer.Finished

none_times : (n : ℕ) → times_more n [] ≡ []
unfolding times_more counted_last
none_times zero = refl
none_times (suc n) = none_times n

module _ (strict : Bool) (es ps : List ℕ) (passed : check_table es ps ≡ (Ok tt)) (ms : List Mark) (few : length ms ≤ most_items) (match : matched [] ms ≡ true)
    (good : good_run (table_of es ps) [] (run_of ms) ≡ true) (fits : FitsMarks ms) (taken : every (is_taken strict) ms ≡ true) where
  abbrev doc : Run
  doc = run_of ms

  marks_are : run_marks doc ≡ ms
  marks_are = matched_marks ms match

  small : size_of_run doc ≤ 2 ^ 61
  small = let n = ap length marks_are in omega (arith, size_run (table_of es ps) [] doc good)

  at_first : Stands strict 0 [] (reading fresh strict)
  at_first = record { settled = false; k = 0; within = omega arith; outer = λ l. absurd (omega arith); root = λ e. refl; is = fresh_stands strict }

  ran : Ran strict es ps 0 (0 + size_of_run doc) (times_more (children_in doc) []) (run_events 0 doc) (reading fresh strict) (run_bytes doc ++ []) []
  unfolding All
  ran =
      runs_run es ps passed strict doc 0 [] [] (reading fresh strict) at_first good (fits_run strict doc (rw marks_are fits) (rw marks_are taken))
      (record { few = omega arith; reach = tt; near = omega (arith, length-append (run_bytes doc) [], run_length doc, small) })

  -- its calls are told
  pub document_told : ToldAll strict es ps (run_of ms)
  unfolding every
  document_told =
      let r = ran in
      let n = 0 + size_of_run doc in
      let near : n ≤ 2 ^ 62 = omega (arith, small) in
      let top = subst (λ (l : List OpenTag). Stands strict n l r.after) (none_times (children_in doc)) r.stands in
      let clear : r.after ≡ standing strict top.settled n [] [] = stands_clear top refl in
      let good_shape_lem = shape es ps passed strict in
      record {
        after = r.after;
        tells = subst (λ (s : List ℕ). Tells es ps (run_events 0 doc) 0 (reading fresh strict) s 0 r.after []) (append-nil (run_bytes doc)) r.tells;
        more = rw clear (needs_more_lem es ps good_shape_lem strict top.settled n near);
        finish = rw clear (finishes es ps good_shape_lem strict top.settled n near);
      }

  -- it is read back
  pub document_read : IsReadAs strict es ps (run_bytes doc) ms
  document_read =
      let r = document_told in
      let a = tells_calls r.tells r.more in
      record {
        events = run_events 0 doc;
        told = a.told;
        same = said_run (run_bytes doc) doc [] [] (sym (append-nil (run_bytes doc))) ∙ marks_are;
        counts = counts_run 0 doc;
        all_read = a.rest_is;
        finish = ap (λ (d : TagDecoder). (decode_eof es ps d []).answer) a.left ∙ r.finish;
      }

-- ---- what the writer writes

-- what holds where n bytes are written
pub record IsWritten (es ps items vals out : List ℕ) (n : ℕ) : Type 0 where
  pub passed : check_table es ps ≡ Ok tt
  pub few : length (marks_of vals items) ≤ most_items
  pub match : matched [] (marks_of vals items) ≡ true
  pub good : good_run (table_of es ps) [] (run_of (marks_of vals items)) ≡ true
  pub size : n ≡ size_of_run (run_of (marks_of vals items))
  pub bytes : (write es ps items vals out).1 ≡ run_bytes (run_of (marks_of vals items)) ++ drop n out

is_passed_lem : (c : Result ⊤ TableError) → is_passed c ≡ true → c ≡ Ok tt
is_passed_lem (Err fault.BadShape) e = absurd (false≢true e)
is_passed_lem (Ok _) e = refl
is_passed_lem (Err (fault.Fault r i)) e = absurd (false≢true e)

module _ (es ps items vals out : List ℕ) where
  -- it holds where the writer says so
  pub is_written : (n : ℕ) → (write es ps items vals out).0 ≡ Ok n → IsWritten es ps items vals out n
  unfolding write
  is_written n e =
      go (is_passed (check_table es ps)) refl (leb (length (marks_of vals items)) most_items) refl (matched [] (marks_of vals items)) refl
      (whole_items items && good_run (table_of es ps) [] (run_of (marks_of vals items))) refl (leb (size_of_run (run_of (marks_of vals items))) (length out)) refl e
    where
      never : ◌≡◌ {A = ℕ} 0 1 → IsWritten es ps items vals out n
      never z = absurd (omega arith)

      go : (a : Bool) → is_passed (check_table es ps) ≡ a → (b : Bool) → leb (length (marks_of vals items)) most_items ≡ b → (c : Bool) → matched [] (marks_of vals items) ≡ c
          → (d : Bool) → (whole_items items && good_run (table_of es ps) [] (run_of (marks_of vals items))) ≡ d → (f : Bool) → leb (size_of_run (run_of (marks_of vals items))) (length out) ≡ f
          → (cond {A = Result ℕ WriteError × List ℕ} a (cond b (cond c (cond d (cond f (Ok (size_of_run (run_of (marks_of vals items))), run_bytes (run_of (marks_of vals items)) ++ drop (size_of_run (run_of (marks_of vals items))) out)
          (Err OutputTooShort, out)) (Err WrongItem, out)) (Err Unmatched, out)) (Err TooManyItems, out)) (Err TableFails, out)).0 ≡ Ok n
          → IsWritten es ps items vals out n
      go true ea true eb true ec true ed true ef e =
          let k : size_of_run (run_of (marks_of vals items)) ≡ n = cc in
          record {
            passed = is_passed_lem (check_table es ps) ea;
            few = leb-true _ _ eb;
            match = ec;
            good = (both (whole_items items) (good_run (table_of es ps) [] (run_of (marks_of vals items))) ed).right;
            size = sym k;
            bytes = rw (ea, eb, ec, ed, ef, k);
          }
      go true ea true eb true ec true ed false ef e = let z : ◌≡◌ {A = ℕ} 0 1 = cc in never z
      go true ea true eb true ec false ed f ef e = let z : ◌≡◌ {A = ℕ} 0 1 = cc in never z
      go true ea true eb false ec d ed f ef e = let z : ◌≡◌ {A = ℕ} 0 1 = cc in never z
      go true ea false eb c ec d ed f ef e = let z : ◌≡◌ {A = ℕ} 0 1 = cc in never z
      go false ea b eb c ec d ed f ef e = let z : ◌≡◌ {A = ℕ} 0 1 = cc in never z

  -- the calls on what is written, in either mode where its items are taken so
  pub written_told : (strict : Bool) → Octets vals → (n : ℕ) → (write es ps items vals out).0 ≡ Ok n → every (is_taken strict) (marks_of vals items) ≡ true → ToldAll strict es ps (run_of (marks_of vals items))
  written_told strict byte n e taken =
      let w = is_written n e in
      document_told strict es ps w.passed (marks_of vals items) w.few w.match w.good (marks_fit vals byte items) taken

  -- what is written is read back, in either mode where its items are taken so
  pub read_back_in : (strict : Bool) → Octets vals → (n : ℕ) → (write es ps items vals out).0 ≡ Ok n → every (is_taken strict) (marks_of vals items) ≡ true
      → IsReadAs strict es ps (take n (write es ps items vals out).1) (marks_of vals items)
  read_back_in strict byte n e taken =
      let w = is_written n e in
      let ms = marks_of vals items in
      let doc : Run = run_of ms in
      let front : take n (write es ps items vals out).1 ≡ run_bytes doc =
      ap (take n) w.bytes ∙ take_at (run_bytes doc) (drop n out) n (run_length doc ∙ sym w.size) in
      rw front (document_read strict es ps w.passed ms w.few w.match w.good (marks_fit vals byte items) taken)

  -- as ported, which a fresh decoder is, whatever the items
  pub read_back : Octets vals → (n : ℕ) → (write es ps items vals out).0 ≡ Ok n → IsReadAs false es ps (take n (write es ps items vals out).1) (marks_of vals items)
  read_back byte n e = read_back_in false byte n e (all_taken (marks_of vals items))

-- the ported mode is that of a fresh decoder, settings as at first
pub fresh_ported : reading fresh false ≡ fresh
unfolding with_settings
fresh_ported = refl
