-- A written document that begins with a master is whole as `ebml-check` says it, and one of one root is one record: the
-- end of input answers its events one by one, as `decode` does, and then the finish. Assumes nothing.
use Prim.Native.Nat.{ℕ, zero, suc, ◌+◌, ◌-◌, ◌*◌, ◌^◌, ◌≤◌, ◌<◌}
use mathlib.Core.Path.{◌≡◌, refl, sym, ap, subst, ◌∙◌}
use mathlib.Core.Bool.{Bool, true, false, false≢true}
use mathlib.Core.List.{List, [], ◌∷◌}
use native.Mathlib.Omega.{arith}
use borrow.Author.Tests.{le-ltb, ne_eqb}
use lib.Dec.{ltb}
use lib.ListN.{length, drop, replicate}
use Rattle.basics.specs.Lists.{every}
use Rattle.basics.proofs.Bools.{and_both}
use Rattle.tools.specs.Bytes.{Octets}
use Rattle.table.specs.BenchTable.{bench_entries, bench_parts}
use Rattle.spec_util.specs.Walk.{most_open}
use Rattle.decoder_rules.specs.EndOfInput.{decode_eof}
use Rattle.decoder_rules.specs.Moving.{needs_more, gives, decode}
use Rattle.decoder_rules.specs.Record.{fresh, with_settings}
use Rattle.decoder_rules.specs.Settings.{reading}
use Rattle.decoder_rules.specs.declared.types.Answer.TheVariants as answer
use Rattle.decoder_rules.specs.declared.types.Decoded.{Decoded}
use Rattle.decoder_rules.specs.declared.types.Event.{Event}
use Rattle.decoder_rules.specs.declared.types.Event.TheVariants as event
use Rattle.decoder_rules.specs.declared.types.TagDecoder.{TagDecoder}
use Rattle.decoder_rules.proofs.MoveLaws.{decode_finished}
use Rattle.tag_decoder_laws.proofs.EofAsDecoded.{eof_as_decoded}
use Rattle.event_list.specs.Reading as listing
use Rattle.event_list.specs.Run.{joined, NoneEmpty, Runs}
use Rattle.event_list.specs.Whole.{Answered, answered_by}
use Rattle.event_list.proofs.PrintsTheList.{runs_through}
use Rattle.whole.specs.Checking.{top_is_sized, verdict_of}
use Rattle.whole.specs.Night.{is_event, read_from, answers_to, has_front, has_size, all_sized, finishes, is_record, records, is_feed, feeds, none_asks, IsWhole, IsOneWhole}
use Rattle.whole.specs.declared.types.Verdict.TheVariants.{Whole}
use Rattle.whole.proofs.Readings.{read_on, read_last, front_starts, front_not_empty, shorter_asks_no_more}
use Rattle.whole.proofs.WholeNights.{whole_is_told}
use Rattle.tag_writer.specs.Counts.{children_in}
use Rattle.tag_writer.specs.Document.{value, master, Run, none, then, run_bytes}
use Rattle.tag_writer.specs.Items.{marks_of, run_of}
use Rattle.tag_writer.specs.ReadBack.{is_taken}
use Rattle.tag_writer.specs.Write.{write}
use Rattle.tag_writer.proofs.InRange.{all_taken}
use Rattle.tag_writer.proofs.Lengths.{run_length}
use Rattle.tag_writer.proofs.Reading.{element_events, run_events}
use Rattle.tag_writer.proofs.RoundTrip.{is_written, ToldAll, written_told}
use Rattle.tag_writer.proofs.Telling.{TopKnown, Shows, started, ended, held, Tells, nothing, next}
use Rattle.written.specs.Cut.{written, is_one_root}
use Rattle.written.specs.Whole.{begins_with_root, masters_in_roots}
use Rattle.written.proofs.Cut.{written_bytes}
use Rattle.written.proofs.Depths.{is_root, is_in_root, one, count_in, roots_shown, masters_shown_lem, events_few}
use Rattle.written.proofs.Octets.{written_octets}
use Rattle.written.proofs.Pieces.{written_near}
use Rattle.std.specs.Prelude.{Ok}

-- ---- one answer

-- the innermost master has a size, as the check sees it
top_sized : {k : ℕ} {d : TagDecoder} → TopKnown k d → top_is_sized d ≡ true
top_sized {k} {d} top =
    let n : suc k - 1 ≡ k = omega arith in
    let few : ltb most_open (suc k) ≡ false = le-ltb most_open (suc k) (omega (arith, top.few)) in
    rw (top.count, ne_eqb (suc k) 0 (λ e. omega arith), few, n) top.known

-- an event is seen by the check as it stands in the document, with i masters open before it and j after it
record SeenAs (i : ℕ) (e : Event) (j : ℕ) (d : TagDecoder) : Type 0 where
  size : has_size (Ok (answer.Event e)) d ≡ true
  root : (l : List Event) → one (is_record (Ok (answer.Event e)) d) + count_in is_root j l ≡ count_in is_root i (e ∷ l)
  in_root : (l : List Event) → one (is_feed (Ok (answer.Event e)) d) + count_in is_in_root j l ≡ count_in is_in_root i (e ∷ l)

seen_as : {i j : ℕ} {e : Event} {d : TagDecoder} → Shows i e j d → SeenAs i e j d
unfolding count_in
seen_as (started top) = record { size = top_sized top; root = λ l. rw top.count; in_root = λ l. rw top.count }
seen_as ended = record { size = refl; root = λ l. omega arith; in_root = λ l. omega arith }
seen_as (held count) = record { size = refl; root = λ l. rw count; in_root = λ l. refl }

-- ---- all answers

-- what the answers show of the events, with k masters open before them
record Shown (k : ℕ) (evs : List Event) (l : List Answered) : Type 0 where
  finish : finishes l ≡ true
  sizes : all_sized l ≡ true
  roots : records l ≡ count_in is_root k evs
  in_roots : feeds l ≡ count_in is_in_root k evs

finish_before : (a : Answered) (l : List Answered) → finishes l ≡ true → finishes (a ∷ l) ≡ true
unfolding finishes
finish_before a [] f = absurd (false≢true f)
finish_before a (b ∷ l) f = f

-- one answer before others
shown_more : {i j : ℕ} {e : Event} {evs : List Event} {d : TagDecoder} {l : List Answered} → Shows i e j d → Shown j evs l → Shown i (e ∷ evs) (record { answer = Ok (answer.Event e); after = d } ∷ l)
unfolding all_sized records feeds
shown_more {evs} {l} h s =
    let w = seen_as h in
    record {
      finish = finish_before _ l s.finish;
      sizes = and_both w.size s.sizes;
      roots = rw s.roots (w.root evs);
      in_roots = rw s.in_roots (w.in_root evs);
    }

-- the finish alone
shown_last : (k : ℕ) (a : Answered) → a.answer ≡ Ok answer.Finished → Shown k [] (a ∷ [])
unfolding finishes all_sized records feeds count_in
shown_last k a f = rw f (record { finish = refl; sizes = refl; roots = refl; in_roots = refl })

module _ (es ps : List ℕ) where
  -- a call that answers an event is the next answer at the end of input too
  reads_next : (m : ℕ) (d : TagDecoder) (s : List ℕ) {d1 : TagDecoder} {e : Event} {n : ℕ} → d.finished ≡ false → decode es ps d s ≡ gives (Ok (answer.Event e)) n d1
      → read_from es ps (suc m) d s ≡ record { answer = Ok (answer.Event e); after = d1 } ∷ read_from es ps m d1 (drop n s)
  reads_next m d s {d1} {e} {n} f c =
      let quiet : needs_more (decode es ps d s).answer ≡ false = ap (λ (r : Decoded). needs_more r.answer) c in
      let same : decode_eof es ps d s ≡ gives (Ok (answer.Event e)) n d1 = eof_as_decoded es ps d s f quiet ∙ c in
      read_on es ps m d s (ap (λ (r : Decoded). is_event r.answer) same)
      ∙ ap (λ (r : Decoded). answered_by r ∷ read_from es ps m r.state (drop r.taken s)) same

  -- the answers to bytes whose calls tell events, up to the finish, show them
  shown : {evs : List Event} {i k : ℕ} {d d' : TagDecoder} {s : List ℕ} → Tells es ps evs i d s k d' [] → d.finished ≡ false → (decode_eof es ps d' []).answer ≡ Ok answer.Finished
      → (n : ℕ) → length evs < n → Shown i evs (read_from es ps n d s)
  shown t f z zero h = absurd (omega arith)
  shown (nothing {k} {d}) f z (suc n) h = rw (read_last es ps n d [] (ap is_event z)) (shown_last k (answered_by (decode_eof es ps d [])) z)
  shown (next {d} {s} c w t) f z (suc n) h =
      let g = ap (λ (r : Decoded). r.state.finished) (sym c) ∙ decode_finished es ps d s ∙ f in
      rw (reads_next n d s f c) (shown_more w (shown t g z n (omega arith)))

  -- where the first event is the Start of a root at 0, the front is there
  front_shown : {x k : ℕ} {evs : List Event} {d d' : TagDecoder} {s s' : List ℕ} → Tells es ps (event.Start x 0 ∷ evs) 0 d s k d' s' → d.finished ≡ false → (n : ℕ) → has_front (read_from es ps (suc n) d s) ≡ true
  unfolding has_front
  front_shown {d} {s} (next c (started top) t) f n = rw (reads_next n d s f c, top.count)

-- ---- what the writer writes

-- the events of a document that begins with a master begin with its Start at 0
record RootFirst (doc : Run) : Type 0 where
  id : ℕ
  others : List Event
  is : run_events 0 doc ≡ event.Start id 0 ∷ others

root_first : (doc : Run) → begins_with_root doc ≡ true → RootFirst doc
unfolding element_events
root_first none b = absurd (false≢true b)
root_first (then (value x v) r) b = absurd (false≢true b)
root_first (then (master x c) r) b = record { id = x; others = _; is = refl }

-- one root is begun with, and is alone
pub one_begins : (doc : Run) → is_one_root doc ≡ true → (begins_with_root doc ≡ true) × (children_in doc ≡ 1)
unfolding children_in
one_begins none b = absurd (false≢true b)
one_begins (then e none) b = (b, refl)
one_begins (then e (then f r)) b = absurd (false≢true b)

module _ (es ps items vals out : List ℕ) (n : ℕ) (e : (write es ps items vals out).0 ≡ Ok n) (octets : Octets vals) where
  abbrev doc : Run
  doc = run_of (marks_of vals items)

  abbrev w : List ℕ
  w = written es ps items vals out n

  -- in either mode where its items are taken so
  module _ (strict : Bool) (taken : every (is_taken strict) (marks_of vals items) ≡ true) where
    told : ToldAll strict es ps doc
    told = written_told es ps items vals out strict octets n e taken

    abbrev most : ℕ
    most = 256 * length (run_bytes doc) + 128

    more_than_events : length (run_events 0 doc) < suc most
    more_than_events = omega (arith, events_few 0 doc, run_length doc)

    bytes_are : answers_to strict es ps w ≡ read_from es ps (suc most) (reading fresh strict) (run_bytes doc)
    bytes_are =
        let k : 256 * length (run_bytes doc) + 129 ≡ suc most = omega arith in
        ap (answers_to strict es ps) (written_bytes es ps items vals out n e) ∙ ap (λ (m : ℕ). read_from es ps m (reading fresh strict) (run_bytes doc)) k

    all_shown : Shown 0 (run_events 0 doc) (answers_to strict es ps w)
    unfolding with_settings
    all_shown = rw bytes_are (shown es ps told.tells refl told.finish (suc most) more_than_events)

    front_there : begins_with_root doc ≡ true → has_front (answers_to strict es ps w) ≡ true
    unfolding with_settings
    front_there b =
        let first = root_first doc b in
        let tells = subst (λ (l : List Event). Tells es ps l 0 (reading fresh strict) (run_bytes doc) 0 told.after []) first.is told.tells in
        rw bytes_are (front_shown es ps tells refl most)

    -- the check counts its elements that are in no other as records
    pub written_records : records (answers_to strict es ps (written es ps items vals out n)) ≡ children_in (run_of (marks_of vals items))
    written_records = all_shown.roots ∙ roots_shown 0 doc

    -- and the masters directly in them as feeds
    pub written_feeds : feeds (answers_to strict es ps (written es ps items vals out n)) ≡ masters_in_roots (run_of (marks_of vals items))
    written_feeds = all_shown.in_roots ∙ masters_shown_lem 0 doc

    -- a document that begins with a master is whole, whatever comes after that master
    pub written_whole_in : begins_with_root (run_of (marks_of vals items)) ≡ true → IsWhole strict es ps (written es ps items vals out n)
    written_whole_in b =
        let byte = written_octets es ps items vals out n e octets in
        let front = front_there b in
        record {
          not_empty = front_not_empty es ps (256 * length w + 129) (reading fresh strict) w byte front;
          front = front;
          sizes = all_shown.sizes;
          starts = front_starts es ps (is_written es ps items vals out n e).passed (256 * length w + 129) (reading fresh strict) w byte front;
          finish = all_shown.finish;
        }

    -- one of one root is one record, of n bytes, whose feeds are the masters directly in the root
    pub written_one_whole_in : is_one_root (run_of (marks_of vals items)) ≡ true → IsOneWhole strict es ps (written es ps items vals out n) (masters_in_roots (run_of (marks_of vals items))) n
    written_one_whole_in root =
        let b = one_begins doc root in
        record {
          whole = written_whole_in b.0;
          one = written_records ∙ b.1;
          feed_count = sym written_feeds;
          byte_count = (is_written es ps items vals out n e).size ∙ sym (ap length (written_bytes es ps items vals out n e) ∙ run_length doc);
        }

  -- as ported, which a fresh decoder is, whatever the items
  pub written_whole : begins_with_root (run_of (marks_of vals items)) ≡ true → IsWhole false es ps (written es ps items vals out n)
  written_whole = written_whole_in false (all_taken (marks_of vals items))

  -- and so is that of one root one record
  pub written_one_whole : is_one_root (run_of (marks_of vals items)) ≡ true → IsOneWhole false es ps (written es ps items vals out n) (masters_in_roots (run_of (marks_of vals items))) n
  written_one_whole = written_one_whole_in false (all_taken (marks_of vals items))

-- ---- what `ebml-check` says of it

-- a night written with the bench table, of one root, that comes in any pieces to the check with a buffer of so many
-- bytes
module _ (items vals out : List ℕ) (n : ℕ) (e : (write bench_entries bench_parts items vals out).0 ≡ Ok n) (octets : Octets vals) (root : is_one_root (run_of (marks_of vals items)) ≡ true)
    (strict : Bool) (taken : every (is_taken strict) (marks_of vals items) ≡ true)
    (size : ℕ) (some : 0 < size) (pieces : List (List ℕ)) (apart : NoneEmpty pieces) (is : joined pieces ≡ written bench_entries bench_parts items vals out n)
    {l : List Answered} (run : Runs (listing.started strict) (replicate size 0) pieces l) where
  byte : Octets (joined pieces)
  byte = rw is (written_octets bench_entries bench_parts items vals out n e octets)

  near : length (joined pieces) ≤ 2 ^ 62
  near = rw is (written_near bench_entries bench_parts items vals out n e)

  -- it is called WHOLE, where no element is larger than the buffer
  pub written_called_whole : none_asks l ≡ true → verdict_of l ≡ Whole (masters_in_roots (run_of (marks_of vals items))) n
  written_called_whole asks =
      let whole = written_one_whole_in bench_entries bench_parts items vals out n e octets strict taken root in
      whole_is_told strict size some pieces apart byte near run (masters_in_roots (run_of (marks_of vals items))) n asks (rw is whole)

  -- as where the night is shorter than the buffer
  pub written_short_called_whole : n < size → verdict_of l ≡ Whole (masters_in_roots (run_of (marks_of vals items))) n
  written_short_called_whole short =
      let count = (written_one_whole_in bench_entries bench_parts items vals out n e octets strict taken root).byte_count in
      let shorter : length (joined pieces) < size = omega (arith, short, count, ap length is) in
      written_called_whole (shorter_asks_no_more size some strict (runs_through strict size pieces apart byte near run) byte shorter)
