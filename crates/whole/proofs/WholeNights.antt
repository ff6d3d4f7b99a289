-- The check, strict or as ported, over any run of the program with a buffer of so many zero bytes, on an input of at
-- most 2^62 bytes that comes in any pieces: what it calls WHOLE is a whole night with one record, and it calls such a
-- night so where no element is larger than the buffer; how the input is cut into pieces changes no verdict. What the
-- answers to an input show is said first, of any table. Assumes nothing.
use Prim.Native.Nat.{ℕ, ◌+◌, ◌*◌, ◌^◌, ◌≤◌, ◌<◌, min}
use mathlib.Core.Path.{◌≡◌, refl, sym, ap, subst, ◌∙◌}
use mathlib.Core.Bool.{Bool, true, false, false≢true}
use mathlib.Core.List.{List, [], ◌∷◌}
use native.Mathlib.Omega.{arith}
use lib.ListN.{length, replicate}
use Rattle.tools.specs.Bytes.{Octets}
use Rattle.table.specs.BenchTable.{bench_entries, bench_parts}
use Rattle.table.specs.Check.{check_table}
use Rattle.table.proofs.Examples.{checks}
use Rattle.decoder_rules.specs.Record.{fresh, with_settings}
use Rattle.decoder_rules.specs.declared.types.Answer.{Answer}
use Rattle.decoder_rules.specs.declared.types.Answer.TheVariants as answer
use Rattle.decoder_rules.specs.declared.types.Decoded.{Decoded}
use Rattle.decoder_rules.specs.declared.types.Event.TheVariants as event
use Rattle.decoder_rules.specs.declared.types.TagDecoder.{TagDecoder}
use Rattle.event_list.specs.Reading.{begun, started}
use Rattle.event_list.specs.Run.{joined, NoneEmpty, Runs}
use Rattle.event_list.specs.Whole.{Answered, answered_by, Answers, goes_on, ends, AnswersTo}
use Rattle.event_list.proofs.Begun.{ported_fresh}
use Rattle.event_list.proofs.PrintsTheList.{runs_through, same_answers_however_cut}
use Rattle.whole.specs.Checking.{verdict_of}
use Rattle.whole.specs.Night.{is_event, read_from, is_root_at0, has_front, finishes, answers_to, feeds, none_asks, IsOneWhole}
use Rattle.whole.specs.declared.types.Verdict.TheVariants.{Whole}
use Rattle.whole.proofs.Readings.{front_starts, front_not_empty, finish-later, bytes_all, feeds_few, run_reads_all, finish_asks_no_more}
use Rattle.whole.proofs.Verdicts.{most, last_position, says_whole, ShowsWhole, verdict_shows, shows_verdict, alone_not_whole}
use Rattle.std.specs.Prelude.{Err, Ok, Result}
use Rattle.decoder_rules.specs.declared.types.Refusal.{Refusal}

-- ---- of the answers to an input

-- as ported they are those from a fresh decoder
pub ported_answers : (es ps s : List ℕ) → answers_to false es ps s ≡ read_from es ps (256 * length s + 129) fresh s
ported_answers es ps s = ap (λ (d : TagDecoder). read_from es ps (256 * length s + 129) d s) ported_fresh

module _ (strict : Bool) (es ps s : List ℕ) (byte : Octets s) (few : length s ≤ most) where
  abbrev all : List Answered
  all = answers_to strict es ps s

  bytes_are : finishes all ≡ true → last_position all ≡ length s
  unfolding with_settings
  bytes_are f = bytes_all es ps (256 * length s + 129) (begun strict) s byte f ∙ omega arith

  feeds_are : min (feeds all) most ≡ feeds all
  feeds_are = omega (arith, feeds_few es ps (256 * length s + 129) (begun strict) s byte)

  -- answers that show a whole night, with a table that passes its check
  pub shown_one : check_table es ps ≡ Ok tt → (n m : ℕ) → ShowsWhole all n m → IsOneWhole strict es ps s n m
  shown_one checked n m w =
      record {
        whole =
            record {
              not_empty = front_not_empty es ps (256 * length s + 129) (begun strict) s byte w.front;
              front = w.front;
              sizes = w.sizes;
              starts = front_starts es ps checked (256 * length s + 129) (begun strict) s byte w.front;
              finish = w.finish;
            };
        one = w.one;
        feed_count = w.feed_count ∙ feeds_are;
        byte_count = w.byte_count ∙ bytes_are w.finish;
      }

  -- and what those of a whole night show, with any table
  pub one_shown : (n m : ℕ) → IsOneWhole strict es ps s n m → ShowsWhole all n m
  one_shown n m w =
      record {
        front = w.whole.front;
        sizes = w.whole.sizes;
        finish = w.whole.finish;
        one = w.one;
        feed_count = w.feed_count ∙ sym feeds_are;
        byte_count = w.byte_count ∙ sym (bytes_are w.whole.finish);
      }

-- ---- of a run of the program

-- an event and then at least one answer more, or one answer alone
record Begins (l : List Answered) : Type 0 where
  first : Answered
  second : Answered
  others : List Answered
  is : l ≡ first ∷ second ∷ others
  event : is_event first.answer ≡ true

more_than_one : {size : ℕ} {r : Decoded} {s : List ℕ} {l : List Answered} (a : Answered) → is_event a.answer ≡ true → Answers size r s l → Begins (a ∷ l)
more_than_one a e (goes_on r s q p) = record { first = a; second = answered_by r; others = _; is = refl; event = e }
more_than_one a e (ends r s none) = record { first = a; second = answered_by r; others = []; is = refl; event = e }

shown_by : {size : ℕ} {r : Decoded} {s : List ℕ} {l : List Answered} → Answers size r s l → (n m : ℕ) → verdict_of l ≡ Whole n m → ShowsWhole l n m
shown_by (goes_on r s q p) n m v =
    let b = more_than_one (answered_by r) (ap is_event q) p in
    subst (λ (x : List Answered). ShowsWhole x n m) (sym b.is) (verdict_shows b.first b.second b.others b.event n m (subst (λ (x : List Answered). verdict_of x ≡ Whole n m) b.is v))
shown_by (ends r s none) n m v = absurd (false≢true (sym (alone_not_whole (answered_by r)) ∙ ap says_whole v))

front_event : (a : Answered) → is_root_at0 a.answer a.after ≡ true → is_event a.answer ≡ true
front_event a f = by a.answer f
  where
    by : (x : Result Answer Refusal) → is_root_at0 x a.after ≡ true → is_event x ≡ true
    by (Ok (answer.Event (event.Start x p))) g = refl
    by (Ok (answer.Event (event.End e))) g = absurd (false≢true g)
    by (Ok (answer.Event (event.Data x p v))) g = absurd (false≢true g)
    by (Ok (answer.NeedMore missing)) g = absurd (false≢true g)
    by (Ok answer.Finished) g = absurd (false≢true g)
    by (Err r) g = absurd (false≢true g)

-- the verdict on answers that show it
pub by_shown : (l : List Answered) (n m : ℕ) → ShowsWhole l n m → verdict_of l ≡ Whole n m
unfolding has_front finishes
by_shown [] n m w = absurd (false≢true w.front)
by_shown (a ∷ []) n m w = absurd (false≢true (finish-later a [] (front_event a w.front) w.finish).0)
by_shown (a ∷ b ∷ l) n m w = shows_verdict a b l (front_event a w.front) n m w

module _ (strict : Bool) (size : ℕ) (some : 0 < size) (ps : List (List ℕ)) (apart : NoneEmpty ps) (byte : Octets (joined ps)) (few : length (joined ps) ≤ 2 ^ 62) {l : List Answered}
    (run : Runs (started strict) (replicate size 0) ps l) where
  answers : AnswersTo strict size (joined ps) l
  answers = runs_through strict size ps apart byte few run

  -- what is called WHOLE is whole
  pub whole_is_whole : (n m : ℕ) → verdict_of l ≡ Whole n m → IsOneWhole strict bench_entries bench_parts (joined ps) n m
  whole_is_whole n m v =
      let shown = shown_by answers n m v in
      let same = run_reads_all size some strict answers byte few (finish_asks_no_more size some answers shown.finish) in
      shown_one strict bench_entries bench_parts (joined ps) byte (omega arith) checks.bench_passes n m (subst (λ (x : List Answered). ShowsWhole x n m) same shown)

  -- and what is whole is called so, where no element is larger than the buffer
  pub whole_is_told : (n m : ℕ) → none_asks l ≡ true → IsOneWhole strict bench_entries bench_parts (joined ps) n m → verdict_of l ≡ Whole n m
  whole_is_told n m asks w =
      let same = run_reads_all size some strict answers byte few asks in
      by_shown l n m (subst (λ (x : List Answered). ShowsWhole x n m) (sym same) (one_shown strict bench_entries bench_parts (joined ps) byte (omega arith) n m w))

  -- and the verdict is that on the answers to the whole input, where no element is larger than the buffer
  pub verdict_of_input : none_asks l ≡ true → verdict_of l ≡ verdict_of (answers_to strict bench_entries bench_parts (joined ps))
  verdict_of_input asks = ap verdict_of (run_reads_all size some strict answers byte few asks)

-- however the input is cut into pieces, the verdict is the same
pub same_verdict_however_cut : (strict : Bool) (size : ℕ) (ps qs : List (List ℕ)) {l k : List Answered} → joined ps ≡ joined qs → NoneEmpty ps → NoneEmpty qs → Octets (joined ps) → length (joined ps) ≤ 2 ^ 62
    → Runs (started strict) (replicate size 0) ps l → Runs (started strict) (replicate size 0) qs k → verdict_of l ≡ verdict_of k
same_verdict_however_cut strict size ps qs e somep someq byte few run run' = ap verdict_of (same_answers_however_cut strict size ps qs e somep someq byte few run run')
