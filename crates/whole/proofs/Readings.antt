-- What the answers to an input show whatever the input is: no End is without a Start where the front is there; at the
-- finish all bytes have been taken; a feed takes bytes. And the answers of a run of a program are these, where no
-- element is larger than its buffer. Assumes nothing.
use Prim.Native.Nat.{ℕ, zero, suc, ◌+◌, ◌-◌, ◌*◌, ◌^◌, ◌≤◌, ◌<◌}
use mathlib.Core.Path.{◌≡◌, refl, sym, ap, subst, ◌∙◌}
use mathlib.Core.Bool.{Bool, true, false, cond, not, ◌&&◌, false≢true}
use mathlib.Core.List.{List, [], ◌∷◌, ◌++◌}
use mathlib.Core.Logic.{◌⊎◌, inl, inr}
use native.Mathlib.Omega.{arith}
use native.Mathlib.Nat.{not-suc-le-zero}
use native.Mathlib.Decide.{dec_le}
use borrow.Author.Tests.{lt-ltb, le-ltb, eqb-true}
use lib.Dec.{eqb}
use lib.ListN.{length, take, drop, length-drop, take-append-drop}
use Rattle.basics.proofs.Bools.{both}
use Rattle.tools.specs.Bytes.{Octets}
use Rattle.table.specs.BenchTable.{bench_entries, bench_parts}
use Rattle.table.specs.Check.{check_table}
use Rattle.tag_parse.proofs.Cases.{octets_drop}
use Rattle.decoder_rules.specs.Record.{with_settings}
use Rattle.decoder_rules.specs.Moving.{needs_more, decode}
use Rattle.decoder_rules.specs.EndOfInput.{decode_eof}
use Rattle.decoder_rules.specs.declared.types.Answer.{Answer}
use Rattle.decoder_rules.specs.declared.types.Answer.TheVariants as answer
use Rattle.decoder_rules.specs.declared.types.Decoded.{Decoded}
use Rattle.decoder_rules.specs.declared.types.Event.{Event}
use Rattle.decoder_rules.specs.declared.types.Event.TheVariants as event
use Rattle.decoder_rules.specs.declared.types.TagDecoder.{TagDecoder}
use Rattle.decoder_rules.proofs.MoveLaws.{with_note}
use Rattle.tag_decoder.proofs.CallLaws.{eof_facts}
use Rattle.tag_decoder_laws.proofs.AppendedBytes.{octets_front, decode_local}
use Rattle.tag_decoder_laws.proofs.Finishing.{eof_asks_no_more}
use Rattle.tag_decoder_laws.proofs.EofAsDecoded.{eof_as_decoded}
use Rattle.tag_decoder_laws.proofs.Nearer.{weight}
use Rattle.event_list.specs.Reading.{begun, called}
use Rattle.event_list.specs.Whole.{next_answer, Answered, answered_by, Answers, goes_on, ends, AnswersTo}
use Rattle.event_list.proofs.Ending.{call_nearer}
use Rattle.event_list.proofs.Views.{seen_all}
use Rattle.whole.specs.Night.{is_event, read_from, answers_to, is_root_at0, has_front, has_start, starts_left, all_started, is_finish, finishes, is_feed, feeds, none_asks}
use Rattle.whole.proofs.Turns.{unended, Balance, balanced_noted, eof_balanced, eof_settled, finish_no_byte, finished_no_byte, start_settles}
use Rattle.whole.proofs.Verdicts.{last_position}
use Rattle.std.specs.Prelude.{Err, Ok, Result}
use Rattle.decoder_rules.specs.declared.types.Refusal.{Refusal}

-- ---- the next answer, and the others

module _ (es ps : List ℕ) (n : ℕ) (d : TagDecoder) (s : List ℕ) where
  abbrev R : Decoded
  R = decode_eof es ps d s

  -- after an event come the answers to what is left
  pub read_on : is_event R.answer ≡ true → read_from es ps (suc n) d s ≡ answered_by R ∷ read_from es ps n R.state (drop R.taken s)
  unfolding read_from
  read_on e = rw e

  -- any other answer is the last
  pub read_last : is_event R.answer ≡ false → read_from es ps (suc n) d s ≡ answered_by R ∷ []
  unfolding read_from
  read_last e = rw e

-- ---- every End has a Start

module _ (es ps : List ℕ) where
  starts_all : (n k : ℕ) (d : TagDecoder) (s : List ℕ) → Octets s → d.settled ≡ true → k ≡ unended d → all_started k (read_from es ps n d s) ≡ true
  unfolding read_from all_started
  starts_all zero k d s byte st e = refl
  starts_all (suc n) k d s byte st e =
      by (decode_eof es ps d s).answer (eof_balanced es ps d s byte st)
      (λ j h. starts_all n j (decode_eof es ps d s).state (drop (decode_eof es ps d s).taken s) (octets_drop (decode_eof es ps d s).taken s byte) (eof_settled es ps d s byte st) h)
    where
      r : Decoded
      r = decode_eof es ps d s

      rest : List Answered
      rest = read_from es ps n r.state (drop r.taken s)

      by : (a : Result Answer Refusal) → Balance a (unended d) (unended r.state) r.taken r.state.waiting_count → ((j : ℕ) → j ≡ unended r.state → all_started j rest ≡ true)
          → (has_start a k && all_started (starts_left a k) (cond (is_event a) rest [])) ≡ true
      by (Ok (answer.Event (event.Start x p))) b more = more (k + 1) (omega (arith, b.0))
      by (Ok (answer.Event (event.End x))) b more = let h : 0 < k = omega arith in rw (lt-ltb 0 k h) (more (k - 1) (omega arith))
      by (Ok (answer.Event (event.Data x p v))) b more = more k (omega arith)
      by (Ok (answer.NeedMore missing)) b more = refl
      by (Ok answer.Finished) b more = refl
      by (Err x) b more = refl

  -- where the front is there
  pub front_starts : check_table es ps ≡ Ok tt → (n : ℕ) (d : TagDecoder) (s : List ℕ) → Octets s → has_front (read_from es ps n d s) ≡ true → all_started 0 (read_from es ps n d s) ≡ true
  unfolding read_from all_started has_front
  front_starts checked zero d s byte f = absurd (false≢true f)
  front_starts checked (suc n) d s byte f = by r.answer refl (balanced_noted es ps d s byte) f
    where
      r : Decoded
      r = decode_eof es ps d s

      rest : List Answered
      rest = read_from es ps n r.state (drop r.taken s)

      by : (a : Result Answer Refusal) → r.answer ≡ a → Balance a (unended (with_note es ps d s)) (unended r.state) r.taken r.state.waiting_count → is_root_at0 a r.state ≡ true
          → (has_start a 0 && all_started (starts_left a 0) (cond (is_event a) rest [])) ≡ true
      by (Ok (answer.Event (event.Start x p))) q b g =
          let one : r.state.open_count ≡ 1 = eqb-true _ _ (both (eqb p 0) (eqb r.state.open_count 1) g).right in
          starts_all n (0 + 1) r.state (drop r.taken s) (octets_drop r.taken s byte) (start_settles es ps checked d s byte q) (omega (arith, one, b.1.1))
      by (Ok (answer.Event (event.End x))) q b g = absurd (false≢true g)
      by (Ok (answer.Event (event.Data x p v))) q b g = absurd (false≢true g)
      by (Ok (answer.NeedMore missing)) q b g = absurd (false≢true g)
      by (Ok answer.Finished) q b g = absurd (false≢true g)
      by (Err x) q b g = absurd (false≢true g)

  -- and then there is a byte
  pub front_not_empty : (n : ℕ) (d : TagDecoder) (s : List ℕ) → Octets s → has_front (read_from es ps n d s) ≡ true → 0 < length s
  unfolding read_from has_front
  front_not_empty zero d s byte f = absurd (false≢true f)
  front_not_empty (suc n) d s byte f = by r.answer (balanced_noted es ps d s byte) f
    where
      r : Decoded
      r = decode_eof es ps d s

      by : (a : Result Answer Refusal) → Balance a (unended (with_note es ps d s)) (unended r.state) r.taken r.state.waiting_count → is_root_at0 a r.state ≡ true → 0 < length s
      by (Ok (answer.Event (event.Start x p))) b g = omega (arith, b.1.0, (eof_facts es ps d s byte).within)
      by (Ok (answer.Event (event.End x))) b g = absurd (false≢true g)
      by (Ok (answer.Event (event.Data x p v))) b g = absurd (false≢true g)
      by (Ok (answer.NeedMore missing)) b g = absurd (false≢true g)
      by (Ok answer.Finished) b g = absurd (false≢true g)
      by (Err x) b g = absurd (false≢true g)

-- ---- at the finish all bytes have been taken

event_no_finish : (a : Result Answer Refusal) → is_event a ≡ true → is_finish a ≡ true → ⊥
event_no_finish (Ok (answer.Event e)) i f = false≢true f
event_no_finish (Ok (answer.NeedMore missing)) i f = false≢true f
event_no_finish (Ok answer.Finished) i f = false≢true i
event_no_finish (Err r) i f = false≢true f

-- the last of an event and others is the last of the others
pub finish-later : (a : Answered) (l : List Answered) → is_event a.answer ≡ true → finishes (a ∷ l) ≡ true → (finishes l ≡ true) × (last_position (a ∷ l) ≡ last_position l)
unfolding finishes last_position
finish-later a [] e f = absurd (event_no_finish a.answer e f)
finish-later a (b ∷ l) e f = (f, refl)

module _ (es ps : List ℕ) where
  pub bytes_all : (n : ℕ) (d : TagDecoder) (s : List ℕ) → Octets s → finishes (read_from es ps n d s) ≡ true → last_position (read_from es ps n d s) ≡ d.position + length s
  unfolding finishes last_position
  bytes_all zero d s byte f = absurd (false≢true (unfold read_from in f))
  bytes_all (suc n) d s byte f =
      by (decode_eof es ps d s).answer refl
      (λ g. bytes_all n (decode_eof es ps d s).state (drop (decode_eof es ps d s).taken s) (octets_drop (decode_eof es ps d s).taken s byte) g)
    where
      r : Decoded
      r = decode_eof es ps d s

      ended : {a : Result Answer Refusal} → r.answer ≡ a → is_event a ≡ false → is_finish a ≡ true
      ended q e = ap is_finish (sym q) ∙ (rw (read_last es ps n d s (ap is_event q ∙ e)) at f)

      rest : List Answered
      rest = read_from es ps n r.state (drop r.taken s)

      by : (a : Result Answer Refusal) → r.answer ≡ a → (finishes rest ≡ true → last_position rest ≡ r.state.position + length (drop r.taken s))
          → last_position (read_from es ps (suc n) d s) ≡ d.position + length s
      by (Ok (answer.Event e)) q more =
          let on = read_on es ps n d s (ap is_event q) in
          let k = finish-later (answered_by r) rest (ap is_event q) (rw on at f) in
          let facts = eof_facts es ps d s byte in
          rw on (k.1 ∙ more k.0 ∙ omega (arith, facts.moves, facts.within, length-drop r.taken s))
      by (Ok (answer.NeedMore missing)) q more = absurd (false≢true (ended q refl))
      by (Ok answer.Finished) q more =
          let facts = eof_facts es ps d s byte in
          rw (read_last es ps n d s (ap is_event q)) (omega (arith, facts.moves, facts.within, finish_no_byte es ps d s byte q))
      by (Err x) q more = absurd (false≢true (ended q refl))

  -- a feed takes bytes, so there are no more feeds than bytes
  pub feeds_few : (n : ℕ) (d : TagDecoder) (s : List ℕ) → Octets s → feeds (read_from es ps n d s) ≤ length s
  unfolding read_from feeds
  feeds_few zero d s byte = omega arith
  feeds_few (suc n) d s byte =
      by (decode_eof es ps d s).answer (balanced_noted es ps d s byte)
      (rw (sym (length-drop (decode_eof es ps d s).taken s)) (feeds_few n (decode_eof es ps d s).state (drop (decode_eof es ps d s).taken s) (octets_drop (decode_eof es ps d s).taken s byte)))
    where
      r : Decoded
      r = decode_eof es ps d s

      rest : List Answered
      rest = read_from es ps n r.state (drop r.taken s)

      at_most_one : (is : Bool) → cond is 1 0 ≤ 1
      at_most_one true = omega arith
      at_most_one false = omega arith

      by : (a : Result Answer Refusal) → Balance a (unended (with_note es ps d s)) (unended r.state) r.taken r.state.waiting_count → feeds rest ≤ length s - r.taken → cond (is_feed a r.state) 1 0 + feeds (cond (is_event a) rest []) ≤ length s
      by (Ok (answer.Event (event.Start x p))) b few = omega (arith, few, b.1.0, at_most_one (eqb r.state.open_count 2), (eof_facts es ps d s byte).within)
      by (Ok (answer.Event (event.End x))) b few = omega (arith, few)
      by (Ok (answer.Event (event.Data x p v))) b few = omega (arith, few)
      by (Ok (answer.NeedMore missing)) b few = omega arith
      by (Ok answer.Finished) b few = omega arith
      by (Err x) b few = omega arith

-- ---- the answers of a run

-- the next answer is that of the end of input on all that is left, unless the element is larger than the buffer
module _ (size : ℕ) (some : 0 < size) where
  pub next_is_eof : (d : TagDecoder) (s : List ℕ) → Octets s → (d.finished ≡ true → length s ≡ 0) → d.position + length s ≤ 2 ^ 62 → needs_more (next_answer size d s).answer ≡ false
      → next_answer size d s ≡ decode_eof bench_entries bench_parts d s
  next_is_eof d s byte fin near quiet = go (dec_le size (length s))
    where
      front : List ℕ
      front = take size s

      back : List ℕ
      back = drop size s

      split : front ++ back ≡ s
      split = take-append-drop size s

      open_still : size ≤ length s → d.finished ≡ false
      open_still h = by d.finished refl
        where
          by : (b : Bool) → d.finished ≡ b → b ≡ false
          by true e = let z = fin e in absurd (not-suc-le-zero {n = 0} (omega arith))
          by false e = refl

      go : Dec (size ≤ length s) → next_answer size d s ≡ decode_eof bench_entries bench_parts d s
      go (no f) = seen_all size d s (omega arith)
      go (yes h) =
          let seen : next_answer size d s ≡ decode bench_entries bench_parts d front = unfold next_answer in rw (le-ltb _ _ h) in
          let quiet' : needs_more (decode bench_entries bench_parts d front).answer ≡ false = ap (λ (x : Decoded). needs_more x.answer) (sym seen) ∙ quiet in
          let byte' : Octets (front ++ back) = rw split byte in
          let near' : d.position + length (front ++ back) ≤ 2 ^ 62 = rw split near in
          let all : decode bench_entries bench_parts d s ≡ decode bench_entries bench_parts d front =
          ap (decode bench_entries bench_parts d) (sym split) ∙ decode_local bench_entries bench_parts d front back (octets_front front back byte' 0) (open_still h) near' quiet' in
          seen ∙ sym (eof_as_decoded bench_entries bench_parts d s (open_still h) (ap (λ (x : Decoded). needs_more x.answer) all ∙ quiet') ∙ all)

  -- what holds of what is left after an event, with fuel for n answers
  record OnFrom (n : ℕ) (r : Decoded) (s : List ℕ) : Type 0 where
    fin : r.state.finished ≡ true → length (drop r.taken s) ≡ 0
    near : r.state.position + length (drop r.taken s) ≤ 2 ^ 62
    fuel : 256 * length (drop r.taken s) + weight r.state < n

  on_from_lem : (n : ℕ) (d : TagDecoder) (s : List ℕ) → Octets s → (d.finished ≡ true → length s ≡ 0) → d.position + length s ≤ 2 ^ 62 → 256 * length s + weight d < suc n
      → (e : Event) → (decode_eof bench_entries bench_parts d s).answer ≡ Ok (answer.Event e) → OnFrom n (decode_eof bench_entries bench_parts d s) s
  on_from_lem n d s byte fin near fuel e q =
      let facts = eof_facts bench_entries bench_parts d s byte in
      let lighter : 256 * (length s - (decode_eof bench_entries bench_parts d s).taken) + weight (decode_eof bench_entries bench_parts d s).state < 256 * length s + weight d = unfold called in call_nearer true d s byte {x = e} q in
      record {
        fin = λ f. by (finished_no_byte bench_entries bench_parts d s byte f);
        near = omega (arith, facts.moves, facts.within, length-drop (decode_eof bench_entries bench_parts d s).taken s);
        fuel = omega (arith, lighter, length-drop (decode_eof bench_entries bench_parts d s).taken s);
      }
    where
      by : (d.finished ≡ true) ⊎ (length s ≡ 0) → length (drop (decode_eof bench_entries bench_parts d s).taken s) ≡ 0
      by (inl e) = let z = fin e in omega (arith, length-drop (decode_eof bench_entries bench_parts d s).taken s)
      by (inr z) = omega (arith, length-drop (decode_eof bench_entries bench_parts d s).taken s)

  not_asks : (a : Result Answer Refusal) → not (needs_more a) ≡ true → needs_more a ≡ false
  not_asks (Ok (answer.Event e)) q = refl
  not_asks (Ok (answer.NeedMore missing)) q = absurd (false≢true q)
  not_asks (Ok answer.Finished) q = refl
  not_asks (Err r) q = refl

  no_event : (a : Result Answer Refusal) → ((e : Event) → a ≡ Ok (answer.Event e) → ⊥) → is_event a ≡ false
  no_event (Ok (answer.Event e)) n = absurd (n e refl)
  no_event (Ok (answer.NeedMore missing)) n = refl
  no_event (Ok answer.Finished) n = refl
  no_event (Err r) n = refl

  -- so the answers of a run in which none asks for more are those to the whole input
  reads_all : {r : Decoded} {s : List ℕ} {l : List Answered} → Answers size r s l → (n : ℕ) (d : TagDecoder) → r ≡ next_answer size d s → Octets s → (d.finished ≡ true → length s ≡ 0)
      → d.position + length s ≤ 2 ^ 62 → none_asks l ≡ true → 256 * length s + weight d < n → l ≡ read_from bench_entries bench_parts n d s
  unfolding none_asks
  reads_all p zero d is byte fin near asks fuel = absurd (not-suc-le-zero fuel)
  reads_all (goes_on r s {rs} {e} q p) (suc n) d is byte fin near asks fuel =
      let told = both (not (needs_more r.answer)) (none_asks rs) asks in
      let same : r ≡ decode_eof bench_entries bench_parts d s = is ∙ next_is_eof d s byte fin near (ap (λ (x : Decoded). needs_more x.answer) (sym is) ∙ not_asks r.answer told.left) in
      let event : (decode_eof bench_entries bench_parts d s).answer ≡ Ok (answer.Event e) = ap (λ (x : Decoded). x.answer) (sym same) ∙ q in
      let on : OnFrom n r s = subst (λ (x : Decoded). OnFrom n x s) (sym same) (on_from_lem n d s byte fin near fuel e event) in
      ap (λ (l : List Answered). answered_by r ∷ l) (reads_all {r = next_answer size r.state (drop r.taken s)} p n r.state refl (octets_drop r.taken s byte) on.fin on.near told.right on.fuel)
      ∙ ap (λ (x : Decoded). answered_by x ∷ read_from bench_entries bench_parts n x.state (drop x.taken s)) same
      ∙ sym (read_on bench_entries bench_parts n d s (ap is_event event))
  reads_all (ends r s none) (suc n) d is byte fin near asks fuel =
      let told = both (not (needs_more r.answer)) true asks in
      let same : r ≡ decode_eof bench_entries bench_parts d s = is ∙ next_is_eof d s byte fin near (ap (λ (x : Decoded). needs_more x.answer) (sym is) ∙ not_asks r.answer told.left) in
      ap (λ (x : Decoded). answered_by x ∷ []) same
      ∙ sym (read_last bench_entries bench_parts n d s (ap (λ (x : Decoded). is_event x.answer) (sym same) ∙ no_event r.answer none))

  -- from the start
  pub run_reads_all : (strict : Bool) {s : List ℕ} {l : List Answered} → AnswersTo strict size s l → Octets s → length s ≤ 2 ^ 62 → none_asks l ≡ true
      → l ≡ answers_to strict bench_entries bench_parts s
  unfolding with_settings
  run_reads_all strict {s} p byte few asks = reads_all p (256 * length s + 129) (begun strict) refl byte (λ f. absurd (false≢true f)) (omega arith) asks (omega arith)

  -- ---- which runs these are

  finish_asks_none : (a : Result Answer Refusal) → is_finish a ≡ true → (not (needs_more a) && true) ≡ true
  finish_asks_none (Ok (answer.Event e)) f = absurd (false≢true f)
  finish_asks_none (Ok (answer.NeedMore missing)) f = absurd (false≢true f)
  finish_asks_none (Ok answer.Finished) f = refl
  finish_asks_none (Err r) f = absurd (false≢true f)

  -- those that come to the finish
  pub finish_asks_no_more : {r : Decoded} {s : List ℕ} {l : List Answered} → Answers size r s l → finishes l ≡ true → none_asks l ≡ true
  unfolding none_asks
  finish_asks_no_more (goes_on r s {rs} q p) f =
      rw (ap (λ (a : Result Answer Refusal). not (needs_more a)) q) (finish_asks_no_more p (finish-later (answered_by r) rs (ap is_event q) f).0)
  finish_asks_no_more (ends r s none) f = finish_asks_none r.answer (unfold finishes in f)

  -- and those on an input that is shorter than the buffer
  shorter_asks : {r : Decoded} {s : List ℕ} {l : List Answered} → Answers size r s l → (d : TagDecoder) → r ≡ next_answer size d s → Octets s → length s < size → none_asks l ≡ true
  unfolding none_asks
  shorter_asks (goes_on r s {rs} q p) d is byte h =
      rw (ap (λ (a : Result Answer Refusal). not (needs_more a)) q) (shorter_asks p r.state refl (octets_drop r.taken s byte) (omega (arith, length-drop r.taken s)))
  shorter_asks (ends r s none) d is byte h =
      let quiet : needs_more r.answer ≡ false = ap (λ (x : Decoded). needs_more x.answer) (is ∙ seen_all size d s h) ∙ eof_asks_no_more bench_entries bench_parts d s in
      rw quiet

  pub shorter_asks_no_more : (strict : Bool) {s : List ℕ} {l : List Answered} → AnswersTo strict size s l → Octets s → length s < size → none_asks l ≡ true
  shorter_asks_no_more strict p byte h = shorter_asks p (begun strict) refl byte h
