-- No list of a record that was cut ends in Z, read strictly or as ported: of a record that begins with a Master of
-- known size, a part that is not empty and ends before that master does has no list, with a buffer of any size, whose
-- last answer is the finish. It is `cut_root` of the calls that the lister makes, the setting before them. Assumes
-- nothing.
use Prim.Native.Nat.{ℕ, ◌<◌}
use mathlib.Core.Path.{◌≡◌, refl, sym, ap, ◌∙◌, subst}
use mathlib.Core.Bool.{Bool, true, false, cond, false≢true}
use mathlib.Core.List.{List, [], ◌∷◌, ◌++◌}
use lib.Dec.{ltb}
use lib.ListN.{length, take, drop, take-append-drop}
use lib.Seq.{drop-drop}
use Rattle.tools.specs.Bytes.{Octets}
use Rattle.tools.proofs.BigEndian.{octets_take}
use Rattle.table.specs.BenchTable.{bench_entries, bench_parts, bench}
use Rattle.tag_parse.proofs.Cases.{octets_drop}
use Rattle.decoder_rules.specs.Moving.{decode}
use Rattle.decoder_rules.specs.EndOfInput.{decode_eof}
use Rattle.decoder_rules.specs.declared.types.Answer.{Answer}
use Rattle.decoder_rules.specs.declared.types.Answer.TheVariants as answer
use Rattle.decoder_rules.specs.declared.types.Decoded.{Decoded}
use Rattle.decoder_rules.specs.declared.types.TagDecoder.{TagDecoder}
use Rattle.event_list.specs.Whole.{next_answer, Answered, answered_by, Answers, goes_on, ends, ListOf}
use Rattle.guarantees.specs.Calls.{Call, decoding, ending, strictly, lent, answered, response_to, next, record_after, history, Lent}
use Rattle.guarantees.specs.History.{position}
use Rattle.guarantees.specs.Promises as promised
use Rattle.guarantees.specs.Promises.{position_at}
use Rattle.guarantees.specs.CutRecords.{LendsNext, InOrder, BeginsWithMaster}
use Rattle.guarantees.proofs.CutRecords.{bench_cut_records}
use Rattle.whole.specs.Night.{is_finish, finishes}
use Rattle.whole.proofs.Readings.{finish-later}
use Rattle.std.specs.Prelude.{Err, Ok, Result}
use Rattle.decoder_rules.specs.declared.types.Refusal.{Refusal}

-- the calls cs read the record s in order, and so many bytes are still to come
pub record Reading (s : List ℕ) (cs : List Call) (left : List ℕ) : Type 0 where
  pub octets : Lent cs
  pub in_order : InOrder bench_entries bench_parts s cs
  pub rest : left ≡ drop (position_at bench_entries bench_parts cs) s

-- a call whose result is r, on the record after the calls cs, with what is still to come
pub record CallOf (s : List ℕ) (cs : List Call) (r : Decoded) : Type 0 where
  pub call : Call
  pub octets : Octets (lent call)
  pub lends : LendsNext s (position_at bench_entries bench_parts cs) call
  pub told : response_to bench_entries bench_parts (record_after bench_entries bench_parts cs) call ≡ answered r.answer r.taken
  pub leaves : next bench_entries bench_parts (record_after bench_entries bench_parts cs) call ≡ r.state

-- the lister's next answer is that of such a call
call_of : (size : ℕ) (s : List ℕ) (cs : List Call) (left : List ℕ) → Octets s → Reading s cs left
    → CallOf s cs (next_answer size (record_after bench_entries bench_parts cs) left)
unfolding next_answer
call_of size s cs left byte r = by (ltb (length left) size)
  where
    d : TagDecoder
    d = record_after bench_entries bench_parts cs

    bytes : Octets left
    bytes = rw r.rest (octets_drop (position_at bench_entries bench_parts cs) s byte)

    by : (b : Bool) → CallOf s cs (cond b (decode_eof bench_entries bench_parts d left) (decode bench_entries bench_parts d (take size left)))
    by true = record { call = ending left; octets = bytes; lends = r.rest; told = refl; leaves = refl }
    by false =
        record { call = decoding (take size left); octets = octets_take size left bytes; lends = (drop size left, take-append-drop size left ∙ r.rest); told = refl; leaves = refl }

-- after it the reading goes on
read_on : (s : List ℕ) (cs : List Call) (left : List ℕ) (r : Decoded) → Reading s cs left → (c : CallOf s cs r) → Reading s (c.call ∷ cs) (drop r.taken left)
unfolding Lent InOrder history position
read_on s cs left r reading c = record {
  octets = (c.octets, reading.octets);
  in_order = (c.lends, reading.in_order);
  rest = rw (c.told, reading.rest) (drop-drop r.taken (position_at bench_entries bench_parts cs) s);
}

finish_is : (a : Result Answer Refusal) → is_finish a ≡ true → a ≡ Ok answer.Finished
finish_is (Ok (answer.Event e)) q = absurd (false≢true q)
finish_is (Ok (answer.NeedMore missing)) q = absurd (false≢true q)
finish_is (Ok answer.Finished) q = refl
finish_is (Err r) q = absurd (false≢true q)

module _ (size : ℕ) (s : List ℕ) (byte : Octets s)
    (never : (cs : List Call) (c : Call) → Lent (c ∷ cs) → InOrder bench_entries bench_parts s (c ∷ cs) → promised.Answers bench_entries bench_parts cs c (Ok answer.Finished) → ⊥) where
  -- from the answer r on, no list ends with the finish
  not_finished : (cs : List Call) {left : List ℕ} {r : Decoded} {rs : List Answered} → Reading s cs left → r ≡ next_answer size (record_after bench_entries bench_parts cs) left
      → Answers size r left rs → finishes rs ≡ true → ⊥
  unfolding finishes record_after
  not_finished cs reading e (goes_on r left {rs} q rest) f =
      let c = subst (CallOf s cs) (sym e) (call_of size s cs left byte reading) in
      let later = (finish-later (answered_by r) rs (rw q) f).0 in
      not_finished (c.call ∷ cs) (read_on s cs left r reading c) (ap (λ (d : TagDecoder). next_answer size d (drop r.taken left)) (sym c.leaves)) rest later
  not_finished cs reading e (ends r left none) f =
      let c = subst (CallOf s cs) (sym e) (call_of size s cs left byte reading) in
      let on = read_on s cs left r reading c in
      never cs c.call on.octets on.in_order (r.taken, c.told ∙ ap (λ (a : Result Answer Refusal). answered a r.taken) (finish_is r.answer f))

-- the list of such a part does not end with the finish
pub cut_list : (strict : Bool) (size : ℕ) (s rest : List ℕ) (f : ℕ) → Octets s → BeginsWithMaster bench (s ++ rest) f → 0 < length s → length s < f
    → {text : List ℕ} (l : ListOf strict size s text) → finishes l.answers ≡ true → ⊥
unfolding record_after Lent InOrder history position
cut_list strict size s rest f byte begins some cut l =
    not_finished size s byte (λ cs c. bench_cut_records.cut_root s rest f begins some cut cs c) (strictly strict ∷ []) (record { octets = (octets_take 0 s byte, tt); in_order = (tt, tt); rest = refl }) refl l.to
