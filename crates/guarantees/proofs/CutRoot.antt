-- A record that begins with a master of known size and was cut before that master's end never looks whole: read in
-- order, no call answers the finish. Nothing is taken before the master's Start; from then on it is the outermost Start
-- of known size and is not full, so that its End does not come. Assumes nothing.
use Prim.Native.Nat.{ℕ, ◌+◌, ◌≤◌, ◌<◌}
use mathlib.Core.Path.{◌≡◌, refl, sym, ap, ◌∙◌, subst}
use mathlib.Core.Bool.{Bool, false, true≢false}
use mathlib.Core.List.{List, [], ◌∷◌, ◌++◌, append_assoc}
use native.Mathlib.Omega.{arith}
use lib.ListN.{length, drop}
use Rattle.basics.proofs.Bools.{absurd_eq}
use Rattle.tools.specs.Bytes.{Octets}
use Rattle.table.specs.Table.{Entry, table_of, data_type_of}
use Rattle.table.specs.declared.types.TagDataType.TheVariants as type
use Rattle.tag_parse.specs.Header.{read_header}
use Rattle.tag_parse.specs.declared.types.TagHeader.{TagHeader}
use Rattle.tag_parse.specs.declared.types.TagValue.{TagValue}
use Rattle.tag_parse.specs.declared.types.TagValue.TheVariants as value
use Rattle.tag_parse.proofs.Headers.{header_local, header_spec}
use Rattle.decoder_rules.specs.Record.{with_settings}
use Rattle.decoder_rules.specs.Settings.{is_finished}
use Rattle.decoder_rules.specs.declared.types.Answer.{Answer}
use Rattle.decoder_rules.specs.declared.types.Answer.TheVariants as answer
use Rattle.decoder_rules.specs.declared.types.Event.TheVariants as event
use Rattle.decoder_rules.specs.declared.types.Search.{Search}
use Rattle.decoder_rules.specs.declared.types.WaitingEnd.{WaitingEnd}
use Rattle.decoder_rules.proofs.MoveLaws.{decode_finished}
use Rattle.decoder_rules.proofs.EndExits.{eof_exits}
use Rattle.guarantees.specs.Calls.{Call, decoding, ending, recovering, allow, strictly, limit, lent, Response, answered, searched, silent, next, record_after, history, Lent}
use Rattle.guarantees.specs.History.{Started, declared_end, header_end, end_after, after_response, taken_in, outermost_end, starts_open, position}
use Rattle.guarantees.specs.Promises.{value_kind, Runs, last_response, Answers, open_at, left_at, position_at}
use Rattle.guarantees.specs.CutRecords.{LendsNext, InOrder, BeginsWithMaster}
use Rattle.guarantees.proofs.Steps.{ElementFacts}
use Rattle.guarantees.proofs.AnyCalls.{ResponseFacts, QuietResponse, promised_after}
use Rattle.guarantees.proofs.Cut.{cut_not_finished}
use Rattle.guarantees.proofs.CutRecord.{outermost_stays, outermost_member}
use Rattle.guarantees.proofs.FullEnds.{no_search}
use Rattle.guarantees.proofs.InOrder.{is_element, takes_none, lends_front, lends_no_recovery, within, eof_keeps_finished, limit_keeps_finished}
use Rattle.std.specs.Prelude.{Err, Ok, Result, Some}
use Rattle.decoder_rules.specs.declared.types.Refusal.{Refusal}
use Rattle.tools.specs.declared.status.Status.TheVariants as status

-- ---- the first element is the master

-- no value is a Master's
no_master_lem : (v : TagValue) → value_kind v ≡ type.Master → ⊥
no_master_lem (value.UnsignedInt x) e = let z : ◌≡◌ {A = ℕ} 0 1 = cc in absurd_eq z
no_master_lem (value.Integer x) e = let z : ◌≡◌ {A = ℕ} 0 1 = cc in absurd_eq z
no_master_lem (value.Utf8 x) e = let z : ◌≡◌ {A = ℕ} 0 1 = cc in absurd_eq z
no_master_lem (value.Binary x) e = let z : ◌≡◌ {A = ℕ} 0 1 = cc in absurd_eq z
no_master_lem (value.Float x) e = let z : ◌≡◌ {A = ℕ} 0 1 = cc in absurd_eq z
no_master_lem (value.Raw x) e = let z : ◌≡◌ {A = ℕ} 0 1 = cc in absurd_eq z

module _ (t : List Entry) (s rest : List ℕ) (f : ℕ) (w : BeginsWithMaster t (s ++ rest) f) where
  -- the header that a call at the front reads is that of the whole
  front : (b v : List ℕ) → Octets b → b ++ v ≡ s → (x : TagHeader) → read_header t b ≡ Ok (status.Complete x) → x ≡ w.its
  front b v byte e x r =
      let local : read_header t (b ++ (v ++ rest)) ≡ read_header t b = header_local t b (v ++ rest) (byte 0) (rw r) in
      let q : Ok (status.Complete x) ≡ Ok (status.Complete w.its) = sym r ∙ sym local ∙ ap (read_header t) (sym (append_assoc b v rest)) ∙ ap (λ (l : List ℕ). read_header t (l ++ rest)) e ∙ w.read in
      cc

  -- an element that a call at the front answers
  module _ (b v : List ℕ) (byte : Octets b) (e : b ++ v ≡ s) {off : Bool} {starts : List Started} (x o : ℕ) (g : ElementFacts t off b starts 0 x o) where
    its : g.heads.its ≡ w.its
    its = front b v byte e g.heads.its g.heads.is_read

    -- ends where the master does
    first_end_lem : declared_end t o b ≡ Some f
    unfolding declared_end
    first_end_lem =
        let h : read_header t b ≡ Ok (status.Complete w.its) = g.heads.is_read ∙ ap (λ h. Ok (status.Complete h)) its in
        let a : 0 + w.its.len + w.size ≡ f = omega (arith, w.ends) in
        ap (λ (n : ℕ). header_end n (read_header t b)) g.offset ∙ ap (header_end 0) h ∙ ap (end_after (0 + w.its.len)) w.known ∙ ap Some a

    -- and is a Master
    first_master : data_type_of t x ≡ type.Master
    first_master =
        ap (data_type_of t) (sym g.heads.same_id) ∙ sym (header_spec t b g.heads.its g.heads.is_read).kind ∙ ap (λ (h : TagHeader). h.kind) its ∙ w.master

-- ---- the calls

module _ (es ps s rest : List ℕ) (f : ℕ) (w : BeginsWithMaster (table_of es ps) (s ++ rest) f) (some : 0 < length s) (cut : length s < f) where
  abbrev t : List Entry
  t = table_of es ps

  -- nothing was taken yet, or the outermost Start of known size is that master's
  data At (l : List Started) (p : ℕ) : Type 0 where
    before : p ≡ 0 → l ≡ [] → At l p
    inside : outermost_end l ≡ Some f → At l p

  -- these calls have read a part of it, and have not finished
  record Reading (cs : List Call) : Type 0 where
    unfinished : (record_after es ps cs).finished ≡ false
    within_s : position_at es ps cs ≤ length s
    at : At (open_at es ps cs) (position_at es ps cs)

  -- what a call that lends b, with v after it, tells
  told : (b v : List ℕ) → Octets b → (off : Bool) (l : List Started) (left : List ℕ) (p : ℕ) → b ++ v ≡ drop p s → (x : Response) → ResponseFacts t off b l left p x
      → ((a : Result Answer Refusal) (n : ℕ) → x ≡ answered a n → is_element a ≡ false → n ≡ 0) → ((a : Result Search Refusal) (n : ℕ) → x ≡ searched a n → ⊥)
      → ((end : WaitingEnd) (n : ℕ) → x ≡ answered (Ok (answer.Event (event.End end))) n → outermost_end l ≡ Some f → outermost_end (drop 1 l) ≡ Some f)
      → At l p → At (after_response t b x l) (p + taken_in x)
  unfolding outermost_end
  told b v byte off l left p lies (answered (Ok (answer.Event (event.Start x o))) n) g none unsearched stays (before z y) =
      let g' : ElementFacts t off b l 0 x o = subst (λ (q : ℕ). ElementFacts t off b l q x o) z g.1 in
      inside (rw y (first_end_lem t s rest f w b v byte (lies ∙ ap (λ (q : ℕ). drop q s) z) x o g'))
  told b v byte off l left p lies (answered (Ok (answer.Event (event.Start x o))) n) g none unsearched stays (inside q) = inside (rw q)
  told b v byte off l left p lies (answered (Ok (answer.Event (event.End end))) n) g none unsearched stays (before z y) = before (omega (arith, z, none _ n refl refl)) (rw y)
  told b v byte off l left p lies (answered (Ok (answer.Event (event.End end))) n) g none unsearched stays (inside q) = inside (stays end n refl q)
  told b v byte off l left p lies (answered (Ok (answer.Event (event.Data x o d))) n) g none unsearched stays (before z y) =
      let g' : ElementFacts t off b l 0 x o = subst (λ (q : ℕ). ElementFacts t off b l q x o) z g.1 in
      absurd (no_master_lem d (g.0 ∙ first_master t s rest f w b v byte (lies ∙ ap (λ (q : ℕ). drop q s) z) x o g'))
  told b v byte off l left p lies (answered (Ok (answer.Event (event.Data x o d))) n) g none unsearched stays (inside q) = inside q
  told b v byte off l left p lies (answered (Ok (answer.NeedMore missing)) n) g none unsearched stays (before z y) = before (omega (arith, z, none _ n refl refl)) y
  told b v byte off l left p lies (answered (Ok (answer.NeedMore missing)) n) g none unsearched stays (inside q) = inside q
  told b v byte off l left p lies (answered (Ok answer.Finished) n) g none unsearched stays (before z y) = before (omega (arith, z, none _ n refl refl)) y
  told b v byte off l left p lies (answered (Ok answer.Finished) n) g none unsearched stays (inside q) = inside q
  told b v byte off l left p lies (answered (Err r) n) g none unsearched stays (before z y) = before (omega (arith, z, none _ n refl refl)) y
  told b v byte off l left p lies (answered (Err r) n) g none unsearched stays (inside q) = inside q
  told b v byte off l left p lies (searched a n) g none unsearched stays k = absurd (unsearched a n refl)
  told b v byte off l left p lies silent g none unsearched stays (before z y) = before (omega (arith, z)) y
  told b v byte off l left p lies silent g none unsearched stays (inside q) = inside q

  -- no call finishes
  still_unfinished : (c : Call) (cs : List Call) → Runs es ps (c ∷ cs) → LendsNext s (position_at es ps cs) c → Reading cs → (next es ps (record_after es ps cs) c).finished ≡ false
  unfolding Lent record_after with_settings
  still_unfinished (decoding b) cs run lies k = decode_finished es ps (record_after es ps cs) b ∙ k.unfinished
  still_unfinished (ending b) cs run lies k = go k.at
    where
      go : At (open_at es ps cs) (position_at es ps cs) → (next es ps (record_after es ps cs) (ending b)).finished ≡ false
      go (before z y) =
          let e : b ≡ s = lies ∙ ap (λ (n : ℕ). drop n s) z in
          eof_keeps_finished es ps (record_after es ps cs) b (rw e some) (eof_exits es ps (record_after es ps cs) b) ∙ k.unfinished
      go (inside q) = (cut_not_finished es ps cs b run (outermost_member (open_at es ps cs) f (position_at es ps cs) q (omega (arith, k.within_s, cut)))).1
  still_unfinished (recovering b) cs run lies k = absurd lies
  still_unfinished (allow ids hierarchy oversized) cs run lies k = k.unfinished
  still_unfinished (strictly b) cs run lies k = k.unfinished
  still_unfinished (limit n) cs run lies k = limit_keeps_finished (record_after es ps cs) n ∙ k.unfinished

  step : (c : Call) (cs : List Call) → Runs es ps (c ∷ cs) → LendsNext s (position_at es ps cs) c → Reading cs → Reading (c ∷ cs)
  unfolding Lent record_after history starts_open position
  step c cs run lies k =
      let d = record_after es ps cs in
      let byte : Octets (lent c) = run.octets.0 in
      let v = lends_front s (position_at es ps cs) c lies in
      record {
        unfinished = still_unfinished c cs run lies k;
        within_s = within es ps s cs c byte lies k.within_s;
        at =
            told (lent c) v.0 byte d.settings.allow_oversized (open_at es ps cs) (left_at es ps cs c) (position_at es ps cs) v.1 (last_response es ps cs c) (promised_after es ps cs c run).promised
            (takes_none es ps d c) (no_search es ps d c (lends_no_recovery s (position_at es ps cs) c lies))
            (λ end n e q. subst (λ (x : Response). outermost_end (after_response t (lent c) x (open_at es ps cs)) ≡ Some f) e
            (outermost_stays es ps cs c run end f (n, e) q (omega (arith, k.within_s, cut)))) k.at;
      }

  reading : (cs : List Call) → Runs es ps cs → InOrder es ps s cs → Reading cs
  unfolding InOrder Lent record_after history starts_open position
  reading [] run i = record { unfinished = refl; within_s = omega arith; at = before refl refl }
  reading (c ∷ cs) run i = step c cs run i.0 (reading cs (record { checked = run.checked; octets = run.octets.1 }) i.1)

  -- no call answers the finish
  pub cut_root : (cs : List Call) (c : Call) → Runs es ps (c ∷ cs) → InOrder es ps s (c ∷ cs) → Answers es ps cs c (Ok answer.Finished) → ⊥
  unfolding record_after
  cut_root cs c run i a =
      let q = subst (λ (x : Response). QuietResponse x (next es ps (record_after es ps cs) c)) a.1 (promised_after es ps cs c run).quiet in
      true≢false (sym q.2 ∙ (reading (c ∷ cs) run i).unfinished)

  -- nor is the record ever finished
  pub cut_root_unfinished : (cs : List Call) → Runs es ps cs → InOrder es ps s cs → is_finished (record_after es ps cs) ≡ false
  cut_root_unfinished cs run i = rw (reading cs run i).unfinished
