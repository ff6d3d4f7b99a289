-- Every size in a written document is known: of each header that is written, and so of each Start that the decoder hands
-- out of it, since its position is always the place of a header that was written. Assumes nothing.
use Prim.Native.Nat.{ℕ, ◌+◌, ◌≤◌}
use mathlib.Core.Path.{◌≡◌, refl, sym, ap, subst, ◌∙◌}
use mathlib.Core.Bool.{Bool, true, false, true≢false}
use mathlib.Core.List.{List, [], ◌∷◌, ◌++◌, append_assoc, append-nil}
use native.Mathlib.Omega.{arith}
use lib.ListN.{length, drop, length-append}
use lib.Seq.{drop_at, drop-drop, drop-append-le}
use Rattle.basics.specs.Lists.{every}
use Rattle.basics.proofs.Bools.{absurd_eq, and_both}
use Rattle.tools.specs.Bytes.{Octets}
use Rattle.table.specs.Check.{check_table}
use Rattle.table.specs.Table.{Entry, table_of, data_type_of, is_master}
use Rattle.table.specs.declared.types.TagDataType.TheVariants as type
use Rattle.table.proofs.Rules.{master_is}
use Rattle.tag_parse.specs.Header.{numeric, read_header, after_id, read_tag_id}
use Rattle.tag_parse.specs.declared.types.EBMLSize.{EBMLSize}
use Rattle.tag_parse.specs.declared.types.EBMLSize.TheVariants.{Known}
use Rattle.tag_parse.specs.declared.types.TagHeader.{TagHeader}
use Rattle.tag_parse.specs.declared.types.TagValue.{TagValue}
use Rattle.tag_parse.specs.declared.types.TagValue.TheVariants as told
use Rattle.tag_parse.proofs.Headers.{header_local, header_spec}
use Rattle.decoder_rules.specs.declared.types.Answer.{Answer}
use Rattle.decoder_rules.specs.declared.types.Answer.TheVariants as answer
use Rattle.decoder_rules.specs.declared.types.Event.TheVariants as event
use Rattle.decoder_rules.specs.declared.types.Search.{Search}
use Rattle.guarantees.specs.Calls.{Call, lent, Response, answered, searched, silent, record_after, history, Lent}
use Rattle.guarantees.specs.CutRecords.{InOrder, is_known_end, started_by, ever_started, every_known}
use Rattle.guarantees.specs.History.{Started, declared_end, header_end, end_after, taken_in, position}
use Rattle.guarantees.specs.Promises.{value_kind, Runs, last_response, open_at, left_at, position_at}
use Rattle.guarantees.proofs.AnyCalls.{ResponseFacts, MeasuredResponse, promised_after}
use Rattle.guarantees.proofs.FullEnds.{no_search}
use Rattle.guarantees.proofs.InOrder.{is_element, takes_none, lends_front, lends_no_recovery, within}
use Rattle.tag_writer.specs.Document.{Element, value, master, Run, none, then, payload, header_bytes, size_of_run, element_bytes, run_bytes}
use Rattle.tag_writer.specs.Items.{marks_of, run_of}
use Rattle.tag_writer.specs.Write.{good_element, good_run, write}
use Rattle.tag_writer.proofs.Asked.{asked_value, asked_master, asked_run}
use Rattle.tag_writer.proofs.HeaderBack.{head_of, header_back}
use Rattle.tag_writer.proofs.RoundTrip.{is_written}
use Rattle.tag_writer.proofs.ValueBack.{not_numeric, value_short, value_typed}
use Rattle.written.specs.Cut.{written}
use Rattle.written.specs.Sizes as sizes
use Rattle.written.specs.Sizes.{KnownSizes, StartsKnown}
use Rattle.written.proofs.Cut.{written_bytes}
use Rattle.std.specs.Prelude.{Err, Ok, Result}
use Rattle.tag_parse.specs.declared.types.ParseError.{ParseError}
use Rattle.decoder_rules.specs.declared.types.Refusal.{Refusal}
use Rattle.tools.specs.declared.status.Status.{Status}
use Rattle.tools.specs.declared.status.Status.TheVariants as status

-- ---- of what is written

module _ (t : List Entry) where
  mutual
    unfolding element_bytes is_master

    element_known : (opened : List ℕ) (e : Element) (rest : List ℕ) → good_element t opened e ≡ true → KnownSizes t rest → KnownSizes t (element_bytes e ++ rest)
    element_known opened (value x v) rest good k =
        let n = length (payload v) in
        let H = header_bytes x n in
        let g = asked_value t opened x v good in
        let typed = value_typed (data_type_of t x) v g.kind in
        let read : read_header t ((H ++ payload v) ++ rest) ≡ Ok (status.Complete (head_of t x n)) =
        ap (read_header t) (append_assoc H (payload v) rest) ∙ header_back t x n (payload v ++ rest) g.back (omega (arith, g.size)) (value_short (data_type_of t x) v g.kind) in
        let left : drop (length H + n) ((H ++ payload v) ++ rest) ≡ rest = drop_at (H ++ payload v) rest (length H + n) (length-append H (payload v)) in
        sizes.value (head_of t x n) n read (λ m. true≢false (sym (ap is_master m) ∙ typed.0)) refl (subst (KnownSizes t) (sym left) k)
    element_known opened (master x r) rest good k =
        let n = size_of_run r in
        let H = header_bytes x n in
        let g = asked_master t opened x r good in
        let kind = master_is (data_type_of t x) g.kind in
        let assoc = append_assoc H (run_bytes r) rest in
        let read : read_header t ((H ++ run_bytes r) ++ rest) ≡ Ok (status.Complete (head_of t x n)) =
        ap (read_header t) assoc ∙ header_back t x n (run_bytes r ++ rest) g.back (omega (arith, g.size)) (not_numeric (data_type_of t x) n (ap numeric kind)) in
        let left : drop (length H) ((H ++ run_bytes r) ++ rest) ≡ run_bytes r ++ rest = ap (drop (length H)) assoc ∙ drop_at H (run_bytes r ++ rest) (length H) refl in
        sizes.master (head_of t x n) n read kind refl (subst (KnownSizes t) (sym left) (run_known (opened ++ (x ∷ [])) r rest g.children k))

    -- a run that is well placed has known sizes alone, where what stands after it has
    pub run_known : (opened : List ℕ) (r : Run) (rest : List ℕ) → good_run t opened r ≡ true → KnownSizes t rest → KnownSizes t (run_bytes r ++ rest)
    run_known opened none rest good k = k
    run_known opened (then e r) rest good k =
        let g = asked_run t opened e r good in
        subst (KnownSizes t) (sym (append_assoc (element_bytes e) (run_bytes r) rest)) (element_known opened e (run_bytes r ++ rest) g.0 (run_known opened r rest g.1 k))

-- ---- of one call

-- no value is a Master's
no_master_lem : (v : TagValue) → value_kind v ≡ type.Master → ⊥
no_master_lem (told.UnsignedInt x) e = let z : ◌≡◌ {A = ℕ} 0 1 = cc in absurd_eq z
no_master_lem (told.Integer x) e = let z : ◌≡◌ {A = ℕ} 0 1 = cc in absurd_eq z
no_master_lem (told.Utf8 x) e = let z : ◌≡◌ {A = ℕ} 0 1 = cc in absurd_eq z
no_master_lem (told.Binary x) e = let z : ◌≡◌ {A = ℕ} 0 1 = cc in absurd_eq z
no_master_lem (told.Float x) e = let z : ◌≡◌ {A = ℕ} 0 1 = cc in absurd_eq z
no_master_lem (told.Raw x) e = let z : ◌≡◌ {A = ℕ} 0 1 = cc in absurd_eq z

-- no byte is no header
no_header : (t : List Entry) (h : TagHeader) → read_header t [] ≡ Ok (status.Complete h) → ⊥
unfolding read_header after_id read_tag_id
no_header t h e = let z : ◌≡◌ {A = ℕ} 0 1 = cc in absurd_eq z

-- what stands after the header of a Master, and its size
record Inside (t : List Entry) (s : List ℕ) (h : TagHeader) : Type 0 where
  size : ℕ
  is_known : h.size ≡ Known size
  left : KnownSizes t (drop h.len s)

master_inside : (t : List Entry) (s : List ℕ) (h : TagHeader) → read_header t s ≡ Ok (status.Complete h) → h.kind ≡ type.Master → KnownSizes t s → Inside t s h
master_inside t s h r m sizes.no_more = absurd (no_header t h r)
master_inside t s h r m (sizes.master g n q k z left) =
    let same : g ≡ h = cc in
    subst (Inside t s) same (record { size = n; is_known = z; left = left })
master_inside t s h r m (sizes.value g n q k z left) =
    let same : g ≡ h = cc in
    absurd (k (ap (λ (x : TagHeader). x.kind) same ∙ m))

-- what stands after an element that is no Master
value_after : (t : List Entry) (s : List ℕ) (h : TagHeader) (n : ℕ) → read_header t s ≡ Ok (status.Complete h) → h.size ≡ Known n → (h.kind ≡ type.Master → ⊥) → KnownSizes t s
    → KnownSizes t (drop (h.len + n) s)
value_after t s h n r z m sizes.no_more = absurd (no_header t h r)
value_after t s h n r z m (sizes.master g k q i y left) =
    let same : g ≡ h = cc in
    absurd (m (sym (ap (λ (x : TagHeader). x.kind) same) ∙ i))
value_after t s h n r z m (sizes.value g k q i y left) =
    let same : g ≡ h = cc in
    let one : Known k ≡ Known n = sym y ∙ ap (λ (x : TagHeader). x.size) same ∙ z in
    let count : k ≡ n = cc in
    let len : g.len ≡ h.len = ap (λ (x : TagHeader). x.len) same in
    let all : g.len + k ≡ h.len + n = omega (arith, len, count) in
    subst (λ (j : ℕ). KnownSizes t (drop j s)) all left

-- where it ends is known
end_known : (t : List Entry) (b : List ℕ) (o : ℕ) (h : TagHeader) (n : ℕ) → read_header t b ≡ Ok (status.Complete h) → h.size ≡ Known n → is_known_end (header_end o (read_header t b)) ≡ true
end_known t b o h n r z = ap (λ (y : Result (Status TagHeader) ParseError). is_known_end (header_end o y)) r ∙ ap (λ (y : EBMLSize). is_known_end (end_after (o + h.len) y)) z

-- where a call is made at a place of known sizes, on the front b of what is there, and tells x: the place after it is
-- one too, and of the Starts all are of known size
module _ (t : List Entry) (w : List ℕ) (p : ℕ) (b u : List ℕ) (byte : Octets b) (lies : b ++ u ≡ drop p w) (at : KnownSizes t (drop p w)) where
  longer : (h : TagHeader) → read_header t b ≡ Ok (status.Complete h) → read_header t (drop p w) ≡ Ok (status.Complete h)
  longer h r = ap (read_header t) (sym lies) ∙ header_local t b u (byte 0) (rw r) ∙ r

  -- what is to be shown of what a call tells, where these Starts were handed out before
  abbrev Keeps : List Started → Response → Type 0
  Keeps l x = KnownSizes t (drop (p + taken_in x) w) × (every (λ (m : Started). is_known_end m.end) (started_by t b x l) ≡ true)

  stays : (n : ℕ) → n ≡ 0 → KnownSizes t (drop (p + n) w)
  stays n e = let z : p ≡ p + n = omega (arith, e) in subst (λ (j : ℕ). KnownSizes t (drop j w)) z at

  tells : (l : List Started) (k : every (λ (m : Started). is_known_end m.end) l ≡ true) (strict off : Bool) (starts : List Started) (left : List ℕ) (x : Response)
      → ResponseFacts t off b starts left p x → MeasuredResponse strict t b p x
      → ((a : Result Answer Refusal) (n : ℕ) → x ≡ answered a n → is_element a ≡ false → n ≡ 0) → ((a : Result Search Refusal) (n : ℕ) → x ≡ searched a n → ⊥)
      → Keeps l x
  unfolding every declared_end
  tells l k strict off starts left (answered (Ok (answer.Event (event.Start x o))) n) g m zero-taken unsearched =
      let h = m.its in
      let same : g.1.heads.its ≡ h = (let q : Ok (status.Complete g.1.heads.its) ≡ Ok (status.Complete h) = sym g.1.heads.is_read ∙ m.read in cc) in
      let id : h.id ≡ x = sym (ap (λ (y : TagHeader). y.id) same) ∙ g.1.heads.same_id in
      let kind : h.kind ≡ type.Master = (header_spec t b h m.read).kind ∙ ap (data_type_of t) id ∙ g.0 in
      let i = master_inside t (drop p w) h (longer h m.read) kind at in
      let known : is_known_end (header_end o (read_header t b)) ≡ true = end_known t b o h i.size m.read i.is_known in
      let sum : p + h.len ≡ p + n = omega (arith, m.no_more) in
      let place : drop h.len (drop p w) ≡ drop (p + n) w = drop-drop h.len p w ∙ ap (λ (j : ℕ). drop j w) sum in
      (subst (KnownSizes t) place i.left, and_both known k)
  tells l k strict off starts left (answered (Ok (answer.Event (event.End end))) n) g m zero-taken unsearched = (stays n (zero-taken _ n refl refl), k)
  tells l k strict off starts left (answered (Ok (answer.Event (event.Data x o v))) n) g m zero-taken unsearched =
      let h = m.its in
      let same : g.1.heads.its ≡ h = (let q : Ok (status.Complete g.1.heads.its) ≡ Ok (status.Complete h) = sym g.1.heads.is_read ∙ m.read in cc) in
      let id : h.id ≡ x = sym (ap (λ (y : TagHeader). y.id) same) ∙ g.1.heads.same_id in
      let kind : h.kind ≡ value_kind v = (header_spec t b h m.read).kind ∙ ap (data_type_of t) id ∙ sym g.0 in
      let i = value_after t (drop p w) h m.size (longer h m.read) m.known (λ q. no_master_lem v (sym kind ∙ q)) at in
      let sum : p + (h.len + m.size) ≡ p + n = omega (arith, m.count) in
      let place : drop (h.len + m.size) (drop p w) ≡ drop (p + n) w = drop-drop (h.len + m.size) p w ∙ ap (λ (j : ℕ). drop j w) sum in
      (subst (KnownSizes t) place i, k)
  tells l k strict off starts left (answered (Ok (answer.NeedMore missing)) n) g m zero-taken unsearched = (stays n (zero-taken _ n refl refl), k)
  tells l k strict off starts left (answered (Ok answer.Finished) n) g m zero-taken unsearched = (stays n (zero-taken _ n refl refl), k)
  tells l k strict off starts left (answered (Err r) n) g m zero-taken unsearched = (stays n (zero-taken _ n refl refl), k)
  tells l k strict off starts left (searched a n) g m zero-taken unsearched = absurd (unsearched a n refl)
  tells l k strict off starts left silent g m zero-taken unsearched = (stays 0 refl, k)

-- ---- of any calls

module _ (es ps w : List ℕ) (checked : check_table es ps ≡ (Ok tt)) (all : KnownSizes (table_of es ps) w) (s rest : List ℕ) (is : s ++ rest ≡ w) where
  abbrev t : List Entry
  t = table_of es ps

  -- these calls have read to a place of known sizes, and of the Starts all are of known size
  record Reading (cs : List Call) : Type 0 where
    inside : position_at es ps cs ≤ length s
    at : KnownSizes t (drop (position_at es ps cs) w)
    known : every_known t (history es ps cs) ≡ true

  reading : (cs : List Call) → Lent cs → InOrder es ps s cs → Reading cs
  unfolding InOrder Lent record_after history position ever_started every
  reading [] l i = record { inside = omega arith; at = all; known = refl }
  reading (c ∷ cs) l i =
      let k = reading cs l.1 i.1 in
      let p = position_at es ps cs in
      let d = record_after es ps cs in
      let run : Runs es ps (c ∷ cs) = record { checked = checked; octets = l } in
      let v = lends_front s p c i.0 in
      let lies : lent c ++ (v.0 ++ rest) ≡ drop p w =
      sym (append_assoc (lent c) v.0 rest) ∙ ap (λ (y : List ℕ). y ++ rest) v.1 ∙ sym (drop-append-le p s rest k.inside) ∙ ap (drop p) is in
      let r = tells t w p (lent c) (v.0 ++ rest) l.0 lies k.at (ever_started t (history es ps cs)) k.known d.settings.strict d.settings.allow_oversized
      (open_at es ps cs) (left_at es ps cs c) (last_response es ps cs c) (promised_after es ps cs c run).promised (promised_after es ps cs c run).measured
      (takes_none es ps d c) (no_search es ps d c (lends_no_recovery s p c i.0)) in
      record { inside = within es ps s cs c l.0 i.0 k.inside; at = r.0; known = r.1 }

-- where all sizes are known, so are those of the Starts that are handed out
pub known_starts : (es ps w : List ℕ) → check_table es ps ≡ Ok tt → KnownSizes (table_of es ps) w → StartsKnown es ps w
known_starts es ps w checked all = record { known = λ s rest is cs l i. (reading es ps w checked all s rest is cs l i).known }

-- ---- of what the writer writes

module _ (es ps items vals out : List ℕ) (n : ℕ) (e : (write es ps items vals out).0 ≡ Ok n) where
  -- every size in what is written is known
  pub written_sizes : KnownSizes (table_of es ps) (written es ps items vals out n)
  written_sizes =
      let doc : Run = run_of (marks_of vals items) in
      let k = run_known (table_of es ps) [] doc [] (is_written es ps items vals out n e).good sizes.no_more in
      subst (KnownSizes (table_of es ps)) (append-nil (run_bytes doc) ∙ sym (written_bytes es ps items vals out n e)) k

  -- and so is that of every Start that the decoder hands out of it
  pub written_starts : StartsKnown es ps (written es ps items vals out n)
  written_starts = known_starts es ps (written es ps items vals out n) (is_written es ps items vals out n e).passed written_sizes
