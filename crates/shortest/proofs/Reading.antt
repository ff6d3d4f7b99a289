-- What the decoder reads as marks, with known sizes and floats in 8 bytes, says their document: a Data takes its
-- element whole, a Start its header alone, and a Master of known size ends where its End comes, since the position
-- never passes the end of an open master, and an End comes only where its master is full. Assumes nothing.
use Prim.Native.Nat.{ℕ, suc, ◌+◌, ◌≤◌}
use mathlib.Core.Path.{◌≡◌, refl, sym, ap, subst, ◌∙◌}
use mathlib.Core.Bool.{Bool, true, false≢true}
use mathlib.Core.List.Memᴰ
use mathlib.Core.List.{List, [], ◌∷◌, ◌++◌, map, append_assoc, append-nil, head-eq_of_cons-eq, tail-eq_of_cons-eq}
use mathlib.Core.Logic.{⊎_elim}
use native.Mathlib.Omega.{arith}
use borrow.Author.Tests.{eqb-true}
use lib.Dec.{eqb}
use lib.ListN.{length, take, drop, length-drop}
use lib.Seq.{drop-drop}
use Rattle.basics.specs.Lists.{every}
use Rattle.basics.proofs.Bools.{both, absurd_eq}
use Rattle.tools.specs.Bytes.{Octets}
use Rattle.table.specs.Check.{check_table}
use Rattle.table.specs.Table.{Entry, table_of}
use Rattle.table.specs.declared.types.TagDataType.TheVariants.{Master}
use Rattle.tag_parse.specs.Header.{read_header}
use Rattle.tag_parse.specs.Payload.{value_of}
use Rattle.tag_parse.specs.declared.types.EBMLSize.{EBMLSize}
use Rattle.tag_parse.specs.declared.types.EBMLSize.TheVariants.{Known, Unknown}
use Rattle.tag_parse.specs.declared.types.TagHeader.{TagHeader}
use Rattle.tag_parse.specs.declared.types.TagValue.{TagValue}
use Rattle.tag_parse.specs.declared.types.TagValue.TheVariants as value
use Rattle.tag_parse.proofs.Cases.{octets_drop}
use Rattle.decoder_rules.specs.Deciding.{least_header}
use Rattle.decoder_rules.specs.Moving.{decode}
use Rattle.decoder_rules.specs.Record.{with_settings}
use Rattle.decoder_rules.specs.Run.{Told, event, need_more, told_by, Calls, goes_on_with, in_a_row, decode_calls}
use Rattle.decoder_rules.specs.declared.types.Answer.{Answer}
use Rattle.decoder_rules.specs.declared.types.Answer.TheVariants as answer
use Rattle.decoder_rules.specs.declared.types.Event.{Event}
use Rattle.decoder_rules.specs.declared.types.Event.TheVariants as handed
use Rattle.decoder_rules.specs.declared.types.WaitingEnd.{WaitingEnd}
use Rattle.tag_decoder.proofs.CallLaws.{end_takes_nothing}
use Rattle.tag_decoder_laws.proofs.AppendedBytes.{need_more_takes_none}
use Rattle.guarantees.specs.Calls.{Call, decoding, strictly, Response, answered, record_after, history, Lent}
use Rattle.guarantees.specs.History.{Started, declared_end, header_end, end_after, after_response, starts_open, position, child_test_never_off}
use Rattle.guarantees.specs.Promises.{element_offset, Runs, last_response, Answers, open_at, position_at, HeaderOf, HeaderAlone, WholeData, EndsInside}
use Rattle.guarantees.specs.Settling.{is_strict_after}
use Rattle.guarantees.proofs.FullEnds.{end_is_full}
use Rattle.guarantees.proofs.Guarantees.{never_off_on, offset_is_position, element_header, ends_inside, start_takes_header, data-whole}
use Rattle.guarantees.proofs.InOrder.{within}
use Rattle.tag_writer.specs.Document.{Value, Element, value as one_value, master, Run, none, then}
use Rattle.tag_writer.specs.Items.{Mark, start, end, datum, matched, run_of, element_marks, run_marks}
use Rattle.tag_writer.specs.ReadBack.{said_value, said, IsReadAs}
use Rattle.tag_writer.proofs.Marks.{matched_marks}
use Rattle.shortest.specs.Says.{is_float, SaysDatum, SaysElement, Says}
use Rattle.shortest.specs.Shortest.{is_known_size, has_known_size, is_plain}
use Rattle.shortest.proofs.Alone.{says_alone}
use Rattle.std.specs.Prelude.{Err, Ok, Result, Some}
use Rattle.tag_parse.specs.declared.types.ParseError.{ParseError}
use Rattle.decoder_rules.specs.declared.types.Refusal.{Refusal}
use Rattle.tools.specs.declared.status.Status.{Status}
use Rattle.tools.specs.declared.status.Status.TheVariants as status

-- ---- sizes

-- a header that was read of a known size that passes the test
known_size_lem : (test : ℕ → Bool) (r : Result (Status TagHeader) ParseError) (h : TagHeader) → r ≡ Ok (status.Complete h) → has_known_size test r ≡ true → (n : ℕ) × (h.size ≡ Known n) × (test n ≡ true)
known_size_lem test r h e k = go h.size refl (sym (ap (has_known_size test) e) ∙ k)
  where
    go : (z : EBMLSize) → h.size ≡ z → is_known_size test z ≡ true → (n : ℕ) × (h.size ≡ Known n) × (test n ≡ true)
    go Unknown q f = absurd (false≢true f)
    go (Known n) q f = (n, q, f)

-- where it ends
ends_at : (t : List Entry) (s : List ℕ) (p n : ℕ) (h : TagHeader) → read_header t s ≡ Ok (status.Complete h) → h.size ≡ Known n → declared_end t p s ≡ Some (p + h.len + n)
unfolding declared_end
ends_at t s p n h e k = ap (header_end p) e ∙ ap (end_after (p + h.len)) k

-- what was read is one header
one_header : {r : Result (Status TagHeader) ParseError} {g h : TagHeader} → r ≡ Ok (status.Complete g) → r ≡ Ok (status.Complete h) → g ≡ h
one_header e f = cc

-- where a master that ends at f is opened, inside all that are open, a place that does not pass f passes no end
opened_inside : (p f : ℕ) (m : Started) (l : List Started) → p ≤ f → m.end ≡ Some f → EndsInside f l → EndsInside p (m ∷ l)
opened_inside p f m l h e all o i g d = ⊎_elim here (λ j. let le = all o j g d in omega (arith, le, h)) (Memᴰ.cases_cons i)
  where
    here : o ≡ m → p ≤ g
    here same =
        let q : Some f ≡ Some g = sym e ∙ ap (λ (z : Started). z.end) (sym same) ∙ d in
        let it : f ≡ g = cc in
        omega (arith, it, h)

module _ (es ps w : List ℕ) (strict : Bool) (checked : check_table es ps ≡ (Ok tt)) (byte : Octets w) where
  abbrev t : List Entry
  t = table_of es ps

  -- ---- calls of `decode` in a row, each lent all that is unread

  -- what is unread after these calls
  abbrev unread : List Call → List ℕ
  unread cs = drop (position_at es ps cs) w

  -- one call more
  abbrev after : List Call → List Call
  after cs = decoding (unread cs) ∷ cs

  abbrev answer_to : List Call → Result Answer Refusal
  answer_to cs = (decode es ps (record_after es ps cs) (unread cs)).answer

  abbrev taken_by : List Call → ℕ
  taken_by cs = (decode es ps (record_after es ps cs) (unread cs)).taken

  -- after these calls come these events, and then nothing is unread
  unfoldable Tells : List Call → List Event → Type 0
  Tells cs [] = unread cs ≡ []
  Tells cs (e ∷ evs) = (answer_to cs ≡ Ok (answer.Event e)) × Tells (after cs) evs

  unread_after : (cs : List Call) → drop (taken_by cs) (unread cs) ≡ unread (after cs)
  unfolding history position
  unread_after cs = drop-drop (taken_by cs) (position_at es ps cs) w

  -- the calls from the next one on, n of them after it, where it answers a
  abbrev goes : ℕ → List Call → Result Answer Refusal → Calls
  goes n cs a = goes_on_with (in_a_row (decode es ps) n) a (record { told = told_by a; taken = taken_by cs }) (record_after es ps (after cs)) (drop (taken_by cs) (unread cs))

  abbrev told_in : Calls → List Told
  told_in c = map (λ x. x.told) c.calls

  last_tells : (cs : List Call) (a : Result Answer Refusal) → answer_to cs ≡ a → told_in (goes 0 cs a) ≡ need_more least_header ∷ [] → (goes 0 cs a).rest ≡ [] → unread cs ≡ []
  last_tells cs (Ok (answer.Event e)) f q r = let z : ◌≡◌ {A = ℕ} 0 1 = cc in absurd_eq z
  last_tells cs (Ok (answer.NeedMore m)) f q r = ap (λ (n : ℕ). drop n (unread cs)) (sym (need_more_takes_none es ps (record_after es ps cs) (unread cs) (rw f))) ∙ r
  last_tells cs (Ok answer.Finished) f q r = let z : ◌≡◌ {A = ℕ} 0 1 = cc in absurd_eq z
  last_tells cs (Err e) f q r = let z : ◌≡◌ {A = ℕ} 0 1 = cc in absurd_eq z

  -- these events are told after these calls, then need more with no byte left
  abbrev ToldAfter : List Call → List Event → Type 0
  ToldAfter cs evs =
      let c = decode_calls (suc (length evs)) es ps (record_after es ps cs) (unread cs) in
      (told_in c ≡ map event evs ++ (need_more least_header ∷ [])) × (c.rest ≡ [])

  first_tells : (e : Event) (evs : List Event) (cs : List Call) (a : Result Answer Refusal) → answer_to cs ≡ a → told_in (goes (suc (length evs)) cs a) ≡ event e ∷ (map event evs ++ (need_more least_header ∷ []))
      → (goes (suc (length evs)) cs a).rest ≡ [] → (answer_to cs ≡ Ok (answer.Event e)) × ToldAfter (after cs) evs
  unfolding record_after
  first_tells e evs cs (Ok (answer.Event x)) f q r =
      let same : event x ≡ event e = head-eq_of_cons-eq q in
      let it : x ≡ e = cc in
      let left = unread_after cs in
      (f ∙ ap (λ e. Ok (answer.Event e)) it, (rw (← left) (tail-eq_of_cons-eq q), rw (← left) r))
  first_tells e evs cs (Ok (answer.NeedMore m)) f q r = let z : ◌≡◌ {A = ℕ} 0 1 = cc in absurd_eq z
  first_tells e evs cs (Ok answer.Finished) f q r = let z : ◌≡◌ {A = ℕ} 0 1 = cc in absurd_eq z
  first_tells e evs cs (Err x) f q r = let z : ◌≡◌ {A = ℕ} 0 1 = cc in absurd_eq z

  -- the calls that `IsReadAs` speaks of are such
  tells : (evs : List Event) (cs : List Call) → ToldAfter cs evs → Tells cs evs
  unfolding Tells in_a_row record_after
  tells [] cs q = last_tells cs (answer_to cs) refl q.0 q.1
  tells (e ∷ evs) cs q = let r = first_tells e evs cs (answer_to cs) refl q.0 q.1 in (r.0, tells evs (after cs) r.1)

  -- ---- one call

  -- the child-size test was never off, the mode is that of the reading, and the position has passed no end of a master
  -- that is open
  record Calm (cs : List Call) : Type 0 where
    lent : Lent cs
    on : child_test_never_off cs ≡ true
    mode : is_strict_after (history es ps cs) ≡ strict
    inside : EndsInside (position_at es ps cs) (open_at es ps cs)
    place : position_at es ps cs ≤ length w

  runs_after : (cs : List Call) → Calm cs → Runs es ps (after cs)
  unfolding Lent
  runs_after cs k = record { checked = checked; octets = (octets_drop (position_at es ps cs) w byte, k.lent) }

  -- so it is after one call more, if that has passed no end either
  calm_after : (cs : List Call) → Calm cs → EndsInside (position_at es ps (after cs)) (open_at es ps (after cs)) → Calm (after cs)
  unfolding Lent history position child_test_never_off is_strict_after
  calm_after cs k i = record {
    lent = (runs_after cs k).octets;
    on = k.on;
    mode = k.mode;
    inside = i;
    place = within es ps w cs (decoding (unread cs)) (octets_drop (position_at es ps cs) w byte) ([], append-nil (unread cs)) k.place;
  }

  module _ (cs : List Call) (k : Calm cs) (e : Event) (a : answer_to cs ≡ Ok (answer.Event e)) where
    responds : last_response es ps cs (decoding (unread cs)) ≡ answered (Ok (answer.Event e)) (taken_by cs)
    responds = ap (λ (x : Result Answer Refusal). answered x (taken_by cs)) a

    -- the masters that are open after it
    open_after : open_at es ps (after cs) ≡ after_response t (unread cs) (answered (Ok (answer.Event e)) (taken_by cs)) (open_at es ps cs)
    unfolding history starts_open
    open_after = ap (λ (x : Response). after_response t (unread cs) x (open_at es ps cs)) responds

    place_after : position_at es ps (after cs) ≡ position_at es ps cs + taken_by cs
    unfolding history position
    place_after = refl

  -- an element stands at the position: its header, and where its size is known, that it ends inside all that are open
  record Heading (cs : List Call) (e : Event) (o : ℕ) : Type 0 where
    at : o ≡ position_at es ps cs
    head : HeaderOf t (unread cs) e
    fits : (n : ℕ) → head.its.size ≡ Known n → EndsInside (position_at es ps cs + head.its.len + n) (open_at es ps cs)

  heading : (cs : List Call) → Calm cs → (e : Event) → answer_to cs ≡ Ok (answer.Event e) → (o : ℕ) → element_offset e ≡ Some o → Heading cs e o
  heading cs k e a o i =
      let c = decoding (unread cs) in
      let run = runs_after cs k in
      let q : Answers es ps cs c (Ok (answer.Event e)) = (taken_by cs, responds cs k e a) in
      let at : o ≡ position_at es ps cs = offset_is_position es ps cs c run e o i q in
      let head : HeaderOf t (unread cs) e = element_header es ps cs c run e o i q in
      let ends : (n : ℕ) → head.its.size ≡ Known n → declared_end t o (unread cs) ≡ Some (position_at es ps cs + head.its.len + n) =
      λ n f. ap (λ (z : ℕ). declared_end t z (unread cs)) at ∙ ends_at t (unread cs) (position_at es ps cs) n head.its head.read f in
      record { at = at; head = head; fits = λ n f. ends_inside es ps cs c run (never_off_on cs k.on) e o (position_at es ps cs + head.its.len + n) i q (ends n f) }

  -- ---- what is read

  -- these marks are to come, while these masters are open: the calls so far, and the events that say the marks
  record At (l : List Started) (rest : List Mark) : Type 0 where
    calls : List Call
    calm : Calm calls
    opened : open_at es ps calls ≡ l
    events : List Event
    told : Tells calls events
    same : map (said w) events ≡ rest
    plain : every (is_plain t w) events ≡ true

  -- ---- a Data

  -- of a float, its size
  wide_is : (o n : ℕ) (v : TagValue) (h : TagHeader) → read_header t (drop o w) ≡ Ok (status.Complete h) → h.size ≡ Known n → is_plain t w (handed.Data 0 o v) ≡ true → is_float (said_value w v) ≡ true → n ≡ 8
  wide_is o n (value.UnsignedInt m) h r k p f = absurd (false≢true f)
  wide_is o n (value.Integer z) h r k p f = absurd (false≢true f)
  wide_is o n (value.Utf8 x) h r k p f = absurd (false≢true f)
  wide_is o n (value.Binary x) h r k p f = absurd (false≢true f)
  wide_is o n (value.Float b) h r k p f =
      let z = known_size_lem (λ m. eqb m 8) (read_header t (drop o w)) h r p in
      let q : Known z.0 ≡ Known n = sym z.1 ∙ k in
      let same : z.0 ≡ n = cc in
      sym same ∙ eqb-true z.0 8 z.2
  wide_is o n (value.Raw x) h r k p f = absurd (false≢true f)

  -- a Data is read: what stands after it, and that it says its value
  record Datum (cs : List Call) (x : ℕ) (v : Value) : Type 0 where
    calm : Calm (after cs)
    opened : open_at es ps (after cs) ≡ open_at es ps cs
    says : SaysDatum strict t (unread cs) x v (unread (after cs))

  data-read : (cs : List Call) → Calm cs → (x o : ℕ) (v : TagValue) → answer_to cs ≡ Ok (answer.Event (handed.Data x o v)) → is_plain t w (handed.Data x o v) ≡ true → Datum cs x (said_value w v)
  data-read cs k x o v a plain =
      let p = position_at es ps cs in
      let e = handed.Data x o v in
      let n = taken_by cs in
      let g = heading cs k e a o refl in
      let d : WholeData strict t (unread cs) o n v =
      subst (λ (b : Bool). WholeData b t (unread cs) o n v) k.mode (data-whole es ps cs (decoding (unread cs)) (runs_after cs k) x o n v (responds cs k e a)) in
      let h = g.head.its in
      let one : d.its ≡ h = one_header d.read g.head.read in
      let len = ap (λ (z : TagHeader). z.len) one in
      let known : h.size ≡ Known d.size = sym (ap (λ (z : TagHeader). z.size) one) ∙ d.known in
      let opened = open_after cs k e a in
      let sum : p + h.len + d.size ≡ position_at es ps (after cs) = omega (arith, place_after cs k e a, d.count, len) in
      let inside = subst (EndsInside (position_at es ps (after cs))) (sym opened) (subst (λ (z : ℕ). EndsInside z (open_at es ps cs)) sum (g.fits d.size known)) in
      let whole : h.len + d.size ≤ length (unread cs) = omega (arith, d.count, d.within, len) in
      let lies : p + h.len + d.size ≤ length w = omega (arith, whole, length-drop p w, k.place) in
      let from : drop h.len (unread cs) ≡ drop (p + h.len) w = drop-drop h.len p w in
      let read : value_of strict h.kind (take d.size (drop (p + h.len) w)) (record { begin = o + h.len; end = o + n }) ≡ Ok v = rw (← from, ← one) d.value in
      let says = says_alone w (p + h.len) d.size lies strict h.kind (record { begin = o + h.len; end = o + n }) v (omega (arith, g.at)) (omega (arith, g.at, d.count, len)) read in
      let last : unread (after cs) ≡ drop (h.len + d.size) (unread cs) = sym (unread_after cs) ∙ (let z : n ≡ h.len + d.size = omega (arith, d.count, len) in ap (λ (z : ℕ). drop z (unread cs)) z) in
      record {
        calm = calm_after cs k inside;
        opened = opened;
        says = record {
          size = d.size;
          headed = record { its = h; read = g.head.read; id = g.head.same_id; known = known; whole = whole; after = last };
          says = rw from says;
          wide = wide_is o d.size v h (ap (λ (z : ℕ). read_header t (drop z w)) g.at ∙ g.head.read) known plain;
        };
      }

  -- the same with its mark, and those after it
  datum_read : (x : ℕ) (v : Value) (l : List Started) (rest : List Mark) (a : At l (datum x v ∷ rest)) → (b : At l rest) × SaysDatum strict t (unread a.calls) x v (unread b.calls)
  unfolding Tells every
  datum_read x v l rest a = go a.events a.told a.same a.plain
    where
      go : (evs : List Event) → Tells a.calls evs → map (said w) evs ≡ datum x v ∷ rest → every (is_plain t w) evs ≡ true → (b : At l rest) × SaysDatum strict t (unread a.calls) x v (unread b.calls)
      go [] tell same plain = let z : ◌≡◌ {A = ℕ} 0 1 = cc in absurd_eq z
      go (handed.Start y o ∷ evs) tell same plain = let z : ◌≡◌ {A = ℕ} 0 1 = cc in absurd_eq z
      go (handed.End e ∷ evs) tell same plain = let z : ◌≡◌ {A = ℕ} 0 1 = cc in absurd_eq z
      go (handed.Data y o u ∷ evs) tell same plain =
          let first : datum y (said_value w u) ≡ datum x v = head-eq_of_cons-eq same in
          let id : y ≡ x = cc in
          let said-so : said_value w u ≡ v = cc in
          let p = both (is_plain t w (handed.Data y o u)) (every (is_plain t w) evs) plain in
          let d = data-read a.calls a.calm y o u tell.0 p.left in (
            record { calls = after a.calls; calm = d.calm; opened = d.opened ∙ a.opened; events = evs; told = tell.1; same = tail-eq_of_cons-eq same; plain = p.right },
            subst (λ (z : ℕ). SaysDatum strict t (unread a.calls) z v (unread (after a.calls))) id
                (subst (λ (z : Value). SaysDatum strict t (unread a.calls) y z (unread (after a.calls))) said-so d.says),
          )

  -- ---- a Start

  -- a master that is open was read: its header, and where it ends
  record Inside (cs : List Call) (x : ℕ) (l : List Started) (rest : List Mark) : Type 0 where
    its : TagHeader
    size : ℕ
    read : read_header t (unread cs) ≡ Ok (status.Complete its)
    id : its.id ≡ x
    kind : its.kind ≡ Master
    known : its.size ≡ Known size
    it : Started
    ends : it.end ≡ Some (position_at es ps cs + its.len + size)
    at : At (it ∷ l) rest
    place : position_at es ps at.calls ≡ position_at es ps cs + its.len

  start_read : (x : ℕ) (l : List Started) (rest : List Mark) (a : At l (start x ∷ rest)) → Inside a.calls x l rest
  unfolding Tells every
  start_read x l rest a = go a.events a.told a.same a.plain
    where
      cs : List Call
      cs = a.calls

      p : ℕ
      p = position_at es ps a.calls

      opening : (o : ℕ) (evs : List Event) → Tells cs (handed.Start x o ∷ evs) → map (said w) evs ≡ rest → is_plain t w (handed.Start x o) ≡ true → every (is_plain t w) evs ≡ true → Inside cs x l rest
      opening o evs tell same plain plains =
          let e = handed.Start x o in
          let g = heading cs a.calm e tell.0 o refl in
          let h = g.head.its in
          let alone : HeaderAlone t (unread cs) (taken_by cs) = start_takes_header es ps cs (decoding (unread cs)) (runs_after cs a.calm) x o (taken_by cs) (responds cs a.calm e tell.0) in
          let len : taken_by cs ≡ h.len = alone.no_more ∙ ap (λ (z : TagHeader). z.len) (one_header alone.read g.head.read) in
          let k = known_size_lem (λ m. true) (read_header t (drop o w)) h (ap (λ (z : ℕ). read_header t (drop z w)) g.at ∙ g.head.read) plain in
          let ends : declared_end t o (unread cs) ≡ Some (p + h.len + k.0) = ap (λ (z : ℕ). declared_end t z (unread cs)) g.at ∙ ends_at t (unread cs) p k.0 h g.head.read k.1 in
          let m : Started = record { id = x; offset = o; end = declared_end t o (unread cs) } in
          let opened : open_at es ps (after cs) ≡ m ∷ open_at es ps cs = open_after cs a.calm e tell.0 in
          let place : position_at es ps (after cs) ≡ p + h.len = place_after cs a.calm e tell.0 ∙ ap (λ (z : ℕ). p + z) len in
          let inside = opened_inside (position_at es ps (after cs)) (p + h.len + k.0) m (open_at es ps cs) (omega (arith, place)) ends (g.fits k.0 k.1) in
          record {
            its = h;
            size = k.0;
            read = g.head.read;
            id = g.head.same_id;
            kind = g.head.same_kind;
            known = k.1;
            it = m;
            ends = ends;
            at = record {
              calls = after cs;
              calm = calm_after cs a.calm (subst (EndsInside (position_at es ps (after cs))) (sym opened) inside);
              opened = opened ∙ ap (λ (z : List Started). m ∷ z) a.opened;
              events = evs;
              told = tell.1;
              same = same;
              plain = plains;
            };
            place = place;
          }

      go : (evs : List Event) → Tells cs evs → map (said w) evs ≡ start x ∷ rest → every (is_plain t w) evs ≡ true → Inside cs x l rest
      go [] tell same plain = let z : ◌≡◌ {A = ℕ} 0 1 = cc in absurd_eq z
      go (handed.Start y o ∷ evs) tell same plain =
          let first : start y ≡ start x = head-eq_of_cons-eq same in
          let id : y ≡ x = cc in
          let b = both (is_plain t w (handed.Start y o)) (every (is_plain t w) evs) plain in
          opening o evs (subst (λ (z : ℕ). Tells cs (handed.Start z o ∷ evs)) id tell) (tail-eq_of_cons-eq same) b.left b.right
      go (handed.End e ∷ evs) tell same plain = let z : ◌≡◌ {A = ℕ} 0 1 = cc in absurd_eq z
      go (handed.Data y o u ∷ evs) tell same plain = let z : ◌≡◌ {A = ℕ} 0 1 = cc in absurd_eq z

  -- ---- an End

  -- it comes where its master ends, and takes nothing
  record Outside (cs : List Call) (f : ℕ) (l : List Started) (rest : List Mark) : Type 0 where
    full : position_at es ps cs ≡ f
    at : At l rest
    place : position_at es ps at.calls ≡ position_at es ps cs

  end_read : (x f : ℕ) (m : Started) (l : List Started) (rest : List Mark) → m.end ≡ Some f → (a : At (m ∷ l) (end x ∷ rest)) → Outside a.calls f l rest
  unfolding Tells every
  end_read x f m l rest ends a = go a.events a.told a.same a.plain
    where
      cs : List Call
      cs = a.calls

      closing : (e : WaitingEnd) (evs : List Event) → Tells cs (handed.End e ∷ evs) → map (said w) evs ≡ rest → every (is_plain t w) evs ≡ true → Outside cs f l rest
      closing e evs tell same plains =
          let c = decoding (unread cs) in
          let n = taken_by cs in
          let q = responds cs a.calm (handed.End e) tell.0 in
          let past = end_is_full es ps cs c (runs_after cs a.calm) a.calm.on e f m l (n, q) a.opened ends in
          let inside : EndsInside (position_at es ps cs) (m ∷ l) = subst (EndsInside (position_at es ps cs)) a.opened a.calm.inside in
          let most = inside m (Memᴰ.head refl) f ends in
          let none : n ≡ 0 = end_takes_nothing es ps (record_after es ps cs) (unread cs) tell.0 in
          let place : position_at es ps (after cs) ≡ position_at es ps cs = place_after cs a.calm (handed.End e) tell.0 ∙ omega (arith, none) in
          let opened : open_at es ps (after cs) ≡ l = open_after cs a.calm (handed.End e) tell.0 ∙ ap (drop 1) a.opened in
          let still : EndsInside (position_at es ps (after cs)) (open_at es ps (after cs)) =
          subst (EndsInside (position_at es ps (after cs))) (sym opened) (λ o i g d. let le = inside o (Memᴰ.tail i) g d in omega (arith, le, place)) in
          record {
            full = omega (arith, past, most);
            at = record { calls = after cs; calm = calm_after cs a.calm still; opened = opened; events = evs; told = tell.1; same = same; plain = plains };
            place = place;
          }

      go : (evs : List Event) → Tells cs evs → map (said w) evs ≡ end x ∷ rest → every (is_plain t w) evs ≡ true → Outside cs f l rest
      go [] tell same plain = let z : ◌≡◌ {A = ℕ} 0 1 = cc in absurd_eq z
      go (handed.Start y o ∷ evs) tell same plain = let z : ◌≡◌ {A = ℕ} 0 1 = cc in absurd_eq z
      go (handed.End e ∷ evs) tell same plain = closing e evs tell (tail-eq_of_cons-eq same) plain
      go (handed.Data y o u ∷ evs) tell same plain = let z : ◌≡◌ {A = ℕ} 0 1 = cc in absurd_eq z

  -- ---- elements and runs

  -- the same marks, otherwise put together
  abbrev again : {l : List Started} {rest more : List Mark} → rest ≡ more → At l rest → At l more
  again e a = record { calls = a.calls; calm = a.calm; opened = a.opened; events = a.events; told = a.told; same = a.same ∙ e; plain = a.plain }

  -- a master whose End comes at its end says its children, where what stands between says them
  master_says : (cs : List Call) (x : ℕ) (l : List Started) (marks : List Mark) (i : Inside cs x l marks) (r : Run) (full last : List Call) → Calm full
      → position_at es ps full ≡ position_at es ps cs + i.its.len + i.size → position_at es ps last ≡ position_at es ps full
      → Says strict t (unread i.at.calls) r (unread full) → SaysElement strict t (unread cs) (master x r) (unread last)
  unfolding SaysElement
  master_says cs x l marks i r full last calm ends place says =
      let p = position_at es ps cs in
      let n = i.its.len + i.size in
      let sum : position_at es ps last ≡ p + n = omega (arith, ends, place) in
      let to : unread full ≡ unread last = ap (λ (z : ℕ). drop z w) (sym place) in
      let from : unread i.at.calls ≡ drop i.its.len (unread cs) = ap (λ (z : ℕ). drop z w) i.place ∙ sym (drop-drop i.its.len p w) in
      let whole : n ≤ length (unread cs) = omega (arith, sum, place, calm.place, length-drop p w) in
      let after-all : unread last ≡ drop n (unread cs) = ap (λ (z : ℕ). drop z w) sum ∙ sym (drop-drop n p w) in (
        i.size,
        record { its = i.its; read = i.read; id = i.id; known = i.known; whole = whole; after = after-all },
        i.kind,
        subst (λ (z : List ℕ). Says strict t z r (unread last)) from (subst (Says strict t (unread i.at.calls) r) to says),
      )

  mutual
    unfolding SaysElement Says element_marks

    element_read : (e : Element) (l : List Started) (rest : List Mark) (a : At l (element_marks e ++ rest)) → (b : At l rest) × SaysElement strict t (unread a.calls) e (unread b.calls)
    element_read (one_value x v) l rest a = datum_read x v l rest a
    element_read (master x r) l rest a =
        let cs = a.calls in
        let marks = run_marks r ++ (end x ∷ rest) in
        let i = start_read x l marks (again (ap (λ (z : List Mark). start x ∷ z) (append_assoc (run_marks r) (end x ∷ []) rest)) a) in
        let c = run_read r (i.it ∷ l) (end x ∷ rest) i.at in
        let o = end_read x (position_at es ps cs + i.its.len + i.size) i.it l rest i.ends c.0 in
        (o.at, master_says cs x l marks i r c.0.calls o.at.calls c.0.calm o.full o.place c.1)

    run_read : (r : Run) (l : List Started) (rest : List Mark) (a : At l (run_marks r ++ rest)) → (b : At l rest) × Says strict t (unread a.calls) r (unread b.calls)
    run_read none l rest a = (a, refl)
    run_read (then e r) l rest a =
        let b = element_read e l (run_marks r ++ rest) (again (append_assoc (element_marks e) (run_marks r) rest) a) in
        let c = run_read r l rest b.0 in
        (c.0, (unread b.0.calls, b.1, c.1))

  -- ---- all of it

  -- from the first call on
  begun : (ms : List Mark) (d : IsReadAs strict es ps w ms) → every (is_plain t w) d.events ≡ true → At [] ms
  unfolding Lent record_after history position starts_open child_test_never_off is_strict_after with_settings
  begun ms d plain = record {
    calls = strictly strict ∷ [];
    calm = record { lent = (λ i. omega arith, tt); on = refl; mode = refl; inside = λ m i. absurd (Memᴰ.not-nil i); place = omega arith };
    opened = refl;
    events = d.events;
    told = tells d.events (strictly strict ∷ []) (d.told, d.all_read);
    same = d.same;
    plain = plain;
  }

  all_read : (a : At [] []) → unread a.calls ≡ []
  unfolding Tells
  all_read a = go a.events a.told a.same
    where
      go : (evs : List Event) → Tells a.calls evs → map (said w) evs ≡ [] → unread a.calls ≡ []
      go [] tell same = tell
      go (e ∷ evs) tell same = let z : ◌≡◌ {A = ℕ} 0 1 = cc in absurd_eq z

  -- bytes that are read as matched marks say their document
  pub read_says : (ms : List Mark) → matched [] ms ≡ true → (d : IsReadAs strict es ps w ms) → every (is_plain t w) d.events ≡ true → Says strict t w (run_of ms) []
  unfolding history position begun
  read_says ms match d plain =
      let a = begun ms d plain in
      let b = run_read (run_of ms) [] [] (again (sym (matched_marks ms match) ∙ sym (append-nil (run_marks (run_of ms)))) a) in
      subst (Says strict t w (run_of ms)) (all_read b.0) b.1
