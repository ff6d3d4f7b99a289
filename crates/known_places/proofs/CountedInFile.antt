-- The elements that are counted in a master fill it: after any calls that read a record in order the innermost open
-- master is filled up to the position by as many elements as were counted in it, and each around it up to the offset of
-- the one inside it, which is counted too. Assumes nothing.
use Prim.Native.Nat.{ℕ, ◌+◌, ◌≤◌}
use mathlib.Core.Path.{◌≡◌, refl, sym, ap, ◌∙◌, subst}
use mathlib.Core.Bool.{Bool, true, false}
use mathlib.Core.List.{List, [], ◌∷◌, ◌++◌, Memᴰ}
use mathlib.Core.Logic.{⊎_elim}
use native.Mathlib.Omega.{arith}
use lib.ListN.{drop, get_or}
use Rattle.basics.specs.Lists.{every}
use Rattle.basics.proofs.Bools.{absurd_eq, both}
use Rattle.basics.proofs.Every.{every_member}
use Rattle.tools.specs.Bytes.{Octets}
use Rattle.table.specs.Check.{check_table}
use Rattle.table.specs.Table.{Entry, table_of}
use Rattle.tag_parse.specs.declared.types.TagValue.{TagValue}
use Rattle.decoder_rules.specs.declared.types.Answer.{Answer}
use Rattle.decoder_rules.specs.declared.types.Answer.TheVariants as answer
use Rattle.decoder_rules.specs.declared.types.Event.{Event}
use Rattle.decoder_rules.specs.declared.types.Event.TheVariants as event
use Rattle.decoder_rules.specs.declared.types.Search.{Search}
use Rattle.decoder_rules.specs.declared.types.WaitingEnd.{WaitingEnd}
use Rattle.guarantees.specs.Calls.{Call, lent, Response, answered, searched, silent, record_after, history, Lent}
use Rattle.guarantees.specs.Counts.{child_of_first, counts_by, with_implied, child_counts}
use Rattle.guarantees.specs.CutRecords.{InOrder, is_known_end, every_known}
use Rattle.guarantees.specs.History.{Started, declared_end, after_response, starts_open, taken_in, position, test_after, child_test_never_off}
use Rattle.guarantees.specs.Promises.{Runs, HeaderAlone, WholeData, EndMatches, EndsInside, element_offset, last_response, Answers, open_at, left_at, position_at}
use Rattle.guarantees.specs.Settling.{seen_parents}
use Rattle.guarantees.proofs.AnyCalls.{ResponseFacts, MeasuredResponse, promised_after}
use Rattle.guarantees.proofs.Counted.{child_counts_lem}
use Rattle.guarantees.proofs.FullEnds.{end_is_full, no_search}
use Rattle.guarantees.proofs.Guarantees.{never_off_on, end_matches, ends_inside}
use Rattle.guarantees.proofs.InOrder.{is_element, takes_none, lends_front, lends_no_recovery}
use Rattle.guarantees.proofs.Tied.{both_empty}
use Rattle.guarantees.proofs.TopLevel.{head_inside, data-end, known_end_lem, known_open, known_before}
use Rattle.guarantees.proofs.WholeElements.{header_longer, declared_longer}
use Rattle.known_places.specs.CountedInFile.{Row, no_element, one_more, Children, EndCounts, CountedInFile}
use Rattle.known_places.specs.KnownPlaces.{ever_implied}
use Rattle.known_places.proofs.KnownPlaces.{no_parents}
use Rattle.std.specs.Prelude.{Err, Ok, Result, Some}
use Rattle.decoder_rules.specs.declared.types.Refusal.{Refusal}

-- ---- how far the open masters are filled

module _ (t : List Entry) (s : List ℕ) where
  -- these masters, of which the innermost is the first, have these counts, and each is filled up to the element inside
  -- it, the first up to the one at o; that element is counted
  abbrev Around : ℕ → List Started → List ℕ → Type 0
  Around o [] [] = Unit {0}
  Around o [] (n ∷ ns) = ⊥
  Around o (m ∷ l) [] = ⊥
  Around o (m ∷ l) (n ∷ ns) = (k : ℕ) × (n ≡ k + 1) × Children t s m k o × Around m.offset l ns

  -- the same where the first is filled up to the position p
  abbrev Rows : ℕ → List Started → List ℕ → Type 0
  Rows p [] [] = Unit {0}
  Rows p [] (n ∷ ns) = ⊥
  Rows p (m ∷ l) [] = ⊥
  Rows p (m ∷ l) (n ∷ ns) = Children t s m n p × Around m.offset l ns

  -- one child more, which begins at the position
  child_begins : (p : ℕ) (l : List Started) (ns : List ℕ) → Rows p l ns → Around p l (child_of_first ns)
  child_begins p [] [] r = tt
  child_begins p [] (n ∷ ns) r = r
  child_begins p (m ∷ l) [] r = r
  child_begins p (m ∷ l) (n ∷ ns) r = (n, refl, r.0, r.1)

  -- one child more, which ends at the position f
  child_ends : (p f : ℕ) (l : List Started) (ns : List ℕ) → declared_end t p (drop p s) ≡ Some f → Rows p l ns → Rows f l (child_of_first ns)
  child_ends p f [] [] e r = tt
  child_ends p f [] (n ∷ ns) e r = r
  child_ends p f (m ∷ l) [] e r = r
  child_ends p f (m ∷ l) (n ∷ ns) e r =
      let k = r.0 in
      (record { its = k.its; read = k.read; end = k.end; row = one_more n p f k.row e }, r.1)

  -- the first ends at the position
  first_ends : (p : ℕ) (m : Started) (l : List Started) (n : ℕ) (ns : List ℕ) → m.end ≡ Some p → Rows p (m ∷ l) (n ∷ ns) → Rows p l ns
  first_ends p m [] n [] e r = tt
  first_ends p m [] n (i ∷ ns) e r = r.1
  first_ends p m (o ∷ l) n [] e r = r.1
  first_ends p m (o ∷ l) n (i ∷ ns) e r =
      let a = r.1 in
      let k = a.2 in
      let row : Row t s (o.offset + k.its.len) i p = subst (λ (z : ℕ). Row t s (o.offset + k.its.len) z p) (sym a.1) (one_more a.0 m.offset p k.row (r.0.end ∙ e)) in
      (record { its = k.its; read = k.read; end = k.end; row = row }, a.3)

  -- it is so, and the position is inside every open master
  record Filled (p : ℕ) (l : List Started) (ns : List ℕ) : Type 0 where
    rows : Rows p l ns
    inside : EndsInside p l

  filled_on : {p : ℕ} {l : List Started} {ns : List ℕ} (n : ℕ) → n ≡ 0 → Filled p l ns → Filled (p + n) l ns
  filled_on {p} {l} {ns} n e k = let z : p ≡ p + n = omega arith in subst (λ (q : ℕ). Filled q l ns) z k

-- ---- one call, at the position p on the front b of what is there

module _ (t : List Entry) (s : List ℕ) (p : ℕ) (b v : List ℕ) (byte : Octets b) (lies : b ++ v ≡ drop p s) where
  start_filled : (x n : ℕ) (l : List Started) (ns : List ℕ) → HeaderAlone t b n → (e : ℕ) → declared_end t p b ≡ Some e → EndsInside e l → Filled t s p l ns
      → Filled t s (p + n) (record { id = x; offset = p; end = declared_end t p b } ∷ l) (0 ∷ child_of_first ns)
  start_filled x n l ns h e q ends k =
      let m : Started = record { id = x; offset = p; end = declared_end t p b } in
      let z : p + h.its.len ≡ p + n = omega (arith, h.no_more) in
      let near : p + n ≤ e = head_inside t b p n e h q in
      record {
        rows = (
          record {
            its = h.its;
            read = header_longer t s b v p h.its byte lies h.read;
            end = declared_longer t s b v p h.its byte lies h.read;
            row = subst (Row t s (p + h.its.len) 0) z no_element;
          },
          child_begins t s p l ns k.rows,
        );
        inside = λ o i f g.
            ⊎_elim (λ (same : o ≡ m). let y : Some e ≡ Some f = sym q ∙ sym (ap (λ (a : Started). a.end) same) ∙ g in let u : e ≡ f = cc in omega (arith, near, u))
            (λ (j : Memᴰ o l). omega (arith, near, ends o j f g)) (mathlib.Core.List.Memᴰ.cases_cons i);
      }

  data-filled : (strict : Bool) (n : ℕ) (w : TagValue) (l : List Started) (ns : List ℕ) → WholeData strict t b p n w → EndsInside (p + n) l → Filled t s p l ns → Filled t s (p + n) l (child_of_first ns)
  data-filled strict n w l ns h ends k =
      record { rows = child_ends t s p (p + n) l ns (declared_longer t s b v p h.its byte lies h.read ∙ data-end strict t b p n w h) k.rows; inside = ends }

  end_filled : (n : ℕ) (l : List Started) (ns : List ℕ) → n ≡ 0 → ((m : Started) (rest : List Started) → l ≡ m ∷ rest → m.end ≡ Some p) → Filled t s p l ns → Filled t s (p + n) (drop 1 l) (drop 1 ns)
  end_filled n [] [] z full k = filled_on t s n z k
  end_filled n [] (i ∷ ns) z full k = absurd k.rows
  end_filled n (m ∷ l) [] z full k = absurd k.rows
  end_filled n (m ∷ l) (i ∷ ns) z full k =
      filled_on t s n z (record { rows = first_ends t s p m l i ns (full m l refl) k.rows; inside = λ o j f g. k.inside o (mathlib.Core.List.Memᴰ.tail j) f g })

  -- what any call tells
  told-filled : (strict off : Bool) (l : List Started) (ns left : List ℕ) (x : Response) → ResponseFacts t off b l left p x → MeasuredResponse strict t b p x
      → ((a : Result Answer Refusal) (n : ℕ) → x ≡ answered a n → is_element a ≡ false → n ≡ 0) → ((a : Result Search Refusal) (n : ℕ) → x ≡ searched a n → ⊥)
      → ((e : Event) (o n f : ℕ) → x ≡ answered (Ok (answer.Event e)) n → element_offset e ≡ Some o → declared_end t o b ≡ Some f → EndsInside f l)
      → ((end : WaitingEnd) (n : ℕ) → x ≡ answered (Ok (answer.Event (event.End end))) n → (m : Started) (rest : List Started) → l ≡ m ∷ rest → m.end ≡ Some p)
      → every (λ (m : Started). is_known_end m.end) (after_response t b x l) ≡ true → Filled t s p l ns → Filled t s (p + taken_in x) (after_response t b x l) (counts_by x ns)
  unfolding every
  told-filled strict off l ns left (answered (Ok (answer.Event (event.Start x o))) n) f m none unsearched ends full known k =
      let e = known_end_lem (declared_end t o b) (both (is_known_end (declared_end t o b)) _ known).left in
      let at : o ≡ p = f.1.offset in
      subst (λ (z : ℕ). Filled t s (p + n) (record { id = x; offset = z; end = declared_end t z b } ∷ l) (0 ∷ child_of_first ns)) (sym at)
      (start_filled x n l ns m e.0 (ap (λ (z : ℕ). declared_end t z b) (sym at) ∙ e.1) (ends (event.Start x o) o n e.0 refl refl e.1) k)
  told-filled strict off l ns left (answered (Ok (answer.Event (event.End end))) n) f m none unsearched ends full known k = end_filled n l ns (none _ n refl refl) (full end n refl) k
  told-filled strict off l ns left (answered (Ok (answer.Event (event.Data x o w))) n) f m none unsearched ends full known k =
      data-filled strict n w l ns m
      (ends (event.Data x o w) o n (p + n) refl refl (ap (λ (z : ℕ). declared_end t z b) f.1.offset ∙ data-end strict t b p n w m)) k
  told-filled strict off l ns left (answered (Ok (answer.NeedMore missing)) n) f m none unsearched ends full known k = filled_on t s n (none _ n refl refl) k
  told-filled strict off l ns left (answered (Ok answer.Finished) n) f m none unsearched ends full known k = filled_on t s n (none _ n refl refl) k
  told-filled strict off l ns left (answered (Err r) n) f m none unsearched ends full known k = filled_on t s n (none _ n refl refl) k
  told-filled strict off l ns left (searched a n) f m none unsearched ends full known k = absurd (unsearched a n refl)
  told-filled strict off l ns left silent f m none unsearched ends full known k = filled_on t s 0 refl k

-- ---- any calls

module _ (es ps : List ℕ) (checked : check_table es ps ≡ (Ok tt)) (s : List ℕ) where
  abbrev t : List Entry
  t = table_of es ps

  abbrev FilledAfter : List Call → Type 0
  FilledAfter cs = Filled t s (position_at es ps cs) (open_at es ps cs) (child_counts ps t (history es ps cs))

  -- an End comes where its master ends
  ends_here : (cs : List Call) (c : Call) → Lent (c ∷ cs) → child_test_never_off cs ≡ true → every_known t (history es ps cs) ≡ true → EndsInside (position_at es ps cs) (open_at es ps cs)
      → (end : WaitingEnd) → Answers es ps cs c (Ok (answer.Event (event.End end))) → (m : Started) (around : List Started) → open_at es ps cs ≡ m ∷ around
      → m.end ≡ Some (position_at es ps cs)
  ends_here cs c l on known inside end a m around q =
      let first : Memᴰ m (open_at es ps cs) = subst (Memᴰ m) (sym q) (mathlib.Core.List.Memᴰ.head refl) in
      let f = known_end_lem m.end (every_member (λ (o : Started). is_known_end o.end) (known_open t (history es ps cs) known) first) in
      let full : f.0 ≤ position_at es ps cs = end_is_full es ps cs c (record { checked = checked; octets = l }) on end f.0 m around a q f.1 in
      let z : f.0 ≡ position_at es ps cs = omega (arith, inside m first f.0 f.1, full) in
      f.1 ∙ ap Some z

  filled_after : (cs : List Call) → Lent cs → InOrder es ps s cs → child_test_never_off cs ≡ true → ever_implied ps t (history es ps cs) ≡ [] → every_known t (history es ps cs) ≡ true → FilledAfter cs
  unfolding Lent InOrder history starts_open position child_counts ever_implied child_test_never_off
  filled_after [] l i on none known = record { rows = tt; inside = λ m j. absurd (mathlib.Core.List.Memᴰ.not-nil j) }
  filled_after (c ∷ cs) l i on none known =
      let p = position_at es ps cs in
      let d = record_after es ps cs in
      let x = last_response es ps cs c in
      let parents = seen_parents ps t (history es ps cs) (lent c) x in
      let run : Runs es ps (c ∷ cs) = record { checked = checked; octets = l } in
      let b = both (test_after c true) (child_test_never_off cs) on in
      let e = both_empty parents (ever_implied ps t (history es ps cs)) none in
      let before = known_before es ps cs c known in
      let k = filled_after cs l.1 i.1 b.right e.1 before in
      let v = lends_front s p c i.0 in
      let a = promised_after es ps cs c run in
      let r = told-filled t s p (lent c) v.0 l.0 v.1 d.settings.strict d.settings.allow_oversized (open_at es ps cs) (child_counts ps t (history es ps cs)) (left_at es ps cs c) x
      a.promised a.measured (takes_none es ps d c) (no_search es ps d c (lends_no_recovery s p c i.0))
      (λ y o n f q j g. ends_inside es ps cs c run (never_off_on cs b.right) y o f j (n, q) g)
      (λ end n q m rest y. ends_here cs c l b.right before k.inside end (n, q) m rest y)
      (known_open t (history es ps (c ∷ cs)) known) k in
      subst (λ (u : List ℕ). Filled t s (p + taken_in x) (open_at es ps (c ∷ cs)) (counts_by x (with_implied u (child_counts ps t (history es ps cs))))) (sym e.0) r

  -- the count of the first is the number of its children
  first_children : (p : ℕ) (m : Started) (around l : List Started) (ns : List ℕ) → l ≡ m ∷ around → Rows t s p l ns → Children t s m (get_or ns 0 0) p
  first_children p m around [] ns q r = let z : ◌≡◌ {A = ℕ} 0 1 = cc in absurd_eq z
  first_children p m around (o ∷ l) [] q r = absurd r
  first_children p m around (o ∷ l) (n ∷ ns) q r = let e : o ≡ m = cc in subst (λ (y : Started). Children t s y n p) e r.0

  counts_file : (cs : List Call) (c : Call) → Lent (c ∷ cs) → InOrder es ps s (c ∷ cs) → child_test_never_off cs ≡ true → ever_implied ps t (history es ps (c ∷ cs)) ≡ []
      → every_known t (history es ps cs) ≡ true → (end : WaitingEnd) → Answers es ps cs c (Ok (answer.Event (event.End end))) → EndCounts es ps s cs end
  unfolding Lent InOrder history ever_implied
  counts_file cs c l i on none known end a =
      go (open_at es ps cs) refl (subst (λ (u : List ℕ). EndMatches (open_at es ps cs) u end) left (end_matches es ps cs c (record { checked = checked; octets = l }) end a))
    where
      counts : List ℕ
      counts = child_counts ps t (history es ps cs)

      e : (seen_parents ps t (history es ps cs) (lent c) (last_response es ps cs c) ≡ []) × (ever_implied ps t (history es ps cs) ≡ [])
      e = both_empty (seen_parents ps t (history es ps cs) (lent c) (last_response es ps cs c)) (ever_implied ps t (history es ps cs)) none

      left : left_at es ps cs c ≡ []
      left = rw (e.0, no_parents ps t (history es ps cs) e.1)

      k : FilledAfter cs
      k = filled_after cs l.1 i.1 on e.1 known

      count : end.count ≡ get_or counts 0 0
      count = (child_counts_lem es ps checked).end_counts_lem cs c l end a ∙ ap (λ (u : List ℕ). get_or (with_implied u counts) 0 0) e.0

      go : (starts : List Started) → open_at es ps cs ≡ starts → EndMatches starts [] end → EndCounts es ps s cs end
      go [] q f = absurd f
      go (m ∷ around) q f = record {
        master = m;
        around = around;
        last_open = q;
        same_id = f.0;
        same_offset = f.1;
        at_its_end = ends_here cs c l on known k.inside end a m around q;
        children =
            subst (λ (n : ℕ). Children t s m n (position_at es ps cs)) (sym count) (first_children (position_at es ps cs) m around (open_at es ps cs) counts q k.rows);
      }

-- an End's count is the number of its master's children in the file, of every table that the check passes
pub counted_in_file : (es ps : List ℕ) → check_table es ps ≡ Ok tt → CountedInFile es ps
counted_in_file es ps checked = record { end_counts_lem = λ s. counts_file es ps checked s }
