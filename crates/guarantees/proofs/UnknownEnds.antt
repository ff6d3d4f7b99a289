-- Where masters of unknown size end: strictly only where section 6.2 of RFC 8794 lets them, over any calls, with a table
-- that the check passes. What closes by position stands inside a master that is full, or is that one; what closes by the
-- next ID is ended by it, strictly by the RFC's rule; what closes at the end of input does so with no byte left. And each
-- End that waits is of a master that closed at an earlier call. Assumes nothing.
use Prim.Native.Nat.{ℕ, zero, suc, ◌+◌, ◌≤◌, ◌<◌}
use mathlib.Core.Path.{◌≡◌, refl, sym, ap, ◌∙◌, subst}
use mathlib.Core.Bool.{Bool, true, false, not, true≢false, false≢true}
use mathlib.Core.List.{List, [], ◌∷◌, ◌++◌, map, reverse, append_assoc, map-append, reverse-append, reverse-cons, head-eq_of_cons-eq, tail-eq_of_cons-eq, Memᴰ}
use mathlib.Core.Logic.{◌⊎◌, inl, inr, ⊎_elim}
use native.Mathlib.Numerals.{add-one}
use native.Mathlib.Omega.{arith}
use borrow.Author.Tests.{leb-true}
use lib.Dec.{leb}
use lib.ListN.{length, get_or, take, drop, length-append, length-map, length-reverse, length-take, take-append-drop}
use lib.Seq.{drop-cons, take-nil}
use Rattle.tools.specs.Bytes.{Octets}
use Rattle.basics.specs.Lists.{every, first_index}
use Rattle.basics.proofs.Bools.{absurd_eq, both, cond_yes}
use Rattle.basics.proofs.Every.{every_member, every_map}
use Rattle.basics.proofs.Maps.{take-map}
use Rattle.table.specs.Check.{check_table}
use Rattle.table.specs.Table.{Entry, table_of, data_type_of, is_master}
use Rattle.table.specs.declared.types.TagDataType.TheVariants.{Master}
use Rattle.table.proofs.Passed.{passed_gives}
use Rattle.table.proofs.Rules.{master_is}
use Rattle.spec_util.specs.Ended.{is_ended_in, is_ended_strictly}
use Rattle.spec_util.specs.Walk.{no_tag, unknown_and_ended, ended_tops}
use Rattle.spec_util.specs.declared.types.OpenTag.{OpenTag}
use Rattle.spec_util.proofs.StrictEndings.{strictly_as_rfc}
use Rattle.tag_parse.specs.Header.{read_header}
use Rattle.tag_parse.specs.declared.types.TagHeader.{TagHeader}
use Rattle.decoder_rules.specs.Record.{opens, end_of}
use Rattle.decoder_rules.specs.OneCall.{check_record10to12, is_full, step3, noted, step10}
use Rattle.decoder_rules.specs.Deciding.{decide}
use Rattle.decoder_rules.specs.declared.types.Answer.TheVariants as answer
use Rattle.decoder_rules.specs.declared.types.Event.TheVariants as event
use Rattle.decoder_rules.specs.declared.types.Search.TheVariants as search
use Rattle.decoder_rules.specs.declared.types.Settings.{Settings}
use Rattle.decoder_rules.specs.declared.types.TagDecoder.{TagDecoder}
use Rattle.decoder_rules.specs.declared.types.WaitingEnd.{WaitingEnd}
use Rattle.decoder_rules.proofs.FirstPlace.{note_holds}
use Rattle.decoder_rules.proofs.MoveEffects.{opens-length}
use Rattle.decoder_rules.proofs.MoveLaws.{noted_settings, noted_waiting_count}
use Rattle.guarantees.specs.Calls.{Call, decoding, ending, recovering, allow, strictly, limit, lent, Response, answered, searched, silent, record_after, history, Lent}
use Rattle.guarantees.specs.Settling.{is_strict_after}
use Rattle.guarantees.specs.History.{Started, later_end, later, after_response, left_by, starts_open, parents_left}
use Rattle.guarantees.specs.Promises.{last_response, Answers, open_at, left_at, position_at}
use Rattle.guarantees.specs.UnknownEnds.{standing_at, Closes, EndsBy62, by_element, by_known_end, by_end_of_input, ClosedIn, UnknownEnds}
use Rattle.guarantees.proofs.AnyCalls.{good_shape_lem, tied_after, parents_after, settled_after, mode_after_lem}
use Rattle.guarantees.proofs.Decided.{NoteFacts, by_position, by_next_id, decide_facts, step7_facts}
use Rattle.guarantees.proofs.Ends.{known_end, first_passes, tops_ended}
use Rattle.guarantees.proofs.Moves.{stack_later}
use Rattle.guarantees.proofs.Notes.{search_note_or, note_of}
use Rattle.guarantees.proofs.Steps.{stack_is, stack_length, noted_tied, unsettled_waiting}
use Rattle.guarantees.proofs.Tied.{as_started, stack, Tied}
use Rattle.guarantees.proofs.WaitingEnds.{tells_no_event, tells_end, is_ending, as_decided, at_end, Moved, no_event, element, hands_out, closes, next_moved}
use Rattle.std.specs.Prelude.{Err, None, Ok, Option, Result, Some, ⊤}
use Rattle.decoder_rules.specs.declared.types.DecodeError.{DecodeError}
use Rattle.tools.specs.declared.status.Status.TheVariants as status

-- ---- lists

-- two places of a list: one that has no more after it than the other is that other, or stands after it
after_or_same : {A : Type 0} (front : List A) (a : A) (rest inside : List A) (m : A) (around : List A) → front ++ a ∷ rest ≡ inside ++ m ∷ around → length rest ≤ length around
    → (a ≡ m) ⊎ Memᴰ a around
after_or_same [] a rest [] m around e h = inl (head-eq_of_cons-eq e)
after_or_same [] a rest (i ∷ inside) m around e h = absurd (omega (arith, ap length (tail-eq_of_cons-eq e), length-append inside (m ∷ around)))
after_or_same (x ∷ front) a rest [] m around e h = inr (subst (Memᴰ a) (tail-eq_of_cons-eq e) (mathlib.Core.List.Memᴰ.append_right front (mathlib.Core.List.Memᴰ.head refl)))
after_or_same (x ∷ front) a rest (i ∷ inside) m around e h = after_or_same front a rest inside m around (tail-eq_of_cons-eq e) h

-- a member of the first n of a list: what stands before it and after it
record Within {A : Type 0} (m : A) (n : ℕ) (l : List A) : Type 0 where
  inside : List A
  around : List A
  parts : l ≡ inside ++ m ∷ around
  enough : length l ≤ n + length around

within : {A : Type 0} {m : A} (n : ℕ) (l : List A) → Memᴰ m (take n l) → Within m n l
within zero l i = absurd (mathlib.Core.List.Memᴰ.not-nil i)
within (suc n) [] i = absurd (mathlib.Core.List.Memᴰ.not-nil i)
within {m = m} (suc n) (a ∷ l) i =
    ⊎_elim (λ (e : m ≡ a). record { inside = []; around = l; parts = ap (λ (x : _). x ∷ l) (sym e); enough = omega arith })
    (λ (j : Memᴰ m (take n l)).
    let w = within n l j in
    record { inside = a ∷ w.inside; around = w.around; parts = ap (λ (k : List _). a ∷ k) w.parts; enough = omega (arith, w.enough) })
    (mathlib.Core.List.Memᴰ.cases_cons i)

-- and who has fewer than n before it is such a member
among : {A : Type 0} (inside : List A) (m : A) (around : List A) (n : ℕ) → length inside < n → Memᴰ m (take n (inside ++ m ∷ around))
among inside m around zero h = absurd (omega arith)
among [] m around (suc n) h = mathlib.Core.List.Memᴰ.head refl
among (i ∷ inside) m around (suc n) h = mathlib.Core.List.Memᴰ.tail (among inside m around n (omega arith))

-- ---- 3: the outermost that closes is full

-- from the top down, the one with the index i has i after it
reversed_at : (l : List OpenTag) (i : ℕ) → i < length l
    → map as_started (reverse l) ≡ map as_started (reverse (drop (suc i) l)) ++ as_started (get_or l i no_tag) ∷ map as_started (reverse (take i l))
reversed_at l i h =
    let o = get_or l i no_tag in
    let above = drop (suc i) l in
    ap (map as_started)
    (ap reverse (sym (take-append-drop i l))
    ∙ reverse-append (take i l) (drop i l)
    ∙ ap (λ (k : List OpenTag). reverse k ++ reverse (take i l)) (drop-cons l i no_tag h)
    ∙ ap (λ (k : List OpenTag). k ++ reverse (take i l)) (reverse-cons o above)
    ∙ append_assoc (reverse above) (o ∷ []) (reverse (take i l)))
    ∙ map-append as_started (reverse above) (o ∷ reverse (take i l))

-- a full master among these: its end is known, and at p or before
record Full (p : ℕ) (l : List Started) : Type 0 where
  parent : Started
  end : ℕ
  stands : Memᴰ parent l
  known : parent.end ≡ Some end
  past : end ≤ p

-- a master of unknown size that closes by position stands inside one that is full
full_around : (p : ℕ) (l : List OpenTag) (inside : List Started) (m : Started) (around : List Started) → map as_started (reverse l) ≡ inside ++ m ∷ around → first_index (is_full p) l < length l
    → first_index (is_full p) l ≤ length around → m.end ≡ None → Full p around
unfolding is_full
full_around p l inside m around e h n u =
    let i = first_index (is_full p) l in
    let o = get_or l i no_tag in
    let b = both o.known (leb (end_of o) p) (first_passes (is_full p) l no_tag h) in
    let known : (as_started o).end ≡ Some (end_of o) = ap (λ (k : Bool). known_end k (end_of o)) b.left in
    let few : length (map as_started (reverse (take i l))) ≤ length around = simp (length-map, length-reverse, length-take) (omega arith) in
    ⊎_elim (λ (q : as_started o ≡ m). let z : None ≡ Some (end_of o) = sym u ∙ ap (λ (x : Started). x.end) (sym q) ∙ known in let y : ◌≡◌ {A = ℕ} 0 1 = cc in absurd_eq y)
    (λ (s : Memᴰ (as_started o) around). record { parent = as_started o; end = end_of o; stands = s; known = known; past = leb-true _ _ b.right })
    (after_or_same (map as_started (reverse (drop (suc i) l))) (as_started o) (map as_started (reverse (take i l))) inside m around (sym (reversed_at l i h) ∙ e) few)

-- ---- 10: the ID ends each that closes

-- a master with fewer inside it than the ID ends is ended by it
ended-within : (strict : Bool) (t : List Entry) (x : ℕ) (l : List OpenTag) (inside : List Started) (m : Started) (around : List Started) → map as_started l ≡ inside ++ m ∷ around
    → length inside < ended_tops strict t x l → is_ended_in strict t m.id x ≡ true
unfolding unknown_and_ended
ended-within strict t x l inside m around e h =
    let n = ended_tops strict t x l in
    let ended : Started → Bool = λ o. is_ended_in strict t o.id x in
    let all : every ended (map as_started (take n l)) ≡ true =
    every_map (λ o. unknown_and_ended strict t o.known o.id x) as_started ended (λ o f. (both (not o.known) (is_ended_in strict t o.id x) f).right) (take n l) (tops_ended strict t x l) in
    every_member ended (subst (λ (k : List Started). every ended k ≡ true) (sym (take-map as_started n l) ∙ ap (take n) e) all) (among inside m around n h)

-- ---- what a call does, where the record with the note is tied to what a caller can tell

-- a call at the end of input, with no byte
ending_none : (c : Call) → is_ending c ≡ true → lent c ≡ [] → c ≡ ending []
ending_none (decoding s) e q = absurd (false≢true e)
ending_none (ending s) e q = ap ending q
ending_none (recovering s) e q = absurd (false≢true e)
ending_none (allow ids hierarchy oversized) e q = absurd (false≢true e)
ending_none (strictly b) e q = absurd (false≢true e)
ending_none (limit n) e q = absurd (false≢true e)

module _ (es ps : List ℕ) (checked : check_table es ps ≡ (Ok tt)) where
  abbrev t : List Entry
  t = table_of es ps

  decided_note : (d : TagDecoder) {starts : List Started} {left : List ℕ} {p : ℕ} → Tied t d starts left p → (s : List ℕ) → Octets s → NoteFacts ps t d (decide es ps d s).note
  decided_note d k s byte =
      (decide_facts es ps (good_shape_lem es ps checked) (passed_gives es ps checked) d s byte k.linked.masters (opens-length d k.linked.arrays k.linked.good.open_count) k.linked.good).note

  -- what holds of the note of any call
  note_facts : (d : TagDecoder) {starts : List Started} {left : List ℕ} {p : ℕ} → Tied t d starts left p → (c : Call) → Octets (lent c) → NoteFacts ps t d (note_of es ps d c)
  note_facts d k (decoding s) byte = decided_note d k s byte
  note_facts d k (ending s) byte = decided_note d k s byte
  note_facts d k (recovering s) byte = go (check_record10to12 es ps d (length s))
    where
      go : (x : Result ⊤ DecodeError) → NoteFacts ps t d (search_note_or ps t d s x)
      go (Ok _) = note_holds t d (NoteFacts ps t d) tt (λ r h e. step7_facts es ps (good_shape_lem es ps checked) (passed_gives es ps checked) r h e d) s _
      go (Err e) = tt
  note_facts d k (allow ids hierarchy oversized) byte = tt
  note_facts d k (strictly b) byte = tt
  note_facts d k (limit n) byte = tt

  module _ (cs : List Call) (c : Call) (octets : Lent (c ∷ cs)) where
    -- the record with the note of the call
    abbrev there : TagDecoder
    there = noted ps (record_after es ps cs) (note_of es ps (record_after es ps cs) c)

    standing_tied : Tied t there (open_at es ps cs) (left_at es ps cs c) (position_at es ps cs)
    unfolding Lent
    standing_tied =
        let d = record_after es ps cs in
        let k = tied_after es ps checked cs octets.1 in
        subst (λ (l : List ℕ). Tied t there (open_at es ps cs) (l ++ parents_left ps t (history es ps cs)) (position_at es ps cs)) (parents_after es ps checked cs octets.1 c octets.0)
        (noted_tied ps t d _ _ _ (note_of es ps d c) (note_facts d k c octets.0) k)

    -- as many Ends wait with the note as before it
    waits_there : there.waiting_count ≡ (record_after es ps cs).waiting_count
    waits_there = noted_waiting_count ps (record_after es ps cs) (note_of es ps (record_after es ps cs) c)

    moved : Moved t (lent c) (is_ending c) there (last_response es ps cs c) (record_after es ps (c ∷ cs))
    unfolding record_after Lent
    moved = next_moved es ps checked (record_after es ps cs) (tied_after es ps checked cs octets.1) c octets.0

    -- ---- strictly

    module _ (strict : is_strict_after (history es ps cs) ≡ true) (m : Started) (around : List Started) (unknown : m.end ≡ None) (closing : Closes es ps cs c m around) where
      none : there.waiting_count ≡ 0
      none = waits_there ∙ closing.none_waits

      is_strict : there.settings.strict ≡ true
      unfolding Lent
      is_strict = ap (λ (s : Settings). s.strict) (noted_settings ps (record_after es ps cs) (note_of es ps (record_after es ps cs) c)) ∙ mode_after_lem es ps checked cs octets.1 ∙ strict

      -- as many masters are open in the record as stand
      open_count : length closing.inside + suc (length around) ≡ there.open_count
      open_count =
          sym (length-append closing.inside (m ∷ around)) ∙ ap length (sym closing.stands) ∙ stack_length t there _ _ _ standing_tied.linked none

      its_opens : map as_started (reverse (opens there)) ≡ closing.inside ++ m ∷ around
      its_opens = sym (stack_is t there _ _ _ standing_tied.linked none) ∙ closing.stands

      count : length (opens there) ≡ there.open_count
      count = opens-length there standing_tied.linked.arrays standing_tied.linked.good.open_count

      -- it is a Master of the table
      master : data_type_of t m.id ≡ Master
      master =
          let member : Memᴰ m (standing_at es ps cs c) = subst (Memᴰ m) (sym closing.stands) (mathlib.Core.List.Memᴰ.append_right closing.inside (mathlib.Core.List.Memᴰ.head refl)) in
          master_is _ (every_member (λ (o : Started). is_master (data_type_of t o.id)) standing_tied.linked.kinds member)

      -- by the position
      full_62 : step3 there < there.open_count → step3 there ≤ length around → EndsBy62 es ps cs c m around
      full_62 h n =
          let f = full_around there.position (opens there) closing.inside m around its_opens (omega (arith, count)) n unknown in
          by_known_end f.parent f.end f.stands f.known (omega (arith, f.past, standing_tied.linked.place))

      -- by the next ID
      id_62 : (h : TagHeader) → read_header t (lent c) ≡ Ok (status.Complete h) → step10 t there h.id ≤ length around → EndsBy62 es ps cs c m around
      unfolding is_ended_in
      id_62 h is n =
          let more : length closing.inside < ended_tops there.settings.strict t h.id (reverse (opens there)) = omega (arith, open_count) in
          let ended : is_ended_strictly t m.id h.id ≡ true =
          subst (λ (b : Bool). is_ended_in b t m.id h.id ≡ true) is_strict
          (ended-within there.settings.strict t h.id (reverse (opens there)) closing.inside m around its_opens more) in
          by_element h is ((strictly_as_rfc es ps checked m.id h.id master).0 ended)

      -- so by one of the cases
      by_moved : Moved t (lent c) (is_ending c) there (last_response es ps cs c) (record_after es ps (c ∷ cs)) → EndsBy62 es ps cs c m around
      by_moved (no_event q w o) = absurd (omega (arith, open_count, closing.closed))
      by_moved (element q w x o) = absurd (omega (arith, open_count, closing.closed))
      by_moved (hands_out q w) = absurd (omega (arith, none))
      by_moved (closes q w k o n (as_decided (by_position e))) = full_62 (omega arith) (omega (arith, closing.closed))
      by_moved (closes q w k o n (as_decided (by_next_id h is e))) = id_62 h is (omega (arith, closing.closed))
      by_moved (closes q w k o n (at_end over e)) = by_end_of_input (ending_none c over e)

    -- a call that closes such a master does so by one of the cases
    closes_by : is_strict_after (history es ps cs) ≡ true → (m : Started) (around : List Started) → m.end ≡ None → Closes es ps cs c m around → EndsBy62 es ps cs c m around
    closes_by strict m around unknown closing = by_moved strict m around unknown closing moved

-- ---- what is told, and the masters that stand

-- an End takes the first away
ends_first : (t : List Entry) (s : List ℕ) (x : Response) (starts : List Started) (left : List ℕ) → tells_end x ≡ true → stack (after_response t s x starts) (left_by x starts left) ≡ drop 1 (stack starts left)
ends_first t s (answered (Ok (answer.Event (event.Start x o))) n) starts left e = absurd (false≢true e)
ends_first t s (answered (Ok (answer.Event (event.End end))) n) [] [] e = refl
ends_first t s (answered (Ok (answer.Event (event.End end))) n) [] (y ∷ left) e = refl
ends_first t s (answered (Ok (answer.Event (event.End end))) n) (m ∷ starts) left e = refl
ends_first t s (answered (Ok (answer.Event (event.Data x o v))) n) starts left e = absurd (false≢true e)
ends_first t s (answered (Ok (answer.NeedMore missing)) n) starts left e = absurd (false≢true e)
ends_first t s (answered (Ok answer.Finished) n) starts left e = absurd (false≢true e)
ends_first t s (answered (Err r) n) starts left e = absurd (false≢true e)
ends_first t s (searched a n) starts left e = absurd (false≢true e)
ends_first t s silent starts left e = absurd (false≢true e)

-- a recovery leaves a master of unknown size as it is
same_later : (n : ℕ) (a m : Started) → m ≡ later n a → m.end ≡ None → m ≡ a
unfolding later
same_later n a m e u = e ∙ go a.end refl (ap (λ (x : Started). x.end) (sym e) ∙ u)
  where
    go : (g : Option ℕ) → a.end ≡ g → later_end n g ≡ None → later n a ≡ a
    go None q z = ap (λ (g : Option ℕ). record { id = a.id; offset = a.offset; end = g }) (ap (later_end n) q ∙ sym q)
    go (Some f) q z = let y : ◌≡◌ {A = ℕ} 0 1 = cc in absurd_eq y

unknown_later : (n : ℕ) (m : Started) → m.end ≡ None → (l : List Started) → Memᴰ m (map (later n) l) → Memᴰ m l
unknown_later n m u [] i = absurd (mathlib.Core.List.Memᴰ.not-nil i)
unknown_later n m u (a ∷ l) i =
    ⊎_elim (λ (e : m ≡ later n a). mathlib.Core.List.Memᴰ.head (same_later n a m e u)) (λ (j : Memᴰ m (map (later n) l)). mathlib.Core.List.Memᴰ.tail (unknown_later n m u l j)) (mathlib.Core.List.Memᴰ.cases_cons i)

-- without an event the masters of unknown size stand as they stood
none_gone : (t : List Entry) (s : List ℕ) (x : Response) (starts : List Started) (left : List ℕ) → tells_no_event x ≡ true → (w : ℕ) (m : Started) → m.end ≡ None
    → Memᴰ m (take w (stack (after_response t s x starts) (left_by x starts left))) → Memᴰ m (take w (stack starts left))
none_gone t s (answered (Ok (answer.Event x)) n) starts left e w m u i = absurd (false≢true e)
none_gone t s (answered (Ok (answer.NeedMore missing)) n) starts left e w m u i = i
none_gone t s (answered (Ok answer.Finished) n) starts left e w m u i = i
none_gone t s (answered (Err r) n) starts left e w m u i = i
none_gone t s (searched (Ok (search.Found n)) k) starts left e w m u i =
    unknown_later n m u (take w (stack starts left)) (subst (Memᴰ m) (ap (take w) (stack_later n starts left) ∙ take-map (later n) w (stack starts left)) i)
none_gone t s (searched (Ok (search.NotFound n)) k) starts left e w m u i = i
none_gone t s (searched (Err r) k) starts left e w m u i = i
none_gone t s silent starts left e w m u i = i

-- who is among the first w after the first is among the first w + 1
one_more : {A : Type 0} {m : A} (w : ℕ) (l : List A) → Memᴰ m (take w (drop 1 l)) → Memᴰ m (take (w + 1) l)
one_more w [] i = rw (take-nil (w + 1)) (rw (take-nil w) at i)
one_more w (a ∷ l) i = rw add-one (mathlib.Core.List.Memᴰ.tail i)

-- who is among the first w, of some
some_taken : {A : Type 0} {m : A} (w : ℕ) (l : List A) → Memᴰ m (take w l) → 0 < w
some_taken zero l i = absurd (mathlib.Core.List.Memᴰ.not-nil i)
some_taken (suc w) l i = omega arith

-- an End is an event
no_end : (x : Response) → tells_no_event x ≡ true → tells_end x ≡ true → ⊥
no_end (answered (Ok (answer.Event x)) n) e f = false≢true e
no_end (answered (Ok (answer.NeedMore missing)) n) e f = false≢true f
no_end (answered (Ok answer.Finished) n) e f = false≢true f
no_end (answered (Err r) n) e f = false≢true f
no_end (searched a n) e f = false≢true f
no_end silent e f = false≢true f

-- ---- any calls

module _ (es ps : List ℕ) (checked : check_table es ps ≡ (Ok tt)) where
  -- a master of unknown size whose End waits after these calls closed in them
  abbrev Held : List Call → Type 0
  Held cs = (m : Started) → m.end ≡ None
      → Memᴰ m (take (record_after es ps cs).waiting_count (stack (open_at es ps cs) (parents_left ps (table_of es ps) (history es ps cs)))) → ClosedIn es ps cs m

  module _ (cs : List Call) (c : Call) (octets : Lent (c ∷ cs)) (held : Held cs) (m : Started) (unknown : m.end ≡ None) where
    earlier : ClosedIn es ps cs m → ClosedIn es ps (c ∷ cs) m
    earlier k = record {
      later = c ∷ k.later;
      call = k.call;
      before = k.before;
      in_run = ap (λ (l : List Call). c ∷ l) k.in_run;
      around = k.around;
      closes = k.closes;
      by_62 = k.by_62;
    }

    here : (around : List Started) → Closes es ps cs c m around → ClosedIn es ps (c ∷ cs) m
    here around k = record {
      later = [];
      call = c;
      before = cs;
      in_run = refl;
      around = around;
      closes = k;
      by_62 = λ strict. closes_by es ps checked cs c octets strict m around unknown k;
    }

    -- where an End waits, the call implies no parent
    none_implied : 0 < (record_after es ps cs).waiting_count → left_at es ps cs c ≡ parents_left ps (table_of es ps) (history es ps cs)
    unfolding Lent
    none_implied h = go (record_after es ps cs).settled refl
      where
        go : (b : Bool) → (record_after es ps cs).settled ≡ b → left_at es ps cs c ≡ parents_left ps (table_of es ps) (history es ps cs)
        go true e = ap (λ (l : List ℕ). l ++ parents_left ps (table_of es ps) (history es ps cs)) (cond_yes _ [] _ (sym (settled_after es ps checked cs octets.1) ∙ e))
        go false e = absurd (omega (arith, unsettled_waiting (table_of es ps) (record_after es ps cs) _ _ _ (tied_after es ps checked cs octets.1).linked e))

    -- its End waited before the call
    waited : Memᴰ m (take (record_after es ps cs).waiting_count (standing_at es ps cs c)) → ClosedIn es ps (c ∷ cs) m
    waited i =
        let w = (record_after es ps cs).waiting_count in
        earlier (held m unknown (subst (λ (l : List ℕ). Memᴰ m (take w (stack (open_at es ps cs) l))) (none_implied (some_taken w _ i)) i))

    -- its End is told by the call, or waits after it
    told_or_waits : tells_end (last_response es ps cs c) ≡ true → Memᴰ m (take ((record_after es ps (c ∷ cs)).waiting_count + 1) (standing_at es ps cs c)) → ClosedIn es ps (c ∷ cs) m
    told_or_waits e i = go (moved es ps checked cs c octets)
      where
        after : TagDecoder
        after = record_after es ps (c ∷ cs)

        go : Moved (table_of es ps) (lent c) (is_ending c) (there es ps checked cs c octets) (last_response es ps cs c) after → ClosedIn es ps (c ∷ cs) m
        go (no_event q w o) = absurd (no_end (last_response es ps cs c) q e)
        go (element q w x o) = absurd (true≢false (sym e ∙ q))
        go (hands_out q w) = waited (subst (λ (n : ℕ). Memᴰ m (take n (standing_at es ps cs c))) (w ∙ waits_there es ps checked cs c octets) i)
        go (closes q w k o n why) =
            let s = within (after.waiting_count + 1) (standing_at es ps cs c) i in
            let all = stack_length (table_of es ps) (there es ps checked cs c octets) _ _ _ (standing_tied es ps checked cs c octets).linked w in
            here s.around
            (record {
              inside = s.inside;
              stands = s.parts;
              none_waits = sym (waits_there es ps checked cs c octets) ∙ w;
              closed = omega (arith, s.enough, all);
            })

    -- its End waits after the call
    waits_on : Memᴰ m (take (record_after es ps (c ∷ cs)).waiting_count (stack (open_at es ps (c ∷ cs)) (parents_left ps (table_of es ps) (history es ps (c ∷ cs))))) → ClosedIn es ps (c ∷ cs) m
    unfolding history starts_open parents_left
    waits_on i = go (moved es ps checked cs c octets)
      where
        after : TagDecoder
        after = record_after es ps (c ∷ cs)

        by_end : tells_end (last_response es ps cs c) ≡ true → ClosedIn es ps (c ∷ cs) m
        by_end q =
            told_or_waits q
            (one_more after.waiting_count (standing_at es ps cs c)
            (subst (λ (k : List Started). Memᴰ m (take after.waiting_count k)) (ends_first (table_of es ps) (lent c) (last_response es ps cs c) (open_at es ps cs) (left_at es ps cs c) q) i))

        go : Moved (table_of es ps) (lent c) (is_ending c) (there es ps checked cs c octets) (last_response es ps cs c) after → ClosedIn es ps (c ∷ cs) m
        go (no_event q w o) =
            waited (subst (λ (n : ℕ). Memᴰ m (take n (standing_at es ps cs c))) (w ∙ waits_there es ps checked cs c octets)
            (none_gone (table_of es ps) (lent c) (last_response es ps cs c) (open_at es ps cs) (left_at es ps cs c) q after.waiting_count m unknown i))
        go (element q w x o) = absurd (omega (arith, some_taken after.waiting_count _ i))
        go (hands_out q w) = by_end q
        go (closes q w k o n why) = by_end q

  -- so each that waits closed before
  held_after : (cs : List Call) → Lent cs → Held cs
  unfolding record_after Lent
  held_after [] l m u i = absurd (mathlib.Core.List.Memᴰ.not-nil i)
  held_after (c ∷ cs) l m u i = waits_on cs c l (held_after cs l.1) m u i

  end_by_62 : (cs : List Call) (c : Call) → Lent (c ∷ cs) → (end : WaitingEnd) → Answers es ps cs c (Ok (answer.Event (event.End end))) → (m : Started) (around : List Started)
      → standing_at es ps cs c ≡ m ∷ around → m.end ≡ None → ClosedIn es ps (c ∷ cs) m
  unfolding Lent
  end_by_62 cs c l end a m around e u = told_or_waits cs c l (held_after cs l.1) m u (ap tells_end a.1) (rw (e, add-one) (mathlib.Core.List.Memᴰ.head refl))

-- the statement
pub unknown_ends : (es ps : List ℕ) → check_table es ps ≡ Ok tt → UnknownEnds es ps
unknown_ends es ps checked = record { closes_by_62 = closes_by es ps checked; end_by_62 = end_by_62 es ps checked }
