-- Demand 3: what a checked table guarantees over any calls. Each theorem speaks of the last of any calls on a fresh
-- decoder, so of each call of any run. What is told are the answers of the very definitions that the contracts of the
-- routines cite. Assumes nothing.
use Prim.Native.Nat.{ℕ, ◌+◌, ◌≤◌}
use mathlib.Core.Path.{◌≡◌, refl, sym, ap, ◌∙◌, subst}
use mathlib.Core.Bool.{Bool, true, false, false≢true}
use mathlib.Core.List.{List, [], ◌∷◌, map, reverse}
use native.Mathlib.Omega.{arith}
use borrow.Author.Tests.{leb-true, eqb-true}
use lib.Dec.{eqb}
use lib.ListN.{length, length-append, length-map, length-reverse}
use Rattle.table.specs.Table.{Entry, table_of, data_type_of}
use Rattle.basics.proofs.Every.{every_member}
use Rattle.tag_parse.proofs.Headers.{header_spec}
use Rattle.tag_parse.specs.declared.types.TagValue.{TagValue}
use Rattle.decoder_rules.specs.Record.{opens, waits}
use Rattle.decoder_rules.specs.Numbers.{error_number}
use Rattle.decoder_rules.specs.declared.types.Answer.TheVariants as answer
use Rattle.decoder_rules.specs.declared.types.DecodeError.{DecodeError}
use Rattle.decoder_rules.specs.declared.types.Event.{Event}
use Rattle.decoder_rules.specs.declared.types.Event.TheVariants as event
use Rattle.decoder_rules.specs.declared.types.Search.TheVariants as search
use Rattle.decoder_rules.specs.declared.types.TagDecoder.{TagDecoder}
use Rattle.decoder_rules.specs.declared.types.WaitingEnd.{WaitingEnd}
use Rattle.basics.proofs.Bools.{both, not-false}
use Rattle.decoder_rules.proofs.MoveEffects.{opens-length, waits-length}
use Rattle.decoder_rules.specs.Settings.{is_finished}
use Rattle.guarantees.specs.Calls.{Call, decoding, ending, recovering, allow, strictly, limit, lent, Response, answered, searched, silent, response_to, record_after, history, Lent, refusal_of}
use Rattle.guarantees.specs.Settling.{is_strict_after}
use Rattle.guarantees.specs.History.{Started, declared_end, after_response, after_declared, starts_open, starts_declared, parents_left, test_after, child_test_on, child_test_never_off, is_no_recovery, never_recovered}
use Rattle.guarantees.specs.Promises.{event_kind, event_id, element_offset, Runs, last_response, Answers, open_at, left_at, position_at, HeaderOf, HeaderAlone, WholeData, EndMatches, EndsInside}
use Rattle.guarantees.proofs.Tied.{parent_of, as_end, named, as_started, stack, Tied}
use Rattle.guarantees.proofs.Steps.{reaches_to, all_reach, Ends, ElementFacts, EventFacts, RefusalFacts, no_starts}
use Rattle.guarantees.proofs.AnyCalls.{ResponseFacts, MeasuredResponse, tied_after, mode_after_lem, promised_after, test_after_lem}
use Rattle.std.specs.Prelude.{Err, Ok, Option, Some}

-- ---- the refusals

-- a number that no refusal has
never : (t : List Entry) (off : Bool) (s : List ℕ) (starts : List Started) (left : List ℕ) (p m : ℕ) → (m ≡ 0 → ⊥) → (m ≡ 12 → ⊥)
    → ((e : DecodeError) → RefusalFacts t off s starts left p e → error_number e ≡ m → ⊥) → (x : Response) → ResponseFacts t off s starts left p x → refusal_of x ≡ m → ⊥
never t off s starts left p m z w f (answered (Ok (answer.Event e)) n) k q = z (sym q)
never t off s starts left p m z w f (answered (Ok (answer.NeedMore missing)) n) k q = z (sym q)
never t off s starts left p m z w f (answered (Ok answer.Finished) n) k q = z (sym q)
never t off s starts left p m z w f (answered (Err r) n) k q = f r.error k q
never t off s starts left p m z w f (searched (Ok (search.Found passed)) n) k q = z (sym q)
never t off s starts left p m z w f (searched (Ok (search.NotFound passed)) n) k q = z (sym q)
never t off s starts left p m z w f (searched (Err r) n) k q = w (sym q ∙ k)
never t off s starts left p m z w f silent k q = z (sym q)

-- 19 comes only where 32 masters are open, those that are implied with them
full_at_19 : (t : List Entry) (off : Bool) (s : List ℕ) (starts : List Started) (left : List ℕ) (p : ℕ) (x : Response) → ResponseFacts t off s starts left p x → refusal_of x ≡ 19
    → length (stack starts left) ≡ 32
full_at_19 t off s starts left p (answered (Ok (answer.Event e)) n) k q = absurd (omega arith)
full_at_19 t off s starts left p (answered (Ok (answer.NeedMore missing)) n) k q = absurd (omega arith)
full_at_19 t off s starts left p (answered (Ok answer.Finished) n) k q = absurd (omega arith)
full_at_19 t off s starts left p (answered (Err r) n) k q = k.at_19 q
full_at_19 t off s starts left p (searched (Ok (search.Found passed)) n) k q = absurd (omega arith)
full_at_19 t off s starts left p (searched (Ok (search.NotFound passed)) n) k q = absurd (omega arith)
full_at_19 t off s starts left p (searched (Err r) n) k q = absurd (omega arith)
full_at_19 t off s starts left p silent k q = absurd (omega arith)

-- ---- elements

kind_of : (t : List Entry) (off : Bool) (s : List ℕ) (starts : List Started) (left : List ℕ) (p : ℕ) (e : Event) → EventFacts t off s starts left p e → event_kind e ≡ data_type_of t (event_id e)
kind_of t off s starts left p (event.Start x o) f = sym f.0
kind_of t off s starts left p (event.End end) f = sym f.0
kind_of t off s starts left p (event.Data x o v) f = f.0

element_of_lem : (t : List Entry) (off : Bool) (s : List ℕ) (starts : List Started) (left : List ℕ) (p : ℕ) (e : Event) (o : ℕ) → EventFacts t off s starts left p e → element_offset e ≡ Some o
    → ElementFacts t off s starts p (event_id e) o
element_of_lem t off s starts left p (event.Start x q) o f e = let z : q ≡ o = cc in subst (ElementFacts t off s starts p x) z f.1
element_of_lem t off s starts left p (event.End end) o f e = let z : ◌≡◌ {A = ℕ} 0 1 = cc in absurd (omega arith)
element_of_lem t off s starts left p (event.Data x q v) o f e = let z : q ≡ o = cc in subst (ElementFacts t off s starts p x) z f.1

reached : (e : ℕ) (starts : List Started) → all_reach e starts ≡ true → EndsInside e starts
reached e starts h m i f k = leb-true e f (subst (λ (g : Option ℕ). reaches_to e g ≡ true) k (every_member (λ (m : Started). reaches_to e m.end) h i))

-- ---- the declared ends, where no call was a recovery

module _ (es ps : List ℕ) where
  declared_step : (d : TagDecoder) (c : Call) (l : List Started) → is_no_recovery c ≡ true → after_response (table_of es ps) (lent c) (response_to es ps d c) l ≡ after_declared (table_of es ps) (lent c) (response_to es ps d c) l
  declared_step d (decoding s) l h = refl
  declared_step d (ending s) l h = refl
  declared_step d (recovering s) l h = absurd (false≢true h)
  declared_step d (allow ids hierarchy oversized) l h = refl
  declared_step d (strictly b) l h = refl
  declared_step d (limit n) l h = refl

  declared_so : (cs : List Call) → never_recovered cs ≡ true → open_at es ps cs ≡ starts_declared (table_of es ps) (history es ps cs)
  unfolding never_recovered history starts_open starts_declared
  declared_so [] h = refl
  declared_so (c ∷ cs) h =
      let b = both (is_no_recovery c) (never_recovered cs) h in
      declared_step (record_after es ps cs) c (open_at es ps cs) b.left ∙ ap (after_declared (table_of es ps) (lent c) (response_to es ps (record_after es ps cs) c)) (declared_so cs b.right)

-- a test that was never off is on
pub never_off_on : (cs : List Call) → child_test_never_off cs ≡ true → child_test_on cs ≡ true
unfolding child_test_never_off child_test_on
never_off_on [] h = refl
never_off_on (c ∷ cs) h = let b = both (test_after c true) (child_test_never_off cs) h in ap (test_after c) (never_off_on cs b.right) ∙ b.left

-- ==== the promises

module _ (es ps : List ℕ) (cs : List Call) (c : Call) (run : Runs es ps (c ∷ cs)) where
  -- what was proved of the last call
  facts : (x : Response) → last_response es ps cs c ≡ x → ResponseFacts (table_of es ps) (record_after es ps cs).settings.allow_oversized (lent c) (open_at es ps cs) (left_at es ps cs c) (position_at es ps cs) x
  facts x e = subst (ResponseFacts (table_of es ps) (record_after es ps cs).settings.allow_oversized (lent c) (open_at es ps cs) (left_at es ps cs c) (position_at es ps cs)) e (promised_after es ps cs c run).promised

  no_refusal_lem : (m : ℕ) → (m ≡ 0 → ⊥) → (m ≡ 12 → ⊥)
      → ((e : DecodeError) → RefusalFacts (table_of es ps) (record_after es ps cs).settings.allow_oversized (lent c) (open_at es ps cs) (left_at es ps cs c) (position_at es ps cs) e → error_number e ≡ m → ⊥)
      → refusal_of (last_response es ps cs c) ≡ m → ⊥
  no_refusal_lem m z w f =
      never (table_of es ps) (record_after es ps cs).settings.allow_oversized (lent c) (open_at es ps cs) (left_at es ps cs c) (position_at es ps cs) m z w f (last_response es ps cs c) (facts (last_response es ps cs c) refl)

  -- 1. The refusal of a table fault, 24, never comes.
  pub no_table_fault : refusal_of (last_response es ps cs c) ≡ 24 → ⊥
  no_table_fault = no_refusal_lem 24 (omega arith) (omega arith) (λ e f q. f.not_24 q)

  -- the refusal of a bad state, 11, never comes
  pub no_bad_state : refusal_of (last_response es ps cs c) ≡ 11 → ⊥
  no_bad_state = no_refusal_lem 11 (omega arith) (omega arith) (λ e f q. f.not_11 q)

  -- nor does that of a bad shape, 10
  pub no_bad_shape : refusal_of (last_response es ps cs c) ≡ 10 → ⊥
  no_bad_shape = no_refusal_lem 10 (omega arith) (omega arith) (λ e f q. f.not_10 q)

  -- 2. Each event has the kind that the table gives its ID, or is raw where it gives none.
  pub kind_of_table : (e : Event) → Answers es ps cs c (Ok (answer.Event e)) → event_kind e ≡ data_type_of (table_of es ps) (event_id e)
  kind_of_table e a = kind_of (table_of es ps) (record_after es ps cs).settings.allow_oversized (lent c) (open_at es ps cs) (left_at es ps cs c) (position_at es ps cs) e (facts _ a.1)

  -- 3. Each End names the last Start still open or, where none is open, the innermost implied parent that is left, with
  -- its offset.
  pub end_matches : (end : WaitingEnd) → Answers es ps cs c (Ok (answer.Event (event.End end))) → EndMatches (open_at es ps cs) (left_at es ps cs c) end
  end_matches end a = (facts _ a.1).1

  -- the offset of a Start or a Data is the position, the count of all bytes taken before it
  pub offset_is_position : (e : Event) (o : ℕ) → element_offset e ≡ Some o → Answers es ps cs c (Ok (answer.Event e)) → o ≡ position_at es ps cs
  offset_is_position e o i a = (element_of_lem (table_of es ps) (record_after es ps cs).settings.allow_oversized (lent c) (open_at es ps cs) (left_at es ps cs c) (position_at es ps cs) e o (facts _ a.1) i).offset

  -- the element is the one whose header stands at the front of the bytes lent, so that `declared_end` of them is its end
  pub element_header : (e : Event) (o : ℕ) → element_offset e ≡ Some o → Answers es ps cs c (Ok (answer.Event e)) → HeaderOf (table_of es ps) (lent c) e
  element_header e o i a =
      let f = (element_of_lem (table_of es ps) (record_after es ps cs).settings.allow_oversized (lent c) (open_at es ps cs) (left_at es ps cs c) (position_at es ps cs) e o (facts _ a.1) i).heads in
      let k : f.its.kind ≡ data_type_of (table_of es ps) (event_id e) = (header_spec (table_of es ps) (lent c) f.its f.is_read).kind ∙ ap (data_type_of (table_of es ps)) f.same_id in
      record { its = f.its; read = f.is_read; same_id = f.same_id; same_kind = k ∙ sym (kind_of_table e a) }

  -- 4. When the finish is answered, every Start has had its End.
  pub finish_closes : Answers es ps cs c (Ok answer.Finished) → open_at es ps cs ≡ []
  finish_closes a = facts _ a.1

  -- 5. with the child-size test on at this call, whatever was done before: each element of known size ends inside every
  -- master of known size then open, as recoveries let these grow
  pub ends_inside : child_test_on cs ≡ true → (e : Event) (o end : ℕ) → element_offset e ≡ Some o → Answers es ps cs c (Ok (answer.Event e))
      → declared_end (table_of es ps) o (lent c) ≡ Some end → EndsInside end (open_at es ps cs)
  unfolding Lent
  ends_inside on e o end i a k =
      let off : Bool = (record_after es ps cs).settings.allow_oversized in
      let f : ElementFacts (table_of es ps) off (lent c) (open_at es ps cs) (position_at es ps cs) (event_id e) o =
      element_of_lem (table_of es ps) off (lent c) (open_at es ps cs) (left_at es ps cs c) (position_at es ps cs) e o (facts _ a.1) i in
      let k' : declared_end (table_of es ps) (position_at es ps cs) (lent c) ≡ Some end = subst (λ (q : ℕ). declared_end (table_of es ps) q (lent c) ≡ Some end) f.offset k in
      let is-on : off ≡ false = not-false off (test_after_lem es ps run.checked cs run.octets.1 ∙ on) in
      let g : Ends off (Some end) (open_at es ps cs) = subst (λ (z : Option ℕ). Ends off z (open_at es ps cs)) k' f.inside in
      reached end (open_at es ps cs) (g is-on)

  -- 5. If the child-size test was never switched off and there was no recovery, each element of known size ends inside
  -- every master of known size then open. The ends are those that the headers declared.
  pub element_ends_inside : child_test_never_off cs ≡ true → never_recovered cs ≡ true → (e : Event) (o end : ℕ) → element_offset e ≡ Some o
      → Answers es ps cs c (Ok (answer.Event e)) → declared_end (table_of es ps) o (lent c) ≡ Some end → EndsInside end (starts_declared (table_of es ps) (history es ps cs))
  element_ends_inside on none e o end i a k = subst (EndsInside end) (declared_so es ps cs none) (ends_inside (never_off_on cs on) e o end i a k)

  -- what was measured of the last call
  measured : (x : Response) → last_response es ps cs c ≡ x → MeasuredResponse (record_after es ps cs).settings.strict (table_of es ps) (lent c) (position_at es ps cs) x
  measured x q = subst (MeasuredResponse (record_after es ps cs).settings.strict (table_of es ps) (lent c) (position_at es ps cs)) q (promised_after es ps cs c run).measured

  -- a Start takes its header and nothing more
  pub start_takes_header : (x o n : ℕ) → last_response es ps cs c ≡ answered (Ok (answer.Event (event.Start x o))) n → HeaderAlone (table_of es ps) (lent c) n
  start_takes_header x o n q = measured _ q

  -- a Data lay whole in the bytes lent, and is taken whole
  pub data-whole : (x o n : ℕ) (v : TagValue) → last_response es ps cs c ≡ answered (Ok (answer.Event (event.Data x o v))) n → WholeData (is_strict_after (history es ps cs)) (table_of es ps) (lent c) o n v
  unfolding Lent
  data-whole x o n v q =
      subst (λ (b : Bool). WholeData b (table_of es ps) (lent c) o n v) (mode_after_lem es ps run.checked cs run.octets.1)
      (subst (λ (p : ℕ). WholeData (record_after es ps cs).settings.strict (table_of es ps) (lent c) p n v) (sym (offset_is_position (event.Data x o v) o refl (n, q))) (measured _ q))

  -- 19 comes only where 32 masters are open, the implied parents with them
  pub at_19_full : refusal_of (last_response es ps cs c) ≡ 19 → length (open_at es ps cs) + length (left_at es ps cs c) ≡ 32
  at_19_full q =
      let n = full_at_19 (table_of es ps) (record_after es ps cs).settings.allow_oversized (lent c) (open_at es ps cs) (left_at es ps cs c) (position_at es ps cs) (last_response es ps cs c) (facts _ refl) q in
      omega (arith, n, length-append (open_at es ps cs) (map parent_of (left_at es ps cs c)), length-map (left_at es ps cs c) parent_of)

-- ---- limits, after any calls

module _ (es ps : List ℕ) (cs : List Call) (run : Runs es ps cs) where
  tied_now : Tied (table_of es ps) (record_after es ps cs) (open_at es ps cs) (parents_left ps (table_of es ps) (history es ps cs)) (position_at es ps cs)
  tied_now = tied_after es ps run.checked cs run.octets

  -- at most 32 Ends are still to come
  pub at_most_32 : length (open_at es ps cs) + length (parents_left ps (table_of es ps) (history es ps cs)) ≤ 32
  at_most_32 =
      omega (arith, tied_now.linked.few, length-append (open_at es ps cs) (map parent_of (parents_left ps (table_of es ps) (history es ps cs))), length-map (parents_left ps (table_of es ps) (history es ps cs)) parent_of)

  -- so the arrays of 32 hold the open masters and the waiting Ends, together too
  pub arrays_hold : (record_after es ps cs).open_count + (record_after es ps cs).waiting_count ≤ 32
  arrays_hold =
      let d = record_after es ps cs in
      let k = tied_now.linked in
      let w : length (map as_end k.ended) ≡ d.waiting_count = ap length k.waiting ∙ length-map (waits d) named ∙ waits-length d k.arrays k.good.waiting_count in
      let o : length (opens d) ≡ d.open_count = opens-length d k.arrays k.good.open_count in
      let m : length (map as_started (reverse (opens d))) ≡ length (opens d) = simp (length-map, length-reverse) in
      omega (arith, k.few, ap length k.parts, length-append k.ended (map as_started (reverse (opens d))), length-map k.ended as_end)

  -- 4, of `is_finished`: where it says so, every Start has had its End
  pub is_finished_closes : is_finished (record_after es ps cs) ≡ true → open_at es ps cs ≡ []
  is_finished_closes e =
      let d = record_after es ps cs in
      let b = both d.finished (eqb d.waiting_count 0) e in
      let w : d.waiting_count ≡ 0 = eqb-true d.waiting_count 0 b.right in
      no_starts (open_at es ps cs) (omega (arith, tied_now.finished b.left))

  -- the record's position is the count of all bytes taken
  pub position_is_taken : (record_after es ps cs).position ≡ position_at es ps cs
  position_is_taken = tied_now.linked.place
