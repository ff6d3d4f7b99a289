-- The counts that a record holds are those that a caller can tell from the events: each call keeps it, and an End
-- carries what came since its Start. Assumes nothing.
use Prim.Native.Nat.{ℕ, suc, ◌+◌, ◌*◌, ◌≤◌, ◌<◌}
use mathlib.Core.Path.{◌≡◌, refl, sym, ap, ◌∙◌, subst}
use mathlib.Core.Bool.{Bool, true}
use mathlib.Core.List.{List, [], ◌∷◌, ◌++◌, map, reverse}
use native.Mathlib.Omega.{arith}
use lib.ListN.{length, get_or, drop, length-map, length-append}
use Rattle.tools.specs.Bytes.{Octets}
use Rattle.table.specs.Shape.{good_shape}
use Rattle.table.specs.Check.{check_table}
use Rattle.table.specs.Passed.{PassedTable}
use Rattle.table.specs.Table.{Entry, table_of}
use Rattle.table.proofs.Passed.{passed_gives}
use Rattle.tag_parse.proofs.Headers.{header_sound, header_long}
use Rattle.decoder_rules.specs.Record.{opens, waits, with_settings, with_open, with_notes, at_position, counted}
use Rattle.decoder_rules.specs.OneCall.{check_record10to12}
use Rattle.decoder_rules.specs.Deciding.{decide}
use Rattle.decoder_rules.specs.Moving.{master_at, move, apply, decode}
use Rattle.decoder_rules.specs.Recovery.{try_recover}
use Rattle.decoder_rules.specs.FirstPlace.{record_on, Standing, Incomplete, Valid, Other, stands_at, first_place, recovered_at}
use Rattle.decoder_rules.specs.Settings.{limited_to}
use Rattle.decoder_rules.specs.declared.types.Action.{Action}
use Rattle.decoder_rules.specs.declared.types.Action.TheVariants as act
use Rattle.decoder_rules.specs.declared.types.Answer.{Answer}
use Rattle.decoder_rules.specs.declared.types.Answer.TheVariants as answer
use Rattle.decoder_rules.specs.declared.types.Decoded.{Decoded}
use Rattle.decoder_rules.specs.declared.types.Event.{Event}
use Rattle.decoder_rules.specs.declared.types.Event.TheVariants as event
use Rattle.decoder_rules.specs.declared.types.TagDecoder.{TagDecoder}
use Rattle.decoder_rules.specs.declared.types.WaitingEnd.{WaitingEnd}
use Rattle.decoder_rules.proofs.Counting.{counted_arrays}
use Rattle.decoder_rules.proofs.EndExits as end
use Rattle.decoder_rules.proofs.EndExits.{EndExit, EofExit, eof_exits, ending as atEnd}
use Rattle.decoder_rules.proofs.FirstPlace.{note_holds, recovery_is_first}
use Rattle.decoder_rules.proofs.MoveEffects.{opens-length, with_notes_arrays}
use Rattle.decoder_rules.proofs.MoveLaws.{with_note}
use Rattle.decoder_move.specs.Applies.{ActionApplies}
use Rattle.decoder_move.proofs.DecisionApplies.{decide_applies, hands_out, closes, starts as start_fits}
use Rattle.guarantees.specs.Calls.{Call, decoding, ending, recovering, allow, strictly, limit, lent, Response, answered, searched, silent, response_to, next, record_after, history, Lent}
use Rattle.guarantees.specs.Settling.{implied_by, seen_parents}
use Rattle.guarantees.specs.History.{Started, parents_left, taken_in, position}
use Rattle.guarantees.specs.Promises.{Runs, last_response, Answers, open_at, left_at, position_at, EndMatches}
use Rattle.guarantees.specs.Counts.{child_of_first, counts_by_event, counts_by_answer, counts_by, with_implied, child_counts, counts_at, children_since, children_at, counts_in, total, ChildCounts}
use Rattle.guarantees.proofs.AnyCalls.{MeasuredResponse, good_shape_lem, tied_after, parents_after, promised_after}
use Rattle.guarantees.proofs.Decided.{Facts, NoteFacts, AllFacts, decide_facts, step7_facts}
use Rattle.guarantees.proofs.EmptyPlaces.{Tidy, on_tidy, tidy_after}
use Rattle.guarantees.proofs.Guarantees.{end_matches}
use Rattle.guarantees.proofs.ImpliedFirst.{implied_first}
use Rattle.guarantees.proofs.Notes.{search_note_or, note_of}
use Rattle.guarantees.proofs.Steps.{MeasuredEvent, with_note_tied, quiet_none_waits}
use Rattle.guarantees.proofs.Tied.{as_started, parent_of, as_end, named, Linked, Tied}
use Rattle.guarantees.proofs.CountMoves.{tag_count, end_count, handed_counts, closed_counts, counted-counts, opened-counts, none_yet, grown_counts, noted-counts}
use Rattle.guarantees.proofs.CountsLookedUp.{LookedUp, told_looked, implied_looked}
use Rattle.std.specs.Prelude.{Err, None, Ok, Option, Result, Some, ⊤}
use Rattle.decoder_rules.specs.declared.types.DecodeError.{DecodeError}
use Rattle.decoder_rules.specs.declared.types.Refusal.{Refusal}

-- ---- a call: l are the counts before its event

-- an End carries the first of them
abbrev pub EndCounts : Result Answer Refusal → List ℕ → Type 0
EndCounts (Ok (answer.Event (event.Start x o))) l = Unit {0}
EndCounts (Ok (answer.Event (event.End end))) l = end.count ≡ get_or l 0 0
EndCounts (Ok (answer.Event (event.Data x o v))) l = Unit {0}
EndCounts (Ok (answer.NeedMore missing)) l = Unit {0}
EndCounts (Ok answer.Finished) l = Unit {0}
EndCounts (Err r) l = Unit {0}

-- and the record after it holds what the answer leaves of them
record Counts (l : List ℕ) (a : Result Answer Refusal) (e : TagDecoder) : Type 0 where
  told : EndCounts a l
  left : counts_in e ≡ counts_by_answer a l

module _ (t : List Entry) (d : TagDecoder) (s : List ℕ) {starts : List Started} {left : List ℕ} {p : ℕ} (k : Linked t d starts left p) where
  move-counts : (a : Result Action DecodeError) → ActionApplies d (length s) a → Facts t d s a → Counts (counts_in d) (move d a).answer (move d a).state
  unfolding move counted with_open with_notes
  move-counts (Err e) g f = record { told = tt; left = refl }
  move-counts (Ok (act.NeedMore missing)) g f = record { told = tt; left = refl }
  move-counts (Ok act.Finish) g f = record { told = tt; left = refl }
  move-counts (Ok act.HandOut) g f =
      let o = handed_counts d k.arrays k.good.waiting_count (hands_out d (length s) g) in
      record { told = o.its; left = o.others }
  move-counts (Ok (act.Close n)) g f =
      let o = closed_counts d k.arrays n k.good.open_count f.reading.none_waiting (closes d (length s) n g).0 in
      record { told = o.its; left = o.others }
  move-counts (Ok (act.Start x z len)) g f =
      let e = at_position d (d.position + len) in
      let arrays = with_notes_arrays d k.arrays (d.position + len) d.settled d.finished in
      let none = f.reading.none_waiting in
      record {
        told = tt;
        left =
            opened-counts (counted e) (counted_arrays e arrays) (master_at x z d.position len) (none_yet x z d.position len) (start_fits d (length s) x z len g).0 none
            ∙ ap (λ (l : List ℕ). 0 ∷ l) (counted-counts e arrays k.good.open_count none);
      }
  move-counts (Ok (act.Data x v n)) g f =
      let e = at_position d (d.position + n) in
      record { told = tt; left = counted-counts e (with_notes_arrays d k.arrays (d.position + n) d.settled d.finished) k.good.open_count f.reading.none_waiting }

  -- the end of input, where no End waits
  ended-counts : d.waiting_count ≡ 0 → {r : Decoded} → EndExit t d s r → Counts (counts_in d) r.answer r.state
  unfolding move with_notes
  ended-counts none (end.bytes_left l) = record { told = tt; left = refl }
  ended-counts none (end.master_cut z l) = record { told = tt; left = refl }
  ended-counts none (end.no_master_lem n m) = record { told = tt; left = refl }
  ended-counts none (end.finishes n m z) = record { told = tt; left = refl }
  ended-counts none (end.closes_all n m l) =
      let o = closed_counts (atEnd d) (with_notes_arrays d k.arrays d.position d.settled true) 0 k.good.open_count none l in
      record { told = o.its; left = o.others }

module _ (es ps : List ℕ) (shape : good_shape es ps ≡ true) (passed : PassedTable (table_of es ps)) (d : TagDecoder) {starts : List Started} {left : List ℕ} {p : ℕ}
    (k : Tied (table_of es ps) d starts left p) where
  module _ (s : List ℕ) (byte : Octets s) where
    facts : AllFacts ps (table_of es ps) d s (decide es ps d s)
    facts = decide_facts es ps shape passed d s byte k.linked.masters (opens-length d k.linked.arrays k.linked.good.open_count) k.linked.good

    with_note_counts : counts_in (with_note es ps d s) ≡ with_implied (implied_by ps (decide es ps d s).note) (counts_in d)
    with_note_counts = noted-counts (table_of es ps) d k.linked ps (decide es ps d s).note facts.note

    abbrev CountsAs : Decoded → Type 0
    CountsAs r = Counts (with_implied (implied_by ps (decide es ps d s).note) (counts_in d)) r.answer r.state

    with_note_linked : Linked (table_of es ps) (with_note es ps d s) starts (implied_by ps (decide es ps d s).note ++ left) (with_note es ps d s).position
    with_note_linked = (with_note_tied es ps shape passed d s byte starts left p k).linked

    decode_counts : CountsAs (decode es ps d s)
    unfolding apply
    decode_counts =
        subst (λ (l : List ℕ). Counts l (decode es ps d s).answer (decode es ps d s).state) with_note_counts
        (move-counts (table_of es ps) (with_note es ps d s) s with_note_linked (decide es ps d s).action (decide_applies es ps d s byte).action facts.action)

    exit_counts : {r : Decoded} → EofExit es ps d s r → CountsAs r
    exit_counts (end.as_decoded q) = decode_counts
    exit_counts (end.at_end {r} q x) =
        let none = quiet_none_waits es ps shape passed d s byte starts left p k q in
        subst (λ (l : List ℕ). Counts l r.answer r.state) with_note_counts (ended-counts (table_of es ps) (with_note es ps d s) s with_note_linked none x)

  standing-counts : (x : Standing) (n : ℕ) (e : TagDecoder) → Tidy e → counts_in (recovered_at x n e).state ≡ counts_in e
  standing-counts Incomplete n e y = refl
  standing-counts Valid n e y = grown_counts e y.arrays y.few_open n
  standing-counts Other n e y = refl

  recovered_counts : Tidy d → (s : List ℕ)
      → counts_in (try_recover es ps d s).state ≡ with_implied (implied_by ps (search_note_or ps (table_of es ps) d s (check_record10to12 es ps d (length s)))) (counts_in d)
  unfolding try_recover record_on with_notes implied_by
  recovered_counts y s = go (check_record10to12 es ps d (length s)) refl
    where
      t : List Entry
      t = table_of es ps

      i : ℕ
      i = first_place ps t d s

      go : (c : Result ⊤ DecodeError) → check_record10to12 es ps d (length s) ≡ c → counts_in (try_recover es ps d s).state ≡ with_implied (implied_by ps (search_note_or ps t d s c)) (counts_in d)
      go (Ok _) e =
          let facts = note_holds t d (NoteFacts ps t d) tt (λ r h f. step7_facts es ps shape passed r h f d) s (suc i) in
          rw (recovery_is_first es ps d s e)
          (standing-counts (stands_at ps t d s i) i (record_on ps t d s (suc i) i) (on_tidy es ps shape d y s (suc i) i)
          ∙ noted-counts t d k.linked ps _ facts)
      go (Err x) e = rw e refl

-- ---- any calls

-- an End among what a call tells
abbrev pub EndCountsIn : Response → List ℕ → Type 0
EndCountsIn (answered a n) l = EndCounts a l
EndCountsIn (searched a n) l = Unit {0}
EndCountsIn silent l = Unit {0}

-- what a call tells of the counts l before its event, and what the record after it holds
pub record NextCounts (l : List ℕ) (x : Response) (e : TagDecoder) : Type 0 where
  pub told : EndCountsIn x l
  pub left : counts_in e ≡ counts_by x l

limited_counts : (d : TagDecoder) (n : Option ℕ) → counts_in (limited_to d n) ≡ counts_in d
unfolding with_settings
limited_counts d None = refl
limited_counts d (Some n) = refl

-- a call on any record that is tied to what a caller can tell goes on from the counts that the record holds, whatever
-- they are
pub next_counts : (es ps : List ℕ) → check_table es ps ≡ Ok tt → (d : TagDecoder) {starts : List Started} {left : List ℕ} {p : ℕ} → Tied (table_of es ps) d starts left p → Tidy d
    → (c : Call) → Octets (lent c) → NextCounts (with_implied (implied_by ps (note_of es ps d c)) (counts_in d)) (response_to es ps d c) (next es ps d c)
unfolding implied_by with_settings
next_counts es ps checked d k y (decoding s) byte =
    let o = decode_counts es ps (good_shape_lem es ps checked) (passed_gives es ps checked) d k s byte in
    record { told = o.told; left = o.left }
next_counts es ps checked d k y (ending s) byte =
    let o = exit_counts es ps (good_shape_lem es ps checked) (passed_gives es ps checked) d k s byte (eof_exits es ps d s) in
    record { told = o.told; left = o.left }
next_counts es ps checked d k y (recovering s) byte =
    record { told = tt; left = recovered_counts es ps (good_shape_lem es ps checked) (passed_gives es ps checked) d k y s }
next_counts es ps checked d k y (allow ids hierarchy oversized) byte = record { told = tt; left = refl }
next_counts es ps checked d k y (strictly b) byte = record { told = tt; left = refl }
next_counts es ps checked d k y (limit n) byte = record { told = tt; left = limited_counts d n }

module _ (es ps : List ℕ) (checked : check_table es ps ≡ (Ok tt)) where
  -- what a call after any calls tells of the counts, where the record before it holds them
  pub told_from : (cs : List Call) (c : Call) → Lent (c ∷ cs) → counts_in (record_after es ps cs) ≡ child_counts ps (table_of es ps) (history es ps cs)
      → NextCounts (counts_at es ps cs c) (last_response es ps cs c) (record_after es ps (c ∷ cs))
  unfolding record_after Lent
  told_from cs c l held =
      let d = record_after es ps cs in
      let x = last_response es ps cs c in
      let e = record_after es ps (c ∷ cs) in
      subst (λ (parents : List ℕ). NextCounts (with_implied parents (child_counts ps (table_of es ps) (history es ps cs))) x e) (parents_after es ps checked cs l.1 c l.0)
      (subst (λ (counts : List ℕ). NextCounts (with_implied (implied_by ps (note_of es ps d c)) counts) x e) held
      (next_counts es ps checked d (tied_after es ps checked cs l.1) (tidy_after es ps cs l.1) c l.0))

  -- the record after any calls holds the counts that a caller can tell
  pub counted_after : (cs : List Call) → Lent cs → counts_in (record_after es ps cs) ≡ child_counts ps (table_of es ps) (history es ps cs)
  unfolding record_after history child_counts Lent
  counted_after [] l = refl
  counted_after (c ∷ cs) l = (told_from cs c l (counted_after cs l.1)).left

  end_counts_lem : (cs : List Call) (c : Call) → Lent (c ∷ cs) → (end : WaitingEnd) → Answers es ps cs c (Ok (answer.Event (event.End end))) → end.count ≡ get_or (counts_at es ps cs c) 0 0
  end_counts_lem cs c l end a = subst (λ (x : Response). EndCountsIn x (counts_at es ps cs c)) a.1 (unfold Lent in (told_from cs c l (counted_after cs l.1)).told)

  as_many : (cs : List Call) → Lent cs
      → length (child_counts ps (table_of es ps) (history es ps cs)) ≡ length (open_at es ps cs) + length (parents_left ps (table_of es ps) (history es ps cs))
  as_many cs l =
      let d = record_after es ps cs in
      let k = (tied_after es ps checked cs l).linked in
      let left = parents_left ps (table_of es ps) (history es ps cs) in
      let held = sym (ap length (counted_after cs l)) ∙ length-append (map end_count (waits d)) (map tag_count (reverse (opens d))) in
      let ended : length k.ended ≡ length (waits d) = sym (length-map k.ended as_end) ∙ ap length k.waiting ∙ length-map (waits d) named in
      let open-ones : length (map as_started (reverse (opens d))) ≡ length (map tag_count (reverse (opens d))) = length-map (reverse (opens d)) as_started ∙ sym (length-map (reverse (opens d)) tag_count) in
      omega (arith, held, ended, open-ones, length-map (waits d) end_count, ap length k.parts, length-append k.ended (map as_started (reverse (opens d))), length-append (open_at es ps cs) (map parent_of left), length-map left parent_of)

-- ---- back from an End to its Start

no_length : (l : List ℕ) → length l ≡ 0 → l ≡ []
no_length [] e = refl
no_length (n ∷ l) e = absurd (omega arith)

some_named : (starts : List Started) (left : List ℕ) (end : WaitingEnd) → EndMatches starts left end → 0 < length starts + length left
some_named [] [] end m = absurd m
some_named [] (x ∷ left) end m = omega arith
some_named (s ∷ starts) left end m = omega arith

module _ (es ps : List ℕ) (checked : check_table es ps ≡ (Ok tt)) where
  runs : (cs : List Call) → Lent cs → Runs es ps cs
  runs cs l = record { checked = checked; octets = l }

  -- the parents that a call implies are the first that have a count
  none_before : (cs : List Call) (c : Call) → Lent (c ∷ cs) → (seen_parents ps (table_of es ps) (history es ps cs) (lent c) (last_response es ps cs c) ≡ [] → ⊥)
      → child_counts ps (table_of es ps) (history es ps cs) ≡ []
  unfolding Lent
  none_before cs c l some =
      let f = implied_first es ps cs c (runs (c ∷ cs) l) some in
      no_length _ (as_many es ps checked cs l.1 ∙ ap (λ (k : List Started). length k + length (parents_left ps (table_of es ps) (history es ps cs))) f.1 ∙ ap (λ (k : List ℕ). 0 + length k) f.2)

  -- what is looked up is what was counted
  looked_up : (cs : List Call) → Lent cs → LookedUp (child_counts ps (table_of es ps) (history es ps cs)) (children_since ps (table_of es ps) (history es ps cs))
  unfolding history child_counts children_since Lent
  looked_up [] l n h = absurd (omega arith)
  looked_up (c ∷ cs) l n h = told_looked _ _ (implied_looked _ _ _ (none_before cs c l) (looked_up cs l.1)) (last_response es ps cs c) n h

  since_its_start : (cs : List Call) (c : Call) → Lent (c ∷ cs) → (end : WaitingEnd) → Answers es ps cs c (Ok (answer.Event (event.End end))) → end.count ≡ children_at es ps cs c
  unfolding Lent
  since_its_start cs c l end a =
      let t = table_of es ps in
      let parents = seen_parents ps t (history es ps cs) (lent c) (last_response es ps cs c) in
      let left = parents_left ps t (history es ps cs) in
      let before = child_counts ps t (history es ps cs) in
      let some = some_named (open_at es ps cs) (left_at es ps cs c) end (end_matches es ps cs c (runs (c ∷ cs) l) end a) in
      let many : length (counts_at es ps cs c) ≡ length parents + length before = length-append (map (λ x. 0) parents) before ∙ ap (λ (n : ℕ). n + length before) (length-map parents (λ x. 0)) in
      end_counts_lem es ps checked cs c l end a
      ∙ implied_looked parents before (children_since ps t (history es ps cs)) (none_before cs c l) (looked_up cs l.1) 0
      (omega (arith, some, many, as_many es ps checked cs l.1, length-append parents left))

-- ---- half the position

implied-total : (parents l : List ℕ) → total (with_implied parents l) ≡ total l
unfolding total
implied-total [] l = refl
implied-total (x ∷ parents) l = omega (arith, implied-total parents l)

child_total : (l : List ℕ) → total (child_of_first l) ≤ total l + 1
unfolding total
child_total [] = omega arith
child_total (n ∷ l) = omega arith

less_total : (l : List ℕ) → total (drop 1 l) ≤ total l
unfolding total
less_total [] = omega arith
less_total (n ∷ l) = omega arith

module _ (strict : Bool) (t : List Entry) (s : List ℕ) (byte : Octets s) (p : ℕ) (l : List ℕ) (half : 2 * total l ≤ p) where
  event_half : (e : Event) (n : ℕ) → MeasuredEvent strict t s p e n → 2 * total (counts_by_event e l) ≤ p + n
  unfolding total
  event_half (event.Start x o) n m = omega (arith, child_total l, m.no_more, header_long (header_sound t s m.its byte m.read))
  event_half (event.End end) n m = omega (arith, less_total l)
  event_half (event.Data x o v) n m = omega (arith, child_total l, m.count, header_long (header_sound t s m.its byte m.read))

  -- each element takes at least two bytes
  response_half : (x : Response) → MeasuredResponse strict t s p x → 2 * total (counts_by x l) ≤ p + taken_in x
  response_half (answered (Ok (answer.Event e)) n) m = event_half e n m
  response_half (answered (Ok (answer.NeedMore missing)) n) m = omega arith
  response_half (answered (Ok answer.Finished) n) m = omega arith
  response_half (answered (Err r) n) m = omega arith
  response_half (searched a n) m = omega arith
  response_half silent m = omega arith

module _ (es ps : List ℕ) (checked : check_table es ps ≡ (Ok tt)) where
  at_most_half : (cs : List Call) → Lent cs → 2 * total (child_counts ps (table_of es ps) (history es ps cs)) ≤ position_at es ps cs
  unfolding history child_counts position Lent total
  at_most_half [] l = omega arith
  at_most_half (c ∷ cs) l =
      let before = child_counts ps (table_of es ps) (history es ps cs) in
      let parents = seen_parents ps (table_of es ps) (history es ps cs) (lent c) (last_response es ps cs c) in
      let half : 2 * total (with_implied parents before) ≤ position_at es ps cs = omega (arith, implied-total parents before, at_most_half cs l.1) in
      response_half _ (table_of es ps) (lent c) l.0 (position_at es ps cs) (with_implied parents before) half (last_response es ps cs c) (promised_after es ps cs c (record { checked = checked; octets = l })).measured

  -- the statement
  pub child_counts_lem : ChildCounts es ps
  child_counts_lem = record {
    end_counts_lem = end_counts_lem es ps checked;
    since_its_start = since_its_start es ps checked;
    as_many = as_many es ps checked;
    record-counts = counted_after es ps checked;
    at_most_half = at_most_half;
  }
