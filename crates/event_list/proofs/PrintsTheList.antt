-- The answers of a run, strict or as ported, are those to its input, wherever the reads cut it: `runs_through`. So what
-- the lister prints is the list of its input: `prints_the_list`. The invariant of a run: what is unread and the pieces
-- that are left are together what is still to come; before the end of input the decoder is not finished and within
-- 2^62; after it nothing is left to read, and the buffer has room. Assumes nothing.
use Prim.Native.Nat.{ℕ, zero, suc, ◌+◌, ◌-◌, ◌*◌, ◌^◌, ◌≤◌, ◌<◌}
use mathlib.Core.Path.{◌≡◌, refl, sym, ap, ◌∙◌}
use mathlib.Core.Bool.{Bool, true, false, cond, false≢true}
use mathlib.Core.List.{List, [], ◌∷◌, ◌++◌, append-nil}
use native.Mathlib.Omega.{arith}
use native.Mathlib.Nat.{not-suc-le-zero}
use borrow.Author.Tests.{ltb-true, ltb-false}
use lib.Dec.{ltb}
use lib.ListN.{length, drop, replicate, length-append, length-drop, length-replicate}
use lib.Seq.{drop-append-le}
use Rattle.basics.proofs.Bools.{absurd_eq}
use Rattle.tools.specs.Bytes.{Octets}
use Rattle.tag_parse.proofs.Cases.{octets_drop}
use Rattle.decoder_rules.specs.Record.{with_settings}
use Rattle.decoder_rules.specs.Moving.{needs_more, decode}
use Rattle.decoder_rules.specs.EndOfInput.{decode_eof}
use Rattle.decoder_rules.specs.declared.types.Answer.{Answer}
use Rattle.decoder_rules.specs.declared.types.Answer.TheVariants as answer
use Rattle.decoder_rules.specs.declared.types.Decoded.{Decoded}
use Rattle.decoder_rules.specs.declared.types.Event.{Event}
use Rattle.decoder_rules.specs.declared.types.TagDecoder.{TagDecoder}
use Rattle.tag_decoder.proofs.CallLaws.{moves_on}
use Rattle.table.specs.BenchTable.{bench_entries, bench_parts}
use Rattle.event_list.specs.Reading.{listing, begun, started, unread_count, unread, called, next_of, call_once, unread_moved_to_front}
use Rattle.event_list.specs.Run.{joined, NoneEmpty, refilled, answered_at, Runs, a_line, the_last, a_read, Prints}
use Rattle.event_list.specs.Whole.{next_answer, Answered, answered_by, Answers, goes_on, ends, AnswersTo, lines_of, ListOf}
use Rattle.event_list.specs.declared.types.Listing.{Listing}
use Rattle.event_list.specs.declared.types.Next.{Next}
use Rattle.event_list.specs.declared.types.Next.TheVariants.{Line, Last, Read}
use Rattle.tag_decoder_laws.proofs.AppendedBytes.{octets_front, need_more_takes_none}
use Rattle.event_list.proofs.Ending.{call_nearer}
use Rattle.event_list.proofs.Filling.{length-unread, unread_fits, unread_after, unread_front, size_is, rest_is, pieces_some, unread_is, decoder_is, ended_only, read_nearer}
use Rattle.tag_decoder_laws.proofs.Finishing.{finished_kept}
use Rattle.tag_decoder_laws.proofs.Nearer.{weight, more_light}
use Rattle.event_list.proofs.Taking.{call_takes, over_asks_no_more, reads_on}
use Rattle.event_list.proofs.Views.{seen_all, view_answers, full_answers, asked_answers}
use Rattle.std.specs.Prelude.{Err, Ok, Result}
use Rattle.decoder_rules.specs.declared.types.Refusal.{Refusal}

-- before the end of input
record Still (d : TagDecoder) (s : List ℕ) : Type 0 where
  open_still : d.finished ≡ false
  near : d.position + length s ≤ 2 ^ 62

-- after it
record Over (b : List ℕ) (ps : List (List ℕ)) (s : List ℕ) : Type 0 where
  none_left : joined ps ≡ []
  space : length s < length b

record Inv (l : Listing) (b : List ℕ) (ps : List (List ℕ)) (s : List ℕ) : Type 0 where
  whole : s ≡ unread l b ++ joined ps
  some : NoneEmpty ps
  byte : Octets s
  still : l.ended ≡ false → Still l.decoder s
  over : l.ended ≡ true → Over b ps s

-- ---- what a call answers

abbrev answered : Listing → List ℕ → Decoded
answered l b = called l.ended l.decoder (unread l b)

called_at : (x : Bool) (d : TagDecoder) (s : List ℕ) → x ≡ true → called x d s ≡ decode_eof bench_entries bench_parts d s
unfolding called
called_at x d s e = rw e

called_before : (x : Bool) (d : TagDecoder) (s : List ℕ) → x ≡ false → called x d s ≡ decode bench_entries bench_parts d s
unfolding called
called_before x d s e = rw e

module _ (l : Listing) (b : List ℕ) (ps : List (List ℕ)) (s : List ℕ) (inv : Inv l b ps s) where
  abbrev u : List ℕ
  u = unread l b

  held : length u ≤ length b
  held = rw (length-unread l b) (unread_fits l b)

  octets_unread : Octets u
  octets_unread = octets_front u (joined ps) (rw inv.whole at inv.byte)

  -- before the end, the next answer of the whole
  before : l.ended ≡ false → (needs_more (answered l b).answer ≡ true → length b ≡ length u) → next_answer (length b) l.decoder s ≡ answered l b
  before f full =
      let st = inv.still f in
      let same = called_before l.ended l.decoder u f in
      let byte' : Octets (u ++ joined ps) = rw inv.whole at inv.byte in
      let near' : l.decoder.position + length (u ++ joined ps) ≤ 2 ^ 62 = rw inv.whole at st.near in
      rw (inv.whole, same) (by (needs_more (decode bench_entries bench_parts l.decoder u).answer) refl byte' near' st.open_still (rw same at full))
    where
      by : (m : Bool) → needs_more (decode bench_entries bench_parts l.decoder u).answer ≡ m → Octets (u ++ joined ps)
          → l.decoder.position + length (u ++ joined ps) ≤ 2 ^ 62 → l.decoder.finished ≡ false
          → (needs_more (decode bench_entries bench_parts l.decoder u).answer ≡ true → length b ≡ length u)
          → next_answer (length b) l.decoder (u ++ joined ps) ≡ decode bench_entries bench_parts l.decoder u
      by true q byte' near' o full' = full_answers (length b) l.decoder u (joined ps) held byte' o near' (full' q)
      by false q byte' near' o full' = view_answers (length b) l.decoder u (joined ps) held byte' o near' q

  all_read : l.ended ≡ true → s ≡ u
  all_read t = inv.whole ∙ ap (λ (x : List ℕ). u ++ x) (inv.over t).none_left ∙ append-nil u

  after_end : l.ended ≡ true → next_answer (length b) l.decoder s ≡ answered l b
  after_end t =
      seen_all (length b) l.decoder s (inv.over t).space ∙ ap (decode_eof bench_entries bench_parts l.decoder) (all_read t) ∙ sym (called_at l.ended l.decoder u t)

  -- where a call does not lead to a read, it has the next answer of the whole
  answers : (needs_more (answered l b).answer ≡ true → length b ≡ length u) → next_answer (length b) l.decoder s ≡ answered l b
  answers full = by l.ended refl
    where
      by : (x : Bool) → l.ended ≡ x → next_answer (length b) l.decoder s ≡ answered l b
      by true e = after_end e
      by false e = before e full

-- ---- what follows from what is done next

record IsEvent (a : Result Answer Refusal) : Type 0 where
  e : Event
  is : a ≡ Ok (answer.Event e)

-- a line is printed, and the list goes on, only after an event
line_event : (a : Result Answer Refusal) (n room : ℕ) → next_of a n room ≡ Line → IsEvent a
line_event (Ok (answer.Event x)) n room q = record { e = x; is = refl }
line_event (Ok (answer.NeedMore missing)) n room q = never-line (ltb n room) q
  where
    never-line : {m : ℕ} (t : Bool) → cond t Read Last ≡ Line → IsEvent (Ok (answer.NeedMore m))
    never-line true e = let z : ◌≡◌ {A = ℕ} 0 1 = cc in absurd_eq z
    never-line false e = let z : ◌≡◌ {A = ℕ} 0 1 = cc in absurd_eq z
line_event (Ok answer.Finished) n room q = let z : ◌≡◌ {A = ℕ} 0 1 = cc in absurd_eq z
line_event (Err r) n room q = let z : ◌≡◌ {A = ℕ} 0 1 = cc in absurd_eq z

-- the last line is no event's
last_no_event : (a : Result Answer Refusal) (n room : ℕ) → next_of a n room ≡ Last → (e : Event) → a ≡ Ok (answer.Event e) → ⊥
last_no_event (Ok (answer.Event x)) n room q e h = let z : ◌≡◌ {A = ℕ} 0 1 = cc in absurd_eq z
last_no_event (Ok (answer.NeedMore missing)) n room q e h = let z : ◌≡◌ {A = ℕ} 0 1 = cc in absurd_eq z
last_no_event (Ok answer.Finished) n room q e h = let z : ◌≡◌ {A = ℕ} 0 1 = cc in absurd_eq z
last_no_event (Err r) n room q e h = let z : ◌≡◌ {A = ℕ} 0 1 = cc in absurd_eq z

-- where more is asked for, a full buffer makes it the last line
last_full : (a : Result Answer Refusal) (n room : ℕ) → next_of a n room ≡ Last → needs_more a ≡ true → room ≤ n
last_full (Ok (answer.Event x)) n room q m = absurd (false≢true m)
last_full (Ok (answer.NeedMore missing)) n room q m = by (ltb n room) refl q
  where
    by : (t : Bool) → ltb n room ≡ t → cond t Read Last ≡ Last → room ≤ n
    by true e p = let z : ◌≡◌ {A = ℕ} 0 1 = cc in absurd_eq z
    by false e p = ltb-false n room e
last_full (Ok answer.Finished) n room q m = absurd (false≢true m)
last_full (Err r) n room q m = absurd (false≢true m)

-- and there is room where a read is due
read_space : (a : Result Answer Refusal) (n room : ℕ) → next_of a n room ≡ Read → n < room
read_space (Ok (answer.Event x)) n room q = let z : ◌≡◌ {A = ℕ} 0 1 = cc in absurd_eq z
read_space (Ok (answer.NeedMore missing)) n room q = by (ltb n room) refl q
  where
    by : (t : Bool) → ltb n room ≡ t → cond t Read Last ≡ Read → n < room
    by true e p = ltb-true n room e
    by false e p = let z : ◌≡◌ {A = ℕ} 0 1 = cc in absurd_eq z
read_space (Ok answer.Finished) n room q = let z : ◌≡◌ {A = ℕ} 0 1 = cc in absurd_eq z
read_space (Err r) n room q = let z : ◌≡◌ {A = ℕ} 0 1 = cc in absurd_eq z

-- ---- the invariant is kept

module _ (l : Listing) (b : List ℕ) (ps : List (List ℕ)) (s : List ℕ) (inv : Inv l b ps s) where
  abbrev r : Decoded
  r = answered l b

  taken_fits : r.taken ≤ length (unread l b)
  taken_fits = call_takes l.ended l.decoder (unread l b) (octets_unread l b ps s inv)

  unread_then : unread (call_once l b).listing b ≡ drop r.taken (unread l b)
  unfolding call_once
  unread_then = unread_after l b r.state r.taken l.ended (rw (length-unread l b) at taken_fits)

  long : length (unread l b) ≤ length s
  long = rw inv.whole (omega (arith, length-append (unread l b) (joined ps)))

  -- before the end: the record that a call leaves
  still_then : l.ended ≡ false → Still r.state (drop r.taken s)
  still_then f =
      let st = inv.still f in
      let same = called_before l.ended l.decoder (unread l b) f in
      let near = st.near in
      let h = taken_fits in
      let k = long in
      record {
        open_still = rw same (finished_kept bench_entries bench_parts l.decoder (unread l b)) ∙ st.open_still;
        near =
            let m : r.state.position ≡ l.decoder.position + r.taken = rw same (moves_on bench_entries bench_parts l.decoder (unread l b)) in
            omega (arith, length-drop r.taken s);
      }

  inv_line : Inv (call_once l b).listing b ps (drop r.taken s)
  unfolding call_once
  inv_line =
      record {
        whole = rw inv.whole (drop-append-le r.taken (unread l b) (joined ps) taken_fits) ∙ ap (λ (x : List ℕ). x ++ joined ps) (sym unread_then);
        some = inv.some;
        byte = octets_drop r.taken s inv.byte;
        still = still_then;
        over = λ t. record { none_left = (inv.over t).none_left; space = let h = (inv.over t).space in omega (arith, length-drop r.taken s) };
      }

-- ---- a read

-- after a read into a buffer that is K: the invariant, the buffer's size and the decoder
record AfterRead (K : Listing × List ℕ) (ps : List (List ℕ)) (s b : List ℕ) (d : TagDecoder) : Type 0 where
  inv : Inv (refilled K ps).at (refilled K ps).buffer (refilled K ps).pieces s
  size : length (refilled K ps).buffer ≡ length b
  same : (refilled K ps).at.decoder ≡ d
  nearer : length (joined (refilled K ps).pieces) + cond (refilled K ps).at.ended 0 1 < length (joined ps) + 1

moved_to_front_form : (l : Listing) (b : List ℕ) → unread_moved_to_front l b ≡ (listing l.decoder 0 (length (unread l b)) l.ended, unread l b ++ drop (length (unread l b)) b)
unfolding unread_moved_to_front
moved_to_front_form l b = rw (length-unread l b)

module _ (d : TagDecoder) (u w : List ℕ) (e : Bool) (ps : List (List ℕ)) (s b : List ℕ) (space : 0 < length w) (size : length (u ++ w) ≡ length b)
    (some : NoneEmpty ps) (whole : s ≡ u ++ joined ps) (byte : Octets s) (on : e ≡ false) (still : Still d s) where
  after_read : AfterRead (listing d 0 (length u) e, u ++ w) ps s b d
  after_read =
      record {
        inv =
            record {
              whole = whole ∙ sym (rest_is d u w e ps space some) ∙ ap (λ (x : List ℕ). x ++ joined (refilled (listing d 0 (length u) e, u ++ w) ps).pieces) (sym (unread_is d u w e ps space some));
              some = pieces_some d u w e ps space some;
              byte = byte;
              still = λ f. rw (decoder_is d u w e ps space some) still;
              over =
                  λ t.
                  let gone = ended_only d u w e ps space some on t in
                  let all : s ≡ u = whole ∙ ap (λ (x : List ℕ). u ++ x) gone.0 ∙ append-nil u in
                  record { none_left = gone.1; space = rw (size_is d u w e ps space some, all) (omega (arith, length-append u w)) };
            };
        size = size_is d u w e ps space some ∙ size;
        same = decoder_is d u w e ps space some;
        nearer = read_nearer d u w e ps space some on;
      }

module _ (l : Listing) (b : List ℕ) (ps : List (List ℕ)) (s : List ℕ) (inv : Inv l b ps s) (q : (call_once l b).next ≡ Read) where
  asks : needs_more (answered l b).answer ≡ true
  unfolding call_once
  asks = reads_on (answered l b).answer (unread_count l b) (length b) q

  not_over : l.ended ≡ false
  not_over = by l.ended refl
    where
      by : (x : Bool) → l.ended ≡ x → l.ended ≡ false
      by true e =
          absurd (false≢true (sym (over_asks_no_more l.decoder (unread l b)) ∙ ap (λ (y : Bool). needs_more (called y l.decoder (unread l b)).answer) (sym e) ∙ asks))
      by false e = e

  room_left : unread_count l b < length b
  unfolding call_once
  room_left = read_space (answered l b).answer (unread_count l b) (length b) q

  same_call : answered l b ≡ decode bench_entries bench_parts l.decoder (unread l b)
  same_call = called_before l.ended l.decoder (unread l b) not_over

  asks_decode : needs_more (decode bench_entries bench_parts l.decoder (unread l b)).answer ≡ true
  asks_decode = ap (λ (x : Decoded). needs_more x.answer) (sym same_call) ∙ asks

  takes_none : (answered l b).taken ≡ 0
  takes_none = ap (λ (x : Decoded). x.taken) same_call ∙ need_more_takes_none bench_entries bench_parts l.decoder (unread l b) asks_decode

  stays-unread : unread (call_once l b).listing b ≡ unread l b
  stays-unread = unread_then l b ps s inv ∙ ap (λ (n : ℕ). drop n (unread l b)) takes_none

  read_inv : AfterRead (unread_moved_to_front (call_once l b).listing b) ps s b (answered l b).state
  unfolding call_once
  read_inv =
      let L = (call_once l b).listing in
      let n : length (unread L b) ≡ unread_count l b = ap length stays-unread ∙ length-unread l b in
      let h = room_left in
      let st = still_then l b ps s inv not_over in
      let none = takes_none in
      rw (moved_to_front_form L b)
      (after_read (answered l b).state (unread L b) (drop (length (unread L b)) b) l.ended ps s b
      (rw length-drop (omega arith))
      (length-append (unread L b) (drop (length (unread L b)) b) ∙ rw length-drop (omega arith))
      inv.some
      (inv.whole ∙ ap (λ (x : List ℕ). x ++ joined ps) (sym stays-unread))
      inv.byte
      not_over
      (rw takes_none at st))

  -- the whole has the same next answer after the call
  same_next : next_answer (length b) (answered l b).state s ≡ next_answer (length b) l.decoder s
  same_next =
      let st = inv.still not_over in
      let byte' : Octets (unread l b ++ joined ps) = rw inv.whole at inv.byte in
      let near' : l.decoder.position + length (unread l b ++ joined ps) ≤ 2 ^ 62 = rw inv.whole at st.near in
      rw (inv.whole, same_call)
      (asked_answers (length b) l.decoder (unread l b) (joined ps) (held l b ps s inv) byte' st.open_still near' asks_decode)

  read_case : {rs : List Answered}
      → (Inv (refilled (unread_moved_to_front (call_once l b).listing b) ps).at (refilled (unread_moved_to_front (call_once l b).listing b) ps).buffer (refilled (unread_moved_to_front (call_once l b).listing b) ps).pieces s
      → Answers (length (refilled (unread_moved_to_front (call_once l b).listing b) ps).buffer) (next_answer (length (refilled (unread_moved_to_front (call_once l b).listing b) ps).buffer) (refilled (unread_moved_to_front (call_once l b).listing b) ps).at.decoder s) s rs)
      → Answers (length b) (next_answer (length b) l.decoder s) s rs
  read_case k =
      let a = read_inv in
      rw same_next at (rw (a.size, a.same) at (k a.inv))

-- ---- the theorem

-- a run that has come to its last answer has had the answers to what was still to come
run_answers : {l : Listing} {b : List ℕ} {ps : List (List ℕ)} {rs : List Answered} → Runs l b ps rs → (s : List ℕ) → Inv l b ps s
    → Answers (length b) (next_answer (length b) l.decoder s) s rs
unfolding call_once
run_answers (a_line l b ps q p) s inv =
    let ev = line_event (answered l b).answer (unread_count l b) (length b) q in
    let same = answers l b ps s inv (λ m. absurd (false≢true (sym (ap needs_more ev.is) ∙ m))) in
    rw same (goes_on (answered l b) s ev.is (run_answers p (drop (answered l b).taken s) (inv_line l b ps s inv)))
run_answers (the_last l b ps q) s inv =
    let full : needs_more (answered l b).answer ≡ true → length b ≡ length (unread l b) =
    λ m. let h = last_full (answered l b).answer (unread_count l b) (length b) q m in omega (arith, length-unread l b, unread_fits l b) in
    rw (answers l b ps s inv full) (ends (answered l b) s (last_no_event (answered l b).answer (unread_count l b) (length b) q))
run_answers (a_read l b ps q p) s inv = read_case l b ps s inv q (λ i. run_answers p s i)

at_start : (strict : Bool) (size : ℕ) (ps : List (List ℕ)) → NoneEmpty ps → Octets (joined ps) → length (joined ps) ≤ 2 ^ 62 → Inv (started strict) (replicate size 0) ps (joined ps)
unfolding with_settings
at_start strict size ps some byte few =
    record {
      whole = ap (λ (x : List ℕ). x ++ joined ps) (sym nothing_yet);
      some = some;
      byte = byte;
      still = λ f. record { open_still = refl; near = omega arith };
      over = λ t. absurd (false≢true t);
    }
  where
    nothing_yet : unread (started strict) (replicate size 0) ≡ []
    nothing_yet = unread_front (begun strict) [] (replicate size 0) 0 false refl

-- from the start: a run with a buffer of so many zero bytes, on an input of at most 2^62 bytes in any pieces, has the
-- answers to the input
pub runs_through : (strict : Bool) (size : ℕ) (ps : List (List ℕ)) {rs : List Answered} → NoneEmpty ps → Octets (joined ps) → length (joined ps) ≤ 2 ^ 62
    → Runs (started strict) (replicate size 0) ps rs → AnswersTo strict size (joined ps) rs
runs_through strict size ps some byte few run = rw (length-replicate {A = ℕ} size 0) at (run_answers run (joined ps) (at_start strict size ps some byte few))

-- so it prints the list of the input
pub prints_the_list : (strict : Bool) (size : ℕ) (ps : List (List ℕ)) {text : List ℕ} → NoneEmpty ps → Octets (joined ps) → length (joined ps) ≤ 2 ^ 62
    → Prints (started strict) (replicate size 0) ps text → ListOf strict size (joined ps) text
prints_the_list strict size ps some byte few p = record { answers = p.answers; to = runs_through strict size ps some byte few p.run; lines = p.lines }

-- what is still to come has one run of answers
pub one_run : (size : ℕ) {r : Decoded} {s : List ℕ} {rs ts : List Answered} → Answers size r s rs → Answers size r s ts → rs ≡ ts
one_run size (goes_on r s q p) (goes_on r' s' q' p') = ap (λ (rs : List Answered). answered_by r' ∷ rs) (one_run size p p')
one_run size (goes_on r s q p) (ends r' s' n) = absurd (n _ q)
one_run size (ends r s n) (goes_on r' s' q p) = absurd (n _ q)
one_run size (ends r s n) (ends r' s' n') = refl

-- an input has one list
pub one_list : (strict : Bool) (size : ℕ) {s text other : List ℕ} → ListOf strict size s text → ListOf strict size s other → text ≡ other
one_list strict size p q = p.lines ∙ ap lines_of (one_run size p.to q.to) ∙ sym q.lines

-- two runs on the same input, however each is cut, have the same answers
pub same_answers_however_cut : (strict : Bool) (size : ℕ) (ps qs : List (List ℕ)) {rs ts : List Answered} → joined ps ≡ joined qs → NoneEmpty ps → NoneEmpty qs → Octets (joined ps)
    → length (joined ps) ≤ 2 ^ 62 → Runs (started strict) (replicate size 0) ps rs → Runs (started strict) (replicate size 0) qs ts → rs ≡ ts
same_answers_however_cut strict size ps qs e somep someq byte few run run' =
    one_run size (rw e at (runs_through strict size ps somep byte few run)) (runs_through strict size qs someq (rw e at byte) (rw e at few) run')

-- so they print the same
pub same_however_cut : (strict : Bool) (size : ℕ) (ps qs : List (List ℕ)) {text other : List ℕ} → joined ps ≡ joined qs → NoneEmpty ps → NoneEmpty qs → Octets (joined ps)
    → length (joined ps) ≤ 2 ^ 62 → Prints (started strict) (replicate size 0) ps text → Prints (started strict) (replicate size 0) qs other → text ≡ other
same_however_cut strict size ps qs e somep someq byte few p q =
    p.lines ∙ ap lines_of (same_answers_however_cut strict size ps qs e somep someq byte few p.run q.run) ∙ sym q.lines

-- ---- a run comes to its end

-- how far it is: what is still to come, what the record may make of it, what is to be read
abbrev far : Listing → List ℕ → List (List ℕ) → ℕ
far l b ps = 256 * (length (unread l b) + length (joined ps)) + weight l.decoder + (length (joined ps) + cond l.ended 0 1)

line-sum : (u t j w w' r u' : ℕ) → u' ≡ u - t → 256 * (u - t) + w' < 256 * u + w → 256 * (u' + j) + w' + r < 256 * (u + j) + w + r
line-sum u t j w w' r u' e h = omega arith

read_sum : (t t' w w' r r' : ℕ) → t' ≡ t → w' ≤ w → r' < r → 256 * t' + w' + r' < 256 * t + w + r
read_sum t t' w w' r r' e h k = omega arith

less_by : (a b c : ℕ) → a < b + 1 → c ≡ 1 → a < b + c
less_by a b c h e = omega arith

one_more : (x : Bool) → x ≡ false → ◌≡◌ {A = ℕ} (cond x 0 1) 1
one_more x e = rw e

pub record Ended (l : Listing) (b : List ℕ) (ps : List (List ℕ)) : Type 0 where
  pub answers : List Answered
  pub run : Runs l b ps answers

pub record Printed (l : Listing) (b : List ℕ) (ps : List (List ℕ)) : Type 0 where
  pub text : List ℕ
  pub prints : Prints l b ps text

module _ (l : Listing) (b : List ℕ) (ps : List (List ℕ)) (s : List ℕ) (inv : Inv l b ps s) where
  line_nearer : (call_once l b).next ≡ Line → far (call_once l b).listing b ps < far l b ps
  unfolding call_once
  line_nearer q =
      let r = answered l b in
      let ev = line_event r.answer (unread_count l b) (length b) q in
      line-sum (length (unread l b)) r.taken (length (joined ps)) (weight l.decoder) (weight r.state) (length (joined ps) + cond l.ended 0 1)
      (length (unread (call_once l b).listing b))
      (ap length (unread_then l b ps s inv) ∙ length-drop r.taken (unread l b))
      (call_nearer l.ended l.decoder (unread l b) (octets_unread l b ps s inv) ev.is)

  read_on_nearer : (q : (call_once l b).next ≡ Read)
      → far (refilled (unread_moved_to_front (call_once l b).listing b) ps).at (refilled (unread_moved_to_front (call_once l b).listing b) ps).buffer (refilled (unread_moved_to_front (call_once l b).listing b) ps).pieces < far l b ps
  read_on_nearer q =
      let a = read_inv l b ps s inv q in
      let F = refilled (unread_moved_to_front (call_once l b).listing b) ps in
      let total = ap length (sym a.inv.whole ∙ inv.whole) in
      let light : weight F.at.decoder ≤ weight l.decoder =
      rw (a.same, same_call l b ps s inv q) (more_light bench_entries bench_parts l.decoder (unread l b) (octets_unread l b ps s inv) (asks_decode l b ps s inv q)) in
      let less : length (joined F.pieces) + cond F.at.ended 0 1 < length (joined ps) + cond l.ended 0 1 = less_by _ (length (joined ps)) _ a.nearer (one_more l.ended (not_over l b ps s inv q)) in
      read_sum (length (unread l b) + length (joined ps)) (length (unread F.at F.buffer) + length (joined F.pieces)) (weight l.decoder) (weight F.at.decoder)
      (length (joined ps) + cond l.ended 0 1) (length (joined F.pieces) + cond F.at.ended 0 1)
      (sym (length-append (unread F.at F.buffer) (joined F.pieces)) ∙ total ∙ length-append (unread l b) (joined ps))
      light
      less

within_steps : (n : ℕ) (l : Listing) (b : List ℕ) (ps : List (List ℕ)) (s : List ℕ) → Inv l b ps s → far l b ps < n → Ended l b ps
within_steps zero l b ps s inv h = absurd (not-suc-le-zero h)
within_steps (suc n) l b ps s inv h =
    by (call_once l b).next refl
    (λ q. within_steps n (call_once l b).listing b ps (drop (answered l b).taken s) (inv_line l b ps s inv) (step (line_nearer l b ps s inv q) h))
    (λ q.
    let F = refilled (unread_moved_to_front (call_once l b).listing b) ps in
    within_steps n F.at F.buffer F.pieces s (read_inv l b ps s inv q).inv (step (read_on_nearer l b ps s inv q) h))
  where
    step : {x y : ℕ} → x < y → y < suc n → x < n
    step p q = omega arith

    by : (x : Next) → (call_once l b).next ≡ x → ((call_once l b).next ≡ Line → Ended (call_once l b).listing b ps)
        → ((call_once l b).next ≡ Read → Ended (refilled (unread_moved_to_front (call_once l b).listing b) ps).at (refilled (unread_moved_to_front (call_once l b).listing b) ps).buffer (refilled (unread_moved_to_front (call_once l b).listing b) ps).pieces)
        → Ended l b ps
    by Line q on again = record { answers = answered_at l b ∷ (on q).answers; run = a_line l b ps q (on q).run }
    by Last q on again = record { answers = answered_at l b ∷ []; run = the_last l b ps q }
    by Read q on again = record { answers = (again q).answers; run = a_read l b ps q (again q).run }

-- every input of at most 2^62 bytes, in any pieces, has a run with a last answer
pub run_ends : (strict : Bool) (size : ℕ) (ps : List (List ℕ)) → NoneEmpty ps → Octets (joined ps) → length (joined ps) ≤ 2 ^ 62 → Ended (started strict) (replicate size 0) ps
run_ends strict size ps some byte few =
    within_steps (suc (far (started strict) (replicate size 0) ps)) (started strict) (replicate size 0) ps (joined ps) (at_start strict size ps some byte few) (omega arith)

-- so it is listed to its end
pub comes_to_an_end : (strict : Bool) (size : ℕ) (ps : List (List ℕ)) → NoneEmpty ps → Octets (joined ps) → length (joined ps) ≤ 2 ^ 62 → Printed (started strict) (replicate size 0) ps
comes_to_an_end strict size ps some byte few =
    let e = run_ends strict size ps some byte few in
    record { text = lines_of e.answers; prints = record { answers = e.answers; run = e.run; lines = refl } }
