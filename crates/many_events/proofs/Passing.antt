-- Events that are made without a call: what a quick decision says, and how what was seen of the record goes on with the
-- record. Assumes nothing.
use Prim.Native.Nat.{ℕ, ◌+◌, ◌*◌, ◌-◌, ◌/◌, ◌≤◌, ◌<◌, min}
use mathlib.Core.Bool.{Bool, true, false, cond, false≢true}
use mathlib.Core.List.{List, [], ◌∷◌, map}
use mathlib.Core.Path.{◌≡◌, refl, sym, ap, ◌∙◌, subst}
use native.Mathlib.Nat.{add-zero}
use native.Mathlib.Omega.{arith}
use borrow.Author.Tests.{ltb-true}
use lib.Dec.{ltb}
use lib.ListN.{length, get_or, set, take, drop, length-drop, get_or-map}
use lib.Seq.{sets, length-sets, get_or-set_same, get_or-take, take_at, length-take-le}
use Rattle.basics.specs.Lists.{every}
use Rattle.tools.specs.Bytes.{Octets}
use Rattle.table.specs.Table.{table_of}
use Rattle.spec_util.specs.Walk.{most_open, no_tag, Shown}
use Rattle.spec_util.specs.declared.types.OpenTag.{OpenTag}
use Rattle.tag_parse.specs.declared.types.EBMLSize.{EBMLSize}
use Rattle.tag_parse.specs.declared.types.TagValue.{TagValue}
use Rattle.tag_parse.proofs.Cases.{octets_drop, rest_is}
use Rattle.decoder_rules.specs.Record.{farthest, opens, waits, end_for, at_position, with_notes, with_open, with_waiting, with_one_more, counted_last, counted, opened, closed_to}
use Rattle.decoder_rules.specs.OneCall.{good_end, good_state, step3, noted}
use Rattle.decoder_rules.specs.Deciding.{plain, decide}
use Rattle.decoder_rules.specs.Moving.{gives, master_at, move, apply, decode}
use Rattle.decoder_rules.specs.EndOfInput.{ended_or, decode_eof}
use Rattle.decoder_rules.specs.declared.types.Action.{Action}
use Rattle.decoder_rules.specs.declared.types.Action.TheVariants as act
use Rattle.decoder_rules.specs.declared.types.Answer.TheVariants as answer
use Rattle.decoder_rules.specs.declared.types.Decision.{Decision}
use Rattle.decoder_rules.specs.declared.types.Decoded.{Decoded}
use Rattle.decoder_rules.specs.declared.types.Event.{Event}
use Rattle.decoder_rules.specs.declared.types.Event.TheVariants as event
use Rattle.decoder_rules.specs.declared.types.Settings.{Settings}
use Rattle.decoder_rules.specs.declared.types.TagDecoder.{TagDecoder}
use Rattle.decoder_rules.specs.declared.types.WaitingEnd.{WaitingEnd}
use Rattle.decoder_rules.proofs.GoodState.{GoodState, good_state_lem, is_good_state}
use Rattle.decoder_rules.proofs.MovesKeepGoodState.{ends_later, closed_good}
use Rattle.decoder_rules.proofs.MoveEffects.{Arrays, ends_head, opens-length, with_notes_arrays, opened-opens, opened_arrays, closed_opens, closed_arrays}
use Rattle.decoder_rules.proofs.Counting.{counted_arrays, counted-map, counted_good}
use Rattle.decoder_look.specs.Summary.{shown_end, least_end, summary_with, summary, ShownInFront, ForEveryRecordSummedUpAs}
use Rattle.decoder_look.specs.declared.summary.Summary.{Summary}
use Rattle.decoder_look.proofs.GoodEnds.{none_waits, with_ends}
use Rattle.decoder_look.proofs.Shown.{shown_in_front}
use Rattle.decoder_move.specs.Applies.{CountsFit, ActionApplies}
use Rattle.decoder_move.proofs.DecisionApplies.{decide_applies}
use Rattle.decoder_move.proofs.MoveParts.{child_counted}
use Rattle.many_events.specs.Events.{event_size, innermost, start_words, value_words, end_words, event_words}
use Rattle.many_events.specs.Many.{one_call}
use Rattle.many_events.specs.Turns.{Turning, PassesOver, quick_noted, quick_of, seen_as}
use Rattle.many_events.specs.declared.quick.Passed.{Passed}
use Rattle.many_events.specs.declared.quick.Quick.{Quick}
use Rattle.many_events.specs.declared.quick.Quick.TheVariants as quick
use Rattle.many_events.specs.declared.types.Ran.{Ran}
use Rattle.many_events.proofs.Calling.{call_within}
use Rattle.many_events.proofs.Turns.{event_turn}
use Rattle.many_events.proofs.Ends.{none_full, least_same, front_same, top_full, Around}
use Rattle.std.specs.Prelude.{Err, None, Ok, Option, Result, Some}
use Rattle.decoder_rules.specs.declared.types.DecodeError.{DecodeError}
use Rattle.table.specs.declared.types.Path.{Path}

-- ---- a quick decision

-- whether no call has to be made
abbrev pub is_quick : Option Quick → Bool
is_quick None = false
is_quick (Some (quick.Data x v n)) = true
is_quick (Some (quick.Start x size len)) = true
is_quick (Some (quick.End k)) = true

-- the action that was decided
abbrev pub action_of : Option Quick → Result Action DecodeError
action_of None = Ok act.Finish
action_of (Some (quick.Data x v n)) = Ok (act.Data x v n)
action_of (Some (quick.Start x size len)) = Ok (act.Start x size len)
action_of (Some (quick.End k)) = Ok (act.Close k)

-- all but an End take a byte
abbrev pub TakesSome : Option Quick → Type 0
TakesSome None = Unit {0}
TakesSome (Some (quick.Data x v n)) = 0 < n
TakesSome (Some (quick.Start x size len)) = 0 < len
TakesSome (Some (quick.End k)) = Unit {0}

-- the record was found good, there is no note, and a byte is taken where one has to be
pub record Made (good : Bool) (a : Decision) (q : Option Quick) : Type 0 where
  pub found : good ≡ true
  pub decided : a ≡ plain (action_of q)
  pub some : TakesSome q

-- a decision that is quick is made so
pub made : (good : Bool) (a : Decision) (q : Option Quick) → quick_of good a ≡ q → is_quick q ≡ true → Made good a q
unfolding quick_of
made good a q e f = subst (Made good a) e (by good a.note a.action (ap is_quick e ∙ f))
  where
    taken : (n : ℕ) (r : Option Quick) (b : Bool) → ltb 0 n ≡ b → is_quick (cond b r None) ≡ true → (0 < n → TakesSome r) → Made true (plain (action_of r)) (cond b r None)
    taken n r true e f k = record { found = refl; decided = refl; some = k (ltb-true 0 n e) }
    taken n r false e f k = absurd (false≢true f)

    by : (b : Bool) (w : Option Path) (c : Result Action DecodeError) → is_quick (cond b (quick_noted w c) None) ≡ true → Made b (record { note = w; action = c }) (cond b (quick_noted w c) None)
    by false w c f = absurd (false≢true f)
    by true (Some path) c f = absurd (false≢true f)
    by true None (Err x) f = absurd (false≢true f)
    by true None (Ok (act.NeedMore missing)) f = absurd (false≢true f)
    by true None (Ok act.Finish) f = absurd (false≢true f)
    by true None (Ok act.HandOut) f = absurd (false≢true f)
    by true None (Ok (act.Close k)) f = record { found = refl; decided = refl; some = tt }
    by true None (Ok (act.Start x size len)) f = taken len (Some (quick.Start x size len)) (ltb 0 len) refl f (λ k. k)
    by true None (Ok (act.Data x v n)) f = taken n (Some (quick.Data x v n)) (ltb 0 n) refl f (λ k. k)

-- ---- what applies

-- Data is there, within reach, and the counts of the open masters fit
pub data-fits : (d : TagDecoder) (n x : ℕ) (v : TagValue) (m : ℕ) → ActionApplies d n (Ok (act.Data x v m)) → (m ≤ n) × (d.position + n ≤ farthest) × CountsFit d
unfolding ActionApplies
data-fits d n x v m f = f

-- so is a Start, and there is room for it
pub start_fits : (d : TagDecoder) (n x : ℕ) (size : EBMLSize) (m : ℕ) → ActionApplies d n (Ok (act.Start x size m))
    → (d.open_count < most_open) × (m ≤ n) × (d.position + n ≤ farthest) × CountsFit d
unfolding ActionApplies
start_fits d n x size m f = f

-- what closes is open
pub end_fits : (d : TagDecoder) (n k : ℕ) → ActionApplies d n (Ok (act.Close k)) → (k < d.open_count) × (d.open_count ≤ most_open)
unfolding ActionApplies
end_fits d n k f = f

-- ---- what is seen of the record

-- of one that differs by its masters and its position
as_seen : {k : Summary} (d e : TagDecoder) → k ≡ summary d → d.settings ≡ e.settings → d.settled ≡ e.settled → d.finished ≡ e.finished
    → d.waiting_count ≡ e.waiting_count → true ≡ good_state e → {first least : ℕ} → first ≡ step3 e → least ≡ least_end (opens e)
    → seen_as k e.position e.open_count first least ≡ summary e
as_seen d e is sets settled finished waits good {first} {least} full end =
    ap (λ (y : Summary). seen_as y e.position e.open_count first least) is ∙ all sets settled finished waits good full end
  where
    with-them : Settings → Bool → Bool → ℕ → Bool → ℕ → ℕ → Summary
    with-them settings settled finished waits good first least = record {
      is_state_good = good;
      finished = finished;
      waiting_count = waits;
      first_full = first;
      view = record { settings = settings; position = e.position; settled = settled; count = e.open_count; least_end = least };
    }

    all : {a a' : Settings} {b b' c c' : Bool} {h h' : ℕ} {i i' : Bool} {m m' n n' : ℕ} → a ≡ a' → b ≡ b' → c ≡ c' → h ≡ h' → i ≡ i' → m ≡ m' → n ≡ n'
        → with-them a b c h i m n ≡ with-them a' b' c' h' i' m' n'
    all p q r s t u v = rw (p, q, r, s, t, u, v)

-- ---- the record goes on

module _ (d : TagDecoder) (a : Arrays d) (few : d.open_count ≤ most_open) (q : ℕ) where
  -- the record at the position q, with a child more in its top master
  abbrev pub moved_on : TagDecoder
  moved_on = counted (at_position d q)

  arrays_there : Arrays (at_position d q)
  arrays_there = with_notes_arrays d a q d.settled d.finished

  pub moved_arrays : Arrays moved_on
  moved_arrays = counted_arrays (at_position d q) arrays_there

  -- what does not ask for the count is as it was
  same : {A : Type 0} (f : OpenTag → A) → ((m : OpenTag) → f (with_one_more m) ≡ f m) → map f (opens moved_on) ≡ map f (opens d)
  unfolding with_notes
  same f h = counted-map (at_position d q) arrays_there few f h

  same_at : {A : Type 0} (f : OpenTag → A) → ((m : OpenTag) → f (with_one_more m) ≡ f m) → (i : ℕ) → f (get_or (opens moved_on) i no_tag) ≡ f (get_or (opens d) i no_tag)
  same_at {A = A} f h i =
      sym (get_or-map f (opens moved_on) i no_tag) ∙ ap (λ (l : List A). get_or l i (f no_tag)) (same f h) ∙ get_or-map f (opens d) i no_tag

  moved_many : length (opens moved_on) ≡ d.open_count
  unfolding counted with_open with_notes
  moved_many = opens-length moved_on moved_arrays few

  least_there : least_end (opens d) ≡ least_end (opens moved_on)
  unfolding shown_end with_one_more
  least_there = least_same (opens d) (opens moved_on) (sym (same shown_end (λ m. refl)))

  -- the masters around its top one end as they did
  pub moved_around : {o : ℕ} → Around o d → Around o moved_on
  unfolding counted with_open with_notes shown_end with_one_more
  moved_around r = record { some = r.some; least = λ h. r.least h ∙ front_same (d.open_count - 1) (opens d) (opens moved_on) (sym (same shown_end (λ m. refl))) }

  -- all that were open are around a master more
  pub opened_around : {k : Summary} → k ≡ summary d → (m : OpenTag) → d.open_count < most_open → Around k.view.least_end (opened moved_on m)
  unfolding opened counted with_open with_notes
  opened_around {k} is m room =
      let long = moved_arrays.masters in
      let e : d.open_count + 1 - 1 ≡ d.open_count = omega arith in
      record {
        some = λ h. omega arith;
        least = λ h. ap (λ (y : Summary). y.view.least_end) is ∙ least_there
            ∙ ap least_end (sym (ap (λ (i : ℕ). take i (opens (opened moved_on m))) e ∙ ap (take d.open_count) (opened-opens moved_on m (omega arith)) ∙ take_at (opens moved_on) (m ∷ []) d.open_count moved_many));
      }

  -- the same words show its masters
  pub moved_shown : {ids : List ℕ} {knowns : List Bool} → Shown ids knowns (min d.open_count most_open) (opens d)
      → Shown ids knowns (min moved_on.open_count most_open) (opens moved_on)
  unfolding counted with_open with_notes with_one_more
  moved_shown s =
      let n : min d.open_count most_open ≡ d.open_count = omega arith in
      record {
        shown_ids = record { many = moved_many ∙ sym n; ids_are = λ i h. s.shown_ids.ids_are i h ∙ sym (same_at (λ (m : OpenTag). m.id) (λ m. refl) i) };
        knowns_are = λ i h. s.knowns_are i h ∙ sym (same_at (λ (m : OpenTag). m.known) (λ m. refl) i);
      }

  -- where its top place has a child more, it is that record
  pub moved_by_child : (top : ℕ) (m : OpenTag) → top ≡ min (d.open_count - 1) (most_open - 1)
      → m ≡ cond (ltb 0 d.open_count) (with_one_more (get_or d.«open» top no_tag)) (get_or d.«open» top no_tag)
      → with_open (at_position d q) (set d.«open» top m) d.open_count ≡ moved_on
  unfolding counted with_open with_notes
  moved_by_child top m e is =
      ap (λ (l : List OpenTag). with_open (at_position d q) l d.open_count) (ap (set d.«open» top) is ∙ child_counted d.«open» d.open_count top few e)

  module _ (g : GoodState d) (later : d.position < q) (near : q ≤ farthest) where
    moved_good : good_state moved_on ≡ true
    moved_good = is_good_state moved_on (counted_good d g a q later near)

    -- what is seen of it, before the least end
    pub moved_seen : {k : Summary} → k ≡ summary d → q < k.view.least_end → seen_as k q d.open_count d.open_count k.view.least_end ≡ summary moved_on
    unfolding counted with_open with_notes
    moved_seen {k} is h =
        let old : k.view.least_end ≡ least_end (opens moved_on) = ap (λ (y : Summary). y.view.least_end) is ∙ least_there in
        as_seen d moved_on is refl refl refl refl (sym moved_good) (sym (none_full q (opens moved_on) (omega arith) ∙ moved_many)) old

    -- and where the top master alone is full
    pub moved_full : {k : Summary} → k ≡ summary d → {o : ℕ} → Around o d → q < o → k.view.least_end ≤ q → (top : ℕ) → top ≡ min (d.open_count - 1) (most_open - 1)
        → seen_as k q d.open_count top k.view.least_end ≡ summary moved_on
    unfolding counted with_open with_notes
    moved_full {k} is {o} r h end top place =
        let old : k.view.least_end ≡ least_end (opens moved_on) = ap (λ (y : Summary). y.view.least_end) is ∙ least_there in
        let some : 0 < d.open_count = r.some (omega arith) in
        let last : d.open_count - 1 ≡ top = omega arith in
        let front : o ≡ least_end (take top (opens moved_on)) = (moved_around r).least (omega arith) ∙ ap (λ (i : ℕ). least_end (take i (opens moved_on))) last in
        as_seen d moved_on is refl refl refl refl (sym moved_good) (sym (top_full q (opens moved_on) top (moved_many ∙ omega arith) (omega arith) (omega arith) (omega arith))) old

    -- the Ends that wait are good there, with a master more too
    pub moved_ends : true ≡ every (good_end moved_on.position) (waits moved_on)
    unfolding counted with_open with_notes
    moved_ends = sym (ends_later d.position q (omega arith) (waits d) g.ends)

    pub opened_ends : (m : OpenTag) → true ≡ every (good_end (opened moved_on m).position) (waits (opened moved_on m))
    unfolding opened with_open
    opened_ends m = moved_ends

  -- a master more is its innermost
  pub opened-innermost : (m : OpenTag) → d.open_count < most_open → innermost (opened moved_on m) ≡ m
  unfolding opened counted with_open with_notes
  opened-innermost m room =
      let long = moved_arrays.masters in
      let e : d.open_count + 1 - 1 ≡ d.open_count = omega arith in
      ap (λ (i : ℕ). get_or (set (counted_last d.open_count d.«open») d.open_count m) i no_tag) e
      ∙ get_or-set_same (counted_last d.open_count d.«open») d.open_count m no_tag (omega arith)

-- the top master closes
module _ (d : TagDecoder) (a : Arrays d) (few : d.open_count ≤ most_open) (c : ℕ) (one : c + 1 ≡ d.open_count) where
  closed_are : opens (closed_to d c) ≡ take c (opens d)
  closed_are = closed_opens d c (omega arith) (omega (arith, a.masters))

  closed_many : length (opens (closed_to d c)) ≡ c
  closed_many = ap length closed_are ∙ length-take-le c (opens d) (omega (arith, opens-length d a few))

  -- what is seen of the record then, before the least end of the masters around it
  closed_seen : GoodState d → d.waiting_count ≡ 0 → {k : Summary} → k ≡ summary d → {o : ℕ} → Around o d → d.position < o
      → seen_as k d.position c c o ≡ summary (closed_to d c)
  unfolding closed_to with_open with_waiting
  closed_seen g none is {o} r h =
      let last : d.open_count - 1 ≡ c = omega arith in
      let least : o ≡ least_end (opens (closed_to d c)) = r.least (omega arith) ∙ ap (λ (i : ℕ). least_end (take i (opens d))) last ∙ ap least_end (sym closed_are) in
      as_seen d (closed_to d c) is refl refl refl (omega arith) (sym (is_good_state (closed_to d c) (closed_good d g a c (omega arith))))
      (sym (none_full d.position (opens (closed_to d c)) (omega arith) ∙ closed_many)) least

  -- the words in front show the masters that are left
  closed_shown : {ids : List ℕ} {knowns : List Bool} → Shown ids knowns (min d.open_count most_open) (opens d)
      → Shown ids knowns (min c most_open) (opens (closed_to d c))
  closed_shown s =
      let n : min c most_open ≡ c = omega arith in
      record {
        shown_ids = record { many = closed_many ∙ sym n; ids_are = λ i h. s.shown_ids.ids_are i (omega arith) ∙ sym (ap (λ (m : OpenTag). m.id) (at i (omega arith))) };
        knowns_are = λ i h. s.knowns_are i (omega arith) ∙ sym (ap (λ (m : OpenTag). m.known) (at i (omega arith)));
      }
    where
      at : (i : ℕ) → i < c → get_or (opens (closed_to d c)) i no_tag ≡ get_or (opens d) i no_tag
      at i h = ap (λ (l : List OpenTag). get_or l i no_tag) closed_are ∙ get_or-take c (opens d) i no_tag h

-- ---- the invariant

-- at, l, n, d, ids, knowns and k are the locals of a turn, of which those with a 0 were at the start
pub record Going (es ps s l₀ : List ℕ) (d₀ : TagDecoder) (n₀ at₀ at : ℕ) (l : List ℕ) (n : ℕ) (d : TagDecoder) (ids : List ℕ) (knowns : List Bool) (k : Summary) : Type 0 where
  pub within : at ≤ length s
  pub as_long : length l ≡ length l₀
  pub ids_long : length ids ≡ most_open
  pub knowns_long : length knowns ≡ most_open
  pub arrays : Arrays d
  pub seen : k ≡ summary d
  pub shown : Shown ids knowns (min d.open_count most_open) (opens d)
  pub passes : PassesOver es ps s l₀ l d₀ n₀ at₀ (record { count = n; taken = at; state = d })

-- what is seen of the record d anew, with its masters in front of the lent words
pub record Anew (ids ids' : List ℕ) (knowns knowns' : List Bool) (d : TagDecoder) (k : Summary) : Type 0 where
  pub ids_long : length ids' ≡ most_open
  pub knowns_long : length knowns' ≡ most_open
  pub look : k ≡ summary_with true d
  pub front : ShownInFront ids ids' knowns knowns' (min d.open_count most_open) (opens d)

-- with that a turn follows, where the Ends that wait are good
pub goes_anew : {es ps s l₀ : List ℕ} {d₀ : TagDecoder} {n₀ at₀ at : ℕ} {l : List ℕ} {n : ℕ} {d : TagDecoder} {ids ids' : List ℕ} {knowns knowns' : List Bool} {k : Summary}
    → Anew ids ids' knowns knowns' d k → at ≤ length s → length l ≡ length l₀ → Arrays d → true ≡ every (good_end d.position) (waits d)
    → PassesOver es ps s l₀ l d₀ n₀ at₀ (record { count = n; taken = at; state = d }) → Going es ps s l₀ d₀ n₀ at₀ at l n d ids' knowns' k
goes_anew {d = d} w h long a good p =
    record {
      within = h;
      as_long = long;
      ids_long = w.ids_long;
      knowns_long = w.knowns_long;
      arrays = a;
      seen = with_ends d good w.look;
      shown = shown_in_front w.front;
      passes = p;
    }

-- nothing is passed over
pub passes_none : (es ps s l : List ℕ) (d : TagDecoder) (n at : ℕ) → PassesOver es ps s l l d n at (record { count = n; taken = at; state = d })
passes_none es ps s l d n at = record { onward = omega arith; turns = λ eof total t. t }

-- so many turns of a list that is as long as at the start
pub passes_turns : {es ps s l k : List ℕ} {d : TagDecoder} {n at : ℕ} {r : Passed} → PassesOver es ps s l k d n at r
    → (eof : Bool) {long : ℕ} {total : Ran × List ℕ} → length l ≡ long → Turning (one_call eof es ps) s (long / event_size) long total l d n at
    → Turning (one_call eof es ps) s (long / event_size) long total k r.state r.count r.taken
passes_turns {es} {ps} {s} {l} {k} {d} {n} {at} {r} p eof {long} {total} e t =
    subst (λ (i : ℕ). Turning (one_call eof es ps) s (i / event_size) i total k r.state r.count r.taken) e
    (p.turns eof total (subst (λ (i : ℕ). Turning (one_call eof es ps) s (i / event_size) i total l d n at) (sym e) t))

-- an event is what any of the two calls answers
event_called : (eof : Bool) (es ps : List ℕ) (d : TagDecoder) (s : List ℕ) (e : Event) → (decode es ps d s).answer ≡ Ok (answer.Event e) → decode es ps d s ≡ one_call eof es ps d s
unfolding decode_eof
event_called true es ps d s e q = sym (ap (ended_or (table_of es ps) s (decode es ps d s)) q)
event_called false es ps d s e q = refl

module _ {es ps s l₀ : List ℕ} {d₀ : TagDecoder} {n₀ at₀ at : ℕ} {l : List ℕ} {n : ℕ} {d : TagDecoder} {ids : List ℕ} {knowns : List Bool} {k : Summary}
    (g : Going es ps s l₀ d₀ n₀ at₀ at l n d ids knowns k) (byte : Octets s) where
  abbrev left : List ℕ
  left = drop at s

  -- the record was found good
  pub going_good : k.is_state_good ≡ true → GoodState d
  going_good f = good_state_lem d (sym (ap (λ (y : Summary). y.is_state_good) g.seen) ∙ f)

  -- what was decided applies
  pub going_applies : (a : Result Action DecodeError) → decide es ps d left ≡ plain a → ActionApplies d (length left) a
  unfolding noted
  going_applies a is = subst (λ (c : Decision). ActionApplies (noted ps d c.note) (length left) c.action) is (decide_applies es ps d left (octets_drop at s byte)).action

  -- what is made of a decision on what was seen, where no call has to be made
  pub its_action : {a : Decision} → ForEveryRecordSummedUpAs k ids knowns (λ e. a ≡ decide es ps e (take (length s - at) left)) → {q r : Option Quick} → q ≡ quick_of k.is_state_good a → q ≡ r
      → is_quick r ≡ true → Made k.is_state_good (decide es ps d left) r
  its_action {a} is {q} {r} e f y =
      subst (λ (v : Decision). Made k.is_state_good v r) (is d g.seen g.shown ∙ ap (decide es ps d) (rest_is at s)) (made k.is_state_good a r (sym e ∙ f) y)

  -- and that it applies
  pub data_made : {x m : ℕ} {v : TagValue} → Made k.is_state_good (decide es ps d left) (Some (quick.Data x v m)) → (m ≤ length left) × (d.position + length left ≤ farthest) × CountsFit d
  data_made {x} {m} {v} w = data-fits d (length left) x v m (going_applies (Ok (act.Data x v m)) w.decided)

  pub start_made : {x m : ℕ} {size : EBMLSize} → Made k.is_state_good (decide es ps d left) (Some (quick.Start x size m))
      → (d.open_count < most_open) × (m ≤ length left) × (d.position + length left ≤ farthest) × CountsFit d
  start_made {x} {m} {size} w = start_fits d (length left) x size m (going_applies (Ok (act.Start x size m)) w.decided)

  pub end_made : {c : ℕ} → Made k.is_state_good (decide es ps d left) (Some (quick.End c)) → (c < d.open_count) × (d.open_count ≤ most_open)
  end_made {c} w = end_fits d (length left) c (going_applies (Ok (act.Close c)) w.decided)

  -- an event more is passed over
  passes_event : n < length l₀ / event_size → (r : Decoded) → r ≡ decode es ps d left → (e : Event) → r.answer ≡ Ok (answer.Event e) → {l' : List ℕ} → l' ≡ sets l (event_size * n) (event_words r.state e)
      → PassesOver es ps s l₀ l' d₀ n₀ at₀ (record { count = n + 1; taken = at + r.taken; state = r.state })
  passes_event h r is e q put =
      let answers = sym (ap (λ (x : Decoded). x.answer) is) ∙ q in
      let takes : r.taken ≤ length left = subst (λ (x : Decoded). x.taken ≤ length left) (sym is) (call_within es ps d left false (octets_drop at s byte)) in
      record {
        onward = omega (arith, g.passes.onward);
        turns = λ eof total t. event_turn (g.passes.turns eof total t) h r (is ∙ event_called eof es ps d left e answers) e q takes put;
      }

  -- the list stays as long
  put_long : (words : List ℕ) {l' : List ℕ} → l' ≡ sets l (event_size * n) words → length l' ≡ length l₀
  put_long words put = ap length put ∙ length-sets l (event_size * n) words ∙ g.as_long

  -- ---- an End
  module _ (h : n < length l₀ / event_size) (c : ℕ) (is : decide es ps d left ≡ plain (Ok (act.Close c))) (top : ℕ) (place : top ≡ min (d.open_count - 1) (most_open - 1))
      (z : WaitingEnd) (its : z ≡ end_for (get_or d.«open» top no_tag)) {l' : List ℕ} (put : l' ≡ sets l (event_size * n) (end_words z)) where
    end_decoded : gives (Ok (answer.Event (event.End z))) 0 (closed_to d c) ≡ decode es ps d left
    unfolding apply noted move
    end_decoded =
        let w = end_fits d (length left) c (going_applies (Ok (act.Close c)) is) in
        let last : top ≡ d.open_count - 1 = omega arith in
        rw (is, its, last, ends_head d c w.0 (omega (arith, g.arrays.masters)))

    pub end_passes : {d' : TagDecoder} → d' ≡ closed_to d c → PassesOver es ps s l₀ l' d₀ n₀ at₀ (record { count = n + 1; taken = at; state = d' })
    unfolding event_words
    end_passes e =
        rw e
        (subst (λ (i : ℕ). PassesOver es ps s l₀ l' d₀ n₀ at₀ (record { count = n + 1; taken = i; state = closed_to d c })) (add-zero at)
        (passes_event h _ end_decoded (event.End z) refl put))

    pub end_goes_on : {d' : TagDecoder} → d' ≡ closed_to d c → d'.waiting_count ≡ 0 → {ids' : List ℕ} {knowns' : List Bool} {k' : Summary} → Anew ids ids' knowns knowns' d' k'
        → Going es ps s l₀ d₀ n₀ at₀ at l' (n + 1) d' ids' knowns' k'
    end_goes_on {d' = d'} e none look = goes_anew look g.within (put_long (end_words z) put) (rw e (closed_arrays d g.arrays c)) (sym (none_waits d' none)) (end_passes e)

    -- before the least end of the masters around the one that closes
    pub end_goes_within : {d' : TagDecoder} → d' ≡ closed_to d c → c + 1 ≡ d.open_count → d.waiting_count ≡ 0 → k.is_state_good ≡ true → {o : ℕ} → Around o d → d.position < o
        → {k' : Summary} → k' ≡ seen_as k d.position c c o → Going es ps s l₀ d₀ n₀ at₀ at l' (n + 1) d' ids knowns k'
    unfolding closed_to with_open with_waiting
    end_goes_within e one none f r h now =
        let few = (end_fits d (length left) c (going_applies (Ok (act.Close c)) is)).1 in
        rw e
        (record {
          within = g.within;
          as_long = put_long (end_words z) put;
          ids_long = g.ids_long;
          knowns_long = g.knowns_long;
          arrays = closed_arrays d g.arrays c;
          seen = now ∙ closed_seen d g.arrays few c one (going_good f) none g.seen r h;
          shown = closed_shown d g.arrays few c one g.shown;
          passes = end_passes refl;
        })

  module _ (h : n < length l₀ / event_size) (f : k.is_state_good ≡ true) (x m : ℕ) (some : 0 < m) where
    abbrev to : ℕ
    to = d.position + m

    -- ---- Data
    module _ (v : TagValue) (is : decide es ps d left ≡ plain (Ok (act.Data x v m))) {l' : List ℕ} (put : l' ≡ sets l (event_size * n) (value_words x d.position v)) where
      data-decoded : gives (Ok (answer.Event (event.Data x d.position v))) m (counted (at_position d to)) ≡ decode es ps d left
      unfolding apply noted move
      data-decoded = rw is

      data-passes : {d' : TagDecoder} → d' ≡ counted (at_position d to) → PassesOver es ps s l₀ l' d₀ n₀ at₀ (record { count = n + 1; taken = at + m; state = d' })
      unfolding event_words
      data-passes e = rw e (passes_event h _ data-decoded (event.Data x d.position v) refl put)

      data-goes-seen : {d' : TagDecoder} → d' ≡ counted (at_position d to) → {k' : Summary} → k' ≡ summary (counted (at_position d to))
          → Going es ps s l₀ d₀ n₀ at₀ (at + m) l' (n + 1) d' ids knowns k'
      data-goes-seen e now =
          let w = data-fits d (length left) x v m (going_applies (Ok (act.Data x v m)) is) in
          let few = w.2.0 in
          let b = length-drop at s in
          rw e
          (record {
            within = omega (arith, g.within);
            as_long = put_long (value_words x d.position v) put;
            ids_long = g.ids_long;
            knowns_long = g.knowns_long;
            arrays = moved_arrays d g.arrays few to;
            seen = now;
            shown = moved_shown d g.arrays few to g.shown;
            passes = data-passes refl;
          })

      pub data-goes-on : {d' : TagDecoder} → d' ≡ counted (at_position d to) → to < k.view.least_end → {k' : Summary}
          → k' ≡ seen_as k to d.open_count d.open_count k.view.least_end → Going es ps s l₀ d₀ n₀ at₀ (at + m) l' (n + 1) d' ids knowns k'
      data-goes-on e before now =
          let w = data-fits d (length left) x v m (going_applies (Ok (act.Data x v m)) is) in
          data-goes-seen e (now ∙ moved_seen d g.arrays w.2.0 to (going_good f) (omega arith) (omega arith) g.seen before)

      -- at the end of the top master alone
      pub data-goes-full : {d' : TagDecoder} → d' ≡ counted (at_position d to) → {o : ℕ} → Around o d → to < o → k.view.least_end ≤ to
          → (top : ℕ) → top ≡ min (d.open_count - 1) (most_open - 1) → {k' : Summary} → k' ≡ seen_as k to d.open_count top k.view.least_end
          → Going es ps s l₀ d₀ n₀ at₀ (at + m) l' (n + 1) d' ids knowns k'
      data-goes-full e r before end top place now =
          let w = data-fits d (length left) x v m (going_applies (Ok (act.Data x v m)) is) in
          data-goes-seen e (now ∙ moved_full d g.arrays w.2.0 to (going_good f) (omega arith) (omega arith) g.seen r before end top place)

      -- at the end of a master it is seen anew
      pub data-goes-anew : {d' : TagDecoder} → d' ≡ counted (at_position d to) → {ids' : List ℕ} {knowns' : List Bool} {k' : Summary} → Anew ids ids' knowns knowns' d' k'
          → Going es ps s l₀ d₀ n₀ at₀ (at + m) l' (n + 1) d' ids' knowns' k'
      data-goes-anew e look =
          let w = data-fits d (length left) x v m (going_applies (Ok (act.Data x v m)) is) in
          let few = w.2.0 in
          let b = length-drop at s in
          goes_anew look (omega (arith, g.within)) (put_long (value_words x d.position v) put) (rw e (moved_arrays d g.arrays few to))
          (rw e (moved_ends d g.arrays few to (going_good f) (omega arith) (omega arith))) (data-passes e)

    -- ---- a Start
    module _ (size : EBMLSize) (is : decide es ps d left ≡ plain (Ok (act.Start x size m))) (c : OpenTag) (master : c ≡ master_at x size d.position m) {l' : List ℕ}
        (put : l' ≡ sets l (event_size * n) (start_words x d.position c)) where
      start_decoded : gives (Ok (answer.Event (event.Start x d.position))) m (opened (counted (at_position d to)) c) ≡ decode es ps d left
      unfolding apply noted move
      start_decoded = rw (is, master)

      start_passes : PassesOver es ps s l₀ l' d₀ n₀ at₀ (record { count = n + 1; taken = at + m; state = opened (counted (at_position d to)) c })
      unfolding event_words
      start_passes =
          let w = start_fits d (length left) x size m (going_applies (Ok (act.Start x size m)) is) in
          passes_event h _ start_decoded (event.Start x d.position) refl
          (put ∙ ap (λ (y : OpenTag). sets l (event_size * n) (start_words x d.position y)) (sym (opened-innermost d g.arrays w.3.0 to c w.0)))

      pub start_goes_on : {d' : TagDecoder} → d' ≡ opened (counted (at_position d to)) c → {ids' : List ℕ} {knowns' : List Bool} {k' : Summary} → Anew ids ids' knowns knowns' d' k'
          → Going es ps s l₀ d₀ n₀ at₀ (at + m) l' (n + 1) d' ids' knowns' k'
      start_goes_on e look =
          let w = start_fits d (length left) x size m (going_applies (Ok (act.Start x size m)) is) in
          let few = w.3.0 in
          let b = length-drop at s in
          goes_anew look (omega (arith, g.within)) (put_long (start_words x d.position c) put) (rw e (opened_arrays _ (moved_arrays d g.arrays few to) c))
          (rw e (opened_ends d g.arrays few to (going_good f) (omega arith) (omega arith) c)) (rw e start_passes)
