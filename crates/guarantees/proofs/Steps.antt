-- One call: the promises of its answer, and the invariant after it. Assumes nothing.
use Prim.Native.Nat.{ℕ, suc, ◌+◌, ◌-◌, ◌^◌, ◌≤◌, ◌<◌}
use mathlib.Core.Path.{◌≡◌, refl, sym, ap, ◌∙◌, subst}
use mathlib.Core.Bool.{Bool, true, false, cond, not, ◌&&◌, ◌||◌, true≢false, false≢true}
use mathlib.Core.List.{List, [], ◌∷◌, ◌++◌, map, reverse}
use native.Mathlib.Omega.{arith}
use borrow.Author.Tests.{ltb-false, le-leb}
use lib.Dec.{leb, ltb}
use lib.ListN.{length, get_or, take, drop, length-append, length-map, length-reverse, length-drop}
use Rattle.tools.specs.Bytes.{Octets}
use Rattle.basics.specs.Lists.{every, first_index}
use Rattle.table.specs.Shape.{good_shape}
use Rattle.table.specs.Check.{only_ids}
use Rattle.table.specs.Table.{Entry, table_of, parts_of, parts_in, data_type_of, path_of, is_master, is_typed}
use Rattle.table.specs.declared.types.TagDataType.TheVariants as type
use Rattle.table.proofs.Rules.{master_is}
use Rattle.table.specs.Passed.{PassedTable}
use Rattle.spec_util.specs.declared.types.OpenTag.{OpenTag}
use Rattle.tag_parse.specs.declared.types.EBMLSize.{EBMLSize}
use Rattle.tag_parse.specs.declared.types.EBMLSize.TheVariants.{Known, Unknown}
use Rattle.tag_parse.specs.declared.types.TagValue.{TagValue}
use Rattle.decoder_rules.specs.Record.{opens, waits, end_of, no_end, with_open, with_waiting, with_notes, at_position, settled_to, counted, opened, ends_from, closed_to, handed_out}
use Rattle.decoder_rules.specs.Numbers.{error_number}
use Rattle.decoder_rules.specs.OneCall.{good_open, reaches, noted}
use Rattle.decoder_rules.specs.Deciding.{decide}
use Rattle.decoder_rules.specs.Moving.{master_at, gives, move, apply, decode, refuse}
use Rattle.decoder_rules.specs.EndOfInput.{is_cut, cut_master, cut_bytes, decode_eof}
use Rattle.decoder_rules.specs.declared.types.Action.{Action}
use Rattle.decoder_rules.specs.declared.types.Action.TheVariants as act
use Rattle.decoder_rules.specs.declared.types.Answer.{Answer}
use Rattle.decoder_rules.specs.declared.types.Answer.TheVariants as answer
use Rattle.decoder_rules.specs.declared.types.Decoded.{Decoded}
use Rattle.decoder_rules.specs.declared.types.DecodeError.{DecodeError}
use Rattle.decoder_rules.specs.declared.types.DecodeError.TheVariants as error
use Rattle.decoder_rules.specs.declared.types.Event.{Event}
use Rattle.decoder_rules.specs.declared.types.Event.TheVariants as event
use Rattle.decoder_rules.specs.declared.types.Settings.{Settings}
use Rattle.decoder_rules.specs.declared.types.TagDecoder.{TagDecoder}
use Rattle.basics.proofs.Every.{every_drop, every_map, every_front, every_reversed}
use Rattle.basics.proofs.Bools.{and_both, not-false}
use Rattle.decoder_rules.proofs.GoodState.{is_good_open}
use Rattle.decoder_rules.proofs.MoveEffects.{opens-length, waits-length}
use Rattle.decoder_rules.proofs.MoveLaws.{noted_settings, noted-position, is_no_event, with_note, decode_stays}
use Rattle.decoder_rules.proofs.EndExits as end
use Rattle.decoder_rules.proofs.EndExits.{first_cut, cut_tag, ending, EndExit, EofExit, is_quiet, eof_exits}
use Rattle.decoder_move.specs.Applies.{ActionApplies}
use Rattle.decoder_move.proofs.DecisionApplies.{decide_applies, hands_out, closes, starts as start_fits, passes_on}
use Rattle.guarantees.specs.Settling.{implied_by}
use Rattle.guarantees.specs.History.{Started, declared_end, end_after, after_answer, outermost_end, left_by_answer, left_by_end}
use Rattle.guarantees.specs.Promises.{value_kind, HeaderAlone, WholeData, EndMatches}
use Rattle.guarantees.proofs.Ends.{known_end, ended_by}
use Rattle.guarantees.proofs.Decided.{is_master_lem, Mild, Reading, InsideSize, Small, Heads, Starts, Holds, Closes, Facts, NoteFacts, AllFacts, decide_facts}
use Rattle.guarantees.proofs.Tied.{as_started, parent_of, as_end, named, stack, all_ended, Linked, Tied, both_empty}
use Rattle.guarantees.proofs.Outermost.{none_batch, batch_less, all_batch, batch_closed}
use Rattle.guarantees.proofs.Moves.{none_ended, moved_linked, counted_linked, settled_linked, opened_linked, handed_linked, closed_linked}
use Rattle.std.specs.Prelude.{Err, None, Ok, Option, Result, Some}
use Rattle.table.specs.declared.types.Path.{Path}
use Rattle.decoder_rules.specs.declared.types.Refusal.{Refusal}

-- ---- what is promised of an answer

-- the master of this end, if its size is known, ends at e or later
abbrev pub reaches_to : ℕ → Option ℕ → Bool
reaches_to e None = true
reaches_to e (Some f) = leb e f

-- every one of these Starts that is of known size ends at e or later
abbrev pub all_reach : ℕ → List Started → Bool
all_reach e l = every (λ m. reaches_to e m.end) l

-- where the child-size test is on (off is false), an element that ends at e ends inside every open master of known size
abbrev pub Ends : Bool → Option ℕ → List Started → Type 0
Ends off None starts = Unit {0}
Ends off (Some e) starts = off ≡ false → all_reach e starts ≡ true

-- what is promised of a Start or a Data of ID x and offset o at position p
pub record ElementFacts (t : List Entry) (off : Bool) (s : List ℕ) (starts : List Started) (p x o : ℕ) : Type 0 where
  pub heads : Heads t s x
  pub offset : o ≡ p
  pub inside : Ends off (declared_end t p s) starts

module _ (t : List Entry) (off : Bool) (s : List ℕ) (starts : List Started) (left : List ℕ) (p : ℕ) where
  -- what is promised of an event
  abbrev pub EventFacts : Event → Type 0
  EventFacts (event.Start x o) = (data_type_of t x ≡ type.Master) × ElementFacts t off s starts p x o
  EventFacts (event.End end) = (data_type_of t end.id ≡ type.Master) × EndMatches starts left end
  EventFacts (event.Data x o v) = (value_kind v ≡ data_type_of t x) × ElementFacts t off s starts p x o

  -- what is promised of a refusal
  pub record RefusalFacts (e : DecodeError) : Type 0 where
    pub not_10 : error_number e ≡ 10 → ⊥
    pub not_11 : error_number e ≡ 11 → ⊥
    pub not_24 : error_number e ≡ 24 → ⊥
    pub at_19 : error_number e ≡ 19 → length (stack starts left) ≡ 32

  -- what is promised of an answer
  abbrev pub AnswerFacts : Result Answer Refusal → Type 0
  AnswerFacts (Ok (answer.Event e)) = EventFacts e
  AnswerFacts (Ok (answer.NeedMore missing)) = Unit {0}
  AnswerFacts (Ok answer.Finished) = starts ≡ []
  AnswerFacts (Err r) = RefusalFacts r.error

-- an answer that ends the events takes nothing and leaves no End waiting; the finish is answered of a record that is
-- finished
abbrev pub Quiet : Result Answer Refusal → ℕ → TagDecoder → Type 0
Quiet (Ok (answer.Event e)) n d = Unit {0}
Quiet (Ok (answer.NeedMore missing)) n d = (n ≡ 0) × (d.waiting_count ≡ 0)
Quiet (Ok answer.Finished) n d = (n ≡ 0) × (d.waiting_count ≡ 0) × (d.finished ≡ true)
Quiet (Err r) n d = Unit {0}

-- a Start takes its header alone, a Data its element whole
abbrev pub MeasuredEvent : Bool → List Entry → List ℕ → ℕ → Event → ℕ → Type 0
MeasuredEvent strict t s p (event.Start x o) n = HeaderAlone t s n
MeasuredEvent strict t s p (event.End end) n = Unit {0}
MeasuredEvent strict t s p (event.Data x o v) n = WholeData strict t s p n v

-- the same of an answer
abbrev pub Measured : Bool → List Entry → List ℕ → ℕ → Result Answer Refusal → ℕ → Type 0
Measured strict t s p (Ok (answer.Event e)) n = MeasuredEvent strict t s p e n
Measured strict t s p (Ok (answer.NeedMore missing)) n = Unit {0}
Measured strict t s p (Ok answer.Finished) n = Unit {0}
Measured strict t s p (Err r) n = Unit {0}

-- an element whose path is all IDs leaves the record settled
abbrev pub SettledBy : List Entry → Result Answer Refusal → TagDecoder → Type 0
SettledBy t (Ok (answer.Event (event.Start x o))) e = e.settled ≡ true
SettledBy t (Ok (answer.Event (event.End end))) e = Unit {0}
SettledBy t (Ok (answer.Event (event.Data x o v))) e = (is_typed (data_type_of t x) && only_ids (path_of t x)) ≡ true → e.settled ≡ true
SettledBy t (Ok (answer.NeedMore missing)) e = Unit {0}
SettledBy t (Ok answer.Finished) e = Unit {0}
SettledBy t (Err r) e = Unit {0}

-- an End closes with those that still wait, of which the outermost of known size is full: l are the open Starts and the
-- implied parents
abbrev pub BatchEvent : List Started → ℕ → Event → TagDecoder → Type 0
BatchEvent l p (event.Start x o) e = Unit {0}
BatchEvent l p (event.End end) e = ended_by p (outermost_end (take (e.waiting_count + 1) l)) ≡ true
BatchEvent l p (event.Data x o v) e = Unit {0}

-- the same of an answer
abbrev pub Batch : List Started → ℕ → Result Answer Refusal → TagDecoder → Type 0
Batch l p (Ok (answer.Event x)) e = BatchEvent l p x e
Batch l p (Ok (answer.NeedMore missing)) e = Unit {0}
Batch l p (Ok answer.Finished) e = Unit {0}
Batch l p (Err r) e = Unit {0}

-- a call answers a, takes n bytes and leaves the record e
pub record Called (t : List Entry) (set : Settings) (s : List ℕ) (starts : List Started) (left : List ℕ) (p : ℕ) (a : Result Answer Refusal) (n : ℕ) (e : TagDecoder) : Type 0 where
  pub promised : AnswerFacts t set.allow_oversized s starts left p a
  pub quiet : Quiet a n e
  pub measured : Measured set.strict t s p a n
  pub settles : SettledBy t a e
  pub batch : Batch (stack starts left) p a e
  pub tied : Tied t e (after_answer t s a starts) (left_by_answer a starts left) (p + n)
  -- the input is not ended while a Start of known size that is open is not full
  pub closes_full : e.finished ≡ true → all_ended p starts ≡ true
  -- the settings are as before
  pub kept : e.settings ≡ set

-- ---- lists

-- a list with no element is empty
pub no_starts : (l : List Started) → length l ≤ 0 → l ≡ []
no_starts [] h = refl
no_starts (m ∷ l) h = absurd (omega arith)

-- ---- where nothing waits, the Starts that are open are open in the record

module _ (t : List Entry) (d : TagDecoder) (starts : List Started) (left : List ℕ) (p : ℕ) (k : Linked t d starts left p) (none : d.waiting_count ≡ 0) where
  -- the Starts and the implied parents are the open masters, from the top down
  pub stack_is : stack starts left ≡ map as_started (reverse (opens d))
  stack_is = k.parts ∙ ap (λ (l : List Started). l ++ map as_started (reverse (opens d))) (none_ended k none)

  -- so there are as many
  pub stack_length : length (stack starts left) ≡ d.open_count
  stack_length = ap length stack_is ∙ simp (length-map, length-reverse) (opens-length d k.arrays k.good.open_count)

  -- a test of every open master is one of every Start that is open
  pub tested : (test : OpenTag → Bool) (other : Started → Bool) → ((m : OpenTag) → test m ≡ true → other (as_started m) ≡ true) → every test (opens d) ≡ true → every other starts ≡ true
  tested test other h e = every_front other starts (map parent_of left) (rw stack_is (every_map test as_started other h (reverse (opens d)) (every_reversed test (opens d) e)))

-- ---- a master that starts

module _ (x p len : ℕ) where
  -- it is good where its header ends
  pub open_good : (z : EBMLSize) → Small z → good_open (p + len) (master_at x z p len) ≡ true
  open_good Unknown h = is_good_open (p + len) (master_at x Unknown p len) (record { start = omega arith; size = λ e. absurd (false≢true e); count = omega arith })
  open_good (Known n) h = is_good_open (p + len) (master_at x (Known n) p len) (record { start = omega arith; size = λ e. omega arith; count = omega arith })

  open_started : (z : EBMLSize) → as_started (master_at x z p len) ≡ record { id = x; offset = p; end = end_after (p + len) z }
  open_started Unknown = refl
  open_started (Known n) = refl

  open_id : (z : EBMLSize) → (master_at x z p len).id ≡ x
  open_id Unknown = refl
  open_id (Known n) = refl

known_reaches : (b : Bool) (f e : ℕ) → (not b || leb e f) ≡ true → reaches_to e (known_end b f) ≡ true
known_reaches true f e h = h
known_reaches false f e h = refl

reaches_to_lem : (e : ℕ) (m : OpenTag) → reaches e m ≡ true → reaches_to e (as_started m).end ≡ true
unfolding reaches
reaches_to_lem e m h = known_reaches m.known (end_of m) e h

-- ---- each action; d has the note, and p is its position

module _ (t : List Entry) (d : TagDecoder) (s : List ℕ) (starts : List Started) (left : List ℕ) (k : Tied t d starts left d.position) where
  same_place : Tied t d starts left (d.position + 0)
  same_place = let e : d.position ≡ d.position + 0 = omega arith in subst (Tied t d starts left) e k

  refused_called : (e : DecodeError) (q : ℕ) → Mild d e → Called t d.settings s starts left d.position (Err (record { error = e; place = q })) 0 d
  refused_called e q m = record {
    promised = record {
      not_10 = m.not_10;
      not_11 = m.not_11;
      not_24 = m.not_24;
      at_19 = λ n. let f = m.at_19 n in omega (arith, stack_length t d starts left d.position k.linked f.0, f.1, k.linked.good.open_count);
    };
    quiet = tt;
    measured = tt;
    settles = tt;
    batch = tt;
    tied = same_place;
    closes_full = k.full;
    kept = refl;
  }

  more_called : {m : ℕ} → Reading d → Called t d.settings s starts left d.position (Ok (answer.NeedMore m)) 0 d
  more_called r = record { promised = tt; quiet = (refl, r.none_waiting); measured = tt; settles = tt; batch = tt; tied = same_place; closes_full = k.full; kept = refl }

  finished_called : d.waiting_count ≡ 0 → d.finished ≡ true → Called t d.settings s starts left d.position (Ok answer.Finished) 0 d
  finished_called w f = record { promised = no_starts starts (omega (arith, k.finished f)); quiet = (refl, w, f); measured = tt; settles = tt; batch = tt; tied = same_place; closes_full = k.full; kept = refl }

  handed_called : 0 < d.waiting_count
      → Called t d.settings s starts left d.position (Ok (answer.Event (event.End (get_or d.waiting 0 no_end)))) 0 (handed_out d)
  unfolding handed_out with_waiting
  handed_called h =
      let o = handed_linked t d starts left d.position k.linked h in
      let e : d.position ≡ d.position + 0 = omega arith in
      let one : d.waiting_count ≡ d.waiting_count - 1 + 1 = omega arith in
      let full = subst (λ (w : ℕ). ended_by d.position (outermost_end (take w (stack starts left))) ≡ true) one k.batch in
      record {
        promised = (master_is _ o.master, o.matches);
        quiet = tt;
        measured = tt;
        settles = tt;
        batch = full;
        tied = record {
          linked = subst (Linked t (handed_out d) (drop 1 starts) (left_by_end starts left)) e o.linked;
          finished = λ f. omega (arith, k.finished f, length-drop 1 starts);
          full = λ f. subst (λ (q : ℕ). all_ended q (drop 1 starts) ≡ true) e (every_drop (λ (m : Started). ended_by d.position m.end) 1 starts (k.full f));
          batch = subst (λ (q : ℕ). ended_by q (outermost_end (take (d.waiting_count - 1) (stack (drop 1 starts) (left_by_end starts left)))) ≡ true) e (batch_less starts left (d.waiting_count - 1) d.position full);
        };
        closes_full = k.full;
        kept = refl;
      }

  closed_called : (n : ℕ) → n < d.open_count → Closes t d s n
      → Called t d.settings s starts left d.position (Ok (answer.Event (event.End (get_or (ends_from d n) 0 no_end)))) 0 (closed_to d n)
  unfolding closed_to with_open with_waiting
  closed_called n h f =
      let r = f.reading in
      let o = closed_linked t d starts left d.position k.linked n r.none_waiting h in
      let e : d.position ≡ d.position + 0 = omega arith in
      let count : length (opens d) - n ≡ d.open_count - n - 1 + 1 = omega (arith, opens-length d k.linked.arrays k.linked.good.open_count) in
      let full = batch_closed d (stack starts left) n (d.open_count - n - 1 + 1) (stack_is t d starts left d.position k.linked r.none_waiting) count f.batch in
      record {
        promised = (master_is _ o.master, o.matches);
        quiet = tt;
        measured = tt;
        settles = tt;
        batch = full;
        tied = record {
          linked = subst (Linked t (closed_to d n) (drop 1 starts) (left_by_end starts left)) e o.linked;
          finished = λ f. absurd (true≢false (sym f ∙ r.unfinished));
          full = λ f. absurd (true≢false (sym f ∙ r.unfinished));
          batch = subst (λ (q : ℕ). ended_by q (outermost_end (take (d.open_count - n - 1) (stack (drop 1 starts) (left_by_end starts left)))) ≡ true) e (batch_less starts left (d.open_count - n - 1) d.position full);
        };
        closes_full = k.full;
        kept = refl;
      }

  ends_inside : (z : EBMLSize) (len : ℕ) → d.waiting_count ≡ 0 → InsideSize d len z → Ends d.settings.allow_oversized (end_after (d.position + len) z) starts
  ends_inside Unknown len w i = tt
  ends_inside (Known n) len w i = λ off.
      let e : d.position + len + n ≡ d.position + (len + n) = omega arith in
      rw e (tested t d starts left d.position k.linked w (reaches (d.position + (len + n))) (λ m. reaches_to (d.position + (len + n)) m.end) (reaches_to_lem (d.position + (len + n))) (i off))

  started_called : (x : ℕ) (z : EBMLSize) (len : ℕ) → d.open_count < 32 → d.position + len ≤ 2 ^ 62 → Starts t d s x z len
      → Called t d.settings s starts left d.position (Ok (answer.Event (event.Start x d.position))) len (opened (counted (at_position d (d.position + len))) (master_at x z d.position len))
  unfolding counted opened with_open with_notes
  started_called x z len few near f =
      let e = counted (at_position d (d.position + len)) in
      let m = master_at x z d.position len in
      let taken = counted_linked t d starts left d.position k.linked (d.position + len) (omega (arith, f.some)) near in
      let is : as_started m ≡ record { id = x; offset = d.position; end = declared_end t d.position s } = open_started x d.position len z ∙ ap (λ (g : Option ℕ). record { id = x; offset = d.position; end = g }) (sym f.end) in
      let master : is_master (data_type_of t m.id) ≡ true = rw (open_id x d.position len z) (is_master_lem _ f.master) in
      record {
        promised = (f.master, record { heads = f.heads; offset = refl; inside = rw f.end (ends_inside z len f.reading.none_waiting f.inside) });
        quiet = tt;
        measured = f.alone;
        settles = f.settled;
        batch = tt;
        tied = record {
          linked = subst (λ (o : Started). Linked t (opened e m) (o ∷ starts) left (d.position + len)) is
              (opened_linked t e starts left (d.position + len) taken m f.reading.none_waiting f.settled few (open_good x d.position len z f.small) master);
          finished = λ g. absurd (true≢false (sym g ∙ f.reading.unfinished));
          full = λ g. absurd (true≢false (sym g ∙ f.reading.unfinished));
          batch = none_batch d.waiting_count f.reading.none_waiting _ _;
        };
        closes_full = k.full;
        kept = refl;
      }

  data-called : (x : ℕ) (v : TagValue) (n : ℕ) → d.position + n ≤ 2 ^ 62 → Holds t d s x v n
      → Called t d.settings s starts left d.position (Ok (answer.Event (event.Data x d.position v))) n (counted (at_position d (d.position + n)))
  unfolding counted with_open with_notes
  data-called x v n near f =
      record {
        promised = (f.kind, record { heads = f.heads; offset = refl; inside = rw f.end inside_all });
        quiet = tt;
        measured = f.whole;
        settles = f.settled;
        batch = tt;
        tied = record {
          linked = counted_linked t d starts left d.position k.linked (d.position + n) (omega (arith, f.some)) near;
          finished = λ g. absurd (true≢false (sym g ∙ f.reading.unfinished));
          full = λ g. absurd (true≢false (sym g ∙ f.reading.unfinished));
          batch = none_batch d.waiting_count f.reading.none_waiting _ _;
        };
        closes_full = k.full;
        kept = refl;
      }
    where
      inside_all : Ends d.settings.allow_oversized (Some (d.position + n)) starts
      inside_all off = tested t d starts left d.position k.linked f.reading.none_waiting (reaches (d.position + n)) (λ m. reaches_to (d.position + n) m.end) (reaches_to_lem (d.position + n)) (f.inside off)

  -- what each action promises
  pub move_called : (a : Result Action DecodeError) → ActionApplies d (length s) a → Facts t d s a
      → Called t d.settings s starts left d.position (move d a).answer (move d a).taken (move d a).state
  unfolding move
  move_called (Err e) g f = refused_called e d.position f
  move_called (Ok (act.NeedMore missing)) g f = more_called f
  move_called (Ok act.Finish) g f = finished_called f.0 f.1
  move_called (Ok act.HandOut) g f = handed_called (hands_out d (length s) g)
  move_called (Ok (act.Close n)) g f = closed_called n (closes d (length s) n g).0 f
  move_called (Ok (act.Start x z len)) g f = started_called x z len (start_fits d (length s) x z len g).0 (start_fits d (length s) x z len g).1 f
  move_called (Ok (act.Data x v n)) g f = data-called x v n (passes_on d (length s) x v n g) f

-- ---- the note

-- before settling no End waits
pub unsettled_waiting : (t : List Entry) (d : TagDecoder) (starts : List Started) (left : List ℕ) (p : ℕ) → Linked t d starts left p → d.settled ≡ false → d.waiting_count ≡ 0
unsettled_waiting t d starts left p k u =
    let none : k.ended ≡ [] = (both_empty k.ended _ (sym k.parts ∙ k.unsettled u)).0 in
    sym (waits-length d k.arrays k.good.waiting_count) ∙ sym (length-map (waits d) named) ∙ ap length (sym k.waiting) ∙ ap (λ (l : List Started). length (map as_end l)) none

-- the record with the note is tied, with the parents that the note implies
pub noted_tied : (ps : List ℕ) (t : List Entry) (d : TagDecoder) (starts : List Started) (left : List ℕ) (p : ℕ) (n : Option Path) → NoteFacts ps t d n → Tied t d starts left p
    → Tied t (noted ps d n) starts (implied_by ps n ++ left) p
unfolding noted implied_by settled_to with_open with_notes
noted_tied ps t d starts left p None f k = k
noted_tied ps t d starts left p (Some path) f k = record {
  linked = settled_linked t d starts left p k.linked (parts_in (parts_of ps) path) f.unsettled f.masters f.short;
  finished = k.finished;
  full = k.full;
  batch = none_batch d.waiting_count (unsettled_waiting t d starts left p k.linked f.unsettled) p _;
}

-- ---- the end of input, where no event is left

-- where the first that passes is past the list, none does
pub none_first : (test : OpenTag → Bool) (l : List OpenTag) → length l ≤ first_index test l → every (λ m. not (test m)) l ≡ true
unfolding first_index every
none_first test [] h = refl
none_first test (m ∷ l) h = go (test m) refl h (λ g. none_first test l g)
  where
    go : (b : Bool) → test m ≡ b → suc (length l) ≤ cond b 0 (first_index test l + 1) → (length l ≤ first_index test l → every (λ m. not (test m)) l ≡ true)
        → (not (test m) && every (λ m. not (test m)) l) ≡ true
    go true e h rest = absurd (omega arith)
    go false e h rest = and_both (ap not e) (rest (omega arith))

not_cut : (b : Bool) (p e : ℕ) → not (b && ltb p e) ≡ true → ended_by p (known_end b e) ≡ true
not_cut true p e h = le-leb e p (ltb-false p e (not-false (ltb p e) h))
not_cut false p e h = refl

uncut : (p : ℕ) (m : OpenTag) → not (is_cut p m) ≡ true → ended_by p (as_started m).end ≡ true
unfolding is_cut
uncut p m h = not_cut m.known p (end_of m) h

module _ (t : List Entry) (d : TagDecoder) (s : List ℕ) (starts : List Started) (left : List ℕ) (k : Tied t d starts left d.position) (none : d.waiting_count ≡ 0) where
  -- what it answers, with the record after it
  abbrev Ended : Decoded → Type 0
  Ended r = Called t d.settings s starts left d.position r.answer r.taken r.state

  cut_called : (e : DecodeError) (q : ℕ) → error_number e ≡ 23 → Ended (refuse e q d)
  cut_called e q n = record {
    promised = record { not_10 = λ z. omega arith; not_11 = λ z. omega arith; not_24 = λ z. omega arith; at_19 = λ z. absurd (omega arith) };
    quiet = tt;
    measured = tt;
    settles = tt;
    batch = tt;
    tied = same_place t d s starts left k;
    closes_full = k.full;
    kept = refl;
  }

  -- where no master is cut, every Start that is open is full
  all_full : d.open_count ≤ first_cut d → all_ended d.position starts ≡ true
  all_full h =
      let past : length (opens d) ≤ first_cut d = omega (arith, opens-length d k.linked.arrays k.linked.good.open_count) in
      tested t d starts left d.position k.linked none (λ m. not (is_cut d.position m)) (λ m. ended_by d.position m.end) (uncut d.position)
      (none_first (is_cut d.position) (opens d) past)

  at_end : Linked t (ending d) starts left d.position
  at_end = moved_linked t d starts left d.position k.linked d.position true (omega arith) k.linked.good.place

  few_starts : length starts ≤ d.open_count
  few_starts = omega (arith, stack_length t d starts left d.position k.linked none, length-append starts (map parent_of left))

  module _ (full : all_ended d.position starts ≡ true) where
    finish_called : d.open_count ≡ 0 → Ended (gives (Ok answer.Finished) 0 (ending d))
    unfolding with_notes
    finish_called n =
        let z : d.position ≡ d.position + 0 = omega arith in
        record {
          promised = no_starts starts (omega (arith, few_starts));
          quiet = (refl, none, refl);
          measured = tt;
          settles = tt;
          batch = tt;
          tied = record {
            linked = subst (Linked t (ending d) starts left) z at_end;
            finished = λ _. omega (arith, few_starts);
            full = λ _. subst (λ (q : ℕ). all_ended q starts ≡ true) z full;
            batch = none_batch d.waiting_count none _ _;
          };
          closes_full = λ _. full;
          kept = refl;
        }

    close_called : 0 < d.open_count → Ended (move (ending d) (Ok (act.Close 0)))
    unfolding move with_notes closed_to with_open with_waiting
    close_called n =
        let z : d.position ≡ d.position + 0 = omega arith in
        let e = ending d in
        let o = closed_linked t e starts left d.position at_end 0 none n in
        record {
          promised = (master_is _ o.master, o.matches);
          quiet = tt;
          measured = tt;
          settles = tt;
          batch = all_batch d.position (d.open_count - 0 - 1 + 1) starts left full;
          tied = record {
            linked = subst (Linked t (closed_to e 0) (drop 1 starts) (left_by_end starts left)) z o.linked;
            finished = λ _. omega (arith, few_starts, length-drop 1 starts);
            full = λ _. subst (λ (q : ℕ). all_ended q (drop 1 starts) ≡ true) z (every_drop (λ (m : Started). ended_by d.position m.end) 1 starts full);
            batch =
                subst (λ (q : ℕ). ended_by q (outermost_end (take (d.open_count - 0 - 1) (stack (drop 1 starts) (left_by_end starts left)))) ≡ true) z
                (batch_less starts left (d.open_count - 0 - 1) d.position (all_batch d.position (d.open_count - 0 - 1 + 1) starts left full));
          };
          closes_full = λ _. full;
          kept = refl;
        }

  -- what each exit of the end of input promises
  pub ended_called : {r : Decoded} → EndExit t d s r → Ended r
  ended_called (end.bytes_left l) = cut_called (error.UnexpectedEOF (cut_bytes d.position s)) d.position refl
  ended_called (end.master_cut z l) = cut_called (error.UnexpectedEOF (cut_master (cut_tag d))) (cut_tag d).tag_start refl
  ended_called (end.no_master_lem n m) = absurd (true≢false (sym k.linked.masters ∙ m))
  ended_called (end.finishes n m z) = finish_called (all_full n.none_cut) z
  ended_called (end.closes_all n m l) = close_called (all_full n.none_cut) l

-- ---- a decode call, and the end of input

-- after such an answer no End waits
pub quiet_waits : (a : Result Answer Refusal) (n : ℕ) (e : TagDecoder) → Quiet a n e → is_quiet a ≡ true → e.waiting_count ≡ 0
quiet_waits (Ok (answer.Event x)) n e f q = absurd (false≢true q)
quiet_waits (Ok (answer.NeedMore missing)) n e f q = f.1
quiet_waits (Ok answer.Finished) n e f q = f.1
quiet_waits (Err x) n e f q = absurd (false≢true q)

-- an answer after which the end of input is looked at hands nothing over
pub quiet_no_event : (a : Result Answer Refusal) → is_quiet a ≡ true → is_no_event a ≡ true
quiet_no_event (Ok (answer.Event x)) q = q
quiet_no_event (Ok (answer.NeedMore missing)) q = refl
quiet_no_event (Ok answer.Finished) q = refl
quiet_no_event (Err x) q = refl

module _ (es ps : List ℕ) (shape : good_shape es ps ≡ true) (passed : PassedTable (table_of es ps)) (d : TagDecoder) (s : List ℕ) (byte : Octets s)
    (starts : List Started) (left : List ℕ) (p : ℕ) (k : Tied (table_of es ps) d starts left p) where
  facts : AllFacts ps (table_of es ps) d s (decide es ps d s)
  facts = decide_facts es ps shape passed d s byte k.linked.masters (opens-length d k.linked.arrays k.linked.good.open_count) k.linked.good

  here : (with_note es ps d s).position ≡ p
  here = noted-position ps d (decide es ps d s).note ∙ k.linked.place

  -- the record with the note is tied to the same Starts, and to the parents that the note implies too
  pub with_note_tied : Tied (table_of es ps) (with_note es ps d s) starts (implied_by ps (decide es ps d s).note ++ left) (with_note es ps d s).position
  with_note_tied =
      subst (Tied (table_of es ps) (with_note es ps d s) starts (implied_by ps (decide es ps d s).note ++ left)) (sym here)
      (noted_tied ps (table_of es ps) d starts left p (decide es ps d s).note facts.note k)

  -- what a call on this record answers, with the record after it
  abbrev CalledAs : Decoded → Type 0
  CalledAs r = Called (table_of es ps) d.settings s starts (implied_by ps (decide es ps d s).note ++ left) p r.answer r.taken r.state

  -- what is so of the record with the note is so of this record
  from_note : (r : Decoded) → Called (table_of es ps) (with_note es ps d s).settings s starts (implied_by ps (decide es ps d s).note ++ left) (with_note es ps d s).position r.answer r.taken r.state
      → CalledAs r
  from_note r c =
      let left' = implied_by ps (decide es ps d s).note ++ left in
      subst (λ (q : ℕ). Called (table_of es ps) d.settings s starts left' q r.answer r.taken r.state) here
      (subst (λ (b : Settings). Called (table_of es ps) b s starts left' (with_note es ps d s).position r.answer r.taken r.state) (noted_settings ps d (decide es ps d s).note) c)

  -- what a decode call promises
  pub decode_called : CalledAs (decode es ps d s)
  unfolding apply
  decode_called =
      from_note (decode es ps d s)
      (move_called (table_of es ps) (with_note es ps d s) s starts _ with_note_tied (decide es ps d s).action (decide_applies es ps d s byte).action facts.action)

  -- where the end of input is looked at, no End waits
  pub quiet_none_waits : is_quiet (decode es ps d s).answer ≡ true → (with_note es ps d s).waiting_count ≡ 0
  quiet_none_waits q =
      subst (λ (e : TagDecoder). e.waiting_count ≡ 0) (decode_stays es ps d s (quiet_no_event (decode es ps d s).answer q)).same
      (quiet_waits (decode es ps d s).answer (decode es ps d s).taken (decode es ps d s).state decode_called.quiet q)

  exit_called : {r : Decoded} → EofExit es ps d s r → CalledAs r
  exit_called (end.as_decoded q) = decode_called
  exit_called (end.at_end {r} q x) =
      from_note r (ended_called (table_of es ps) (with_note es ps d s) s starts _ with_note_tied (quiet_none_waits q) x)

  -- what the end of input promises
  pub eof_called : CalledAs (decode_eof es ps d s)
  eof_called = exit_called (eof_exits es ps d s)
