-- The root of a night, once its Start was answered with a known size: it ends at a place f, and is closed only at f or
-- behind it. So where every Start has a size the finish does not come before f (`ends_behind`), and where no other
-- record comes it comes at f (`ends_at`). Assumes nothing.
use Prim.Native.Nat.{ℕ, zero, suc, ◌+◌, ◌-◌, ◌≤◌, ◌<◌}
use mathlib.Core.Path.{◌≡◌, refl, sym, ap, subst, ◌∙◌}
use mathlib.Core.Bool.{Bool, true, false, cond, ◌&&◌, false≢true, true≢false}
use mathlib.Core.List.{List, [], ◌∷◌, ◌++◌, reverse, reverse-cons}
use mathlib.Core.Logic.{◌⊎◌, inl, inr}
use native.Mathlib.Omega.{arith}
use borrow.Author.Tests.{leb-true, ltb-false, eq-eqb}
use lib.Dec.{ltb, leb, eqb}
use lib.ListN.{length, take, drop, get_or, set, replicate, length-take, length-drop, length-reverse}
use Rattle.basics.specs.Lists.{every, first_index, array_places, filled}
use Rattle.basics.proofs.Bools.{absurd_eq, both}
use Rattle.tools.specs.Bytes.{Octets}
use Rattle.table.specs.Table.{Entry, table_of}
use Rattle.spec_util.specs.Walk.{no_tag, unknown_and_ended, ended_tops}
use Rattle.spec_util.specs.declared.types.OpenTag.{OpenTag}
use Rattle.tag_parse.specs.declared.types.EBMLSize.{EBMLSize}
use Rattle.tag_parse.specs.declared.types.EBMLSize.TheVariants.{Known, Unknown}
use Rattle.tag_parse.specs.declared.types.TagHeader.{TagHeader}
use Rattle.tag_parse.proofs.Cases.{octets_drop}
use Rattle.decoder_rules.specs.Record.{opens, end_of, with_open, with_waiting, with_notes, with_one_more, counted_last, counted, opened, closed_to, handed_out}
use Rattle.decoder_rules.specs.OneCall.{is_full, step3, step7, noted, reaches, fits_inside, step9, step10}
use Rattle.decoder_rules.specs.Moving.{master_at, move, apply}
use Rattle.decoder_rules.specs.EndOfInput.{is_cut, decode_eof}
use Rattle.decoder_rules.specs.declared.types.Action.{Action}
use Rattle.decoder_rules.specs.declared.types.Answer.{Answer}
use Rattle.decoder_rules.specs.declared.types.Answer.TheVariants as answer
use Rattle.decoder_rules.specs.declared.types.Decision.{Decision}
use Rattle.decoder_rules.specs.declared.types.Decoded.{Decoded}
use Rattle.decoder_rules.specs.declared.types.DecodeError.TheVariants as error
use Rattle.decoder_rules.specs.declared.types.TagDecoder.{TagDecoder}
use Rattle.decoder_rules.proofs.EndExits as at
use Rattle.decoder_rules.proofs.EndExits.{is_quiet, NoneCut, EndExit, EofExit, eof_exits}
use Rattle.decoder_rules.proofs.Exits as exit
use Rattle.decoder_rules.proofs.Exits.{Closing, HeaderExit, Exit, exits}
use Rattle.decoder_rules.proofs.MoveLaws.{with_note}
use Rattle.tag_decoder.proofs.CallLaws.{eof_facts}
use Rattle.event_list.specs.Whole.{Answered, answered_by}
use Rattle.whole.specs.Checking.{top_is_sized}
use Rattle.whole.specs.Night.{is_event, read_from, has_size, all_sized, is_finish, finishes, is_record, records}
use Rattle.whole.proofs.Readings.{read_on, read_last, finish-later}
use Rattle.whole.proofs.Turns.{settled_notes_none, eof_settled, finish_no_byte}
use Rattle.std.specs.Prelude.{Err, Ok, Result, ⊤}
use Rattle.decoder_rules.specs.declared.types.DecodeError.{DecodeError}
use Rattle.decoder_rules.specs.declared.types.Refusal.{Refusal}

-- ---- lists of open masters

-- the top that was just opened, if it has a size
pushed : (l : List OpenTag) (n : ℕ) (m : OpenTag) → (get_or (set l n m) n no_tag).known ≡ true → get_or (set l n m) n no_tag ≡ m
pushed [] n m k = absurd (false≢true k)
pushed (x ∷ l) zero m k = refl
pushed (x ∷ l) (suc n) m k = pushed l n m k

-- the outermost stays where one more is opened
pub record Outermost (l : List OpenTag) (m : OpenTag) : Type 0 where
  pub others : List OpenTag
  pub is : l ≡ m ∷ others

outermost_set : (l : List OpenTag) (n : ℕ) (m x : OpenTag) → Outermost (take n l) m → Outermost (take (n + 1) (set l n x)) m
outermost_set l zero m x o = let z : ◌≡◌ {A = ℕ} 0 1 = omega (arith, ap length o.is) in absurd_eq z
outermost_set [] (suc n) m x o = let z : ◌≡◌ {A = ℕ} 0 1 = omega (arith, ap length o.is) in absurd_eq z
outermost_set (y ∷ l) (suc n) m x o =
    let e : suc n + 1 ≡ suc (n + 1) = omega arith in
    let first : y ≡ m = ap (λ (k : List OpenTag). get_or k 0 no_tag) o.is in
    record { others = take (n + 1) (set l n x); is = rw (e, first) }

-- and where those above the first k close, k of at least 1
outermost_closed : (l : List OpenTag) (k : ℕ) (m : OpenTag) → 0 < k → Outermost l m → Outermost (take k (filled no_tag (take k l))) m
outermost_closed l zero m h o = absurd (omega arith)
outermost_closed l (suc k) m h o = record { others = take k (take k o.others ++ replicate (array_places - length (m ∷ take k o.others)) no_tag); is = rw o.is }

-- the outermost of these masters is known and ends as m does
record OutermostAs (l : List OpenTag) (m : OpenTag) : Type 0 where
  root : OpenTag
  outermost : Outermost l root
  known : root.known ≡ m.known
  end : end_of root ≡ end_of m

-- so it is where a child of the innermost is counted
outermost_counted : (n : ℕ) (l : List OpenTag) (m : OpenTag) → Outermost (take n l) m → OutermostAs (take n (counted_last n l)) m
unfolding counted_last with_one_more
outermost_counted zero l m o = let z : ◌≡◌ {A = ℕ} 0 1 = omega (arith, ap length o.is) in absurd_eq z
outermost_counted (suc n) [] m o = let z : ◌≡◌ {A = ℕ} 0 1 = omega (arith, ap length o.is) in absurd_eq z
outermost_counted (suc zero) (y ∷ l) m o =
    let first : y ≡ m = ap (λ (k : List OpenTag). get_or k 0 no_tag) o.is in
    record { root = with_one_more y; outermost = record { others = []; is = refl }; known = ap (λ (x : OpenTag). x.known) first; end = ap end_of first }
outermost_counted (suc (suc n)) (y ∷ l) m o =
    let first : y ≡ m = ap (λ (k : List OpenTag). get_or k 0 no_tag) o.is in
    record { root = y; outermost = record { others = take (suc n) (set l n (with_one_more (get_or l n no_tag))); is = refl }; known = ap (λ (x : OpenTag). x.known) first; end = ap end_of first }

-- a master of known size is not ended by an ID
tops_few : (strict : Bool) (t : List Entry) (x : ℕ) (l : List OpenTag) (m : OpenTag) → m.known ≡ true → ended_tops strict t x (l ++ (m ∷ [])) ≤ length l
unfolding ended_tops unknown_and_ended
tops_few strict t x [] m k = rw k (omega arith)
tops_few strict t x (y ∷ l) m k = by (unknown_and_ended strict t y.known y.id x) (tops_few strict t x l m k)
  where
    by : (b : Bool) → ended_tops strict t x (l ++ (m ∷ [])) ≤ length l → cond b (ended_tops strict t x (l ++ (m ∷ [])) + 1) 0 ≤ suc (length l)
    by true h = omega arith
    by false h = omega arith

-- ---- the root

-- the root m is open, has a known size and ends at f, and the position is not behind f
pub record RootOpen (f : ℕ) (d : TagDecoder) : Type 0 where
  pub root : OpenTag
  pub outermost : Outermost (opens d) root
  pub known : root.known ≡ true
  pub end : end_of root ≡ f
  pub within : d.position ≤ f
  pub tested : d.settings.allow_oversized ≡ false

-- it is closed: f is reached, and nothing is open
pub record RootClosed (f : ℕ) (d : TagDecoder) : Type 0 where
  pub reached : d.position ≡ f
  pub none_open : d.open_count ≡ 0

abbrev pub Stage : ℕ → TagDecoder → Type 0
Stage f d = RootOpen f d ⊎ RootClosed f d

some_open : {f : ℕ} {d : TagDecoder} → RootOpen f d → 0 < d.open_count
some_open {f} {d} o = by d.open_count refl o.outermost
  where
    by : (n : ℕ) → d.open_count ≡ n → Outermost (take n d.«open») o.root → 0 < n
    by zero e x = let z : ◌≡◌ {A = ℕ} 0 1 = omega (arith, ap length x.is) in absurd_eq z
    by (suc n) e x = omega arith

-- where the first k stay open
closed_stage : (f : ℕ) (d : TagDecoder) (k : ℕ) → RootOpen f d → (k ≡ 0 → f ≤ d.position) → Stage f (closed_to d k)
unfolding closed_to with_open with_waiting
closed_stage f d zero o h = let r = h refl in inr (record { reached = omega (arith, o.within); none_open = refl })
closed_stage f d (suc k) o h =
    inl (record { root = o.root; outermost = outermost_closed (opens d) (suc k) o.root (omega arith) o.outermost; known = o.known; end = o.end; within = o.within; tested = o.tested })

-- the root closes by step 3 only where it is full
full_root : (f : ℕ) (d : TagDecoder) → RootOpen f d → step3 d ≡ 0 → f ≤ d.position
unfolding first_index is_full
full_root f d o z =
    by (leb (end_of o.root) d.position) refl (rw (o.outermost.is, o.known) at z)
  where
    by : (b : Bool) → leb (end_of o.root) d.position ≡ b → cond b 0 (first_index (is_full d.position) o.outermost.others + 1) ≡ 0 → f ≤ d.position
    by true e q = let h : end_of o.root ≤ d.position = leb-true _ _ e in omega (arith, o.end)
    by false e q = absurd (omega arith)

-- and never by step 10
kept_root : (t : List Entry) (x f : ℕ) (d : TagDecoder) → RootOpen f d → step10 t d x ≡ 0 → f ≤ d.position
kept_root t x f d o z =
    let l = o.outermost.others in
    let strict = d.settings.strict in
    let few = tops_few strict t x (reverse l) o.root o.known in
    let same : ended_tops strict t x (reverse (opens d)) ≡ ended_tops strict t x (reverse l ++ (o.root ∷ [])) = ap (λ (k : List OpenTag). ended_tops strict t x (reverse k)) o.outermost.is ∙ ap (ended_tops strict t x) (reverse-cons o.root l) in
    absurd (omega (arith, z, few, same, length-reverse l, length-take d.open_count d.«open», ap length o.outermost.is))

-- ---- one call with the root open

abbrev passes : Result ⊤ DecodeError → Bool
passes (Ok _) = true
passes (Err e) = false

-- an element of known size ends inside the root
inside_root : (f : ℕ) (d : TagDecoder) (len n : ℕ) → RootOpen f d → step9 d len (Known n) ≡ Ok tt → d.position + (len + n) ≤ f
unfolding step9 every reaches fits_inside
inside_root f d len n o p = by (leb (d.position + (len + n)) (end_of o.root)) refl
  where
    q : passes (step9 d len (Known n)) ≡ true
    q = ap passes p

    fits : (b : Bool) → leb (d.position + (len + n)) (end_of o.root) ≡ b
        → passes (cond (b && every (reaches (d.position + (len + n))) o.outermost.others) (cond (d.settings.max_given && ltb d.settings.max_size n) (Err error.InvalidTagSize) (Ok tt)) (Err error.OversizedChildElement)) ≡ true → d.position + (len + n) ≤ f
    fits true e g = let h : d.position + (len + n) ≤ end_of o.root = leb-true _ _ e in omega (arith, o.end)
    fits false e g = absurd (false≢true g)

    by : (b : Bool) → leb (d.position + (len + n)) (end_of o.root) ≡ b → d.position + (len + n) ≤ f
    by b e = fits b e (rw (o.tested, o.outermost.is, o.known, e) at q)

-- a child of the innermost is counted
counted_open : (f : ℕ) (d : TagDecoder) → RootOpen f d → RootOpen f (counted d)
unfolding counted with_open
counted_open f d o =
    let c = outermost_counted d.open_count d.«open» o.root o.outermost in
    record { root = c.root; outermost = c.outermost; known = c.known ∙ o.known; end = c.end ∙ o.end; within = o.within; tested = o.tested }

-- a Start that has a size
start_stage : (f : ℕ) (d : TagDecoder) (h : TagHeader) (z : EBMLSize) → h.size ≡ z → RootOpen f d → step9 d h.len h.size ≡ Ok tt
    → top_is_sized (opened (counted (with_notes d (d.position + h.len) d.settled d.finished)) (master_at h.id z d.position h.len)) ≡ true
    → RootOpen f (opened (counted (with_notes d (d.position + h.len) d.settled d.finished)) (master_at h.id z d.position h.len))
unfolding counted opened with_open with_notes
start_stage f d h (Known n) e o v k =
    let fits = inside_root f d h.len n o (rw e at v) in
    let on = with_notes d (d.position + h.len) d.settled d.finished in
    let c = counted_open f on (record { root = o.root; outermost = o.outermost; known = o.known; end = o.end; within = omega (arith, fits); tested = o.tested }) in
    record {
      root = c.root;
      outermost = outermost_set (counted_last d.open_count d.«open») d.open_count c.root (master_at h.id (Known n) d.position h.len) c.outermost;
      known = c.known;
      end = c.end;
      within = omega (arith, fits);
      tested = o.tested;
    }
start_stage f d h Unknown e o v k = absurd (unsized (eqb (d.open_count + 1) 0) (ltb 32 (d.open_count + 1)) k)
  where
    m : OpenTag
    m = master_at h.id Unknown d.position h.len

    places : List OpenTag
    places = counted_last d.open_count d.«open»

    same : d.open_count + 1 - 1 ≡ d.open_count
    same = omega arith

    unsized : (a b : Bool) → cond a false (cond b false (get_or (set places d.open_count m) (d.open_count + 1 - 1) no_tag).known) ≡ true → ⊥
    unsized true b q = false≢true q
    unsized false true q = false≢true q
    unsized false false q =
        let q' : (get_or (set places d.open_count m) d.open_count no_tag).known ≡ true = rw same at q in
        false≢true (ap (λ (x : OpenTag). x.known) (sym (pushed places d.open_count m q')) ∙ q')

data-stage : (f : ℕ) (d : TagDecoder) (len n : ℕ) → RootOpen f d → step9 d len (Known n) ≡ Ok tt → RootOpen f (counted (with_notes d (d.position + (len + n)) d.settled d.finished))
unfolding with_notes
data-stage f d len n o v =
    counted_open f _ (record { root = o.root; outermost = o.outermost; known = o.known; end = o.end; within = inside_root f d len n o v; tested = o.tested })

handed_stage : (f : ℕ) (d : TagDecoder) → Stage f d → Stage f (handed_out d)
unfolding handed_out with_waiting
handed_stage f d (inl o) = inl (record { root = o.root; outermost = o.outermost; known = o.known; end = o.end; within = o.within; tested = o.tested })
handed_stage f d (inr c) = inr (record { reached = c.reached; none_open = c.none_open })

-- what an event with a size leaves
abbrev Leaves : ℕ → Decoded → Type 0
Leaves f r = is_event r.answer ≡ true → has_size r.answer r.state ≡ true → Stage f r.state

closing_leaves : {t : List Entry} {k : ℕ} {a : Result Action DecodeError} (f : ℕ) (d : TagDecoder) → RootOpen f d → (k ≡ 0 → f ≤ d.position) → Closing t d k a → Leaves f (move d a)
unfolding move
closing_leaves {k = k} f d o h (exit.closes c) i z = closed_stage f d k o h
closing_leaves f d o h (exit.no_master_lem c) i z = absurd (false≢true i)

header_leaves : {t : List Entry} {h : TagHeader} {s : List ℕ} {a : Result Action DecodeError} (f : ℕ) (d : TagDecoder) → RootOpen f d → HeaderExit t d h s a → Leaves f (move d a)
unfolding move
header_leaves f d o (exit.misplaced p) i z = absurd (false≢true i)
header_leaves f d o (exit.oversized n p y g) i z = absurd (false≢true i)
header_leaves f d o (exit.too_large n p y g k) i z = absurd (false≢true i)
header_leaves f d o (exit.past_end p y g k) i z = absurd (false≢true i)
header_leaves {t} {h} f d o (exit.ends_tops v k c) i z = closing_leaves f d o (kept_root t h.id f d o) c i z
header_leaves f d o (exit.too_many at k g) i z = absurd (false≢true i)
header_leaves {t} {h} f d o (exit.starts at k g) i z = inl (start_stage f d h h.size refl o at.valid.size z)
header_leaves f d o (exit.no_size at k y) i z = absurd (false≢true i)
header_leaves f d o (exit.payload_incomplete n has g) i z = absurd (false≢true i)
header_leaves f d o (exit.payload_refused n x has g y) i z = absurd (false≢true i)
header_leaves {t} {h} f d o (exit.holds n v has g y) i z = inl (data-stage f d h.len n o (rw has.known at has.at.valid.size))

module _ (es ps : List ℕ) (d : TagDecoder) (s : List ℕ) (byte : Octets s) (st : d.settled ≡ true) where
  step7_none : (h : TagHeader) → noted ps d (step7 (table_of es ps) d h) ≡ d
  unfolding noted
  step7_none h = rw st

  exit_leaves : {a : Decision} (f : ℕ) → RootOpen f d → Exit es ps d s a → Leaves f (apply ps d a)
  unfolding apply move noted
  exit_leaves f o (exit.refused_first x e) i z = absurd (false≢true i)
  exit_leaves f o (exit.after_finish e g l) i z = absurd (false≢true i)
  exit_leaves f o (exit.hands_out ok w) i z = handed_stage f d (inl o)
  exit_leaves f o (exit.finished ok w g) i z = absurd (false≢true i)
  exit_leaves f o (exit.closes_full r l c) i z = closing_leaves f d o (full_root f d o) c i z
  exit_leaves f o (exit.no_byte n y) i z = absurd (false≢true i)
  exit_leaves f o (exit.header_incomplete at e) i z = absurd (false≢true i)
  exit_leaves f o (exit.header_refused x at e) i z = absurd (false≢true i)
  exit_leaves f o (exit.id_refused h at g) i z = absurd (false≢true i)
  exit_leaves f o (exit.on_header h at g x) i z =
      header_leaves f (noted ps d (step7 (table_of es ps) d h)) (subst (RootOpen f) (sym (step7_none h)) o) x i z

  -- the end of input closes the root where it is full
  end_root : (f : ℕ) (e : TagDecoder) → RootOpen f e → NoneCut e s → f ≤ e.position
  unfolding first_index is_cut
  end_root f e o n =
      by (ltb e.position (end_of o.root)) refl (rw (o.outermost.is, o.known) at n.none_cut)
    where
      by : (b : Bool) → ltb e.position (end_of o.root) ≡ b → e.open_count ≤ cond b 0 (first_index (is_cut e.position) o.outermost.others + 1) → f ≤ e.position
      by true q h = absurd (omega (arith, some_open o))
      by false q h = let k : end_of o.root ≤ e.position = ltb-false _ _ q in omega (arith, o.end)

  end_leaves : {t : List Entry} (f : ℕ) (e : TagDecoder) {r : Decoded} → RootOpen f e → EndExit t e s r → Leaves f r
  unfolding move
  end_leaves f e o (at.bytes_left l) i z = absurd (false≢true i)
  end_leaves f e o (at.master_cut y l) i z = absurd (false≢true i)
  end_leaves f e o (at.no_master_lem n m) i z = absurd (false≢true i)
  end_leaves f e o (at.finishes n m y) i z = absurd (false≢true i)
  end_leaves f e o (at.closes_all n m l) i z =
      let r = end_root f e o n in
      unfold closed_to in unfold with_open in unfold with_waiting in unfold with_notes in inr (record { reached = omega (arith, o.within); none_open = refl })

  eof_leaves : {r : Decoded} (f : ℕ) → RootOpen f d → EofExit es ps d s r → Leaves f r
  eof_leaves f o (at.as_decoded q) = exit_leaves f o (exits es ps d s)
  eof_leaves f o (at.at_end q x) = end_leaves f (with_note es ps d s) (subst (RootOpen f) (sym (settled_notes_none es ps d s byte st)) o) x

  -- one event more
  root_leaves : (f : ℕ) → RootOpen f d → Leaves f (decode_eof es ps d s)
  root_leaves f o = eof_leaves f o (eof_exits es ps d s)

  -- the finish does not come while it is open
  end_open : {t : List Entry} (f : ℕ) (e : TagDecoder) {r : Decoded} → RootOpen f e → EndExit t e s r → r.answer ≡ Ok answer.Finished → ⊥
  unfolding move
  end_open f e o (at.bytes_left l) q = let z : ◌≡◌ {A = ℕ} 0 1 = cc in absurd_eq z
  end_open f e o (at.master_cut y l) q = let z : ◌≡◌ {A = ℕ} 0 1 = cc in absurd_eq z
  end_open f e o (at.no_master_lem n m) q = let z : ◌≡◌ {A = ℕ} 0 1 = cc in absurd_eq z
  end_open f e o (at.finishes n m y) q = absurd (omega (arith, some_open o))
  end_open f e o (at.closes_all n m l) q = let z : ◌≡◌ {A = ℕ} 0 1 = cc in absurd_eq z

  open_no_finish : {r : Decoded} (f : ℕ) → RootOpen f d → EofExit es ps d s r → r.answer ≡ Ok answer.Finished → ⊥
  open_no_finish f o (at.as_decoded q) g = true≢false (ap is_quiet (sym g) ∙ q)
  open_no_finish f o (at.at_end q x) g = end_open f (with_note es ps d s) (subst (RootOpen f) (sym (settled_notes_none es ps d s byte st)) o) x g

  -- ---- one call with the root closed: an End that waits, or a record more

  abbrev Rests : ℕ → Decoded → Type 0
  Rests f r = is_event r.answer ≡ true → is_record r.answer r.state ≡ false → RootClosed f r.state

  closing_none : {t : List Entry} {k : ℕ} {a : Result Action DecodeError} {A : Type 0} (e : TagDecoder) → e.open_count ≡ 0 → k < e.open_count → Closing t e k a → A
  closing_none e z l c = absurd (omega arith)

  header_rests : {t : List Entry} {h : TagHeader} {a : Result Action DecodeError} (f : ℕ) (e : TagDecoder) → RootClosed f e → HeaderExit t e h s a → Rests f (move e a)
  unfolding move counted opened with_open with_notes
  header_rests f e c (exit.misplaced p) i z = absurd (false≢true i)
  header_rests f e c (exit.oversized n p y g) i z = absurd (false≢true i)
  header_rests f e c (exit.too_large n p y g k) i z = absurd (false≢true i)
  header_rests f e c (exit.past_end p y g k) i z = absurd (false≢true i)
  header_rests f e c (exit.ends_tops v k x) i z = closing_none e c.none_open k x
  header_rests f e c (exit.too_many at k g) i z = absurd (false≢true i)
  header_rests f e c (exit.starts at k g) i z =
      let one : e.open_count + 1 ≡ 1 = omega (arith, c.none_open) in
      absurd (true≢false (sym (eq-eqb _ _ one) ∙ z))
  header_rests f e c (exit.no_size at k y) i z = absurd (false≢true i)
  header_rests f e c (exit.payload_incomplete n has g) i z = absurd (false≢true i)
  header_rests f e c (exit.payload_refused n x has g y) i z = absurd (false≢true i)
  header_rests f e c (exit.holds n v has g y) i z = absurd (true≢false (sym (eq-eqb _ _ c.none_open) ∙ z))

  handed_closed : (f : ℕ) → RootClosed f d → RootClosed f (handed_out d)
  unfolding handed_out with_waiting
  handed_closed f c = record { reached = c.reached; none_open = c.none_open }

  exit_rests : {a : Decision} (f : ℕ) → RootClosed f d → Exit es ps d s a → Rests f (apply ps d a)
  unfolding apply move noted
  exit_rests f c (exit.refused_first x e) i z = absurd (false≢true i)
  exit_rests f c (exit.after_finish e g l) i z = absurd (false≢true i)
  exit_rests f c (exit.hands_out ok w) i z = handed_closed f c
  exit_rests f c (exit.finished ok w g) i z = absurd (false≢true i)
  exit_rests f c (exit.closes_full r l x) i z = closing_none d c.none_open l x
  exit_rests f c (exit.no_byte n y) i z = absurd (false≢true i)
  exit_rests f c (exit.header_incomplete at e) i z = absurd (false≢true i)
  exit_rests f c (exit.header_refused x at e) i z = absurd (false≢true i)
  exit_rests f c (exit.id_refused h at g) i z = absurd (false≢true i)
  exit_rests f c (exit.on_header h at g x) i z =
      header_rests f (noted ps d (step7 (table_of es ps) d h)) (subst (RootClosed f) (sym (step7_none h)) c) x i z

  end_rests : {t : List Entry} (f : ℕ) (e : TagDecoder) {r : Decoded} → RootClosed f e → EndExit t e s r → Rests f r
  unfolding move
  end_rests f e c (at.bytes_left l) i z = absurd (false≢true i)
  end_rests f e c (at.master_cut y l) i z = absurd (false≢true i)
  end_rests f e c (at.no_master_lem n m) i z = absurd (false≢true i)
  end_rests f e c (at.finishes n m y) i z = absurd (false≢true i)
  end_rests f e c (at.closes_all n m l) i z = absurd (omega (arith, c.none_open))

  eof_rests : {r : Decoded} (f : ℕ) → RootClosed f d → EofExit es ps d s r → Rests f r
  eof_rests f c (at.as_decoded q) = exit_rests f c (exits es ps d s)
  eof_rests f c (at.at_end q x) = end_rests f (with_note es ps d s) (subst (RootClosed f) (sym (settled_notes_none es ps d s byte st)) c) x

  -- where the root is open or closed, an event with a size that is no record leaves it open or closed
  stage_leaves : (f : ℕ) → Stage f d → is_event (decode_eof es ps d s).answer ≡ true → has_size (decode_eof es ps d s).answer (decode_eof es ps d s).state ≡ true
      → is_record (decode_eof es ps d s).answer (decode_eof es ps d s).state ≡ false → Stage f (decode_eof es ps d s).state
  stage_leaves f (inl o) i z n = root_leaves f o i z
  stage_leaves f (inr c) i z n = inr (eof_rests f c (eof_exits es ps d s) i n)

  -- at the finish the position is f
  stage_finish : (f : ℕ) → Stage f d → (decode_eof es ps d s).answer ≡ Ok answer.Finished → d.position ≡ f
  stage_finish f (inl o) q = absurd (open_no_finish f o (eof_exits es ps d s) q)
  stage_finish f (inr c) q = c.reached

-- ---- all the answers

pub record SizedApart (a : Answered) (l : List Answered) : Type 0 where
  pub sized_first : has_size a.answer a.after ≡ true
  pub sized_rest : all_sized l ≡ true

pub sized-apart : (a : Answered) (l : List Answered) → all_sized (a ∷ l) ≡ true → SizedApart a l
unfolding all_sized
sized-apart a l e = let b = both (has_size a.answer a.after) (all_sized l) e in record { sized_first = b.left; sized_rest = b.right }

pub records-apart : (a : Answered) (l : List Answered) (n : ℕ) → records (a ∷ l) ≡ n → (b : Bool) → is_record a.answer a.after ≡ b → cond b 1 0 + records l ≡ n
unfolding records
records-apart a l n e b q = rw q at e

no_record : (a : Answered) (l : List Answered) → records (a ∷ l) ≡ 0 → (is_record a.answer a.after ≡ false) × (records l ≡ 0)
no_record a l e = by (is_record a.answer a.after) refl
  where
    by : (b : Bool) → is_record a.answer a.after ≡ b → (is_record a.answer a.after ≡ false) × (records l ≡ 0)
    by true q = let z = records-apart a l 0 e true q in absurd (omega arith)
    by false q = let z = records-apart a l 0 e false q in (q, omega arith)

finish_last : (a : Answered) → finishes (a ∷ []) ≡ is_finish a.answer
unfolding finishes
finish_last a = refl

module _ (es ps : List ℕ) where
  -- with no record more, the finish comes at f
  pub ends_at : (n f : ℕ) (d : TagDecoder) (s : List ℕ) → Octets s → d.settled ≡ true → Stage f d → all_sized (read_from es ps n d s) ≡ true → records (read_from es ps n d s) ≡ 0
      → finishes (read_from es ps n d s) ≡ true → d.position + length s ≡ f
  ends_at zero f d s byte st g z r e = absurd (false≢true (unfold read_from in unfold finishes in e))
  ends_at (suc n) f d s byte st g z r e =
      by (decode_eof es ps d s).answer refl
      (λ g' z' r' e'. ends_at n f (decode_eof es ps d s).state (drop (decode_eof es ps d s).taken s) (octets_drop (decode_eof es ps d s).taken s byte) (eof_settled es ps d s byte st) g' z' r' e')
    where
      R : Decoded
      R = decode_eof es ps d s

      rest : List Answered
      rest = read_from es ps n R.state (drop R.taken s)

      ended : {a : Result Answer Refusal} → R.answer ≡ a → is_event a ≡ false → is_finish a ≡ true
      ended q i = ap is_finish (sym q) ∙ sym (finish_last (answered_by R)) ∙ (rw (read_last es ps n d s (ap is_event q ∙ i)) at e)

      by : (a : Result Answer Refusal) → R.answer ≡ a
          → (Stage f R.state → all_sized rest ≡ true → records rest ≡ 0 → finishes rest ≡ true → R.state.position + length (drop R.taken s) ≡ f)
          → d.position + length s ≡ f
      by (Ok (answer.Event x)) q more =
          let on = read_on es ps n d s (ap is_event q) in
          let w = sized-apart (answered_by R) rest (rw on at z) in
          let k = no_record (answered_by R) rest (rw on at r) in
          let later = finish-later (answered_by R) rest (ap is_event q) (rw on at e) in
          let facts = eof_facts es ps d s byte in
          let done = more (stage_leaves es ps d s byte st f g (ap is_event q) w.sized_first k.0) w.sized_rest k.1 later.0 in
          omega (arith, done, facts.moves, facts.within, length-drop R.taken s)
      by (Ok (answer.NeedMore missing)) q more = absurd (false≢true (ended q refl))
      by (Ok answer.Finished) q more = omega (arith, stage_finish es ps d s byte st f g q, finish_no_byte es ps d s byte q)
      by (Err x) q more = absurd (false≢true (ended q refl))

  -- with any records, not before f
  pub ends_behind : (n f : ℕ) (d : TagDecoder) (s : List ℕ) → Octets s → d.settled ≡ true → RootOpen f d → all_sized (read_from es ps n d s) ≡ true
      → finishes (read_from es ps n d s) ≡ true → f ≤ d.position + length s
  ends_behind zero f d s byte st g z e = absurd (false≢true (unfold read_from in unfold finishes in e))
  ends_behind (suc n) f d s byte st g z e =
      by (decode_eof es ps d s).answer refl
      (λ g' z' e'. ends_behind n f (decode_eof es ps d s).state (drop (decode_eof es ps d s).taken s) (octets_drop (decode_eof es ps d s).taken s byte) (eof_settled es ps d s byte st) g' z' e')
    where
      R : Decoded
      R = decode_eof es ps d s

      rest : List Answered
      rest = read_from es ps n R.state (drop R.taken s)

      ended : {a : Result Answer Refusal} → R.answer ≡ a → is_event a ≡ false → is_finish a ≡ true
      ended q i = ap is_finish (sym q) ∙ sym (finish_last (answered_by R)) ∙ (rw (read_last es ps n d s (ap is_event q ∙ i)) at e)

      from : Stage f R.state → (RootOpen f R.state → f ≤ R.state.position + length (drop R.taken s)) → f ≤ R.state.position + length (drop R.taken s)
      from (inl o) k = k o
      from (inr c) k = omega (arith, c.reached)

      by : (a : Result Answer Refusal) → R.answer ≡ a
          → (RootOpen f R.state → all_sized rest ≡ true → finishes rest ≡ true → f ≤ R.state.position + length (drop R.taken s))
          → f ≤ d.position + length s
      by (Ok (answer.Event x)) q more =
          let on = read_on es ps n d s (ap is_event q) in
          let w = sized-apart (answered_by R) rest (rw on at z) in
          let later = finish-later (answered_by R) rest (ap is_event q) (rw on at e) in
          let facts = eof_facts es ps d s byte in
          let done = from (root_leaves es ps d s byte st f g (ap is_event q) w.sized_first) (λ o. more o w.sized_rest later.0) in
          omega (arith, done, facts.moves, facts.within, length-drop R.taken s)
      by (Ok (answer.NeedMore missing)) q more = absurd (false≢true (ended q refl))
      by (Ok answer.Finished) q more = absurd (open_no_finish es ps d s byte st f g (eof_exits es ps d s) q)
      by (Err x) q more = absurd (false≢true (ended q refl))
