-- What the check keeps of the answers to an input is what they show, and its verdict is WHOLE just where they show a
-- whole night with one record. Assumes nothing.
use Prim.Native.Nat.{ℕ, ◌+◌, ◌-◌, ◌^◌, ◌≤◌, ◌<◌, min}
use mathlib.Core.Path.{◌≡◌, refl, sym, ap, ◌∙◌}
use mathlib.Core.Bool.{Bool, true, false, cond, ◌&&◌, false≢true, true≢false}
use mathlib.Core.List.{List, [], ◌∷◌}
use native.Mathlib.Omega.{arith}
use native.Mathlib.Decide.{dec_lt}
use borrow.Author.Tests.{lt-ltb, le-ltb, eq-eqb, eqb-true}
use lib.Dec.{ltb, eqb}
use Rattle.basics.proofs.Bools.{absurd_eq}
use Rattle.decoder_rules.specs.declared.types.Answer.{Answer}
use Rattle.decoder_rules.specs.declared.types.Answer.TheVariants as answer
use Rattle.decoder_rules.specs.declared.types.DecodeError.{DecodeError}
use Rattle.decoder_rules.specs.declared.types.DecodeError.TheVariants as error
use Rattle.decoder_rules.specs.declared.types.Event.TheVariants as event
use Rattle.decoder_rules.specs.declared.types.TagDecoder.{TagDecoder}
use Rattle.event_list.specs.Whole.{Answered}
use Rattle.whole.specs.Checking.{at_start, counted_if, seen_after, refused_as, finished_as, if_front, verdict_at, verdict_after, verdict_of}
use Rattle.whole.specs.Night.{is_event, is_root_at0, has_front, has_size, all_sized, is_finish, finishes, is_record, records, is_feed, feeds}
use Rattle.whole.specs.declared.types.Root.{Root}
use Rattle.whole.specs.declared.types.Seen.{Seen}
use Rattle.whole.specs.declared.types.Verdict.{Verdict}
use Rattle.whole.specs.declared.types.Verdict.TheVariants as verdict
use Rattle.std.specs.Prelude.{Err, Ok, Result}
use Rattle.decoder_rules.specs.declared.types.Refusal.{Refusal}
use Rattle.std.specs.Prelude.{Option}

-- ---- counts

-- the greatest number of 64 bits
abbrev pub most : ℕ
most = 2 ^ 64 - 1

-- a count of 64 bits is the count, or that
counted_one : (is : Bool) (n x : ℕ) → n ≡ min x most → counted_if is n ≡ min (x + cond is 1 0) most
counted_one false n x e = e ∙ ap (λ (y : ℕ). min y most) (omega arith)
counted_one true n x e = by (dec_lt n most)
  where
    by : Dec (n < most) → cond (ltb n most) (n + 1) n ≡ min (x + 1) most
    by (yes h) = rw (lt-ltb n most h) (omega arith)
    by (no f) = let h : most ≤ n = omega arith in rw (le-ltb n most h) (omega arith)

-- ---- what is kept after all of them

unfoldable pub seen_all : Seen → List Answered → Seen
seen_all c [] = c
seen_all c (a ∷ l) = seen_all (seen_after c a.answer a.after) l

begun-stays : (c : Seen) (a : Result Answer Refusal) (d : TagDecoder) → c.begun ≡ true → (seen_after c a d).begun ≡ true
begun-stays c (Ok (answer.Event (event.Start x p))) d b = refl
begun-stays c (Ok (answer.Event (event.End e))) d b = refl
begun-stays c (Ok (answer.Event (event.Data x p v))) d b = refl
begun-stays c (Ok (answer.NeedMore missing)) d b = b
begun-stays c (Ok answer.Finished) d b = b
begun-stays c (Err r) d b = b

front_stays : (c : Seen) (a : Result Answer Refusal) (d : TagDecoder) → c.begun ≡ true → (seen_after c a d).front ≡ c.front
front_stays c (Ok (answer.Event (event.Start x p))) d b = rw b
front_stays c (Ok (answer.Event (event.End e))) d b = rw b
front_stays c (Ok (answer.Event (event.Data x p v))) d b = rw b
front_stays c (Ok (answer.NeedMore missing)) d b = refl
front_stays c (Ok answer.Finished) d b = refl
front_stays c (Err r) d b = refl

and-true : (b : Bool) → (b && true) ≡ b
and-true true = refl
and-true false = refl

and_assoc : (a b c : Bool) → ((a && b) && c) ≡ (a && (b && c))
and_assoc true b c = refl
and_assoc false b c = refl

sized_one : (c : Seen) (a : Result Answer Refusal) (d : TagDecoder) → (seen_after c a d).sized ≡ (c.sized && has_size a d)
sized_one c (Ok (answer.Event (event.Start x p))) d = refl
sized_one c (Ok (answer.Event (event.End e))) d = sym (and-true c.sized)
sized_one c (Ok (answer.Event (event.Data x p v))) d = sym (and-true c.sized)
sized_one c (Ok (answer.NeedMore missing)) d = sym (and-true c.sized)
sized_one c (Ok answer.Finished) d = sym (and-true c.sized)
sized_one c (Err r) d = sym (and-true c.sized)

more_none : (n x : ℕ) → n ≡ min x most → n ≡ min (x + 0) most
more_none n x e = e ∙ ap (λ (y : ℕ). min y most) (omega arith)

records_one : (c : Seen) (a : Result Answer Refusal) (d : TagDecoder) (x : ℕ) → c.records ≡ min x most → (seen_after c a d).records ≡ min (x + cond (is_record a d) 1 0) most
records_one c (Ok (answer.Event (event.Start y p))) d x e = counted_one (eqb d.open_count 1) c.records x e
records_one c (Ok (answer.Event (event.End y))) d x e = more_none c.records x e
records_one c (Ok (answer.Event (event.Data y p v))) d x e = counted_one (eqb d.open_count 0) c.records x e
records_one c (Ok (answer.NeedMore missing)) d x e = more_none c.records x e
records_one c (Ok answer.Finished) d x e = more_none c.records x e
records_one c (Err r) d x e = more_none c.records x e

feeds_one : (c : Seen) (a : Result Answer Refusal) (d : TagDecoder) (x : ℕ) → c.feeds ≡ min x most → (seen_after c a d).feeds ≡ min (x + cond (is_feed a d) 1 0) most
feeds_one c (Ok (answer.Event (event.Start y p))) d x e = counted_one (eqb d.open_count 2) c.feeds x e
feeds_one c (Ok (answer.Event (event.End y))) d x e = more_none c.feeds x e
feeds_one c (Ok (answer.Event (event.Data y p v))) d x e = more_none c.feeds x e
feeds_one c (Ok (answer.NeedMore missing)) d x e = more_none c.feeds x e
feeds_one c (Ok answer.Finished) d x e = more_none c.feeds x e
feeds_one c (Err r) d x e = more_none c.feeds x e

-- the same of all of them
front_all : (c : Seen) (l : List Answered) → c.begun ≡ true → (seen_all c l).front ≡ c.front
unfolding seen_all
front_all c [] b = refl
front_all c (a ∷ l) b = front_all (seen_after c a.answer a.after) l (begun-stays c a.answer a.after b) ∙ front_stays c a.answer a.after b

sized_all : (c : Seen) (l : List Answered) → (seen_all c l).sized ≡ (c.sized && all_sized l)
unfolding seen_all all_sized
sized_all c [] = sym (and-true c.sized)
sized_all c (a ∷ l) =
    sized_all (seen_after c a.answer a.after) l
    ∙ ap (λ (b : Bool). b && all_sized l) (sized_one c a.answer a.after)
    ∙ and_assoc c.sized (has_size a.answer a.after) (all_sized l)

records_all : (c : Seen) (l : List Answered) (x : ℕ) → c.records ≡ min x most → (seen_all c l).records ≡ min (x + records l) most
unfolding seen_all records
records_all c [] x e = more_none c.records x e
records_all c (a ∷ l) x e =
    let one : ℕ = cond (is_record a.answer a.after) 1 0 in
    records_all (seen_after c a.answer a.after) l (x + one) (records_one c a.answer a.after x e) ∙ ap (λ (y : ℕ). min y most) (omega arith)

feeds_all : (c : Seen) (l : List Answered) (x : ℕ) → c.feeds ≡ min x most → (seen_all c l).feeds ≡ min (x + feeds l) most
unfolding seen_all feeds
feeds_all c [] x e = more_none c.feeds x e
feeds_all c (a ∷ l) x e =
    let one : ℕ = cond (is_feed a.answer a.after) 1 0 in
    feeds_all (seen_after c a.answer a.after) l (x + one) (feeds_one c a.answer a.after x e) ∙ ap (λ (y : ℕ). min y most) (omega arith)

-- ---- the verdict at the last

-- the position after the last answer
unfoldable pub last_position : List Answered → ℕ
last_position [] = 0
last_position (a ∷ []) = a.after.position
last_position (a ∷ b ∷ l) = last_position (b ∷ l)

-- whether a verdict is WHOLE
abbrev pub says_whole : Verdict → Bool
says_whole (verdict.Whole n m) = true
says_whole verdict.Empty = false
says_whole verdict.FrontMissing = false
says_whole (verdict.Refused n p) = false
says_whole (verdict.TooLarge p) = false
says_whole (verdict.Cut p r m) = false
says_whole (verdict.CannotTell x p) = false
says_whole (verdict.More k n m) = false
says_whole verdict.NotEnded = false

-- a refusal is told as one, or as a cut
pub refused_says : (says : Verdict → Bool) {b : Bool} → ((n p : ℕ) → says (verdict.Refused n p) ≡ b) → ((p : ℕ) (r : Option Root) (m : ℕ) → says (verdict.Cut p r m) ≡ b)
    → (e : DecodeError) (p : ℕ) (d : TagDecoder) → says (refused_as e p d) ≡ b
refused_says says refused cut error.TableShape p d = refused _ p
refused_says says refused cut error.BadState p d = refused _ p
refused_says says refused cut error.TooFar p d = refused _ p
refused_says says refused cut error.AfterFinish p d = refused _ p
refused_says says refused cut error.InvalidTagData p d = refused _ p
refused_says says refused cut error.InvalidTagId p d = refused _ p
refused_says says refused cut error.HierarchyError p d = refused _ p
refused_says says refused cut error.InvalidTagSize p d = refused _ p
refused_says says refused cut error.OversizedChildElement p d = refused _ p
refused_says says refused cut error.TooManyOpen p d = refused _ p
refused_says says refused cut error.FromUtf8Error p d = refused _ p
refused_says says refused cut error.ReadF64Mismatch p d = refused _ p
refused_says says refused cut (error.UnexpectedEOF c) p d = cut _ _ _
refused_says says refused cut error.NotAMaster p d = refused _ p
refused_says says refused cut error.InvalidIdForm p d = refused _ p
refused_says says refused cut error.UnknownSizePastEnd p d = refused _ p

refused_not_whole : (e : DecodeError) (p : ℕ) (d : TagDecoder) → says_whole (refused_as e p d) ≡ false
refused_not_whole = refused_says says_whole (λ n p. refl) (λ p r m. refl)

front_not_whole : (c : Seen) (v : Verdict) → says_whole v ≡ false → says_whole (if_front c v) ≡ false
front_not_whole c v e = by c.front
  where
    by : (b : Bool) → says_whole (cond b v verdict.FrontMissing) ≡ false
    by true = e
    by false = refl

-- any answer but the finish is not WHOLE
last_not_whole : (c : Seen) (a : Result Answer Refusal) (d : TagDecoder) → is_finish a ≡ false → says_whole (verdict_at c a d) ≡ false
last_not_whole c (Ok (answer.Event e)) d f = refl
last_not_whole c (Ok (answer.NeedMore missing)) d f = front_not_whole c (verdict.TooLarge d.position) refl
last_not_whole c (Ok answer.Finished) d f = absurd (true≢false f)
last_not_whole c (Err r) d f = front_not_whole c (refused_as r.error r.place d) (refused_not_whole r.error r.place d)

-- the finish is, where the tests say so
finish_verdict : (c : Seen) (a : Result Answer Refusal) (d : TagDecoder) → c.begun ≡ true → is_finish a ≡ true → verdict_at c a d ≡ if_front c (finished_as c d.position)
finish_verdict c (Ok (answer.Event e)) d b f = absurd (false≢true f)
finish_verdict c (Ok (answer.NeedMore missing)) d b f = absurd (false≢true f)
finish_verdict c (Ok answer.Finished) d b f = rw b
finish_verdict c (Err r) d b f = absurd (false≢true f)

finish-keeps : (c : Seen) (a : Result Answer Refusal) (d : TagDecoder) → is_finish a ≡ true → seen_after c a d ≡ c
finish-keeps c (Ok (answer.Event e)) d f = absurd (false≢true f)
finish-keeps c (Ok (answer.NeedMore missing)) d f = absurd (false≢true f)
finish-keeps c (Ok answer.Finished) d f = refl
finish-keeps c (Err r) d f = absurd (false≢true f)

-- without the finish the verdict is not WHOLE
unfinished_not_whole : (c : Seen) (l : List Answered) → finishes l ≡ false → says_whole (verdict_after c l) ≡ false
unfolding verdict_after finishes
unfinished_not_whole c [] f = refl
unfinished_not_whole c (a ∷ []) f = last_not_whole c a.answer a.after f
unfinished_not_whole c (a ∷ b ∷ l) f = unfinished_not_whole (seen_after c a.answer a.after) (b ∷ l) f

-- with it, it goes by what is kept of all of them
finished_verdict : (c : Seen) (l : List Answered) → c.begun ≡ true → finishes l ≡ true → verdict_after c l ≡ if_front (seen_all c l) (finished_as (seen_all c l) (last_position l))
unfolding verdict_after finishes seen_all last_position
finished_verdict c [] b f = absurd (false≢true f)
finished_verdict c (a ∷ []) b f = finish_verdict c a.answer a.after b f ∙ ap (λ (x : Seen). if_front x (finished_as x a.after.position)) (sym (finish-keeps c a.answer a.after f))
finished_verdict c (a ∷ z ∷ l) b f = finished_verdict (seen_after c a.answer a.after) (z ∷ l) (begun-stays c a.answer a.after b) f

-- ---- WHOLE

-- what the answers show where the verdict is WHOLE
pub record ShowsWhole (l : List Answered) (n m : ℕ) : Type 0 where
  pub front : has_front l ≡ true
  pub sizes : all_sized l ≡ true
  pub finish : finishes l ≡ true
  pub one : records l ≡ 1
  pub feed_count : n ≡ min (feeds l) most
  pub byte_count : m ≡ last_position l

event_begins : (c : Seen) (a : Result Answer Refusal) (d : TagDecoder) → is_event a ≡ true → (seen_after c a d).begun ≡ true
event_begins c (Ok (answer.Event (event.Start x p))) d e = refl
event_begins c (Ok (answer.Event (event.End x))) d e = refl
event_begins c (Ok (answer.Event (event.Data x p v))) d e = refl
event_begins c (Ok (answer.NeedMore missing)) d e = absurd (false≢true e)
event_begins c (Ok answer.Finished) d e = absurd (false≢true e)
event_begins c (Err r) d e = absurd (false≢true e)

first_front : (a : Result Answer Refusal) (d : TagDecoder) → is_event a ≡ true → (seen_after at_start a d).front ≡ is_root_at0 a d
first_front (Ok (answer.Event (event.Start x p))) d e = refl
first_front (Ok (answer.Event (event.End x))) d e = refl
first_front (Ok (answer.Event (event.Data x p v))) d e = refl
first_front (Ok (answer.NeedMore missing)) d e = absurd (false≢true e)
first_front (Ok answer.Finished) d e = absurd (false≢true e)
first_front (Err r) d e = absurd (false≢true e)

-- the verdict on an event and then more answers, the last of them the finish
module _ (a : Answered) (l : List Answered) (first : is_event a.answer ≡ true) where
  abbrev c : Seen
  c = seen_after at_start a.answer a.after

  abbrev z : Seen
  z = seen_all c l

  abbrev all : List Answered
  all = a ∷ l

  begun : c.begun ≡ true
  begun = event_begins at_start a.answer a.after first

  front_is : z.front ≡ has_front all
  unfolding has_front
  front_is = front_all c l begun ∙ first_front a.answer a.after first

  sized_is : z.sized ≡ all_sized all
  unfolding seen_all
  sized_is = sized_all at_start all

  records_is : z.records ≡ min (records all) most
  unfolding seen_all
  records_is = records_all at_start all 0 refl ∙ ap (λ (y : ℕ). min y most) (omega arith)

  feeds_is : z.feeds ≡ min (feeds all) most
  unfolding seen_all
  feeds_is = feeds_all at_start all 0 refl ∙ ap (λ (y : ℕ). min y most) (omega arith)

  -- what WHOLE says of what is kept
  whole_kept : (p n m : ℕ) → if_front z (finished_as z p) ≡ verdict.Whole n m → (z.front ≡ true) × ((z.sized ≡ true) × ((z.records ≡ 1) × ((n ≡ z.feeds) × (m ≡ p))))
  whole_kept p n m q = by z.front z.sized (eqb z.records 1) refl refl refl q
    where
      by : (f s o : Bool) → z.front ≡ f → z.sized ≡ s → eqb z.records 1 ≡ o
          → cond f (cond s (cond o (verdict.Whole z.feeds p) (verdict.More z.records z.feeds p)) (verdict.CannotTell z.id z.start)) verdict.FrontMissing ≡ verdict.Whole n m
          → (z.front ≡ true) × ((z.sized ≡ true) × ((z.records ≡ 1) × ((n ≡ z.feeds) × (m ≡ p))))
      by true true true ef es eo e = (ef, (es, (eqb-true _ _ eo, (let h : n ≡ z.feeds = cc in h, let k : m ≡ p = cc in k))))
      by true true false ef es eo e = let w : ◌≡◌ {A = ℕ} 0 1 = cc in absurd_eq w
      by true false o ef es eo e = let w : ◌≡◌ {A = ℕ} 0 1 = cc in absurd_eq w
      by false s o ef es eo e = let w : ◌≡◌ {A = ℕ} 0 1 = cc in absurd_eq w

  one_of : (x : ℕ) → min x most ≡ 1 → x ≡ 1
  one_of x e = omega arith

  whole_shown : finishes l ≡ true → (n m : ℕ) → if_front z (finished_as z (last_position l)) ≡ verdict.Whole n m → (k : last_position all ≡ last_position l) (g : finishes all ≡ finishes l) → ShowsWhole all n m
  whole_shown f n m q k g =
      let w = whole_kept (last_position l) n m q in
      record {
        front = sym front_is ∙ w.0;
        sizes = sym sized_is ∙ w.1.0;
        finish = g ∙ f;
        one = one_of (records all) (sym records_is ∙ w.1.1.0);
        feed_count = w.1.1.1.0 ∙ feeds_is;
        byte_count = w.1.1.1.1 ∙ sym k;
      }

  shown_whole : (n m : ℕ) → ShowsWhole all n m → last_position all ≡ last_position l → if_front z (finished_as z (last_position l)) ≡ verdict.Whole n m
  shown_whole n m w k =
      let o : z.records ≡ 1 = records_is ∙ ap (λ (x : ℕ). min x most) w.one in
      rw (front_is ∙ w.front, sized_is ∙ w.sizes, eq-eqb _ _ o, w.feed_count ∙ sym feeds_is, w.byte_count ∙ k)

-- of a list of answers of which all but the last are events
pub verdict_shows : (a b : Answered) (l : List Answered) → is_event a.answer ≡ true → (n m : ℕ) → verdict_of (a ∷ b ∷ l) ≡ verdict.Whole n m → ShowsWhole (a ∷ b ∷ l) n m
unfolding verdict_after finishes last_position
verdict_shows a b l e n m q = by (finishes (b ∷ l)) refl
  where
    by : (f : Bool) → finishes (b ∷ l) ≡ f → ShowsWhole (a ∷ b ∷ l) n m
    by true f = whole_shown a (b ∷ l) e f n m (sym (finished_verdict (seen_after at_start a.answer a.after) (b ∷ l) (begun a (b ∷ l) e) f) ∙ q) refl refl
    by false f = absurd (false≢true (sym (unfinished_not_whole (seen_after at_start a.answer a.after) (b ∷ l) f) ∙ ap says_whole q))

pub shows_verdict : (a b : Answered) (l : List Answered) → is_event a.answer ≡ true → (n m : ℕ) → ShowsWhole (a ∷ b ∷ l) n m → verdict_of (a ∷ b ∷ l) ≡ verdict.Whole n m
unfolding verdict_after finishes last_position
shows_verdict a b l e n m w =
    finished_verdict (seen_after at_start a.answer a.after) (b ∷ l) (begun a (b ∷ l) e) w.finish ∙ shown_whole a (b ∷ l) e n m w refl

-- one answer alone is never WHOLE
pub alone_not_whole : (a : Answered) → says_whole (verdict_of (a ∷ [])) ≡ false
unfolding verdict_after
alone_not_whole a = by a.answer refl
  where
    by : (x : Result Answer Refusal) → a.answer ≡ x → says_whole (verdict_at at_start x a.after) ≡ false
    by (Ok (answer.Event e)) q = refl
    by (Ok (answer.NeedMore missing)) q = refl
    by (Ok answer.Finished) q = refl
    by (Err r) q = refused_not_whole r.error r.place a.after
