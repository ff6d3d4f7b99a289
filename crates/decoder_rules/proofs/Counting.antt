-- A Start or a Data counts in the innermost open master: what that keeps of the record and what it makes of its open
-- masters, read as a list. Assumes nothing.
use Prim.Native.Nat.{ℕ, zero, suc, ◌-◌, ◌≤◌, ◌<◌}
use mathlib.Core.Path.{◌≡◌, refl, sym, ap, ◌∙◌}
use mathlib.Core.Bool.{Bool, true}
use mathlib.Core.List.{List, [], ◌∷◌, ◌++◌, map, reverse, append_assoc, map-append, reverse-append}
use native.Mathlib.Omega.{arith}
use lib.ListN.{length, get_or, take, set, replicate, length-append, length-set}
use lib.Seq.{length-take-le, take-suc, take-suc-set, set_at}
use Rattle.basics.specs.Lists.{array_places, every, filled}
use Rattle.basics.proofs.Bools.{and_both}
use Rattle.basics.proofs.Every.{every_append, every_front, every_other, every_last}
use Rattle.spec_util.specs.Walk.{most_open, no_tag}
use Rattle.spec_util.specs.declared.types.OpenTag.{OpenTag}
use Rattle.decoder_rules.specs.Record.{farthest, opens, waits, with_open, with_notes, with_one_more, counted_last, counted}
use Rattle.decoder_rules.specs.OneCall.{good_open}
use Rattle.decoder_rules.specs.declared.types.TagDecoder.{TagDecoder}
use Rattle.decoder_rules.proofs.GoodState.{GoodState, good_open_lem, is_good_open}
use Rattle.decoder_rules.proofs.MoveEffects.{SameSettings, SameNotes, same_notes, Arrays}
use Rattle.decoder_rules.proofs.MovesKeepGoodState.{good_later, ends_later}
use Rattle.decoder_rules.proofs.EmptyPlacesZero.{Clean}

-- ---- what stays

module _ (d : TagDecoder) where
  -- counting keeps the settings
  pub counted_settings : SameSettings d (counted d)
  unfolding counted with_open
  counted_settings = refl

  -- the position, settled and finished
  pub counted_notes : SameNotes d (counted d)
  unfolding counted with_open
  counted_notes = same_notes d (counted d) refl

  -- the Ends that wait
  pub counted-waits : waits (counted d) ≡ waits d
  unfolding counted with_open
  counted-waits = refl

  -- the number of open masters
  pub counted_count : (counted d).open_count ≡ d.open_count
  unfolding counted with_open
  counted_count = refl

  -- and of Ends that wait
  pub counted_waiting_count : (counted d).waiting_count ≡ d.waiting_count
  unfolding counted with_open
  counted_waiting_count = refl

last_length : (n : ℕ) (l : List OpenTag) → length (counted_last n l) ≡ length l
unfolding counted_last
last_length zero l = refl
last_length (suc n) l = length-set l n (with_one_more (get_or l n no_tag))

-- the arrays keep their places
pub counted_arrays : (d : TagDecoder) → Arrays d → Arrays (counted d)
unfolding counted with_open
counted_arrays d a = record { masters = last_length d.open_count d.«open» ∙ a.masters; ends = a.ends }

-- ---- the open masters

-- what holds of no master, and of any masters and the same with one child more in the last, holds of the first n of a
-- list before and after counting
by_last : (P : List OpenTag → List OpenTag → Type 0) → P [] [] → ((front : List OpenTag) (m : OpenTag) → P (front ++ (m ∷ [])) (front ++ (with_one_more m ∷ [])))
    → (n : ℕ) (l : List OpenTag) → n ≤ length l → P (take n l) (take n (counted_last n l))
unfolding counted_last
by_last P none one zero l h = none
by_last P none one (suc n) l h =
    let k : n < length l = omega arith in
    rw (take-suc-set l n (with_one_more (get_or l n no_tag)) k, take-suc l n no_tag k) (one (take n l) (get_or l n no_tag))

-- these masters with one child more in the first
abbrev pub first_more : List OpenTag → List OpenTag
first_more [] = []
first_more (m ∷ l) = with_one_more m ∷ l

module _ (d : TagDecoder) (a : Arrays d) (few : d.open_count ≤ most_open) where
  by_open : (P : List OpenTag → List OpenTag → Type 0) → P [] [] → ((front : List OpenTag) (m : OpenTag) → P (front ++ (m ∷ [])) (front ++ (with_one_more m ∷ [])))
      → P (opens d) (opens (counted d))
  unfolding counted with_open
  by_open P none one = by_last P none one d.open_count d.«open» (omega (arith, a.masters))

  -- from the innermost on, the first has one child more
  pub counted_top : reverse (opens (counted d)) ≡ first_more (reverse (opens d))
  counted_top = by_open (λ l k. reverse k ≡ first_more (reverse l)) refl (λ front m. rw (reverse-append front (with_one_more m ∷ []), reverse-append front (m ∷ [])) refl)

  -- what does not ask for the count is as it was
  pub counted-map : {A : Type 0} (f : OpenTag → A) → ((m : OpenTag) → f (with_one_more m) ≡ f m) → map f (opens (counted d)) ≡ map f (opens d)
  counted-map f h = by_open (λ l k. map f k ≡ map f l) refl (λ front m. rw (map-append f front (with_one_more m ∷ []), map-append f front (m ∷ []), h m) refl)

  -- a test of every open master
  pub counted_every : (test other : OpenTag → Bool) → ((m : OpenTag) → test m ≡ true → other m ≡ true) → ((m : OpenTag) → test m ≡ true → other (with_one_more m) ≡ true)
      → every test (opens d) ≡ true → every other (opens (counted d)) ≡ true
  unfolding every
  counted_every test other h g =
      by_open (λ l k. every test l ≡ true → every other k ≡ true) (λ e. refl)
      (λ front m e.
      every_append other front (with_one_more m ∷ []) (every_other test other h front (every_front test front (m ∷ []) e)) (and_both (g m (every_last test front m e)) refl))

-- ---- refusal 11

-- an open master with one child more is good at a later position
more_good : (p q : ℕ) → p < q → (m : OpenTag) → good_open p m ≡ true → good_open q (with_one_more m) ≡ true
unfolding with_one_more
more_good p q h m e =
    let g = good_open_lem p m e in
    is_good_open q (with_one_more m) (record { start = omega (arith, g.start); size = λ k. omega (arith, g.size k); count = omega (arith, g.count) })

-- the record stays good where the element took at least one byte
pub counted_good : (d : TagDecoder) → GoodState d → Arrays d → (q : ℕ) → d.position < q → q ≤ farthest → GoodState (counted (with_notes d q d.settled d.finished))
unfolding counted with_open with_notes
counted_good d g a q h l =
    let e = with_notes d q d.settled d.finished in
    record {
      open_count = g.open_count;
      waiting_count = g.waiting_count;
      place = l;
      masters =
          counted_every e (record { masters = a.masters; ends = a.ends }) g.open_count (good_open d.position) (good_open q) (good_later d.position q (omega arith)) (more_good d.position q h)
          g.masters;
      ends = ends_later d.position q (omega arith) (waits d) g.ends;
    }

-- ---- the empty places

filled_other : (l : List OpenTag) (m x : OpenTag) (n : ℕ) → length l ≡ n → set (filled no_tag (l ++ (m ∷ []))) n x ≡ filled no_tag (l ++ (x ∷ []))
filled_other l m x n e =
    let r : OpenTag → List OpenTag = λ y. replicate (array_places - length (l ++ (y ∷ []))) no_tag in
    let same : length (l ++ (m ∷ [])) ≡ length (l ++ (x ∷ [])) = length-append l (m ∷ []) ∙ sym (length-append l (x ∷ [])) in
    ap (λ (k : List OpenTag). set k n x) (append_assoc l (m ∷ []) (r m))
    ∙ set_at l m (r m) x n e
    ∙ ap (λ (j : ℕ). l ++ (x ∷ replicate (array_places - j) no_tag)) same
    ∙ sym (append_assoc l (x ∷ []) (r x))

last_clean : (n : ℕ) (l : List OpenTag) → n ≤ length l → l ≡ filled no_tag (take n l) → counted_last n l ≡ filled no_tag (take n (counted_last n l))
unfolding counted_last
last_clean zero l h e = e
last_clean (suc n) l h e =
    let k : n < length l = omega arith in
    let x = with_one_more (get_or l n no_tag) in
    ap (λ (r : List OpenTag). set r n x) (e ∙ ap (filled no_tag) (take-suc l n no_tag k))
    ∙ filled_other (take n l) (get_or l n no_tag) x n (length-take-le n l (omega arith))
    ∙ ap (filled no_tag) (sym (take-suc-set l n x k))

-- a clean record stays clean
pub counted_clean : (d : TagDecoder) → Arrays d → Clean d → d.open_count ≤ most_open → Clean (counted d)
unfolding counted with_open
counted_clean d a c few = record { masters = last_clean d.open_count d.«open» (omega (arith, a.masters)) c.masters; ends = c.ends }
