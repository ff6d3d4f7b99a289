-- What a caller can tell from a history does not ask for the counts in Ends: the parents that a call implied, the counts
-- of children, and how many masters started since. And counts that went on from other numbers agree on those masters.
-- Assumes nothing.
use Prim.Native.Nat.{ℕ, zero, suc, ◌+◌, ◌<◌}
use mathlib.Core.Path.{◌≡◌, refl, sym, ap, ◌∙◌}
use mathlib.Core.Bool.{Bool, cond, ◌||◌}
use mathlib.Core.List.{List, [], ◌∷◌, ◌++◌, map}
use native.Mathlib.Numerals.{add-one}
use lib.ListN.{length, get_or, take, drop, length-map}
use lib.Seq.{take-append-add, get_or-take}
use Rattle.basics.proofs.ArrayOf32.{take_rest}
use Rattle.table.specs.Table.{Entry}
use Rattle.decoder_rules.specs.Numbers.{answer_refusal}
use Rattle.decoder_rules.specs.OneCall.{is_settle}
use Rattle.decoder_rules.specs.FirstPlace.{settle_at}
use Rattle.decoder_rules.specs.declared.types.Answer.{Answer}
use Rattle.decoder_rules.specs.declared.types.Answer.TheVariants as answer
use Rattle.decoder_rules.specs.declared.types.Event.TheVariants as event
use Rattle.decoder_rules.specs.declared.types.WaitingEnd.{WaitingEnd}
use Rattle.guarantees.specs.Calls.{lent, Response, answered, searched, silent, Step}
use Rattle.guarantees.specs.Settling.{mode_after, is_strict_after, implied_by, comes_unread, seen_note, has_settled}
use Rattle.guarantees.specs.Counts.{child_of_first, counts_by, with_implied, child_counts}
use Rattle.guarantees.proofs.Counted.{EndCountsIn}
use Rattle.restarts.specs.Comparing.{Extent, seen_end, seen_answer, seen_response, seen_step}
use Rattle.restarts.specs.Since.{parents_since, counts_on_from, later_by, later_masters}
use Rattle.std.specs.Prelude.{Err, None, Ok, Option, Result}
use Rattle.table.specs.declared.types.Path.{Path}
use Rattle.decoder_rules.specs.declared.types.Refusal.{Refusal}

-- ---- what is told

module _ (x : Extent) where
  refusal_seen : (a : Result Answer Refusal) → answer_refusal (seen_answer x a) ≡ answer_refusal a
  refusal_seen (Ok (answer.Event e)) = refl
  refusal_seen (Ok (answer.NeedMore missing)) = refl
  refusal_seen (Ok answer.Finished) = refl
  refusal_seen (Err r) = refl

  note_seen : (strict : Bool) (t : List Entry) (s : List ℕ) (r : Response) → seen_note strict t s (seen_response x r) ≡ seen_note strict t s r
  note_seen strict t s (answered a n) = ap (λ (k : ℕ). cond (comes_unread k) None (settle_at strict t s)) (refusal_seen a)
  note_seen strict t s (searched a n) = refl
  note_seen strict t s silent = refl

  counts_by_lem : (r : Response) (l : List ℕ) → counts_by (seen_response x r) l ≡ counts_by r l
  counts_by_lem (answered (Ok (answer.Event (event.Start y o))) n) l = refl
  counts_by_lem (answered (Ok (answer.Event (event.End end))) n) l = refl
  counts_by_lem (answered (Ok (answer.Event (event.Data y o v))) n) l = refl
  counts_by_lem (answered (Ok (answer.NeedMore missing)) n) l = refl
  counts_by_lem (answered (Ok answer.Finished) n) l = refl
  counts_by_lem (answered (Err e) n) l = refl
  counts_by_lem (searched a n) l = refl
  counts_by_lem silent l = refl

  -- ---- a history

  module _ (ps : List ℕ) (t : List Entry) (before : List Step) where
    strict_seen : (h : List Step) → is_strict_after (map (seen_step x) h ++ before) ≡ is_strict_after (h ++ before)
    unfolding is_strict_after seen_step
    strict_seen [] = refl
    strict_seen (s ∷ h) = ap (mode_after s.call) (strict_seen h)

    settled_seen : (h : List Step) → has_settled t (map (seen_step x) h ++ before) ≡ has_settled t (h ++ before)
    unfolding has_settled seen_step
    settled_seen [] = refl
    settled_seen (s ∷ h) =
        rw (note_seen (is_strict_after (map (seen_step x) h ++ before)) t (lent s.call) s.told, strict_seen h)
        (ap (λ (b : Bool). b || is_settle (seen_note (is_strict_after (h ++ before)) t (lent s.call) s.told)) (settled_seen h))

    -- the parents that a call implied
    pub parents_seen : (h : List Step) (s : List ℕ) (r : Response) → parents_since ps t before (map (seen_step x) h) s (seen_response x r) ≡ parents_since ps t before h s r
    parents_seen h s r =
        rw (settled_seen h, strict_seen h) (ap (λ (n : Option Path). cond (has_settled t (h ++ before)) [] (implied_by ps n)) (note_seen (is_strict_after (h ++ before)) t s r))

    -- the counts
    pub counts-seen : (counts : List ℕ) (h : List Step) → counts_on_from ps t before counts (map (seen_step x) h) ≡ counts_on_from ps t before counts h
    unfolding counts_on_from seen_step
    counts-seen counts [] = refl
    counts-seen counts (s ∷ h) =
        counts_by_lem s.told _
        ∙ ap (λ (parents : List ℕ). counts_by s.told (with_implied parents (counts_on_from ps t before counts (map (seen_step x) h)))) (parents_seen h (lent s.call) s.told)
        ∙ ap (λ (l : List ℕ). counts_by s.told (with_implied (parents_since ps t before h (lent s.call) s.told) l)) (counts-seen counts h)

-- the counts of a history in two parts go on from those of the first
pub counts_go_on : (ps : List ℕ) (t : List Entry) (before h : List Step) → child_counts ps t (h ++ before) ≡ counts_on_from ps t before (child_counts ps t before) h
unfolding child_counts counts_on_from
counts_go_on ps t before [] = refl
counts_go_on ps t before (s ∷ h) =
    ap (λ (l : List ℕ). counts_by s.told (with_implied (parents_since ps t before h (lent s.call) s.told) l)) (counts_go_on ps t before h)

-- ---- counts that began with other numbers

take_child : (n : ℕ) (l : List ℕ) → take n (child_of_first l) ≡ child_of_first (take n l)
take_child zero [] = refl
take_child zero (a ∷ l) = refl
take_child (suc n) [] = refl
take_child (suc n) (a ∷ l) = refl

-- two lists of counts agree on the first n
abbrev pub Agree : ℕ → List ℕ → List ℕ → Type 0
Agree n l m = take n l ≡ take n m

agree_child : (n : ℕ) (l m : List ℕ) → Agree n l m → Agree n (child_of_first l) (child_of_first m)
agree_child n l m e = take_child n l ∙ ap child_of_first e ∙ sym (take_child n m)

front_implied : (parents : List ℕ) (n : ℕ) (l : List ℕ) → take (length parents + n) (with_implied parents l) ≡ map (λ y. 0) parents ++ take n l
front_implied parents n l =
    let none : ℕ → ℕ = λ y. 0 in
    ap (λ (k : ℕ). take (k + n) (with_implied parents l)) (sym (length-map parents none)) ∙ take-append-add (map none parents) l n

-- with parents implied they agree on these too
pub agree_implied : (parents : List ℕ) (n : ℕ) (l m : List ℕ) → Agree n l m → Agree (length parents + n) (with_implied parents l) (with_implied parents m)
agree_implied parents n l m e = front_implied parents n l ∙ ap (λ (k : List ℕ). map (λ y. 0) parents ++ k) e ∙ sym (front_implied parents n m)

agree_told : (r : Response) (n : ℕ) (l m : List ℕ) → Agree n l m → Agree (later_by r n) (counts_by r l) (counts_by r m)
agree_told (answered (Ok (answer.Event (event.Start y o))) k) n l m e = rw add-one (ap (λ (j : List ℕ). 0 ∷ j) (agree_child n l m e))
agree_told (answered (Ok (answer.Event (event.End end))) k) n l m e = take_rest n l ∙ ap (drop 1) e ∙ sym (take_rest n m)
agree_told (answered (Ok (answer.Event (event.Data y o v))) k) n l m e = agree_child n l m e
agree_told (answered (Ok (answer.NeedMore missing)) k) n l m e = e
agree_told (answered (Ok answer.Finished) k) n l m e = e
agree_told (answered (Err r) k) n l m e = e
agree_told (searched a k) n l m e = e
agree_told silent n l m e = e

module _ (ps : List ℕ) (t : List Entry) (before : List Step) where
  -- whatever they began with, the counts of the masters that started since are the same
  pub later_agree : (l m : List ℕ) (h : List Step) → Agree (later_masters ps t before h) (counts_on_from ps t before l h) (counts_on_from ps t before m h)
  unfolding later_masters counts_on_from
  later_agree l m [] = refl
  later_agree l m (s ∷ h) =
      agree_told s.told _ _ _ (agree_implied (parents_since ps t before h (lent s.call) s.told) _ _ _ (later_agree l m h))

-- so the first is the same, where one started since
pub agree_first : (n : ℕ) (l m : List ℕ) → 0 < n → Agree n l m → get_or l 0 0 ≡ get_or m 0 0
agree_first n l m h e = sym (get_or-take n l 0 0 h) ∙ ap (λ (k : List ℕ). get_or k 0 0) e ∙ get_or-take n m 0 0 h

-- ---- what is told, made whole again

-- an End with this count
abbrev counted_end : ℕ → WaitingEnd → WaitingEnd
counted_end n e = record { id = e.id; offset = e.offset; count = n }

-- what is told, with this count where it is an End
abbrev recounted : ℕ → Response → Response
recounted n (answered (Ok (answer.Event (event.Start y o))) k) = answered (Ok (answer.Event (event.Start y o))) k
recounted n (answered (Ok (answer.Event (event.End end))) k) = answered (Ok (answer.Event (event.End (counted_end n end)))) k
recounted n (answered (Ok (answer.Event (event.Data y o v))) k) = answered (Ok (answer.Event (event.Data y o v))) k
recounted n (answered (Ok (answer.NeedMore missing)) k) = answered (Ok (answer.NeedMore missing)) k
recounted n (answered (Ok answer.Finished) k) = answered (Ok answer.Finished) k
recounted n (answered (Err e) k) = answered (Err e) k
recounted n (searched a k) = searched a k
recounted n silent = silent

recounted_seen : (x : Extent) (n : ℕ) (r : Response) → recounted n (seen_response x r) ≡ recounted n r
unfolding seen_end
recounted_seen x n (answered (Ok (answer.Event (event.Start y o))) k) = refl
recounted_seen x n (answered (Ok (answer.Event (event.End end))) k) = refl
recounted_seen x n (answered (Ok (answer.Event (event.Data y o v))) k) = refl
recounted_seen x n (answered (Ok (answer.NeedMore missing)) k) = refl
recounted_seen x n (answered (Ok answer.Finished) k) = refl
recounted_seen x n (answered (Err e) k) = refl
recounted_seen x n (searched a k) = refl
recounted_seen x n silent = refl

recounted_same : (l : List ℕ) (r : Response) → EndCountsIn r l → recounted (get_or l 0 0) r ≡ r
recounted_same l (answered (Ok (answer.Event (event.Start y o))) k) e = refl
recounted_same l (answered (Ok (answer.Event (event.End end))) k) e =
    ap (λ (n : ℕ). answered (Ok (answer.Event (event.End (counted_end n end)))) k) (sym e)
recounted_same l (answered (Ok (answer.Event (event.Data y o v))) k) e = refl
recounted_same l (answered (Ok (answer.NeedMore missing)) k) e = refl
recounted_same l (answered (Ok answer.Finished) k) e = refl
recounted_same l (answered (Err r) k) e = refl
recounted_same l (searched a k) e = refl
recounted_same l silent e = refl

-- the same is told where it is the same but for the count of an End, and that count is the same
pub told_whole : (x : Extent) (l m : List ℕ) (r q : Response) → seen_response x r ≡ seen_response x q → EndCountsIn r l → EndCountsIn q m → get_or l 0 0 ≡ get_or m 0 0 → r ≡ q
told_whole x l m r q e a b f =
    sym (recounted_same l r a)
    ∙ sym (recounted_seen x (get_or l 0 0) r)
    ∙ ap (recounted (get_or l 0 0)) e
    ∙ recounted_seen x (get_or l 0 0) q
    ∙ ap (λ (n : ℕ). recounted n q) f
    ∙ recounted_same m q b
