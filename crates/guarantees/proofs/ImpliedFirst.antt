-- Parents are implied at one call at most, before every Start and every End: what comes before it are Data that settle
-- nothing. A Start would have settled, since a Master's path holds IDs only (rule 33), and an End needs one of them.
-- Assumes nothing.
use Prim.Native.Nat.{ℕ}
use mathlib.Core.Path.{◌≡◌, refl, sym, ap, ◌∙◌, subst}
use mathlib.Core.Bool.{Bool, true, false, not, ◌&&◌, ◌||◌, true≢false}
use mathlib.Core.List.{List, [], ◌∷◌, ◌++◌}
use Rattle.basics.proofs.Bools.{cond_yes, cond_no, and_both}
use Rattle.table.specs.Check.{only_ids}
use Rattle.table.specs.Table.{Entry, table_of, data_type_of, path_of, is_typed}
use Rattle.decoder_rules.specs.OneCall.{is_settle}
use Rattle.decoder_rules.specs.declared.types.Answer.TheVariants as answer
use Rattle.decoder_rules.specs.declared.types.Event.TheVariants as event
use Rattle.decoder_rules.specs.declared.types.TagDecoder.{TagDecoder}
use Rattle.guarantees.specs.Calls.{Call, lent, Response, answered, searched, silent, record_after, history, Lent}
use Rattle.guarantees.specs.Settling.{is_strict_after, implied_by, seen_note, has_settled, seen_parents}
use Rattle.guarantees.specs.History.{Started, parents_left}
use Rattle.guarantees.specs.Promises.{Runs, last_response, open_at, left_at, position_at, answers_loose, only_loose, EndMatches}
use Rattle.guarantees.proofs.Tied.{none_open}
use Rattle.guarantees.proofs.AnyCalls.{ResponseFacts, SettledByResponse, settled_after, tied_after, promised_after}
use Rattle.std.specs.Prelude.{Err, None, Ok, Option, Some}
use Rattle.table.specs.declared.types.Path.{Path}

-- ---- a call that settles nothing

-- what a call answers where the record after it has not settled, nothing is open and no parent is left
told_loose : (t : List Entry) (off : Bool) (s : List ℕ) (starts : List Started) (left : List ℕ) (p : ℕ) (x : Response) (d : TagDecoder)
    → ResponseFacts t off s starts left p x → SettledByResponse t x d → d.settled ≡ false → starts ≡ [] → left ≡ [] → answers_loose t x ≡ true
told_loose t off s starts left p (answered (Ok (answer.Event (event.Start y o))) n) d f g e a b = absurd (true≢false (sym g ∙ e))
told_loose t off s starts left p (answered (Ok (answer.Event (event.End end))) n) d f g e a b =
    absurd (subst (λ (l : List ℕ). EndMatches [] l end) b (subst (λ (l : List Started). EndMatches l left end) a f.1))
told_loose t off s starts left p (answered (Ok (answer.Event (event.Data y o v))) n) d f g e a b = loose (is_typed (data_type_of t y) && only_ids (path_of t y)) refl
  where
    loose : (c : Bool) → (is_typed (data_type_of t y) && only_ids (path_of t y)) ≡ c → not (is_typed (data_type_of t y) && only_ids (path_of t y)) ≡ true
    loose true q = absurd (true≢false (sym (g q) ∙ e))
    loose false q = ap not q
told_loose t off s starts left p (answered (Ok (answer.NeedMore missing)) n) d f g e a b = refl
told_loose t off s starts left p (answered (Ok answer.Finished) n) d f g e a b = refl
told_loose t off s starts left p (answered (Err r) n) d f g e a b = refl
told_loose t off s starts left p (searched a' n) d f g e a b = refl
told_loose t off s starts left p silent d f g e a b = refl

-- ---- any calls

no_parents : (ps : List ℕ) (n : Option Path) → is_settle n ≡ false → implied_by ps n ≡ []
unfolding implied_by
no_parents ps None e = refl
no_parents ps (Some path) e = absurd (true≢false e)

module _ (es ps : List ℕ) where
  abbrev t : List Entry
  t = table_of es ps

  -- before anything has settled nothing is open and no parent is left
  none_before : (cs : List Call) → Runs es ps cs → has_settled t (history es ps cs) ≡ false → (open_at es ps cs ≡ []) × (parents_left ps t (history es ps cs) ≡ [])
  none_before cs run u =
      none_open (open_at es ps cs) (parents_left ps t (history es ps cs))
      ((tied_after es ps run.checked cs run.octets).linked.unsettled (settled_after es ps run.checked cs run.octets ∙ u))

  -- and every event was a Data that settles nothing
  loose_before : (cs : List Call) → Runs es ps cs → has_settled t (history es ps cs) ≡ false → only_loose t (history es ps cs) ≡ true
  unfolding Lent record_after history has_settled only_loose
  loose_before [] run u = refl
  loose_before (c ∷ cs) run u = go (has_settled t (history es ps cs)) refl u (λ e. loose_before cs before e)
    where
      before : Runs es ps cs
      before = record { checked = run.checked; octets = run.octets.1 }

      go : (b : Bool) → has_settled t (history es ps cs) ≡ b → (b || is_settle (seen_note (is_strict_after (history es ps cs)) t (lent c) (last_response es ps cs c))) ≡ false
          → (has_settled t (history es ps cs) ≡ false → only_loose t (history es ps cs) ≡ true) → only_loose t (history es ps (c ∷ cs)) ≡ true
      go true e v rest = absurd (true≢false v)
      go false e v rest =
          let z = none_before cs before e in
          let left : left_at es ps cs c ≡ [] = ap (λ (l : List ℕ). l ++ parents_left ps t (history es ps cs)) (cond_no _ [] _ e ∙ no_parents ps _ v) ∙ z.1 in
          let after = promised_after es ps cs c run in
          and_both
          (told_loose t _ (lent c) (open_at es ps cs) (left_at es ps cs c) (position_at es ps cs) (last_response es ps cs c) _ after.promised after.settles
          (settled_after es ps run.checked (c ∷ cs) run.octets ∙ u) z.0 left)
          (rest e)

  -- parents are implied only there
  pub implied_first : (cs : List Call) (c : Call) → Runs es ps (c ∷ cs) → (seen_parents ps t (history es ps cs) (lent c) (last_response es ps cs c) ≡ [] → ⊥)
      → (only_loose t (history es ps cs) ≡ true) × (open_at es ps cs ≡ []) × (parents_left ps t (history es ps cs) ≡ [])
  unfolding Lent
  implied_first cs c run some = go (has_settled t (history es ps cs)) refl
    where
      before : Runs es ps cs
      before = record { checked = run.checked; octets = run.octets.1 }

      go : (b : Bool) → has_settled t (history es ps cs) ≡ b → (only_loose t (history es ps cs) ≡ true) × (open_at es ps cs ≡ []) × (parents_left ps t (history es ps cs) ≡ [])
      go true u = absurd (some (cond_yes _ [] _ u))
      go false u = let z = none_before cs before u in (loose_before cs before u, z.0, z.1)
