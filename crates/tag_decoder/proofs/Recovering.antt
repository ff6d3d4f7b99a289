-- Recovery: the places that are passed over without a look at the record, where the record is looked at, and where the
-- search ends. Assumes nothing.
use Prim.Native.Nat.{ℕ, zero, suc, ◌+◌, ◌-◌, ◌≤◌, ◌<◌}
use mathlib.Core.Path.{◌≡◌, refl, sym, ap, ◌∙◌, subst}
use mathlib.Core.Bool.{Bool, true, false, true≢false, false≢true}
use mathlib.Core.List.{List, [], ◌∷◌}
use native.Mathlib.Decide.{dec_le}
use native.Mathlib.Omega.{arith}
use lib.ListN.{length, drop, length-drop, drop_of_length-le}
use lib.Seq.{drop-drop}
use Rattle.table.specs.Shape.{good_shape}
use Rattle.table.specs.Table.{Entry, table_of, parts_of, parts_in}
use Rattle.tag_parse.specs.Header.{read_header}
use Rattle.tag_parse.specs.declared.types.TagHeader.{TagHeader}
use Rattle.decoder_rules.specs.Record.{farthest, with_notes, at_position}
use Rattle.decoder_rules.specs.OneCall.{step6, settles, step7, noted, valid_header}
use Rattle.decoder_rules.specs.Recovery.{forward, at, step_on, judged, judged_at, header_at, read_at, place_at, end_of_search}
use Rattle.decoder_rules.specs.FirstPlace.{note_before, record_on, first_place}
use Rattle.decoder_rules.specs.declared.types.DecodeError.{DecodeError}
use Rattle.decoder_rules.specs.declared.types.Place.TheVariants.{Stop, Found, On}
use Rattle.decoder_rules.specs.declared.types.PlaceResult.{PlaceResult}
use Rattle.decoder_rules.specs.declared.types.Settings.{Settings}
use Rattle.decoder_rules.specs.declared.types.TagDecoder.{TagDecoder}
use Rattle.decoder_rules.proofs.FirstPlace.{note_holds, ends_first, first_is_least}
use Rattle.decoder_rules.proofs.GoodState.{GoodState}
use Rattle.decoder_rules.proofs.HeaderPath.{path_few}
use Rattle.decoder_rules.proofs.MoveLaws.{noted_settings, noted-position}
use Rattle.decoder_rules.proofs.MovesKeepGoodState.{with_notes_good, settled_good}
use Rattle.basics.proofs.Bools.{pick, cond_yes, cond_no}
use Rattle.decoder_move.specs.Applies.{NoteApplies}
use Rattle.decoder_move.proofs.DecisionApplies.{note_none, note_settle, note_settles}
use Rattle.tag_decoder.specs.Passing.{may_end, PassedTo, NextPlace}
use Rattle.std.specs.Prelude.{Err, None, Ok, Option, Result, Some, ⊤}
use Rattle.tag_parse.specs.declared.types.ParseError.{ParseError}
use Rattle.table.specs.declared.types.Path.{Path}
use Rattle.tools.specs.declared.status.Status.{Status}
use Rattle.tools.specs.declared.status.Status.TheVariants as status

-- ---- the note

-- the note of a header that was read applies
pub step7_applies : (es ps : List ℕ) → good_shape es ps ≡ true → (d : TagDecoder) (s : List ℕ) (h : TagHeader) → read_header (table_of es ps) s ≡ Ok (status.Complete h)
    → NoteApplies ps (step7 (table_of es ps) d h)
step7_applies es ps shape d s h e =
    pick (NoteApplies ps) (settles (table_of es ps) d h) (Some h.path) None (λ f. note_settle ps h.path (omega (arith, path_few es ps s h e shape))) (λ f. note_none ps)

-- a note that applies leaves a good record
pub noted_good : (ps : List ℕ) (d : TagDecoder) (n : Option Path) → GoodState d → NoteApplies ps n → GoodState (noted ps d n)
unfolding noted
noted_good ps d None g f = g
noted_good ps d (Some path) g f = settled_good d g (parts_in (parts_of ps) path) (note_settles ps path f)

-- ---- the search

module _ (ps : List ℕ) (t : List Entry) where
  -- one place, whose answer is p
  pub search_stops : (d : TagDecoder) (s : List ℕ) (p : PlaceResult) → 0 < length s → p ≡ place_at ps t d s → p.place ≡ Stop → p ≡ end_of_search ps t d s
  unfolding end_of_search
  search_stops d [] p h e q = absurd (omega arith)
  search_stops d (b ∷ s) p h e q = rw (← e, q)

  -- it has found a header there
  pub search_finds : (d : TagDecoder) (s : List ℕ) (p : PlaceResult) → 0 < length s → p ≡ place_at ps t d s → p.place ≡ Found → p ≡ end_of_search ps t d s
  unfolding end_of_search
  search_finds d [] p h e q = absurd (omega arith)
  search_finds d (b ∷ s) p h e q = rw (← e, q)

  -- it goes on at the next
  pub search_goes : (d : TagDecoder) (s : List ℕ) (p : PlaceResult) → 0 < length s → p ≡ place_at ps t d s → p.place ≡ On
      → end_of_search ps t d s ≡ end_of_search ps t p.state (drop 1 s)
  unfolding end_of_search
  search_goes d [] p h e q = absurd (omega arith)
  search_goes d (b ∷ s) p h e q = rw (← e, q)

-- ---- the places that are passed over without a look at the record

module _ (t : List Entry) (strict allowed : Bool) (s : List ℕ) (i : ℕ) where
  -- from a place to itself there is none
  pub passed_none : i ≤ length s → PassedTo t strict allowed s i i
  passed_none h = record { onward = omega arith; within = h; none = λ k a b. absurd (omega (arith, a, b)) }

  -- one place more where the search may not end
  pub passed_on : (j : ℕ) → PassedTo t strict allowed s i j → j < length s → may_end strict allowed (read_header t (drop j s)) ≡ false → PassedTo t strict allowed s i (j + 1)
  passed_on j p h e = record { onward = omega (arith, p.onward); within = omega (arith, h); none = λ k a b. go k a b (dec_le (suc k) j) }
    where
      go : (k : ℕ) → i ≤ k → k < j + 1 → Dec (suc k ≤ j) → may_end strict allowed (read_header t (drop k s)) ≡ false
      go k a b (yes c) = p.none k a (omega (arith, c))
      go k a b (no c) = let q : k ≡ j = omega (arith, b, c) in rw q e

module _ (ps : List ℕ) (t : List Entry) where
  -- one such place
  skip_one : (d : TagDecoder) (s : List ℕ) → 0 < length s → may_end d.settings.strict d.settings.allow_ids (read_header t s) ≡ false
      → end_of_search ps t d s ≡ end_of_search ps t (forward d) (drop 1 s)
  unfolding place_at header_at
  skip_one d s h e = search_goes ps t d s (step_on d) h (sym (go (read_header t s) e)) refl
    where
      go : (r : Result (Status TagHeader) ParseError) → may_end d.settings.strict d.settings.allow_ids r ≡ false → read_at ps t d r ≡ step_on d
      go (Ok (status.NeedMore missing)) f = absurd (true≢false f)
      go (Err x) f = refl
      go (Ok (status.Complete x)) f = cond_no (step6 d x) _ _ f

  -- and k of them
  skip : (k : ℕ) (d : TagDecoder) (s : List ℕ) → k ≤ length s → ((j : ℕ) → j < k → may_end d.settings.strict d.settings.allow_ids (read_header t (drop j s)) ≡ false)
      → end_of_search ps t d s ≡ end_of_search ps t (at_position d (d.position + k)) (drop k s)
  unfolding with_notes
  skip zero d s h none = let z : d.position + 0 ≡ d.position = omega arith in ap (λ (p : ℕ). end_of_search ps t (at_position d p) s) (sym z)
  skip (suc k) d [] h none = absurd (omega arith)
  skip (suc k) d (b ∷ s) h none =
      let z : d.position + 1 + k ≡ d.position + suc k = omega arith in
      skip_one d (b ∷ s) (omega arith) (none 0 (omega arith))
      ∙ skip k (forward d) s (omega arith) (λ j l. none (suc j) (omega (arith, l)))
      ∙ ap (λ (p : ℕ). end_of_search ps t (at_position d p) (drop k s)) z

  -- from place i to place j
  skip_to : (d : TagDecoder) (s : List ℕ) (i j p : ℕ) → PassedTo t d.settings.strict d.settings.allow_ids s i j → p ≡ d.position + (j - i)
      → end_of_search ps t d (drop i s) ≡ end_of_search ps t (at_position d p) (drop j s)
  skip_to d s i j p k e =
      let sum : i + (j - i) ≡ j = omega (arith, k.onward) in
      skip (j - i) d (drop i s) (omega (arith, k.within, length-drop i s))
      (λ n h. ap (λ (r : List ℕ). may_end d.settings.strict d.settings.allow_ids (read_header t r)) (drop-drop n i s) ∙ k.none (i + n) (omega arith) (omega (arith, h)))
      ∙ ap (λ (q : ℕ). end_of_search ps t (at_position d q) (drop (j - i) (drop i s))) (sym e)
      ∙ ap (end_of_search ps t (at_position d p)) (drop-drop (j - i) i s ∙ ap (λ (n : ℕ). drop n s) sum)

-- so far the search has come: to place i, with the record e, whose position is set where it is looked at
pub record Searched (ps : List ℕ) (t : List Entry) (d : TagDecoder) (s : List ℕ) (e : TagDecoder) (i : ℕ) : Type 0 where
  pub same : end_of_search ps t d s ≡ end_of_search ps t (at_position e (d.position + i)) (drop i s)
  pub good : GoodState e
  pub behind : e.position ≤ d.position + i
  pub settings : e.settings ≡ d.settings
  pub within : i ≤ length s
  -- it may end there
  pub there : i < length s → may_end d.settings.strict d.settings.allow_ids (read_header t (drop i s)) ≡ true

-- at first it has come to the first place where it may end
pub searched_first : (ps : List ℕ) (t : List Entry) (d : TagDecoder) (s : List ℕ) (i : ℕ) → GoodState d → NextPlace t d.settings.strict d.settings.allow_ids s 0 i → Searched ps t d s d i
searched_first ps t d s i g k = record {
  same = skip_to ps t d s 0 i (d.position + i) k.passed (omega arith);
  good = g;
  behind = omega arith;
  settings = refl;
  within = k.passed.within;
  there = k.there;
}

-- ---- at place i, with the record moved there

-- no header was read
abbrev pub NoHeader : Result (Status TagHeader) ParseError → Type 0
NoHeader r = (h : TagHeader) → r ≡ Ok (status.Complete h) → ⊥

pub part_is_none : {r : Result (Status TagHeader) ParseError} {m : ℕ} → r ≡ Ok (status.NeedMore m) → NoHeader r
part_is_none e h q = let z : ◌≡◌ {A = ℕ} 0 1 = cc in absurd (omega (arith, z))

pub refusal_is_none : {r : Result (Status TagHeader) ParseError} {e : ParseError} → r ≡ Err e → NoHeader r
refusal_is_none p h q = let z : ◌≡◌ {A = ℕ} 0 1 = cc in absurd (omega (arith, z))

module _ (ps : List ℕ) (t : List Entry) (d : TagDecoder) where
  stops_at : (r : Result (Status TagHeader) ParseError) → NoHeader r → may_end d.settings.strict d.settings.allow_ids r ≡ true → read_at ps t d r ≡ at Stop d
  stops_at (Ok (status.NeedMore missing)) k e = refl
  stops_at (Err x) k e = absurd (false≢true e)
  stops_at (Ok (status.Complete h)) k e = absurd (k h refl)

  judged_at_lem : (s : List ℕ) (h : TagHeader) (c : Result ⊤ DecodeError) → read_header t s ≡ Ok (status.Complete h) → step6 d h ≡ true → valid_header t (noted ps d (step7 t d h)) h ≡ c
      → place_at ps t d s ≡ judged c (noted ps d (step7 t d h))
  unfolding place_at header_at judged_at
  judged_at_lem s h c e f v = ap (read_at ps t d) e ∙ cond_yes (step6 d h) _ _ f ∙ ap (λ (x : Result ⊤ DecodeError). judged x (noted ps d (step7 t d h))) v

module _ (es ps : List ℕ) (shape : good_shape es ps ≡ true) (d : TagDecoder) (s : List ℕ) (near : d.position + length s ≤ farthest) (e : TagDecoder) (i : ℕ)
    (so_far : Searched ps (table_of es ps) d s e i) where
  abbrev t : List Entry
  t = table_of es ps

  -- the record there
  abbrev pub here : TagDecoder
  here = at_position e (d.position + i)

  pub here_good : GoodState here
  here_good = with_notes_good e so_far.good (d.position + i) e.settled e.finished so_far.behind (omega (arith, near, so_far.within))

  -- past the last byte the search stops
  pub searched_all : length s ≤ i → at Stop (at_position e (d.position + length s)) ≡ end_of_search ps t d s
  unfolding end_of_search
  searched_all h =
      let z : i ≡ length s = omega (arith, h, so_far.within) in
      ap (λ (n : ℕ). at Stop (at_position e (d.position + n))) (sym z) ∙ sym (so_far.same ∙ ap (end_of_search ps t here) (drop_of_length-le s h))

  module _ (h : i < length s) where
    may_end_lem : may_end here.settings.strict here.settings.allow_ids (read_header t (drop i s)) ≡ true
    unfolding with_notes
    may_end_lem = ap (λ (x : Settings). may_end x.strict x.allow_ids (read_header t (drop i s))) so_far.settings ∙ so_far.there h

    -- where no header reads it stops too
    pub searched_stop : NoHeader (read_header t (drop i s)) → at Stop here ≡ end_of_search ps t d s
    unfolding place_at
    searched_stop k =
        search_stops ps t here (drop i s) (at Stop here) (omega (arith, length-drop i s)) (sym (stops_at ps t here (read_header t (drop i s)) k may_end_lem)) refl
        ∙ sym so_far.same

    -- a header reads there
    module _ (x : TagHeader) (read : read_header t (drop i s) ≡ Ok (status.Complete x)) where
      -- the record with its note
      abbrev pub with_note_lem : TagDecoder
      with_note_lem = noted ps here (step7 t here x)

      pub with_note_good : GoodState with_note_lem
      with_note_good = noted_good ps here (step7 t here x) here_good (step7_applies es ps shape here (drop i s) x read)

      allowed : step6 here x ≡ true
      allowed = sym (ap (may_end here.settings.strict here.settings.allow_ids) read) ∙ may_end_lem

      -- a valid one is found
      pub searched_found : valid_header t with_note_lem x ≡ Ok tt → at Found with_note_lem ≡ end_of_search ps t d s
      searched_found v =
          search_finds ps t here (drop i s) (at Found with_note_lem) (omega (arith, length-drop i s)) (sym (judged_at_lem ps t here (drop i s) x (Ok tt) read allowed v)) refl
          ∙ sym so_far.same

      -- else the search comes to the next place where it may end
      pub searched_on : {y : DecodeError} → valid_header t with_note_lem x ≡ Err y → (j : ℕ) → NextPlace t d.settings.strict d.settings.allow_ids s (i + 1) j → Searched ps t d s with_note_lem j
      unfolding with_notes
      searched_on {y} v j k =
          let p : with_note_lem.position ≡ d.position + i = noted-position ps here (step7 t here x) in
          let same : with_note_lem.settings ≡ d.settings = noted_settings ps here (step7 t here x) ∙ so_far.settings in
          let next = subst (λ (z : Settings). PassedTo t z.strict z.allow_ids s (i + 1) j) (sym same) k.passed in
          record {
            same =
                so_far.same
                ∙ search_goes ps t here (drop i s) (step_on with_note_lem) (omega (arith, length-drop i s)) (sym (judged_at_lem ps t here (drop i s) x (Err y) read allowed v)) refl
                ∙ ap (end_of_search ps t (forward with_note_lem)) (drop-drop 1 i s)
                ∙ skip_to ps t (forward with_note_lem) s (i + 1) j (d.position + j) next (omega (arith, p, k.passed.onward));
            good = with_note_good;
            behind = omega (arith, p, k.passed.onward);
            settings = same;
            within = k.passed.within;
            there = k.there;
          }

-- ---- where the search ends

-- where the search of n bytes ends, the record is good, no earlier than it began and no later than the bytes reach
pub record EndWell (d : TagDecoder) (n : ℕ) (p : PlaceResult) : Type 0 where
  pub good : GoodState p.state
  pub later : d.position ≤ p.state.position
  pub within : p.state.position ≤ d.position + n

-- so the search ends well
pub end_well : (es ps : List ℕ) → good_shape es ps ≡ true → (d : TagDecoder) (s : List ℕ) → GoodState d → d.position + length s ≤ farthest
    → EndWell d (length s) (end_of_search ps (table_of es ps) d s)
unfolding record_on with_notes
end_well es ps shape d s g near =
    let t = table_of es ps in
    let i = first_place ps t d s in
    let n = note_before t d s (suc i) in
    let few = (first_is_least es ps d s).within in
    let fits = note_holds t d (NoteApplies ps) (note_none ps) (λ r h e. step7_applies es ps shape d r h e) s (suc i) in
    rw (ends_first ps t s d).state
    (record {
      good = with_notes_good (noted ps d n) (noted_good ps d n g fits) (d.position + i) _ _ (omega (arith, noted-position ps d n)) (omega (arith, near, few));
      later = omega arith;
      within = omega (arith, few);
    })
