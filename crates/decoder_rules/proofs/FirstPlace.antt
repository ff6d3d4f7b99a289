-- Where a recovery's search ends: at the first place where an incomplete or a valid header stands, with the record that
-- the places up to it leave; so the bytes passed over are that place. Assumes nothing.
use Prim.Native.Nat.{ℕ, zero, suc, ◌+◌, ◌-◌, ◌≤◌}
use mathlib.Core.Path.{◌≡◌, refl, sym, ap, ◌∙◌, subst}
use mathlib.Core.Bool.{Bool, true, false, cond}
use mathlib.Core.List.{List, [], ◌∷◌}
use native.Mathlib.Decide.{dec_le}
use native.Mathlib.Omega.{arith}
use lib.ListN.{length, drop, drop_of_length-le}
use Rattle.basics.specs.Least.{IsLeastBelow, least_below}
use Rattle.basics.proofs.Bools.{pick, either, cond_yes, cond_no}
use Rattle.basics.proofs.Least.{least_below_lem, least_first, least_later, least_same}
use Rattle.table.specs.Table.{Entry, table_of}
use Rattle.tag_parse.specs.Header.{read_tag_id, after_id, read_header}
use Rattle.tag_parse.specs.declared.types.TagHeader.{TagHeader}
use Rattle.decoder_rules.specs.Record.{at_position, with_open, with_notes, settled_to}
use Rattle.decoder_rules.specs.OneCall.{check_record10to12, step6, step7, noted}
use Rattle.decoder_rules.specs.Recovery.{forward, at, place_at, unless_on, end_of_search, ending_at, ending, try_recover, passed_in, is_found}
use Rattle.decoder_rules.specs.FirstPlace.{settle_header, settle_at, or_else, settle_before, note_before, record_on, record_at, Standing, Incomplete, Valid, Other, standing, stands_at, is_header, is_valid, first_place, recovered_at, recovered_first}
use Rattle.decoder_rules.specs.declared.types.Place.TheVariants.{Stop}
use Rattle.decoder_rules.specs.declared.types.PlaceResult.{PlaceResult}
use Rattle.decoder_rules.specs.declared.types.Search.{Search}
use Rattle.decoder_rules.specs.declared.types.TagDecoder.{TagDecoder}
use Rattle.decoder_rules.proofs.MoveLaws.{noted-position}
use Rattle.decoder_rules.proofs.Places.{place_note, unsettled_note, settled_place, place_seen, gone_on, place_of, place_leaves}
use Rattle.std.specs.Prelude.{Err, None, Ok, Option, Result, Some, ⊤}
use Rattle.decoder_rules.specs.declared.types.DecodeError.{DecodeError}
use Rattle.tag_parse.specs.declared.types.ParseError.{ParseError}
use Rattle.table.specs.declared.types.Path.{Path}
use Rattle.decoder_rules.specs.declared.types.Refusal.{Refusal}
use Rattle.tools.specs.declared.status.Status.{Status}
use Rattle.tools.specs.declared.status.Status.TheVariants as status

-- ---- notes in turn

module _ (ps : List ℕ) where
  -- the note is the same one byte on
  noted-forward : (d : TagDecoder) (n : Option Path) (p q : ℕ) → p ≡ q → at_position (noted ps d n) p ≡ at_position (noted ps (forward d) n) q
  unfolding noted settled_to with_open with_notes
  noted-forward d None p q e = ap (at_position d) e
  noted-forward d (Some path) p q e = ap (at_position (noted ps d (Some path))) e

  -- on a record that has not settled two notes in turn are the first of them that is one
  notes_in_turn : (d : TagDecoder) (x : Option Path) (y : Bool → Option Path) (i : ℕ) → d.settled ≡ false
      → at_position (noted ps d (or_else x (y d.settings.strict))) (d.position + suc i)
      ≡ at_position
      (noted ps (forward (noted ps d x)) (cond (forward (noted ps d x)).settled None (y (forward (noted ps d x)).settings.strict)))
      ((forward (noted ps d x)).position + i)
  unfolding noted settled_to with_open with_notes
  notes_in_turn d None y i u =
      noted-forward d (y d.settings.strict) _ _ (omega arith)
      ∙ ap (λ (b : Bool). at_position (noted ps (forward d) (cond b None (y d.settings.strict))) (d.position + 1 + i)) (sym u)
  notes_in_turn d (Some path) y i u = ap (at_position (noted ps d (Some path))) (omega arith)

  -- a settled record takes no note
  settled_forward : (d : TagDecoder) (x : Option Path) (y : Bool → Option Path) (i : ℕ) → d.settled ≡ true
      → at_position (noted ps d (cond d.settled None x)) (d.position + suc i)
      ≡ at_position
      (noted ps (forward (noted ps d None)) (cond (forward (noted ps d None)).settled None (y (forward (noted ps d None)).settings.strict)))
      ((forward (noted ps d None)).position + i)
  unfolding noted with_notes
  settled_forward d x y i u =
      ap (λ (n : Option Path). at_position (noted ps d n) (d.position + suc i)) (cond_yes _ _ _ u)
      ∙ noted-forward d None _ (d.position + 1 + i) (omega arith)
      ∙ ap (λ (n : Option Path). at_position (noted ps (forward d) n) (d.position + 1 + i)) (sym (cond_yes d.settled None (y d.settings.strict) u))

  -- the note alone keeps the record's place
  noted_here : (d : TagDecoder) (n : Option Path) → at_position (noted ps d n) (d.position + 0) ≡ noted ps d n
  unfolding with_notes
  noted_here d n = let e : d.position + 0 ≡ (noted ps d n).position = omega (arith, noted-position ps d n) in ap (at_position (noted ps d n)) e

or_else_none : (n : Option Path) → or_else n None ≡ n
or_else_none None = refl
or_else_none (Some path) = refl

-- ---- the note that places leave

or_else_holds : (P : Option Path → Type 0) (x y : Option Path) → P x → P y → P (or_else x y)
or_else_holds P None y p q = q
or_else_holds P (Some path) y p q = p

module _ (t : List Entry) (d : TagDecoder) (P : Option Path → Type 0) (none : P None) (some : (s : List ℕ) (h : TagHeader) → read_header t s ≡ Ok (status.Complete h) → P (step7 t d h)) where
  -- the mode of the record
  abbrev strict : Bool
  strict = d.settings.strict

  settle_holds : d.settled ≡ false → (s : List ℕ) → P (settle_at strict t s)
  unfolding settle_at
  settle_holds u s = go (read_header t s) refl
    where
      go : (r : Result (Status TagHeader) ParseError) → read_header t s ≡ r → P (settle_header strict t r)
      go (Ok (status.NeedMore missing)) e = none
      go (Err x) e = none
      go (Ok (status.Complete h)) e = subst P (unsettled_note t d h u) (pick P (step6 d h) (step7 t d h) None (λ f. some s h e) (λ f. none))

  before_holds : d.settled ≡ false → (n : ℕ) (s : List ℕ) → P (settle_before strict t n s)
  unfolding settle_before
  before_holds u zero s = none
  before_holds u (suc n) s =
      or_else_holds P (settle_at strict t s) (settle_before strict t n (drop 1 s)) (settle_holds u s) (before_holds u n (drop 1 s))

  -- what holds of no note, and of step 7's for each header that is read, holds of the note that places leave
  pub note_holds : (s : List ℕ) (n : ℕ) → P (note_before t d s n)
  unfolding note_before
  note_holds s n = pick P d.settled None (settle_before strict t n s) (λ e. none) (λ e. before_holds e n s)

-- on a settled record no places leave a note
pub settled_before : (t : List Entry) (d : TagDecoder) (s : List ℕ) (n : ℕ) → d.settled ≡ true → note_before t d s n ≡ None
unfolding note_before
settled_before t d s n u = cond_yes _ _ _ u

-- on another they leave the first that settles
pub unsettled_before : (t : List Entry) (d : TagDecoder) (s : List ℕ) (n : ℕ) → d.settled ≡ false → note_before t d s n ≡ settle_before d.settings.strict t n s
unfolding note_before
unsettled_before t d s n u = cond_no _ _ _ u

-- ---- the record at a place

module _ (ps : List ℕ) (t : List Entry) where
  -- at the first place it is the record itself
  record-here : (d : TagDecoder) (s : List ℕ) → record_at ps t d s 0 ≡ d
  unfolding record_on note_before settle_before noted
  record-here d s =
      ap (λ (n : Option Path). at_position (noted ps d n) (d.position + 0)) (either (λ (n : Option Path). n ≡ None) d.settled None None refl refl)
      ∙ noted_here ps d None

  -- the first place leaves its own note
  first_note : (d : TagDecoder) (s : List ℕ) → note_before t d s 1 ≡ place_note t d s
  unfolding note_before settle_before
  first_note d s = go d.settled refl
    where
      go : (b : Bool) → d.settled ≡ b → cond b None (or_else (settle_at d.settings.strict t s) None) ≡ place_note t d s
      go true u = sym (settled_place t d s u)
      go false u = or_else_none (settle_at d.settings.strict t s) ∙ sym (place_seen t d s u)

  first_left : (d : TagDecoder) (s : List ℕ) → record_on ps t d s 1 0 ≡ noted ps d (place_note t d s)
  unfolding record_on
  first_left d s = ap (λ (n : Option Path). at_position (noted ps d n) (d.position + 0)) (first_note d s) ∙ noted_here ps d (place_note t d s)

  -- from the second place on it is the record from the record one byte on
  record-next : (d : TagDecoder) (b : ℕ) (s : List ℕ) (n i : ℕ)
      → record_on ps t d (b ∷ s) (suc n) (suc i) ≡ record_on ps t (forward (noted ps d (place_note t d (b ∷ s)))) s n i
  unfolding record_on note_before settle_before
  record-next d b s n i = go d.settled refl
    where
      y : Bool → Option Path
      y strict = settle_before strict t n s

      here : Option Path
      here = settle_at d.settings.strict t (b ∷ s)

      From : Option Path → Type 0
      From x =
          at_position (noted ps d (cond d.settled None (or_else here (y d.settings.strict)))) (d.position + suc i)
          ≡ at_position
          (noted ps (forward (noted ps d x)) (cond (forward (noted ps d x)).settled None (y (forward (noted ps d x)).settings.strict)))
          ((forward (noted ps d x)).position + i)

      go : (q : Bool) → d.settled ≡ q → From (place_note t d (b ∷ s))
      go true u = subst From (sym (settled_place t d (b ∷ s) u)) (settled_forward ps d (or_else here (y d.settings.strict)) y i u)
      go false u =
          subst From (sym (place_seen t d (b ∷ s) u))
          (ap (λ (m : Option Path). at_position (noted ps d m) (d.position + suc i)) (cond_no _ _ _ u) ∙ notes_in_turn ps d here y i u)

  -- so the same stands there
  stands_next : (d : TagDecoder) (b : ℕ) (s : List ℕ) (i : ℕ)
      → stands_at ps t d (b ∷ s) (suc i) ≡ stands_at ps t (forward (noted ps d (place_note t d (b ∷ s)))) s i
  unfolding stands_at
  stands_next d b s i = ap (λ (e : TagDecoder). standing ps t e (read_header t (drop i s))) (record-next d b s i i)

  stands_here : (d : TagDecoder) (s : List ℕ) → stands_at ps t d s 0 ≡ standing ps t d (read_header t s)
  unfolding stands_at
  stands_here d s = ap (λ (e : TagDecoder). standing ps t e (read_header t s)) (record-here d s)

  -- ---- the search

  -- the search from the record d on the bytes s ends at the first place, with the record that the places up to it leave
  pub record EndsFirst (d : TagDecoder) (s : List ℕ) (p : PlaceResult) : Type 0 where
    pub place : p.place ≡ place_of (stands_at ps t d s (first_place ps t d s))
    pub state : p.state ≡ record_on ps t d s (suc (first_place ps t d s)) (first_place ps t d s)

  -- where a header stands at the first place
  first_here : (d : TagDecoder) (b : ℕ) (s : List ℕ) → is_header (standing ps t d (read_header t (b ∷ s))) ≡ true → first_place ps t d (b ∷ s) ≡ 0
  unfolding first_place
  first_here d b s e = least_first (λ i. is_header (stands_at ps t d (b ∷ s) i)) (length s) (ap is_header (stands_here d (b ∷ s)) ∙ e)

  first_next : (d : TagDecoder) (b : ℕ) (s : List ℕ) → is_header (standing ps t d (read_header t (b ∷ s))) ≡ false
      → first_place ps t d (b ∷ s) ≡ suc (first_place ps t (forward (noted ps d (place_note t d (b ∷ s)))) s)
  unfolding first_place
  first_next d b s e =
      least_later (λ i. is_header (stands_at ps t d (b ∷ s) i)) (length s) (ap is_header (stands_here d (b ∷ s)) ∙ e)
      ∙ ap suc
      (least_same (λ i. is_header (stands_at ps t d (b ∷ s) (suc i))) (λ i. is_header (stands_at ps t (forward (noted ps d (place_note t d (b ∷ s)))) s i))
      (λ i. ap is_header (stands_next d b s i)) (length s))

  ends_here : (d : TagDecoder) (s : List ℕ) → first_place ps t d s ≡ 0
      → EndsFirst d s (at (place_of (standing ps t d (read_header t s))) (noted ps d (place_note t d s)))
  ends_here d s z = record {
    place = ap place_of (sym (ap (stands_at ps t d s) z ∙ stands_here d s));
    state = sym (ap (λ (i : ℕ). record_on ps t d s (suc i) i) z ∙ first_left d s);
  }

  ends_nowhere : (d : TagDecoder) → EndsFirst d [] (at Stop d)
  unfolding first_place least_below read_header after_id read_tag_id place_note noted
  ends_nowhere d = ends_here d [] refl

  ends_next : (d : TagDecoder) (b : ℕ) (s : List ℕ) (p : PlaceResult) → is_header (standing ps t d (read_header t (b ∷ s))) ≡ false
      → EndsFirst (forward (noted ps d (place_note t d (b ∷ s)))) s p → EndsFirst d (b ∷ s) p
  ends_next d b s p e k =
      let i = first_place ps t (forward (noted ps d (place_note t d (b ∷ s)))) s in
      let z = first_next d b s e in
      record {
        place = k.place ∙ ap place_of (sym (ap (stands_at ps t d (b ∷ s)) z ∙ stands_next d b s i));
        state = k.state ∙ sym (ap (λ (j : ℕ). record_on ps t d (b ∷ s) (suc j) j) z ∙ record-next d b s (suc i) i);
      }

  -- so does every search
  pub ends_first : (s : List ℕ) (d : TagDecoder) → EndsFirst d s (end_of_search ps t d s)
  unfolding end_of_search
  ends_first [] d = ends_nowhere d
  ends_first (b ∷ s) d =
      subst (EndsFirst d (b ∷ s)) (sym here) (go (λ e. ends_first s e) (standing ps t d (read_header t (b ∷ s))) refl)
    where
      e : TagDecoder
      e = noted ps d (place_note t d (b ∷ s))

      -- the end, where x stands at the first place
      end : Standing → PlaceResult
      end x = unless_on (place_of x) (gone_on (place_of x) e) (λ next. end_of_search ps t next s)

      here : unless_on (place_at ps t d (b ∷ s)).place (place_at ps t d (b ∷ s)).state (λ next. end_of_search ps t next s) ≡ end (standing ps t d (read_header t (b ∷ s)))
      here = let k = place_leaves ps t d (b ∷ s) in rw (k.state, k.place)

      go : ((f : TagDecoder) → EndsFirst f s (end_of_search ps t f s)) → (x : Standing) → standing ps t d (read_header t (b ∷ s)) ≡ x → EndsFirst d (b ∷ s) (end x)
      go on Incomplete q = subst (λ (x : Standing). EndsFirst d (b ∷ s) (at (place_of x) e)) q (ends_here d (b ∷ s) (first_here d b s (ap is_header q)))
      go on Valid q = subst (λ (x : Standing). EndsFirst d (b ∷ s) (at (place_of x) e)) q (ends_here d (b ∷ s) (first_here d b s (ap is_header q)))
      go on Other q = ends_next d b s _ (ap is_header q) (on (forward e))

-- ---- a recovery

ending_first : (start n : ℕ) (x : Standing) (e : TagDecoder) → e.position ≡ start + n → ending_at start (place_of x) e ≡ recovered_at x n e
ending_first start n x e q = let k : e.position - start ≡ n = omega (arith, q) in go k x
  where
    go : e.position - start ≡ n → (x : Standing) → ending_at start (place_of x) e ≡ recovered_at x n e
    go k Incomplete = rw k
    go k Valid = rw k
    go k Other = rw k

-- what a recovery that answers a and takes m bytes tells of the place n bytes on where x stands: it passes over n bytes
-- and takes them, and it finds a header exactly where x is a valid one
pub record Tells (x : Standing) (n : ℕ) (a : Result Search Refusal) (m : ℕ) : Type 0 where
  pub passed : passed_in a ≡ n
  pub taken : m ≡ n
  pub found : is_found a ≡ is_valid x

tells : (x : Standing) (n : ℕ) (e : TagDecoder) → Tells x n (recovered_at x n e).answer (recovered_at x n e).taken
tells Incomplete n e = record { passed = refl; taken = refl; found = refl }
tells Valid n e = record { passed = refl; taken = refl; found = refl }
tells Other n e = record { passed = refl; taken = refl; found = refl }

-- what a recovery that answers a and takes m bytes passes over: the bytes that it takes, at most the n bytes lent
pub record PassesOver (n : ℕ) (a : Result Search Refusal) (m : ℕ) : Type 0 where
  pub taken : passed_in a ≡ m
  pub within : passed_in a ≤ n

-- of no byte the header is incomplete
none_incomplete : (ps : List ℕ) (t : List Entry) (d : TagDecoder) (s : List ℕ) (i : ℕ) → length s ≤ i → is_header (stands_at ps t d s i) ≡ true
unfolding stands_at read_header after_id read_tag_id
none_incomplete ps t d s i h = rw (drop_of_length-le s h)

module _ (es ps : List ℕ) (d : TagDecoder) (s : List ℕ) where
  -- the first place is the least where an incomplete or a valid header stands, or the number of bytes
  pub first_is_least : IsLeastBelow (λ i. is_header (stands_at ps (table_of es ps) d s i)) (length s) (first_place ps (table_of es ps) d s)
  unfolding first_place
  first_is_least = least_below_lem (λ i. is_header (stands_at ps (table_of es ps) d s i)) (length s)

  -- a recovery that is not refused gives what stands at the first place, and the record that the places up to it leave
  pub recovery_is_first : check_record10to12 es ps d (length s) ≡ Ok tt → try_recover es ps d s ≡ recovered_first ps (table_of es ps) d s
  unfolding try_recover ending record_on with_notes
  recovery_is_first e =
      let i = first_place ps (table_of es ps) d s in
      let k = ends_first ps (table_of es ps) s d in
      rw (e, k.place, k.state) (ending_first d.position i (stands_at ps (table_of es ps) d s i) (record_on ps (table_of es ps) d s (suc i) i) refl)

  -- an incomplete or a valid header stands at the first place
  pub header_stands : is_header (stands_at ps (table_of es ps) d s (first_place ps (table_of es ps) d s)) ≡ true
  header_stands = go (dec_le (length s) (first_place ps (table_of es ps) d s))
    where
      go : Dec (length s ≤ first_place ps (table_of es ps) d s) → is_header (stands_at ps (table_of es ps) d s (first_place ps (table_of es ps) d s)) ≡ true
      go (yes h) = none_incomplete ps (table_of es ps) d s _ h
      go (no h) = first_is_least.there (omega (arith, h))

  -- a recovery that is not refused tells the first place: so many bytes it passes over and takes, and it finds a header
  -- exactly where a valid one stands there
  pub recovery_tells_first : check_record10to12 es ps d (length s) ≡ Ok tt
      → Tells (stands_at ps (table_of es ps) d s (first_place ps (table_of es ps) d s)) (first_place ps (table_of es ps) d s)
      (try_recover es ps d s).answer (try_recover es ps d s).taken
  recovery_tells_first e =
      let i = first_place ps (table_of es ps) d s in
      rw (recovery_is_first e) (tells (stands_at ps (table_of es ps) d s i) i (record_on ps (table_of es ps) d s (suc i) i))

  -- every recovery passes over the bytes taken, at most those lent
  pub recovery_passes_over : PassesOver (length s) (try_recover es ps d s).answer (try_recover es ps d s).taken
  recovery_passes_over = go (check_record10to12 es ps d (length s)) refl
    where
      go : (c : Result ⊤ DecodeError) → check_record10to12 es ps d (length s) ≡ c → PassesOver (length s) (try_recover es ps d s).answer (try_recover es ps d s).taken
      go (Ok _) e =
          let k = recovery_tells_first e in
          record { taken = k.passed ∙ sym k.taken; within = omega (arith, k.passed, first_is_least.within) }
      go (Err x) e = unfold try_recover in rw e (record { taken = refl; within = omega arith })
