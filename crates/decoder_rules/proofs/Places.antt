-- One place of a recovery's search: its note, what it leaves of the record, and how the search stands there. Assumes
-- nothing.
use Prim.Native.Nat.{ℕ}
use mathlib.Core.Path.{◌≡◌, refl}
use mathlib.Core.Bool.{Bool, true, false, cond, not, ◌&&◌, ◌||◌, true≢false, false≢true}
use mathlib.Core.List.{List, [], ◌∷◌}
use native.Mathlib.Omega.{arith}
use lib.ListN.{length}
use Rattle.basics.proofs.Bools.{pick}
use Rattle.table.specs.Check.{only_ids}
use Rattle.table.specs.Table.{Entry, path_of, is_typed}
use Rattle.tag_parse.specs.Header.{read_tag_id, after_id, read_header}
use Rattle.tag_parse.specs.declared.types.TagHeader.{TagHeader}
use Rattle.decoder_rules.specs.OneCall.{good_form, step6, step7, noted, valid_header}
use Rattle.decoder_rules.specs.Recovery.{forward, at, judged, judged_at, header_at, read_at, place_at}
use Rattle.decoder_rules.specs.FirstPlace.{settle_header, settle_at, Standing, Incomplete, Valid, Other, passes, standing}
use Rattle.decoder_rules.specs.declared.types.Place.{Place}
use Rattle.decoder_rules.specs.declared.types.Place.TheVariants.{Stop, Found, On}
use Rattle.decoder_rules.specs.declared.types.PlaceResult.{PlaceResult}
use Rattle.decoder_rules.specs.declared.types.TagDecoder.{TagDecoder}
use Rattle.std.specs.Prelude.{Err, None, Ok, Option, Result, Some, ⊤}
use Rattle.decoder_rules.specs.declared.types.DecodeError.{DecodeError}
use Rattle.tag_parse.specs.declared.types.ParseError.{ParseError}
use Rattle.table.specs.declared.types.Path.{Path}
use Rattle.tools.specs.declared.status.Status.{Status}
use Rattle.tools.specs.declared.status.Status.TheVariants as status

-- ---- the note

-- the note of what was read at a place
abbrev pub read_note : List Entry → TagDecoder → Result (Status TagHeader) ParseError → Option Path
read_note t d (Ok (status.NeedMore missing)) = None
read_note t d (Err x) = None
read_note t d (Ok (status.Complete h)) = cond (step6 d h) (step7 t d h) None

-- the note of one place
unfoldable pub place_note : List Entry → TagDecoder → List ℕ → Option Path
place_note t d s = read_note t d (read_header t s)

-- on a settled record no header leaves a note
pub settled_step7 : (t : List Entry) (d : TagDecoder) (h : TagHeader) → d.settled ≡ true → step7 t d h ≡ None
settled_step7 t d h u = go d.settled u
  where
    go : (b : Bool) → b ≡ true → cond (not b && is_typed h.kind && only_ids (path_of t h.id)) (Some h.path) None ≡ None
    go true q = refl
    go false q = absurd (false≢true q)

-- on another a header that was read leaves the one that settles, where it passes step 6
pub unsettled_note : (t : List Entry) (d : TagDecoder) (h : TagHeader) → d.settled ≡ false
    → read_note t d (Ok (status.Complete h)) ≡ settle_header d.settings.strict t (Ok (status.Complete h))
unsettled_note t d h u =
    go d.settled u (good_form d.settings.strict h.id) (is_typed h.kind) d.settings.allow_ids (only_ids (path_of t h.id))
  where
    settle : Option Path
    settle = Some h.path

    go : (b : Bool) → b ≡ false → (form typed allowed ids : Bool)
        → cond (form && (typed || allowed)) (cond (not b && typed && ids) settle None) None ≡ cond (form && (typed && ids)) settle None
    go true q form typed allowed ids = absurd (true≢false q)
    go false q true true allowed ids = refl
    go false q true false true ids = refl
    go false q true false false ids = refl
    go false q false typed allowed ids = refl

-- no byte settles nothing
pub settle_none : (strict : Bool) (t : List Entry) (s : List ℕ) → length s ≡ 0 → settle_at strict t s ≡ None
unfolding settle_at read_header after_id read_tag_id
settle_none strict t [] e = refl
settle_none strict t (b ∷ s) e = absurd (omega arith)

module _ (t : List Entry) (d : TagDecoder) (s : List ℕ) where
  -- on a settled record no place has a note
  pub settled_place : d.settled ≡ true → place_note t d s ≡ None
  unfolding place_note
  settled_place u = go (read_header t s)
    where
      go : (r : Result (Status TagHeader) ParseError) → read_note t d r ≡ None
      go (Ok (status.NeedMore missing)) = refl
      go (Err x) = refl
      go (Ok (status.Complete h)) = pick (λ (n : Option Path). n ≡ None) (step6 d h) (step7 t d h) None (λ f. settled_step7 t d h u) (λ f. refl)

  -- on another it has the one that settles
  pub place_seen : d.settled ≡ false → place_note t d s ≡ settle_at d.settings.strict t s
  unfolding place_note settle_at
  place_seen u = go (read_header t s)
    where
      go : (r : Result (Status TagHeader) ParseError) → read_note t d r ≡ settle_header d.settings.strict t r
      go (Ok (status.NeedMore missing)) = refl
      go (Err x) = refl
      go (Ok (status.Complete h)) = unsettled_note t d h u

-- ---- what one place leaves, and how the search stands there

-- the record goes a byte on where the search does
abbrev pub gone_on : Place → TagDecoder → TagDecoder
gone_on Stop d = d
gone_on Found d = d
gone_on On d = forward d

-- how the search stands by what stands at the place
abbrev pub place_of : Standing → Place
place_of Incomplete = Stop
place_of Valid = Found
place_of Other = On

-- what one place leaves: the record with the note n, a byte on where the search goes on
pub record Leaves (ps : List ℕ) (d : TagDecoder) (n : Option Path) (x : Standing) (p : PlaceResult) : Type 0 where
  pub place : p.place ≡ place_of x
  pub state : p.state ≡ gone_on p.place (noted ps d n)

module _ (ps : List ℕ) (t : List Entry) (d : TagDecoder) where
  judged_leaves : (n : Option Path) (c : Result ⊤ DecodeError) → Leaves ps d n (cond (passes c) Valid Other) (judged c (noted ps d n))
  judged_leaves n (Ok _) = record { place = refl; state = refl }
  judged_leaves n (Err e) = record { place = refl; state = refl }

  header_leaves : (h : TagHeader) → Leaves ps d (cond (step6 d h) (step7 t d h) None) (standing ps t d (Ok (status.Complete h))) (header_at ps t d h)
  unfolding header_at judged_at
  header_leaves h = go (step6 d h)
    where
      valid : Result ⊤ DecodeError
      valid = valid_header t (noted ps d (step7 t d h)) h

      go : (b : Bool) → Leaves ps d (cond b (step7 t d h) None) (cond (b && passes valid) Valid Other) (cond b (judged valid (noted ps d (step7 t d h))) (at On (forward d)))
      go true = judged_leaves (step7 t d h) valid
      go false = unfold noted in record { place = refl; state = refl }

  -- so does every place
  pub place_leaves : (s : List ℕ) → Leaves ps d (place_note t d s) (standing ps t d (read_header t s)) (place_at ps t d s)
  unfolding place_note place_at
  place_leaves s = go (read_header t s)
    where
      go : (r : Result (Status TagHeader) ParseError) → Leaves ps d (read_note t d r) (standing ps t d r) (read_at ps t d r)
      go (Ok (status.NeedMore missing)) = unfold noted in record { place = refl; state = refl }
      go (Err x) = unfold noted in record { place = refl; state = refl }
      go (Ok (status.Complete h)) = header_leaves h
