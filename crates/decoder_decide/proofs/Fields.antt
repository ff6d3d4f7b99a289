-- The definitions of one call at the fields that they read: those of the record, or what was seen of them. Assumes
-- nothing.
use Prim.Native.Nat.{ℕ, ◌+◌, ◌≤◌}
use mathlib.Core.Path.{◌≡◌, refl, sym, ap, ◌∙◌}
use mathlib.Core.Bool.{Bool, true, false, not, ◌&&◌, ◌||◌}
use mathlib.Core.List.{List}
use lib.Dec.{leb}
use Rattle.basics.proofs.Bools.{cond_yes, cond_no}
use Rattle.table.specs.Table.{Entry, path_of, is_typed}
use Rattle.table.specs.declared.types.PathPart.{PathPart}
use Rattle.spec_util.specs.Walk.{place_along, validate_tag_path}
use Rattle.tag_parse.specs.declared.types.EBMLSize.TheVariants.{Known, Unknown}
use Rattle.tag_parse.specs.declared.types.TagHeader.{TagHeader}
use Rattle.decoder_rules.specs.Record.{opens}
use Rattle.decoder_rules.specs.OneCall.{good_state, check_record10to12, check13, and_then, step1, step8, fits_inside, step9, valid_header, check10to12}
use Rattle.decoder_rules.specs.declared.types.DecodeError.TheVariants.{HierarchyError, OversizedChildElement, UnknownSizePastEnd}
use Rattle.decoder_rules.specs.declared.types.TagDecoder.{TagDecoder}
use Rattle.decoder_look.specs.Summary.{unbounded, header_view}
use Rattle.decoder_look.specs.declared.summary.HeaderView.{HeaderView}
use Rattle.decoder_decide.specs.Parts.{is_walked, size_checked}
use Rattle.decoder_look.proofs.LeastEnd.{every_reaches}
use Rattle.std.specs.Prelude.{Err, Ok, Result, ⊤}
use Rattle.decoder_rules.specs.declared.types.DecodeError.{DecodeError}

-- ---- step 1

-- 10 to 12, where the state was found good as it is
pub refused12_for : (es ps : List ℕ) (d : TagDecoder) (n : ℕ) {good : Bool} {r : Result ⊤ DecodeError} → good ≡ good_state d → r ≡ check10to12 es ps good d.position n
    → r ≡ check_record10to12 es ps d n
unfolding check_record10to12 check10to12
refused12_for es ps d n g e = e ∙ rw g

-- 10 to 13, where the state was found good as it is
pub step1_for : (es ps : List ℕ) (d : TagDecoder) (n : ℕ) {good : Bool} {r : Result ⊤ DecodeError} → good ≡ good_state d
    → r ≡ and_then (check10to12 es ps good d.position n) (check13 d.finished n) → r ≡ step1 es ps d n
unfolding check_record10to12 check10to12 check13
step1_for es ps d n g e = e ∙ rw g

-- ---- step 8

unless_walked : (settled allowed typed valid : Bool) → (not typed || not settled || allowed || valid) ≡ (not (settled && not allowed && typed) || valid)
unless_walked false allowed false valid = refl
unless_walked false allowed true valid = refl
unless_walked true false false valid = refl
unless_walked true false true valid = refl
unless_walked true true false valid = refl
unless_walked true true true valid = refl

module _ (t : List Entry) (d : TagDecoder) (h : TagHeader) {s : HeaderView} (e : s ≡ header_view d) where
  -- where the path is not walked, 8 is passed
  pub not_walked : is_walked h.kind s.settled s.settings.allow_hierarchy ≡ false → true ≡ step8 t d h
  unfolding step8 is_walked
  not_walked w = rw (unless_walked d.settled d.settings.allow_hierarchy (is_typed h.kind), rw e at w)

  -- where it is walked, 8 is the place along it
  pub walked : {path : List PathPart} {r : Bool} → is_walked h.kind s.settled s.settings.allow_hierarchy ≡ true → path ≡ path_of t h.id
      → r ≡ place_along s.settings.strict t path h.id (opens d) → r ≡ step8 t d h
  unfolding step8 is_walked validate_tag_path
  walked w p f = rw (unless_walked d.settled d.settings.allow_hierarchy (is_typed h.kind), rw e at w, ← p) (rw e at f)

-- ---- step 9

module _ (d : TagDecoder) {s : HeaderView} (e : s ≡ header_view d) where
  -- where oversized children are allowed, everything fits
  pub allowed_fits : (n : ℕ) → s.settings.allow_oversized ≡ true → true ≡ fits_inside d n
  unfolding fits_inside
  allowed_fits n a = rw (rw e at a)

  -- else the least end stands for all
  pub least_fits : (n : ℕ) {r : Bool} → s.position + n ≤ unbounded → s.settings.allow_oversized ≡ false → r ≡ leb (s.position + n) s.least_end
      → r ≡ fits_inside d n
  unfolding fits_inside
  least_fits n fits a q = q ∙ rw (e, rw e at a) (sym (every_reaches (d.position + n) (rw e at fits) (opens d)))

  -- 81, where it is strict and does not fit
  pub past_end : (len : ℕ) → s.settings.strict ≡ true → fits_inside d len ≡ false → Err UnknownSizePastEnd ≡ step9 d len Unknown
  unfolding step9
  past_end len m f = sym (cond_no _ _ _ (ap (λ (b : Bool). not b || fits_inside d len) (rw e at m) ∙ f))

  -- else an Unknown size passes
  pub unknown_fits : (len : ℕ) → s.settings.strict ≡ true → fits_inside d len ≡ true → Ok tt ≡ step9 d len Unknown
  unfolding step9
  unknown_fits len m f = sym (cond_yes _ _ _ (ap (λ (b : Bool). not b || fits_inside d len) (rw e at m) ∙ f))

  pub ported_passes : (len : ℕ) → s.settings.strict ≡ false → Ok tt ≡ step9 d len Unknown
  unfolding step9
  ported_passes len m = sym (cond_yes _ _ _ (ap (λ (b : Bool). not b || fits_inside d len) (rw e at m)))

  -- 18, where a known size does not fit
  pub oversized : (len n : ℕ) → fits_inside d (len + n) ≡ false → Err OversizedChildElement ≡ step9 d len (Known n)
  unfolding step9
  oversized len n f = sym (cond_no _ _ _ f)

  -- else 9 is 17 alone
  pub known_fits : (len n : ℕ) {r : Result ⊤ DecodeError} → fits_inside d (len + n) ≡ true → r ≡ size_checked s.settings.max_given s.settings.max_size n → r ≡ step9 d len (Known n)
  unfolding step9 size_checked
  known_fits len n f q = rw e at q ∙ sym (cond_yes _ _ _ f)

-- ---- steps 8 and 9

module _ (t : List Entry) (d : TagDecoder) (h : TagHeader) where
  -- a path that 8 refuses
  pub invalid_8 : step8 t d h ≡ false → Err HierarchyError ≡ valid_header t d h
  unfolding valid_header
  invalid_8 e = rw e

  -- past 8 the answer is that of 9
  pub valid_9 : {r : Result ⊤ DecodeError} → step8 t d h ≡ true → r ≡ step9 d h.len h.size → r ≡ valid_header t d h
  unfolding valid_header
  valid_9 e f = rw (e, f)
