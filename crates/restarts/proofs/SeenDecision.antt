-- A call is decided alike on a record and on what is compared of it: the steps ask neither for the empty places nor,
-- once 11 is passed, for a count. Assumes nothing.
use Prim.Native.Nat.{ℕ, ◌+◌, ◌-◌, ◌≤◌}
use mathlib.Core.Path.{◌≡◌, refl, sym, ap, ◌∙◌}
use mathlib.Core.Bool.{Bool, true, cond, not, ◌||◌}
use mathlib.Core.List.{List, [], ◌∷◌, map, reverse, map-map}
use native.Mathlib.Omega.{arith}
use borrow.Author.Tests.{leb-true, le-leb}
use lib.ListN.{length, drop, length-map}
use Rattle.basics.specs.Lists.{every, first_index, filled}
use Rattle.basics.proofs.ArrayOf32.{filled_front}
use Rattle.basics.proofs.Every.{every_map}
use Rattle.basics.proofs.Maps.{map_reversed, drop-map, every_mapped, first_mapped}
use Rattle.table.specs.Table.{Entry, table_of, parts_of, parts_in, path_of, is_typed, is_master, data_type_of}
use Rattle.table.specs.declared.types.PathPart.{PathPart}
use Rattle.table.specs.declared.types.PathPart.TheVariants.{Id, Global}
use Rattle.spec_util.specs.Walk.{no_tag, ended_tops, place_along, validate_tag_path}
use Rattle.spec_util.proofs.PlaceShown.{shown, tops_shown, place_alike}
use Rattle.spec_util.specs.declared.types.OpenTag.{OpenTag}
use Rattle.tag_parse.specs.Header.{read_header}
use Rattle.tag_parse.specs.declared.types.EBMLSize.{EBMLSize}
use Rattle.tag_parse.specs.declared.types.EBMLSize.TheVariants.{Known, Unknown}
use Rattle.tag_parse.specs.declared.types.TagHeader.{TagHeader}
use Rattle.decoder_rules.specs.Record.{opens, waits, no_end, implied, with_open, with_notes, settled_to}
use Rattle.decoder_rules.specs.OneCall.{good_open, good_end, check_record10to12, check10to12, is_full, step3, close_or_fault, step6, refusal6, step7, noted, step8, reaches, fits_inside, step9, valid_header, step10}
use Rattle.decoder_rules.specs.Deciding.{plain, steps10_11, steps8_11, steps6_11, step5, steps4_11, steps2_11, decide}
use Rattle.decoder_rules.specs.declared.types.Action.{Action}
use Rattle.decoder_rules.specs.declared.types.Action.TheVariants as act
use Rattle.decoder_rules.specs.declared.types.DecodeError.TheVariants as error
use Rattle.decoder_rules.specs.declared.types.TagDecoder.{TagDecoder}
use Rattle.decoder_rules.specs.declared.types.WaitingEnd.{WaitingEnd}
use Rattle.decoder_rules.proofs.GoodState.{good_open_lem, is_good_open, GoodState, good_state_lem, is_good_state}
use Rattle.decoder_rules.proofs.MoveEffects.{Arrays, opens-length, waits-length, settled_opens}
use Rattle.restarts.specs.Comparing.{Extent, wholly, but_counts, seen_count, seen_master, seen_end, seen_masters, seen_ends, Sound, seen_record}
use Rattle.std.specs.Prelude.{Err, None, Ok, Option, Result, Some}
use Rattle.decoder_rules.specs.declared.types.DecodeError.{DecodeError}
use Rattle.tag_parse.specs.declared.types.ParseError.{ParseError}
use Rattle.table.specs.declared.types.Path.{Path}
use Rattle.tools.specs.declared.status.Status.{Status}
use Rattle.tools.specs.declared.status.Status.TheVariants as status

-- ---- the record that is compared

-- a record as long as its counts say: its lists have so many elements
pub record Full (d : TagDecoder) : Type 0 where
  pub masters : length (opens d) ≡ d.open_count
  pub ends : length (waits d) ≡ d.waiting_count

-- a sound record has its places
pub sound_arrays : (d : TagDecoder) → Sound d → Arrays d
sound_arrays d k = record { masters = k.masters; ends = k.ends }

-- and what 11 asks
pub sound_good : (d : TagDecoder) → Sound d → GoodState d
sound_good d k = good_state_lem d k.good

-- a record with its places and what 11 asks is sound
pub is_sound : (d : TagDecoder) → Arrays d → GoodState d → Sound d
is_sound d a g = record { masters = a.masters; ends = a.ends; good = is_good_state d g }

-- and is as long as its counts say
pub sound_full : (d : TagDecoder) → Sound d → Full d
sound_full d k =
    let g = sound_good d k in
    record { masters = opens-length d (sound_arrays d k) g.open_count; ends = waits-length d (sound_arrays d k) g.waiting_count }

-- a master that is compared wholly is all compared
masters_wholly : (l : List OpenTag) → map (seen_master wholly) l ≡ l
unfolding seen_master
masters_wholly [] = refl
masters_wholly (m ∷ l) = ap (λ (k : List OpenTag). m ∷ k) (masters_wholly l)

-- and so is an End
ends_wholly : (l : List WaitingEnd) → map (seen_end wholly) l ≡ l
unfolding seen_end
ends_wholly [] = refl
ends_wholly (e ∷ l) = ap (λ (k : List WaitingEnd). e ∷ k) (ends_wholly l)

-- with the note a record is as long as its counts say
pub noted_full : (ps : List ℕ) (d : TagDecoder) → Full d → (n : Option Path) → Full (noted ps d n)
unfolding noted settled_to with_open with_notes
noted_full ps d k None = k
noted_full ps d k (Some path) =
    let parts = parts_in (parts_of ps) path in
    record { masters = ap length (settled_opens d parts) ∙ length-map parts implied; ends = k.ends }

-- a record with these masters and Ends, and zero in its empty places
abbrev pub built : TagDecoder → List OpenTag → List WaitingEnd → TagDecoder
built c l w = record {
  settings = c.settings;
  position = c.position;
  settled = c.settled;
  finished = c.finished;
  «open» = filled no_tag l;
  open_count = c.open_count;
  waiting = filled no_end w;
  waiting_count = c.waiting_count;
}

-- with the same it is the same
pub built_same : (c : TagDecoder) {l m : List OpenTag} {v w : List WaitingEnd} → l ≡ m → v ≡ w → built c l v ≡ built c m w
built_same c {l} {m} {v} {w} p q = ap (λ (k : List OpenTag). built c k v) p ∙ ap (λ (k : List WaitingEnd). built c m k) q

module _ (x : Extent) where
  -- what is compared of a count is at most the count
  pub count_less : (n : ℕ) → seen_count x n ≤ n
  count_less n = go x
    where
      go : (y : Extent) → seen_count y n ≤ n
      go wholly = omega arith
      go but_counts = omega arith

  -- of none it is none
  pub count_none : seen_count x 0 ≡ 0
  count_none = go x
    where
      go : (y : Extent) → seen_count y 0 ≡ 0
      go wholly = refl
      go but_counts = refl

  -- what is compared of masters, each by itself
  pub masters_each : (l : List OpenTag) → seen_masters x l ≡ map (seen_master x) l
  masters_each l = go x
    where
      go : (y : Extent) → seen_masters y l ≡ map (seen_master y) l
      go wholly = sym (masters_wholly l)
      go but_counts = refl

  -- and of Ends
  pub ends_each : (l : List WaitingEnd) → seen_ends x l ≡ map (seen_end x) l
  ends_each l = go x
    where
      go : (y : Extent) → seen_ends y l ≡ map (seen_end y) l
      go wholly = sym (ends_wholly l)
      go but_counts = refl

  -- what is compared of a record, each master and each End by itself
  pub seen_each : (d : TagDecoder) → seen_record x d ≡ built d (map (seen_master x) (opens d)) (map (seen_end x) (waits d))
  unfolding seen_record
  seen_each d = built_same d (masters_each (opens d)) (ends_each (waits d))

  module _ (d : TagDecoder) (k : Full d) where
    -- the open masters of what is compared
    pub seen-opens : opens (seen_record x d) ≡ map (seen_master x) (opens d)
    seen-opens = ap opens (seen_each d) ∙ filled_front no_tag (map (seen_master x) (opens d)) d.open_count (length-map (opens d) (seen_master x) ∙ k.masters)

    -- and its waiting Ends
    pub seen-waits : waits (seen_record x d) ≡ map (seen_end x) (waits d)
    seen-waits = ap waits (seen_each d) ∙ filled_front no_end (map (seen_end x) (waits d)) d.waiting_count (length-map (waits d) (seen_end x) ∙ k.ends)

    -- what asks for no count asks alike
    pub by_opens : {A : Type 0} (f : List OpenTag → A) → ((l : List OpenTag) → f (map (seen_master x) l) ≡ f l) → f (opens (seen_record x d)) ≡ f (opens d)
    by_opens f h = ap f seen-opens ∙ h (opens d)

  -- ---- 10, 11 and 12

  open_seen : (p : ℕ) (m : OpenTag) → good_open p m ≡ true → good_open p (seen_master x m) ≡ true
  open_seen p m e =
      let g = good_open_lem p m e in
      is_good_open p (seen_master x m) (unfold seen_master in record { start = g.start; size = g.size; count = omega (arith, g.count, count_less m.count) })

  end_seen : (p : ℕ) (e : WaitingEnd) → good_end p e ≡ true → good_end p (seen_end x e) ≡ true
  unfolding good_end seen_end
  end_seen p e g = le-leb (seen_count x e.count) p (omega (arith, leb-true e.count p g, count_less e.count))

  -- what is compared of a good record is good
  pub good_seen : (d : TagDecoder) → Full d → GoodState d → GoodState (seen_record x d)
  unfolding seen_record
  good_seen d k g = record {
    open_count = g.open_count;
    waiting_count = g.waiting_count;
    place = g.place;
    masters = rw (seen-opens d k) (every_map (good_open d.position) (seen_master x) (good_open d.position) (open_seen d.position) (opens d) g.masters);
    ends = rw (seen-waits d k) (every_map (good_end d.position) (seen_end x) (good_end d.position) (end_seen d.position) (waits d) g.ends);
  }

  -- 10, 11 and 12 answer alike
  pub check_seen : (es ps : List ℕ) (d : TagDecoder) → Sound d → (n : ℕ) → check_record10to12 es ps (seen_record x d) n ≡ check_record10to12 es ps d n
  check_seen es ps d k n =
      let good = is_good_state (seen_record x d) (good_seen d (sound_full d k) (sound_good d k)) in
      unfold check_record10to12 seen_record in ap (λ (b : Bool). check10to12 es ps b d.position n) (good ∙ sym k.good)

  -- ---- the place

  -- lent words show no more of what is compared than of the masters
  shown-seen : (l : List OpenTag) → map shown (map (seen_master x) l) ≡ map shown l
  unfolding seen_master
  shown-seen l = map-map shown (seen_master x) l

  tops_seen : (strict : Bool) (t : List Entry) (id : ℕ) (l : List OpenTag) → ended_tops strict t id (reverse (map (seen_master x) l)) ≡ ended_tops strict t id (reverse l)
  tops_seen strict t id l =
      ap (ended_tops strict t id) (sym (map_reversed (seen_master x) l))
      ∙ sym (tops_shown strict t id (map (seen_master x) (reverse l)))
      ∙ ap (ended_tops strict t id) (shown-seen (reverse l))
      ∙ tops_shown strict t id (reverse l)

  path_seen : (strict : Bool) (t : List Entry) (id : ℕ) (l : List OpenTag) → validate_tag_path strict t id (map (seen_master x) l) ≡ validate_tag_path strict t id l
  unfolding validate_tag_path
  path_seen strict t id l =
      sym (place_alike strict t (path_of t id) id (map (seen_master x) l))
      ∙ ap (place_along strict t (path_of t id) id) (shown-seen l)
      ∙ place_alike strict t (path_of t id) id l

  -- ---- the steps

  module _ (t : List Entry) (d : TagDecoder) (k : Full d) where
    abbrev Seen : TagDecoder
    Seen = seen_record x d

    step3-seen : step3 Seen ≡ step3 d
    unfolding seen_record
    step3-seen =
        let test = is_full d.position in
        by_opens d k (first_index test) (first_mapped (seen_master x) test test (λ m. unfold is_full seen_master in refl))

    -- the masters above the first n are Masters of the table alike
    pub masters_seen : (n : ℕ) → every (λ m. is_master (data_type_of t m.id)) (drop n (opens Seen)) ≡ every (λ m. is_master (data_type_of t m.id)) (drop n (opens d))
    masters_seen n =
        let test : OpenTag → Bool = λ m. is_master (data_type_of t m.id) in
        by_opens d k (λ l. every test (drop n l)) (λ l. ap (every test) (drop-map (seen_master x) n l) ∙ every_mapped (seen_master x) test test (λ m. unfold seen_master in refl) (drop n l))

    close_seen : (n : ℕ) → close_or_fault t Seen n ≡ close_or_fault t d n
    unfolding close_or_fault
    close_seen n = ap (λ (b : Bool). cond b (Ok (act.Close n)) (Err error.NotAMaster)) (masters_seen n)

    fits_seen : (n : ℕ) → fits_inside Seen n ≡ fits_inside d n
    unfolding fits_inside seen_record
    fits_seen n =
        let test = reaches (d.position + n) in
        ap (λ (b : Bool). d.settings.allow_oversized || b) (by_opens d k (every test) (every_mapped (seen_master x) test test (λ m. unfold reaches seen_master in refl)))

    step8-seen : (h : TagHeader) → step8 t Seen h ≡ step8 t d h
    unfolding step8 seen_record
    step8-seen h =
        ap (λ (b : Bool). not (is_typed h.kind) || not d.settled || d.settings.allow_hierarchy || b)
        (by_opens d k (validate_tag_path d.settings.strict t h.id) (path_seen d.settings.strict t h.id))

    step9-seen : (len : ℕ) (z : EBMLSize) → step9 Seen len z ≡ step9 d len z
    step9-seen len Unknown = unfold step9 in rw (fits_seen len) (unfold seen_record in refl)
    step9-seen len (Known n) = unfold step9 in rw (fits_seen (len + n)) (unfold seen_record in refl)

    -- 8 and 9
    pub valid_seen : (h : TagHeader) → valid_header t Seen h ≡ valid_header t d h
    unfolding valid_header
    valid_seen h = rw (step8-seen h, step9-seen h.len h.size)

    step10-seen : (id : ℕ) → step10 t Seen id ≡ step10 t d id
    unfolding seen_record
    step10-seen id = ap (λ (n : ℕ). d.open_count - n) (by_opens d k (λ l. ended_tops d.settings.strict t id (reverse l)) (tops_seen d.settings.strict t id))

    steps10_seen : (h : TagHeader) (s : List ℕ) → steps10_11 t Seen h s ≡ steps10_11 t d h s
    unfolding steps10_11
    steps10_seen h s = rw (step10-seen h.id, close_seen (step10 t d h.id)) (unfold seen_record in refl)

    steps8_seen : (h : TagHeader) (s : List ℕ) → steps8_11 t Seen h s ≡ steps8_11 t d h s
    unfolding steps8_11
    steps8_seen h s = rw (valid_seen h, steps10_seen h s)

  -- ---- the note

  implied-seen : (part : PathPart) → seen_master x (implied part) ≡ implied part
  unfolding seen_master
  implied-seen (Id y) = rw count_none
  implied-seen (Global least most) = rw count_none

  implied_all : (path : List PathPart) → map (seen_master x) (map implied path) ≡ map implied path
  implied_all [] = refl
  implied_all (part ∷ path) = rw (implied-seen part) (ap (λ (l : List OpenTag). implied part ∷ l) (implied_all path))

  module _ (d : TagDecoder) (parts : List PathPart) where
    settled_built : map implied parts ≡ map (seen_master x) (opens (settled_to d parts))
        → settled_to (built d (map (seen_master x) (opens d)) (map (seen_end x) (waits d))) parts
        ≡ built (settled_to d parts) (map (seen_master x) (opens (settled_to d parts))) (map (seen_end x) (waits (settled_to d parts)))
    unfolding settled_to with_open with_notes
    settled_built e = ap (λ (l : List OpenTag). built (settled_to d parts) l (map (seen_end x) (waits d))) e

    settled_seen : settled_to (seen_record x d) parts ≡ seen_record x (settled_to d parts)
    settled_seen =
        ap (λ (b : TagDecoder). settled_to b parts) (seen_each d)
        ∙ settled_built (sym (ap (map (seen_master x)) (settled_opens d parts) ∙ implied_all parts))
        ∙ sym (seen_each (settled_to d parts))

  -- what is compared with the note is the note on what is compared
  pub noted-seen : (ps : List ℕ) (d : TagDecoder) (n : Option Path) → noted ps (seen_record x d) n ≡ seen_record x (noted ps d n)
  unfolding noted
  noted-seen ps d None = refl
  noted-seen ps d (Some path) = settled_seen d (parts_in (parts_of ps) path)

  -- ---- the decision

  module _ (es ps : List ℕ) (d : TagDecoder) (k : Sound d) where
    after_note_seen : (n : Option Path) (h : TagHeader) (s : List ℕ) → steps8_11 (table_of es ps) (noted ps (seen_record x d) n) h s ≡ steps8_11 (table_of es ps) (noted ps d n) h s
    after_note_seen n h s =
        ap (λ (f : TagDecoder). steps8_11 (table_of es ps) f h s) (noted-seen ps d n) ∙ steps8_seen (table_of es ps) (noted ps d n) (noted_full ps d (sound_full d k) n) h s

    steps6_seen : (h : TagHeader) (s : List ℕ) → steps6_11 ps (table_of es ps) (seen_record x d) h s ≡ steps6_11 ps (table_of es ps) d h s
    unfolding steps6_11 seen_record
    steps6_seen h s =
        let n = step7 (table_of es ps) d h in
        ap (λ (a : Result Action DecodeError). cond (step6 d h) (record { note = n; action = a }) (plain (Err (refusal6 d h)))) (after_note_seen n h s)

    step5-seen : (s : List ℕ) (r : Result (Status TagHeader) ParseError) → step5 ps (table_of es ps) (seen_record x d) s r ≡ step5 ps (table_of es ps) d s r
    unfolding step5
    step5-seen s (Ok (status.NeedMore missing)) = refl
    step5-seen s (Err e) = refl
    step5-seen s (Ok (status.Complete h)) = steps6_seen h s

    steps2_seen : (s : List ℕ) → steps2_11 ps (table_of es ps) (seen_record x d) s ≡ steps2_11 ps (table_of es ps) d s
    unfolding steps2_11 steps4_11
    steps2_seen s =
        let t = table_of es ps in
        let f = sound_full d k in
        rw (step3-seen t d f, close_seen t d f (step3 d), step5-seen s (read_header t s)) (unfold seen_record in refl)

    -- a call is decided alike
    pub decide-seen : (s : List ℕ) → decide es ps (seen_record x d) s ≡ decide es ps d s
    unfolding decide
    decide-seen s = rw (check_seen es ps d k (length s), steps2_seen s) (unfold seen_record in refl)
