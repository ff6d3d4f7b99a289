-- A record that is sound stays so by any call and any setting, with any words for a table: it keeps its places, and 11
-- is not for it. Assumes nothing.
use Prim.Native.Nat.{ℕ, suc, ◌+◌, ◌≤◌, ◌<◌}
use mathlib.Core.Path.{◌≡◌, refl, subst}
use mathlib.Core.Bool.{Bool, true}
use mathlib.Core.List.{List}
use native.Mathlib.Omega.{arith}
use lib.ListN.{length}
use Rattle.basics.specs.Lists.{every}
use Rattle.tools.specs.Bytes.{Octets}
use Rattle.table.specs.Table.{Entry, table_of, parts_of, parts_in}
use Rattle.tag_parse.specs.Header.{read_header}
use Rattle.tag_parse.specs.declared.types.EBMLSize.{EBMLSize}
use Rattle.tag_parse.specs.declared.types.EBMLSize.TheVariants.{Known, Unknown}
use Rattle.tag_parse.specs.declared.types.TagHeader.{TagHeader}
use Rattle.tag_parse.proofs.Headers.{header_sound, header_long, known_small}
use Rattle.decoder_rules.specs.Record.{farthest, opens, with_settings, with_open, with_notes, at_position, counted, opened, closed_to, handed_out, with_sizes_grown}
use Rattle.decoder_rules.specs.OneCall.{check_record10to12, good_open, good_state, noted}
use Rattle.decoder_rules.specs.Deciding.{decide}
use Rattle.decoder_rules.specs.Moving.{master_at, move, apply, decode}
use Rattle.decoder_rules.specs.Recovery.{try_recover}
use Rattle.decoder_rules.specs.FirstPlace.{record_on, note_before, Standing, Incomplete, Valid, Other, stands_at, first_place, recovered_at}
use Rattle.decoder_rules.specs.Settings.{limited_to}
use Rattle.decoder_rules.specs.declared.types.Action.{Action}
use Rattle.decoder_rules.specs.declared.types.Action.TheVariants as act
use Rattle.decoder_rules.specs.declared.types.Decision.{Decision}
use Rattle.decoder_rules.specs.declared.types.Decoded.{Decoded}
use Rattle.decoder_rules.specs.declared.types.Settings.{Settings}
use Rattle.decoder_rules.specs.declared.types.TagDecoder.{TagDecoder}
use Rattle.decoder_rules.proofs.Counting.{counted_arrays, counted_good}
use Rattle.decoder_rules.proofs.EndExits as end
use Rattle.decoder_rules.proofs.EndExits.{EndExit, EofExit, eof_exits}
use Rattle.decoder_rules.proofs.Exits as exit
use Rattle.decoder_rules.proofs.Exits.{Closing, HeaderExit, Exit, exits}
use Rattle.decoder_rules.proofs.FirstPlace.{note_holds, recovery_is_first, first_is_least}
use Rattle.decoder_rules.proofs.GoodState.{GoodState, Passed1, passed12}
use Rattle.decoder_rules.proofs.MoveEffects.{Arrays, with_notes_arrays, settled_arrays, opened_arrays, closed_arrays, handed_arrays, grown_arrays}
use Rattle.decoder_rules.proofs.MoveLaws.{with_note, noted-position}
use Rattle.decoder_rules.proofs.MovesKeepGoodState.{with_notes_good, handed_good, opened_good, closed_good, grown_good}
use Rattle.decoder_move.specs.Applies.{NoteApplies, ActionApplies}
use Rattle.decoder_move.proofs.DecisionApplies.{decide_applies, note_none, note_settles, closes, starts as start_fits, passes_on}
use Rattle.tag_decoder.proofs.Recovering.{step7_applies, noted_good}
use Rattle.guarantees.specs.Calls.{Call, decoding, ending, recovering, allow, strictly, limit, lent, next}
use Rattle.guarantees.proofs.Decided.{Small}
use Rattle.guarantees.proofs.Steps.{open_good}
use Rattle.restarts.specs.Comparing.{Sound}
use Rattle.restarts.proofs.SeenDecision.{sound_arrays, sound_good, is_sound}
use Rattle.std.specs.Prelude.{Err, None, Ok, Option, Result, Some, ⊤}
use Rattle.decoder_rules.specs.declared.types.DecodeError.{DecodeError}
use Rattle.table.specs.declared.types.Path.{Path}
use Rattle.tools.specs.declared.status.Status.TheVariants as status

-- ---- what a Start and a Data take

-- a Start takes some byte, and a known size is below 2^56; a Data takes some byte
abbrev pub TakesSome : Result Action DecodeError → Type 0
TakesSome (Err e) = Unit {0}
TakesSome (Ok (act.NeedMore missing)) = Unit {0}
TakesSome (Ok act.Finish) = Unit {0}
TakesSome (Ok act.HandOut) = Unit {0}
TakesSome (Ok (act.Close k)) = Unit {0}
TakesSome (Ok (act.Start x z len)) = (0 < len) × Small z
TakesSome (Ok (act.Data x v n)) = 0 < n

module _ (t : List Entry) (s : List ℕ) (byte : Octets s) (h : TagHeader) (read : read_header t s ≡ Ok (status.Complete h)) where
  small_size : (z : EBMLSize) → h.size ≡ z → Small z
  small_size Unknown e = tt
  small_size (Known n) e = known_small n (header_sound t s h byte read) e

  closing_takes : {d : TagDecoder} {k : ℕ} {a : Result Action DecodeError} → Closing t d k a → TakesSome a
  closing_takes (exit.closes e) = tt
  closing_takes (exit.no_master_lem e) = tt

  header_takes : {d : TagDecoder} {a : Result Action DecodeError} → HeaderExit t d h s a → TakesSome a
  header_takes (exit.misplaced p) = tt
  header_takes (exit.oversized m p z f) = tt
  header_takes (exit.too_large m p z f g) = tt
  header_takes (exit.past_end p z f g) = tt
  header_takes (exit.ends_tops v k c) = closing_takes c
  header_takes (exit.too_many at k f) = tt
  header_takes (exit.starts at k f) = (omega (arith, header_long (header_sound t s h byte read)), small_size h.size refl)
  header_takes (exit.no_size at k z) = tt
  header_takes (exit.payload_incomplete m has f) = tt
  header_takes (exit.payload_refused m x has f q) = tt
  header_takes (exit.holds m v has f q) = omega (arith, header_long (header_sound t s h byte read))

module _ (es ps : List ℕ) (d : TagDecoder) (s : List ℕ) (byte : Octets s) where
  full_takes : {k : ℕ} {a : Result Action DecodeError} → Closing (table_of es ps) d k a → TakesSome a
  full_takes (exit.closes e) = tt
  full_takes (exit.no_master_lem e) = tt

  -- what a call decides takes so
  pub exit_takes : {a : Decision} → Exit es ps d s a → TakesSome a.action
  exit_takes (exit.refused_first x e) = tt
  exit_takes (exit.after_finish e f l) = tt
  exit_takes (exit.hands_out ok w) = tt
  exit_takes (exit.finished ok w f) = tt
  exit_takes (exit.closes_full r l c) = full_takes c
  exit_takes (exit.no_byte n z) = tt
  exit_takes (exit.header_incomplete at e) = tt
  exit_takes (exit.header_refused x at e) = tt
  exit_takes (exit.id_refused h at f) = tt
  exit_takes (exit.on_header h at f x) = header_takes (table_of es ps) s byte h at.read x

-- ---- the moves

module _ (d : TagDecoder) (k : Sound d) where
  abbrev arrays : Arrays d
  arrays = sound_arrays d k

  abbrev good : GoodState d
  good = sound_good d k

  settings_sound : (s : Settings) → Sound (with_settings d s)
  unfolding with_settings good_state
  settings_sound s = record { masters = k.masters; ends = k.ends; good = k.good }

  -- at another position, settled or not, finished or not
  pub notes_sound : (p : ℕ) (s f : Bool) → d.position ≤ p → p ≤ farthest → Sound (with_notes d p s f)
  notes_sound p s f h l = is_sound (with_notes d p s f) (with_notes_arrays d arrays p s f) (with_notes_good d good p s f h l)

  noted_arrays : (ps : List ℕ) (n : Option Path) → NoteApplies ps n → Arrays (noted ps d n)
  unfolding noted
  noted_arrays ps None f = arrays
  noted_arrays ps (Some path) f = settled_arrays d arrays (parts_in (parts_of ps) path) (note_settles ps path f)

  -- with a note that applies
  pub noted_sound : (ps : List ℕ) (n : Option Path) → NoteApplies ps n → Sound (noted ps d n)
  noted_sound ps n f = is_sound (noted ps d n) (noted_arrays ps n f) (noted_good ps d n good f)

  closed_sound : (n : ℕ) → n ≤ d.open_count → Sound (closed_to d n)
  closed_sound n h = is_sound (closed_to d n) (closed_arrays d arrays n) (closed_good d good arrays n h)

  -- with a child more, further on
  pub counted_sound : (q : ℕ) → d.position < q → q ≤ farthest → Sound (counted (at_position d q))
  counted_sound q h l =
      is_sound (counted (at_position d q)) (counted_arrays (at_position d q) (with_notes_arrays d arrays q d.settled d.finished)) (counted_good d good arrays q h l)

move_sound : (d : TagDecoder) → Sound d → (n : ℕ) (a : Result Action DecodeError) → ActionApplies d n a → TakesSome a → Sound (move d a).state
unfolding move counted with_open with_notes
move_sound d k n (Err e) f g = k
move_sound d k n (Ok (act.NeedMore missing)) f g = k
move_sound d k n (Ok act.Finish) f g = k
move_sound d k n (Ok act.HandOut) f g = is_sound (handed_out d) (handed_arrays d (sound_arrays d k)) (handed_good d (sound_good d k) (sound_arrays d k))
move_sound d k n (Ok (act.Close i)) f g = let c = closes d n i f in closed_sound d k i (omega (arith, c.0))
move_sound d k n (Ok (act.Start x z len)) f g =
    let fits = start_fits d n x z len f in
    let e = counted (at_position d (d.position + len)) in
    let c : Sound e = counted_sound d k (d.position + len) (omega (arith, g.0)) fits.1 in
    let m = master_at x z d.position len in
    is_sound (opened e m) (opened_arrays e (sound_arrays e c) m) (opened_good e (sound_good e c) (sound_arrays e c) m fits.0 (open_good x d.position len z g.1))
move_sound d k n (Ok (act.Data x v m)) f g = counted_sound d k (d.position + m) (omega arith) (passes_on d n x v m f)

-- ---- decode, and the end of input

module _ (es ps : List ℕ) (d : TagDecoder) (k : Sound d) (s : List ℕ) (byte : Octets s) where
  -- with the note of this call
  pub with_note_sound : Sound (with_note es ps d s)
  with_note_sound = noted_sound d k ps (decide es ps d s).note (decide_applies es ps d s byte).note

  decode_sound : Sound (decode es ps d s).state
  unfolding apply
  decode_sound = move_sound (with_note es ps d s) with_note_sound (length s) (decide es ps d s).action (decide_applies es ps d s byte).action (exit_takes es ps d s byte (exits es ps d s))

  ended_sound : {e : TagDecoder} {r : Decoded} → Sound e → EndExit (table_of es ps) e s r → Sound r.state
  unfolding move
  ended_sound t (end.bytes_left l) = t
  ended_sound t (end.master_cut z l) = t
  ended_sound t (end.no_master_lem n m) = t
  ended_sound {e} t (end.finishes n m z) = notes_sound e t e.position e.settled true (omega arith) (sound_good e t).place
  ended_sound {e} t (end.closes_all n m l) = closed_sound _ (notes_sound e t e.position e.settled true (omega arith) (sound_good e t).place) 0 (omega arith)

  exit_sound : {r : Decoded} → EofExit es ps d s r → Sound r.state
  exit_sound (end.as_decoded q) = decode_sound
  exit_sound (end.at_end q x) = ended_sound with_note_sound x

-- ---- a recovery

module _ (es ps : List ℕ) (d : TagDecoder) (k : Sound d) (s : List ℕ) (p : Passed1 es ps d (length s)) where
  -- the note that places leave applies
  pub note_applies : (n : ℕ) → NoteApplies ps (note_before (table_of es ps) d s n)
  note_applies n = note_holds (table_of es ps) d (NoteApplies ps) (note_none ps) (λ r h e. step7_applies es ps p.shape d r h e) s n

  -- the record on the way of a search is sound
  pub on_sound : (n i : ℕ) → i ≤ length s → Sound (record_on ps (table_of es ps) d s n i)
  unfolding record_on
  on_sound n i h =
      let note = note_before (table_of es ps) d s n in
      notes_sound (noted ps d note) (noted_sound d k ps note (note_applies n)) (d.position + i) _ _ (omega (arith, noted-position ps d note)) (omega (arith, p.near))

  masters_on : (n : ℕ) → every (good_open d.position) (opens (noted ps d (note_before (table_of es ps) d s n))) ≡ true
  masters_on n =
      let note = note_before (table_of es ps) d s n in
      subst (λ (q : ℕ). every (good_open q) (opens (noted ps d note)) ≡ true) (noted-position ps d note) (sound_good (noted ps d note) (noted_sound d k ps note (note_applies n))).masters

  grown_sound : (n i : ℕ) → i ≤ length s → Sound (with_sizes_grown (record_on ps (table_of es ps) d s n i) i)
  grown_sound n i h =
      let e = record_on ps (table_of es ps) d s n i in
      let o = on_sound n i h in
      let g : GoodState (with_sizes_grown e i) = grown_good e (sound_good e o) (sound_arrays e o) d.position i (unfold record_on with_notes in masters_on n) (unfold record_on with_notes in omega arith) in
      is_sound (with_sizes_grown e i) (grown_arrays e (sound_arrays e o) i) g

  standing_sound : (n : ℕ) (x : Standing) (i : ℕ) → i ≤ length s → Sound (recovered_at x i (record_on ps (table_of es ps) d s n i)).state
  standing_sound n Incomplete i h = on_sound n i h
  standing_sound n Valid i h = grown_sound n i h
  standing_sound n Other i h = on_sound n i h

recover_sound : (es ps : List ℕ) (d : TagDecoder) → Sound d → (s : List ℕ) → Sound (try_recover es ps d s).state
recover_sound es ps d k s = go (check_record10to12 es ps d (length s)) refl
  where
    go : (c : Result ⊤ DecodeError) → check_record10to12 es ps d (length s) ≡ c → Sound (try_recover es ps d s).state
    go (Ok _) e =
        let t = table_of es ps in
        let i = first_place ps t d s in
        rw (recovery_is_first es ps d s e) (standing_sound es ps d k s (passed12 es ps d (length s) e) (suc i) (stands_at ps t d s i) i (first_is_least es ps d s).within)
    go (Err x) e = unfold try_recover in rw e k

-- ---- any call

limited_sound : (d : TagDecoder) → Sound d → (n : Option ℕ) → Sound (limited_to d n)
limited_sound d k None = settings_sound d k _
limited_sound d k (Some n) = settings_sound d k _

-- a sound record is sound after any call
pub next_sound : (es ps : List ℕ) (d : TagDecoder) → Sound d → (c : Call) → Octets (lent c) → Sound (next es ps d c)
next_sound es ps d k (decoding s) byte = decode_sound es ps d k s byte
next_sound es ps d k (ending s) byte = exit_sound es ps d k s byte (eof_exits es ps d s)
next_sound es ps d k (recovering s) byte = recover_sound es ps d k s
next_sound es ps d k (allow ids hierarchy oversized) byte = settings_sound d k _
next_sound es ps d k (strictly b) byte = settings_sound d k _
next_sound es ps d k (limit n) byte = limited_sound d k n
