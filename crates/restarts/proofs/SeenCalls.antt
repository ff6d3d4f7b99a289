-- A call on a record and the same call on what is compared of it tell and leave the same, as far as it is compared: so
-- of `decode`, of the end of input, of a recovery and of each setting. Assumes nothing.
use Prim.Native.Nat.{ℕ, suc, ◌+◌, ◌<◌}
use mathlib.Core.Path.{◌≡◌, refl, sym, ap, ◌∙◌}
use mathlib.Core.Bool.{true, false, cond, ◌&&◌, true≢false, false≢true}
use mathlib.Core.List.{List}
use native.Mathlib.Omega.{arith}
use lib.ListN.{length, get_or, drop}
use lib.Seq.{get_or-take}
use Rattle.basics.specs.Lists.{first_index}
use Rattle.basics.proofs.Least.{least_same}
use Rattle.basics.proofs.Maps.{map_at, first_mapped}
use Rattle.tools.specs.Bytes.{Octets}
use Rattle.table.specs.Table.{Entry, table_of}
use Rattle.spec_util.specs.Walk.{no_tag}
use Rattle.spec_util.specs.declared.types.OpenTag.{OpenTag}
use Rattle.tag_parse.specs.Header.{read_header}
use Rattle.tag_parse.specs.declared.types.TagHeader.{TagHeader}
use Rattle.decoder_rules.specs.Record.{opens, with_settings, with_notes, at_position}
use Rattle.decoder_rules.specs.OneCall.{check_record10to12, step6, step7, noted, valid_header}
use Rattle.decoder_rules.specs.Deciding.{decide}
use Rattle.decoder_rules.specs.Moving.{gives, refuse, move, apply, decode}
use Rattle.decoder_rules.specs.EndOfInput.{is_cut, cut_master, cut_bytes, end_of_input, decode_eof}
use Rattle.decoder_rules.specs.Recovery.{try_recover}
use Rattle.decoder_rules.specs.FirstPlace.{note_before, record_on, record_at, passes, Standing, Incomplete, Valid, Other, standing, stands_at, is_header, first_place, recovered_at}
use Rattle.decoder_rules.specs.Settings.{with_allowances, with_strict, with_greatest, limited_to}
use Rattle.decoder_rules.specs.declared.types.Action.TheVariants as act
use Rattle.decoder_rules.specs.declared.types.Answer.{Answer}
use Rattle.decoder_rules.specs.declared.types.Answer.TheVariants as answer
use Rattle.decoder_rules.specs.declared.types.Decision.{Decision}
use Rattle.decoder_rules.specs.declared.types.Decoded.{Decoded}
use Rattle.decoder_rules.specs.declared.types.DecodeError.{DecodeError}
use Rattle.decoder_rules.specs.declared.types.DecodeError.TheVariants as error
use Rattle.decoder_rules.specs.declared.types.Recovered.{Recovered}
use Rattle.decoder_rules.specs.declared.types.Search.TheVariants as search
use Rattle.decoder_rules.specs.declared.types.Settings.{Settings}
use Rattle.decoder_rules.specs.declared.types.TagDecoder.{TagDecoder}
use Rattle.decoder_rules.proofs.EndExits as end
use Rattle.decoder_rules.proofs.EndExits.{first_cut, cut_tag, ending as atEnd, NoneCut, EndExit, end_exits, end_answers, is_quiet, EofExit, eof_exits}
use Rattle.decoder_rules.proofs.Exits.{exits}
use Rattle.decoder_rules.proofs.FirstPlace.{recovery_is_first, first_is_least}
use Rattle.decoder_rules.proofs.GoodState.{passed12}
use Rattle.decoder_rules.proofs.MoveLaws.{with_note}
use Rattle.decoder_move.specs.Applies.{ActionApplies}
use Rattle.decoder_move.proofs.DecisionApplies.{decide_applies}
use Rattle.guarantees.specs.Calls.{Call, decoding, ending, recovering, allow, strictly, limit, lent, answered, searched, response_to, next}
use Rattle.guarantees.proofs.Notes.{search_note_or, note_of}
use Rattle.restarts.specs.Comparing.{Extent, seen_master, Sound, seen_record, seen_answer, seen_response}
use Rattle.restarts.proofs.SeenDecision.{Full, sound_good, sound_full, by_opens, seen-opens, check_seen, masters_seen, valid_seen, noted-seen, noted_full, decide-seen}
use Rattle.restarts.proofs.SeenMoves.{no_master_lem, seen_twice, sizes_seen, seen_decoded, move_seen}
use Rattle.restarts.proofs.SoundCalls.{exit_takes, notes_sound, with_note_sound, on_sound}
use Rattle.std.specs.Prelude.{Err, None, Ok, Option, Result, Some, ⊤}
use Rattle.tag_parse.specs.declared.types.ParseError.{ParseError}
use Rattle.table.specs.declared.types.Path.{Path}
use Rattle.decoder_rules.specs.declared.types.Refusal.{Refusal}
use Rattle.tools.specs.declared.status.Status.{Status}
use Rattle.tools.specs.declared.status.Status.TheVariants as status

module _ (x : Extent) where
  -- ---- decode

  module _ (es ps : List ℕ) (d : TagDecoder) (k : Sound d) (s : List ℕ) (byte : Octets s) where
    with_note_seen : with_note es ps (seen_record x d) s ≡ seen_record x (with_note es ps d s)
    with_note_seen = ap (λ (b : Decision). noted ps (seen_record x d) b.note) (decide-seen x es ps d k s) ∙ noted-seen x ps d (decide es ps d s).note

    -- a call of `decode`
    pub decode_seen : seen_decoded x (decode es ps (seen_record x d) s) ≡ seen_decoded x (decode es ps d s)
    unfolding apply
    decode_seen =
        let a = decide es ps d s in
        ap (λ (b : Decision). seen_decoded x (move (noted ps (seen_record x d) b.note) b.action)) (decide-seen x es ps d k s)
        ∙ ap (λ (e : TagDecoder). seen_decoded x (move e a.action)) (noted-seen x ps d a.note)
        ∙ move_seen x (with_note es ps d s) (with_note_sound es ps d k s byte) (length s) a.action (decide_applies es ps d s byte).action (exit_takes es ps d s byte (exits es ps d s))

  -- ---- the end of input

  module _ (t : List Entry) (d : TagDecoder) (k : Sound d) (s : List ℕ) where
    abbrev e : TagDecoder
    e = seen_record x d

    cut_seen : first_cut e ≡ first_cut d
    unfolding seen_record
    cut_seen =
        let test = is_cut d.position in
        by_opens x d (sound_full d k) (first_index test) (first_mapped (seen_master x) test test (λ m. unfold is_cut seen_master in refl))

    tag_seen : first_cut d < d.open_count → cut_tag e ≡ seen_master x (cut_tag d)
    tag_seen l =
        let i = first_cut d in
        let h : i < e.open_count = unfold seen_record in l in
        ap (λ (j : ℕ). get_or e.«open» j no_tag) cut_seen
        ∙ sym (get_or-take e.open_count e.«open» i no_tag h)
        ∙ ap (λ (o : List OpenTag). get_or o i no_tag) (seen-opens x d (sound_full d k))
        ∙ map_at (seen_master x) no_tag (no_master_lem x) (opens d) i
        ∙ ap (seen_master x) (get_or-take d.open_count d.«open» i no_tag l)

    none_cut_seen : NoneCut d s → NoneCut e s
    none_cut_seen n = record { no_byte = n.no_byte; none_cut = rw cut_seen (unfold seen_record in n.none_cut) }

    by_exit : {r q : Decoded} → EndExit t e s r → seen_decoded x r ≡ q → seen_decoded x (end_of_input t e s) ≡ q
    by_exit z h = ap (seen_decoded x) (sym (end_answers t e s z)) ∙ h

    refused_seen : (y : DecodeError) (p : ℕ) → seen_decoded x (refuse y p e) ≡ seen_decoded x (refuse y p d)
    refused_seen y p = ap (λ (b : TagDecoder). refuse y p b) (seen_twice x d k)

    ending-seen : atEnd e ≡ seen_record x (atEnd d)
    unfolding seen_record with_notes
    ending-seen = refl

    ending_sound : Sound (atEnd d)
    ending_sound = notes_sound d k d.position d.settled true (omega arith) (sound_good d k).place

    finishes-seen : seen_decoded x (gives (Ok answer.Finished) 0 (atEnd e)) ≡ seen_decoded x (gives (Ok answer.Finished) 0 (atEnd d))
    finishes-seen = ap (λ (b : TagDecoder). gives (Ok answer.Finished) 0 (seen_record x b)) ending-seen ∙ ap (λ (b : TagDecoder). gives (Ok answer.Finished) 0 b) (seen_twice x (atEnd d) ending_sound)

    closes_fits : 0 < d.open_count → ActionApplies (atEnd d) 0 (Ok (act.Close 0))
    unfolding ActionApplies with_notes
    closes_fits l = (l, (sound_good d k).open_count)

    closes_seen : 0 < d.open_count → seen_decoded x (move (atEnd e) (Ok (act.Close 0))) ≡ seen_decoded x (move (atEnd d) (Ok (act.Close 0)))
    closes_seen l = ap (λ (b : TagDecoder). seen_decoded x (move b (Ok (act.Close 0)))) ending-seen ∙ move_seen x (atEnd d) ending_sound 0 (Ok (act.Close 0)) (closes_fits l) tt

    exit_seen : {r : Decoded} → EndExit t d s r → seen_decoded x (end_of_input t e s) ≡ seen_decoded x r
    exit_seen (end.bytes_left l) = by_exit (end.bytes_left l) (unfold seen_record in refused_seen (error.UnexpectedEOF (cut_bytes d.position s)) d.position)
    exit_seen (end.master_cut z l) =
        by_exit (end.master_cut z (rw cut_seen (unfold seen_record in l)))
        (ap (λ (m : OpenTag). seen_decoded x (refuse (error.UnexpectedEOF (cut_master m)) m.tag_start e)) (tag_seen l)
        ∙ (unfold seen_master in refused_seen (error.UnexpectedEOF (cut_master (cut_tag d))) (cut_tag d).tag_start))
    exit_seen (end.no_master_lem n m) = by_exit (end.no_master_lem (none_cut_seen n) (masters_seen x t d (sound_full d k) 0 ∙ m)) (unfold seen_record in refused_seen error.NotAMaster d.position)
    exit_seen (end.finishes n m z) = by_exit (end.finishes (none_cut_seen n) (masters_seen x t d (sound_full d k) 0 ∙ m) (unfold seen_record in z)) finishes-seen
    exit_seen (end.closes_all n m l) = by_exit (end.closes_all (none_cut_seen n) (masters_seen x t d (sound_full d k) 0 ∙ m) (unfold seen_record in l)) (closes_seen l)

    -- where no event is due before it
    pub end_seen : seen_decoded x (end_of_input t e s) ≡ seen_decoded x (end_of_input t d s)
    end_seen = exit_seen (end_exits t d s)

  quiet_seen : (a : Result Answer Refusal) → is_quiet (seen_answer x a) ≡ is_quiet a
  quiet_seen (Ok (answer.Event y)) = refl
  quiet_seen (Ok (answer.NeedMore missing)) = refl
  quiet_seen (Ok answer.Finished) = refl
  quiet_seen (Err r) = refl

  module _ (es ps : List ℕ) (d : TagDecoder) (k : Sound d) (s : List ℕ) (byte : Octets s) where
    quiet_alike : is_quiet (decode es ps (seen_record x d) s).answer ≡ is_quiet (decode es ps d s).answer
    quiet_alike =
        sym (quiet_seen (decode es ps (seen_record x d) s).answer)
        ∙ ap (λ (r : Decoded). is_quiet r.answer) (decode_seen es ps d k s byte)
        ∙ quiet_seen (decode es ps d s).answer

    ended-seen : {r q : Decoded} → EndExit (table_of es ps) (with_note es ps (seen_record x d) s) s r → EndExit (table_of es ps) (with_note es ps d s) s q → seen_decoded x r ≡ seen_decoded x q
    ended-seen z w =
        let t = table_of es ps in
        ap (seen_decoded x) (end_answers t (with_note es ps (seen_record x d) s) s z ∙ ap (λ (b : TagDecoder). end_of_input t b s) (with_note_seen es ps d k s byte))
        ∙ exit_seen t (with_note es ps d s) (with_note_sound es ps d k s byte) s w

    both_seen : {r q : Decoded} → EofExit es ps (seen_record x d) s r → EofExit es ps d s q → seen_decoded x r ≡ seen_decoded x q
    both_seen (end.as_decoded u) (end.as_decoded v) = decode_seen es ps d k s byte
    both_seen (end.as_decoded u) (end.at_end v w) = absurd (false≢true (sym u ∙ quiet_alike ∙ v))
    both_seen (end.at_end u z) (end.as_decoded v) = absurd (true≢false (sym u ∙ quiet_alike ∙ v))
    both_seen (end.at_end u z) (end.at_end v w) = ended-seen z w

    -- a call at the end of input
    pub eof_seen : seen_decoded x (decode_eof es ps (seen_record x d) s) ≡ seen_decoded x (decode_eof es ps d s)
    eof_seen = both_seen (eof_exits es ps (seen_record x d) s) (eof_exits es ps d s)

  -- ---- a recovery

  module _ (ps : List ℕ) (t : List Entry) where
    header_seen : (d : TagDecoder) → Full d → (h : TagHeader) (n : Option Path) → valid_header t (noted ps (seen_record x d) n) h ≡ valid_header t (noted ps d n) h
    header_seen d k h n = ap (λ (b : TagDecoder). valid_header t b h) (noted-seen x ps d n) ∙ valid_seen x t (noted ps d n) (noted_full ps d k n) h

    standing-seen : (d : TagDecoder) → Full d → (r : Result (Status TagHeader) ParseError) → standing ps t (seen_record x d) r ≡ standing ps t d r
    unfolding seen_record
    standing-seen d k (Ok (status.NeedMore missing)) = refl
    standing-seen d k (Err y) = refl
    standing-seen d k (Ok (status.Complete h)) = ap (λ (c : Result ⊤ DecodeError). cond (step6 d h && passes c) Valid Other) (header_seen d k h (step7 t d h))

    module _ (d : TagDecoder) (k : Sound d) (s : List ℕ) where
      on_seen : (n i : ℕ) → record_on ps t (seen_record x d) s n i ≡ seen_record x (record_on ps t d s n i)
      unfolding record_on note_before with_notes seen_record
      on_seen n i = ap (λ (b : TagDecoder). at_position b (d.position + i)) (noted-seen x ps d (note_before t d s n))

      on_full : (n i : ℕ) → Full (record_on ps t d s n i)
      on_full n i =
          let f = noted_full ps d (sound_full d k) (note_before t d s n) in
          unfold record_on with_notes in record { masters = f.masters; ends = f.ends }

      stands_seen : (i : ℕ) → stands_at ps t (seen_record x d) s i ≡ stands_at ps t d s i
      unfolding stands_at
      stands_seen i =
          ap (λ (b : TagDecoder). standing ps t b (read_header t (drop i s))) (on_seen i i) ∙ standing-seen (record_at ps t d s i) (on_full i i) (read_header t (drop i s))

      place_seen : first_place ps t (seen_record x d) s ≡ first_place ps t d s
      unfolding first_place
      place_seen =
          least_same (λ i. is_header (stands_at ps t (seen_record x d) s i)) (λ i. is_header (stands_at ps t d s i)) (λ i. ap is_header (stands_seen i)) (length s)

  -- what is compared of what a recovery gives
  abbrev pub seen_recovered : Recovered → Recovered
  seen_recovered r = record { answer = r.answer; taken = r.taken; state = seen_record x r.state }

  found-seen : (y : Standing) (n : ℕ) (d : TagDecoder) → Sound d → seen_recovered (recovered_at y n (seen_record x d)) ≡ seen_recovered (recovered_at y n d)
  found-seen Incomplete n d k = ap (λ (b : TagDecoder). record { answer = Ok (search.NotFound n); taken = n; state = b }) (seen_twice x d k)
  found-seen Valid n d k = ap (λ (b : TagDecoder). record { answer = Ok (search.Found n); taken = n; state = b }) (sizes_seen x d k n)
  found-seen Other n d k = ap (λ (b : TagDecoder). record { answer = Ok (search.NotFound n); taken = n; state = b }) (seen_twice x d k)

  -- what a recovery that the first tests refuse gives
  abbrev refused_by : DecodeError → ℕ → TagDecoder → Recovered
  refused_by y p d = record { answer = Err (record { error = y; place = p }); taken = 0; state = d }

  refused_by_lem : (es ps : List ℕ) (d : TagDecoder) (s : List ℕ) (y : DecodeError) → check_record10to12 es ps d (length s) ≡ Err y → try_recover es ps d s ≡ refused_by y d.position d
  unfolding try_recover
  refused_by_lem es ps d s y q = rw q

  still_refused : (d : TagDecoder) → Sound d → (y : DecodeError) → seen_recovered (refused_by y (seen_record x d).position (seen_record x d)) ≡ seen_recovered (refused_by y d.position d)
  unfolding seen_record
  still_refused d k y = ap (λ (b : TagDecoder). refused_by y d.position b) (seen_twice x d k)

  module _ (es ps : List ℕ) (d : TagDecoder) (k : Sound d) (s : List ℕ) where
    -- a recovery
    pub recover_seen : seen_recovered (try_recover es ps (seen_record x d) s) ≡ seen_recovered (try_recover es ps d s)
    recover_seen = go (check_record10to12 es ps d (length s)) refl
      where
        t : List Entry
        t = table_of es ps

        i : ℕ
        i = first_place ps t d s

        go : (c : Result ⊤ DecodeError) → check_record10to12 es ps d (length s) ≡ c → seen_recovered (try_recover es ps (seen_record x d) s) ≡ seen_recovered (try_recover es ps d s)
        go (Ok _) q =
            ap seen_recovered (recovery_is_first es ps (seen_record x d) s (check_seen x es ps d k (length s) ∙ q))
            ∙ ap (λ (j : ℕ). seen_recovered (recovered_at (stands_at ps t (seen_record x d) s j) j (record_on ps t (seen_record x d) s (suc j) j))) (place_seen ps t d k s)
            ∙ ap (λ (y : Standing). seen_recovered (recovered_at y i (record_on ps t (seen_record x d) s (suc i) i))) (stands_seen ps t d k s i)
            ∙ ap (λ (b : TagDecoder). seen_recovered (recovered_at (stands_at ps t d s i) i b)) (on_seen ps t d k s (suc i) i)
            ∙ found-seen (stands_at ps t d s i) i (record_on ps t d s (suc i) i) (on_sound es ps d k s (passed12 es ps d (length s) q) (suc i) i (first_is_least es ps d s).within)
            ∙ sym (ap seen_recovered (recovery_is_first es ps d s q))
        go (Err y) q =
            ap seen_recovered (refused_by_lem es ps (seen_record x d) s y (check_seen x es ps d k (length s) ∙ q))
            ∙ still_refused d k y
            ∙ sym (ap seen_recovered (refused_by_lem es ps d s y q))

  -- ---- any call

  -- a setting
  set-seen : (d : TagDecoder) → Sound d → (z : Settings) → seen_record x (with_settings (seen_record x d) z) ≡ seen_record x (with_settings d z)
  unfolding with_settings seen_record
  set-seen d k z = ap (λ (b : TagDecoder). with_settings b z) (seen_twice x d k)

  limited_seen : (d : TagDecoder) → Sound d → (n : Option ℕ) → seen_record x (limited_to (seen_record x d) n) ≡ seen_record x (limited_to d n)
  unfolding seen_record
  limited_seen d k None = set-seen d k (with_greatest d.settings false 0)
  limited_seen d k (Some n) = set-seen d k (with_greatest d.settings true n)

  module _ (es ps : List ℕ) (d : TagDecoder) (k : Sound d) where
    -- what any call tells is the same, as far as it is compared
    pub told-seen : (c : Call) → Octets (lent c) → seen_response x (response_to es ps (seen_record x d) c) ≡ seen_response x (response_to es ps d c)
    told-seen (decoding s) byte = ap (λ (r : Decoded). answered r.answer r.taken) (decode_seen es ps d k s byte)
    told-seen (ending s) byte = ap (λ (r : Decoded). answered r.answer r.taken) (eof_seen es ps d k s byte)
    told-seen (recovering s) byte = ap (λ (r : Recovered). searched r.answer r.taken) (recover_seen es ps d k s)
    told-seen (allow ids hierarchy oversized) byte = refl
    told-seen (strictly b) byte = refl
    told-seen (limit n) byte = refl

    -- and so is the record that it leaves
    pub next_seen : (c : Call) → Octets (lent c) → seen_record x (next es ps (seen_record x d) c) ≡ seen_record x (next es ps d c)
    next_seen (decoding s) byte = ap (λ (r : Decoded). r.state) (decode_seen es ps d k s byte)
    next_seen (ending s) byte = ap (λ (r : Decoded). r.state) (eof_seen es ps d k s byte)
    next_seen (recovering s) byte = ap (λ (r : Recovered). r.state) (recover_seen es ps d k s)
    next_seen (allow ids hierarchy oversized) byte = unfold seen_record in set-seen d k (with_allowances d.settings ids hierarchy oversized)
    next_seen (strictly b) byte = unfold seen_record in set-seen d k (with_strict d.settings b)
    next_seen (limit n) byte = limited_seen d k n

    search_note_lem : (s : List ℕ) (c : Result ⊤ DecodeError) → search_note_or ps (table_of es ps) (seen_record x d) s c ≡ search_note_or ps (table_of es ps) d s c
    unfolding note_before seen_record
    search_note_lem s (Ok _) = ap (λ (i : ℕ). note_before (table_of es ps) d s (suc i)) (place_seen ps (table_of es ps) d k s)
    search_note_lem s (Err y) = refl

    -- and so is the note
    pub note_seen : (c : Call) → note_of es ps (seen_record x d) c ≡ note_of es ps d c
    note_seen (decoding s) = ap (λ (a : Decision). a.note) (decide-seen x es ps d k s)
    note_seen (ending s) = ap (λ (a : Decision). a.note) (decide-seen x es ps d k s)
    note_seen (recovering s) =
        ap (search_note_or ps (table_of es ps) (seen_record x d) s) (check_seen x es ps d k (length s)) ∙ search_note_lem s (check_record10to12 es ps d (length s))
    note_seen (allow ids hierarchy oversized) = refl
    note_seen (strictly b) = refl
    note_seen (limit n) = refl
