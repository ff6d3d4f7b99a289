-- What the note and the move keep of the record, what an answer says of the move that gave it, and the same of one
-- call. Assumes nothing.
use Prim.Native.Nat.{ℕ, ◌+◌}
use mathlib.Core.Path.{◌≡◌, refl, ap, ◌∙◌}
use mathlib.Core.Bool.{Bool, true, false, ◌||◌, false≢true}
use mathlib.Core.List.{List}
use native.Mathlib.Omega.{arith}
use Rattle.table.specs.Table.{parts_of, parts_in}
use Rattle.decoder_rules.specs.Record.{with_open, with_waiting, with_notes, counted, opened, closed_to, handed_out, waits}
use Rattle.decoder_rules.specs.OneCall.{is_settle, noted}
use Rattle.decoder_rules.specs.Deciding.{decide, action_needs_more, action_missing}
use Rattle.decoder_rules.specs.Moving.{needs_more, missing_in, move, apply, decode}
use Rattle.decoder_rules.specs.declared.types.Action.{Action}
use Rattle.decoder_rules.specs.declared.types.Action.TheVariants as act
use Rattle.decoder_rules.specs.declared.types.Answer.{Answer}
use Rattle.decoder_rules.specs.declared.types.Answer.TheVariants as answer
use Rattle.decoder_rules.specs.declared.types.Decoded.{Decoded}
use Rattle.decoder_rules.specs.declared.types.Event.TheVariants.{End}
use Rattle.decoder_rules.specs.declared.types.Refusal.{Refusal}
use Rattle.decoder_rules.specs.declared.types.TagDecoder.{TagDecoder}
use Rattle.decoder_rules.specs.declared.types.WaitingEnd.{WaitingEnd}
use Rattle.basics.proofs.Bools.{absurd_eq, or_none, or_some}
use Rattle.decoder_rules.proofs.MoveEffects.{SameSettings, settled_settings, settled_position, settled_settled, settled_finished, settled_waits, settled_waiting_count}
use Rattle.std.specs.Prelude.{Err, None, Ok, Option, Result, Some}
use Rattle.decoder_rules.specs.declared.types.DecodeError.{DecodeError}
use Rattle.table.specs.declared.types.Path.{Path}

-- ---- the note

module _ (ps : List ℕ) (d : TagDecoder) where
  -- the note keeps the settings
  pub noted_settings : (n : Option Path) → SameSettings d (noted ps d n)
  unfolding noted
  noted_settings None = refl
  noted_settings (Some path) = settled_settings d (parts_in (parts_of ps) path)

  -- the note keeps the position
  pub noted-position : (n : Option Path) → (noted ps d n).position ≡ d.position
  unfolding noted
  noted-position None = refl
  noted-position (Some path) = settled_position d (parts_in (parts_of ps) path)

  -- the note is no finish
  pub noted_finished : (n : Option Path) → (noted ps d n).finished ≡ d.finished
  unfolding noted
  noted_finished None = refl
  noted_finished (Some path) = settled_finished d (parts_in (parts_of ps) path)

  -- the note keeps the count of the Ends that wait
  pub noted_waiting_count : (n : Option Path) → (noted ps d n).waiting_count ≡ d.waiting_count
  unfolding noted
  noted_waiting_count None = refl
  noted_waiting_count (Some path) = settled_waiting_count d (parts_in (parts_of ps) path)

  -- the note keeps the Ends that wait
  pub noted-waits : (n : Option Path) → waits (noted ps d n) ≡ waits d
  unfolding noted
  noted-waits None = refl
  noted-waits (Some path) = settled_waits d (parts_in (parts_of ps) path)

  -- the record is settled after the note where it was before, or where the note settles
  pub noted_settled : (n : Option Path) → (noted ps d n).settled ≡ (d.settled || is_settle n)
  unfolding noted
  noted_settled None = or_none d.settled
  noted_settled (Some path) = settled_settled d (parts_in (parts_of ps) path) ∙ or_some d.settled

-- ---- a move

module _ (d : TagDecoder) where
  -- a move keeps the settings
  pub move_settings : (a : Result Action DecodeError) → SameSettings d (move d a).state
  unfolding move with_open with_waiting with_notes counted opened closed_to handed_out
  move_settings (Err e) = refl
  move_settings (Ok (act.NeedMore missing)) = refl
  move_settings (Ok act.Finish) = refl
  move_settings (Ok act.HandOut) = refl
  move_settings (Ok (act.Close k)) = refl
  move_settings (Ok (act.Start x z len)) = refl
  move_settings (Ok (act.Data x v n)) = refl

  -- a move is no finish
  pub move_finished : (a : Result Action DecodeError) → (move d a).state.finished ≡ d.finished
  unfolding move with_open with_waiting with_notes counted opened closed_to handed_out
  move_finished (Err e) = refl
  move_finished (Ok (act.NeedMore missing)) = refl
  move_finished (Ok act.Finish) = refl
  move_finished (Ok act.HandOut) = refl
  move_finished (Ok (act.Close k)) = refl
  move_finished (Ok (act.Start x z len)) = refl
  move_finished (Ok (act.Data x v n)) = refl

  -- a move does not settle
  pub move_settled : (a : Result Action DecodeError) → (move d a).state.settled ≡ d.settled
  unfolding move with_open with_waiting with_notes counted opened closed_to handed_out
  move_settled (Err e) = refl
  move_settled (Ok (act.NeedMore missing)) = refl
  move_settled (Ok act.Finish) = refl
  move_settled (Ok act.HandOut) = refl
  move_settled (Ok (act.Close k)) = refl
  move_settled (Ok (act.Start x z len)) = refl
  move_settled (Ok (act.Data x v n)) = refl

  -- the position moves by what is taken
  pub move-position : (a : Result Action DecodeError) → (move d a).state.position ≡ d.position + (move d a).taken
  unfolding move with_open with_waiting with_notes counted opened closed_to handed_out
  move-position (Err e) = omega arith
  move-position (Ok (act.NeedMore missing)) = omega arith
  move-position (Ok act.Finish) = omega arith
  move-position (Ok act.HandOut) = omega arith
  move-position (Ok (act.Close k)) = omega arith
  move-position (Ok (act.Start x z len)) = refl
  move-position (Ok (act.Data x v n)) = refl

  -- ---- what the answer says of the move

  -- a move asks for more where that was decided
  pub move_needs_more : (a : Result Action DecodeError) → needs_more (move d a).answer ≡ action_needs_more a
  unfolding move
  move_needs_more (Err e) = refl
  move_needs_more (Ok (act.NeedMore missing)) = refl
  move_needs_more (Ok act.Finish) = refl
  move_needs_more (Ok act.HandOut) = refl
  move_needs_more (Ok (act.Close k)) = refl
  move_needs_more (Ok (act.Start x z len)) = refl
  move_needs_more (Ok (act.Data x v n)) = refl

  -- and for as many bytes
  pub move_missing : (a : Result Action DecodeError) → missing_in (move d a).answer ≡ action_missing a
  unfolding move
  move_missing (Err e) = refl
  move_missing (Ok (act.NeedMore missing)) = refl
  move_missing (Ok act.Finish) = refl
  move_missing (Ok act.HandOut) = refl
  move_missing (Ok (act.Close k)) = refl
  move_missing (Ok (act.Start x z len)) = refl
  move_missing (Ok (act.Data x v n)) = refl

-- the record stays as it is, and nothing is taken
pub record Stays (d : TagDecoder) (r : Decoded) : Type 0 where
  pub same : r.state ≡ d
  pub none : r.taken ≡ 0

-- an answer that hands nothing over: more is needed, or it is finished, or it is refused
abbrev pub is_no_event : Result Answer Refusal → Bool
is_no_event (Ok (answer.Event e)) = false
is_no_event (Ok (answer.NeedMore missing)) = true
is_no_event (Ok answer.Finished) = true
is_no_event (Err r) = true

module _ (d : TagDecoder) where
  -- a move with no event gives the record back and takes nothing
  pub no_event_stays : (a : Result Action DecodeError) → is_no_event (move d a).answer ≡ true → Stays d (move d a)
  unfolding move
  no_event_stays (Err e) q = record { same = refl; none = refl }
  no_event_stays (Ok (act.NeedMore missing)) q = record { same = refl; none = refl }
  no_event_stays (Ok act.Finish) q = record { same = refl; none = refl }
  no_event_stays (Ok act.HandOut) q = absurd (false≢true q)
  no_event_stays (Ok (act.Close k)) q = absurd (false≢true q)
  no_event_stays (Ok (act.Start x z len)) q = absurd (false≢true q)
  no_event_stays (Ok (act.Data x v n)) q = absurd (false≢true q)

  -- so does one that asks for more
  pub more_stays : (a : Result Action DecodeError) → needs_more (move d a).answer ≡ true → Stays d (move d a)
  more_stays a q = no_event_stays a (by (move d a).answer q)
    where
      by : (b : Result Answer Refusal) → needs_more b ≡ true → is_no_event b ≡ true
      by (Ok (answer.Event e)) f = f
      by (Ok (answer.NeedMore missing)) f = refl
      by (Ok answer.Finished) f = refl
      by (Err r) f = refl

  -- a refusal
  pub refusal_stays : (a : Result Action DecodeError) {r : Refusal} → (move d a).answer ≡ Err r → Stays d (move d a)
  refusal_stays a q = no_event_stays a (ap is_no_event q)

  -- and the answer that it is finished
  pub finished_stays : (a : Result Action DecodeError) → (move d a).answer ≡ Ok answer.Finished → Stays d (move d a)
  finished_stays a q = no_event_stays a (ap is_no_event q)

  -- the finish is answered only where it was decided
  pub finished_by : (a : Result Action DecodeError) → (move d a).answer ≡ Ok answer.Finished → a ≡ Ok act.Finish
  unfolding move
  finished_by (Err e) q = let z : ◌≡◌ {A = ℕ} 0 1 = cc in absurd_eq z
  finished_by (Ok (act.NeedMore missing)) q = let z : ◌≡◌ {A = ℕ} 0 1 = cc in absurd_eq z
  finished_by (Ok act.Finish) q = refl
  finished_by (Ok act.HandOut) q = let z : ◌≡◌ {A = ℕ} 0 1 = cc in absurd_eq z
  finished_by (Ok (act.Close k)) q = let z : ◌≡◌ {A = ℕ} 0 1 = cc in absurd_eq z
  finished_by (Ok (act.Start x y len)) q = let z : ◌≡◌ {A = ℕ} 0 1 = cc in absurd_eq z
  finished_by (Ok (act.Data x v n)) q = let z : ◌≡◌ {A = ℕ} 0 1 = cc in absurd_eq z

  -- an End takes nothing
  pub end_takes_none : (a : Result Action DecodeError) {end : WaitingEnd} → (move d a).answer ≡ Ok (answer.Event (End end)) → (move d a).taken ≡ 0
  unfolding move
  end_takes_none (Err e) q = refl
  end_takes_none (Ok (act.NeedMore missing)) q = refl
  end_takes_none (Ok act.Finish) q = refl
  end_takes_none (Ok act.HandOut) q = refl
  end_takes_none (Ok (act.Close k)) q = refl
  end_takes_none (Ok (act.Start x y len)) q = let z : ◌≡◌ {A = ℕ} 0 1 = cc in absurd_eq z
  end_takes_none (Ok (act.Data x v n)) q = let z : ◌≡◌ {A = ℕ} 0 1 = cc in absurd_eq z

-- ---- one call

module _ (es ps : List ℕ) (d : TagDecoder) (s : List ℕ) where
  -- the record with the note of this call
  abbrev pub with_note : TagDecoder
  with_note = noted ps d (decide es ps d s).note

  -- a call keeps the settings
  pub decode_settings : SameSettings d (decode es ps d s).state
  unfolding apply
  decode_settings =
      let n = noted_settings ps d (decide es ps d s).note in
      let m = move_settings with_note (decide es ps d s).action in
      m ∙ n

  -- a call is no finish
  pub decode_finished : (decode es ps d s).state.finished ≡ d.finished
  unfolding apply
  decode_finished = move_finished with_note (decide es ps d s).action ∙ noted_finished ps d (decide es ps d s).note

  -- the record is settled after a call where it was before, or where the note settles
  pub decode_settled : (decode es ps d s).state.settled ≡ (d.settled || is_settle (decide es ps d s).note)
  unfolding apply
  decode_settled = move_settled with_note (decide es ps d s).action ∙ noted_settled ps d (decide es ps d s).note

  -- the position moves by what was taken
  pub decode_position : (decode es ps d s).state.position ≡ d.position + (decode es ps d s).taken
  unfolding apply
  decode_position = move-position with_note (decide es ps d s).action ∙ ap (λ (p : ℕ). p + (decode es ps d s).taken) (noted-position ps d (decide es ps d s).note)

  -- a call asks for more where that was decided
  pub decode_needs_more : needs_more (decode es ps d s).answer ≡ action_needs_more (decide es ps d s).action
  unfolding apply
  decode_needs_more = move_needs_more with_note (decide es ps d s).action

  -- and for as many bytes
  pub decode_missing_decided : missing_in (decode es ps d s).answer ≡ action_missing (decide es ps d s).action
  unfolding apply
  decode_missing_decided = move_missing with_note (decide es ps d s).action

  -- a call with no event changes at most the settling note, and takes nothing
  pub decode_stays : is_no_event (decode es ps d s).answer ≡ true → Stays with_note (decode es ps d s)
  unfolding apply
  decode_stays q = no_event_stays with_note (decide es ps d s).action q

  -- so does one that asks for more
  pub decode_more_stays : needs_more (decode es ps d s).answer ≡ true → Stays with_note (decode es ps d s)
  unfolding apply
  decode_more_stays q = more_stays with_note (decide es ps d s).action q
