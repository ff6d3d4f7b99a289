-- Once a call is decided, what is moved and answered does not ask for the mode: on the record in another mode the same
-- is answered and taken, and the record that is left is in that mode. And no call changes the settings. Assumes
-- nothing.
use Prim.Native.Nat.{ℕ}
use mathlib.Core.Path.{◌≡◌, refl, sym, ◌∙◌}
use mathlib.Core.Bool.{Bool}
use mathlib.Core.List.{List}
use Rattle.table.specs.Table.{Entry}
use Rattle.decoder_rules.specs.Deciding.{decide}
use Rattle.decoder_rules.specs.EndOfInput.{end_of_input, ended_or, decode_eof}
use Rattle.decoder_rules.specs.Moving.{gives, move, apply, decode}
use Rattle.decoder_rules.specs.OneCall.{noted}
use Rattle.decoder_rules.specs.Record.{ends_from, with_settings, with_open, with_waiting, with_notes, settled_to, opened, closed_to, handed_out, counted}
use Rattle.decoder_rules.specs.Settings.{reading}
use Rattle.decoder_rules.specs.declared.types.Action.{Action}
use Rattle.decoder_rules.specs.declared.types.Action.TheVariants as act
use Rattle.decoder_rules.specs.declared.types.Answer.{Answer}
use Rattle.decoder_rules.specs.declared.types.Answer.TheVariants as answer
use Rattle.decoder_rules.specs.declared.types.Decoded.{Decoded}
use Rattle.decoder_rules.specs.declared.types.TagDecoder.{TagDecoder}
use Rattle.decoder_rules.proofs.EndExits.{NoneCut, EndExit, bytes_left, master_cut, no_master_lem, finishes, closes_all, end_exits, end_answers, EofExit, as_decoded, at_end, eof_exits}
use Rattle.decoder_rules.proofs.MoveEffects.{SameSettings}
use Rattle.decoder_rules.proofs.MoveLaws.{noted_settings, move_settings}
use Rattle.std.specs.Prelude.{Err, None, Ok, Option, Result, Some}
use Rattle.decoder_rules.specs.declared.types.DecodeError.{DecodeError}
use Rattle.table.specs.declared.types.Path.{Path}
use Rattle.decoder_rules.specs.declared.types.Refusal.{Refusal}

-- the same with the record in a mode
abbrev pub in_mode : Bool → Decoded → Decoded
in_mode b r = gives r.answer r.taken (reading r.state b)

module _ (d : TagDecoder) (b : Bool) where
  -- the note
  pub noted_mode : (ps : List ℕ) (n : Option Path) → noted ps (reading d b) n ≡ reading (noted ps d n) b
  unfolding noted settled_to with_open with_notes with_settings
  noted_mode ps None = refl
  noted_mode ps (Some path) = refl

  -- the move
  pub move_mode : (a : Result Action DecodeError) → move (reading d b) a ≡ in_mode b (move d a)
  unfolding move with_open with_waiting with_notes with_settings counted opened closed_to handed_out ends_from
  move_mode (Err e) = refl
  move_mode (Ok (act.NeedMore missing)) = refl
  move_mode (Ok act.Finish) = refl
  move_mode (Ok act.HandOut) = refl
  move_mode (Ok (act.Close k)) = refl
  move_mode (Ok (act.Start x z len)) = refl
  move_mode (Ok (act.Data x v n)) = refl

  module _ (t : List Entry) (s : List ℕ) where
    none_cut_mode : NoneCut d s → NoneCut (reading d b) s
    unfolding with_settings
    none_cut_mode n = record { no_byte = n.no_byte; none_cut = n.none_cut }

    end_exit_mode : {r : Decoded} → EndExit t d s r → EndExit t (reading d b) s (in_mode b r)
    unfolding move with_open with_waiting with_notes with_settings closed_to ends_from
    end_exit_mode (bytes_left l) = bytes_left l
    end_exit_mode (master_cut z l) = master_cut z l
    end_exit_mode (no_master_lem n m) = no_master_lem (none_cut_mode n) m
    end_exit_mode (finishes n m z) = finishes (none_cut_mode n) m z
    end_exit_mode (closes_all n m l) = closes_all (none_cut_mode n) m l

    -- the end of input
    pub end_mode : end_of_input t (reading d b) s ≡ in_mode b (end_of_input t d s)
    end_mode = sym (end_answers t (reading d b) s (end_exit_mode (end_exits t d s)))

-- and what is answered there by what `decode` answered
module _ (b : Bool) (t : List Entry) (s : List ℕ) where
  pub ended_mode : (r : Decoded) (a : Result Answer Refusal) → ended_or t s (in_mode b r) a ≡ in_mode b (ended_or t s r a)
  ended_mode r (Ok (answer.Event e)) = refl
  ended_mode r (Ok (answer.NeedMore missing)) = end_mode r.state b t s
  ended_mode r (Ok answer.Finished) = end_mode r.state b t s
  ended_mode r (Err e) = refl

-- ---- the settings

module _ (es ps : List ℕ) (d : TagDecoder) (s : List ℕ) where
  -- a call keeps the settings
  pub decode_settings : SameSettings d (decode es ps d s).state
  unfolding apply
  decode_settings = let a = decide es ps d s in move_settings (noted ps d a.note) a.action ∙ noted_settings ps d a.note

  end_exit_settings : {t : List Entry} {e : TagDecoder} {r : Decoded} → EndExit t e s r → SameSettings e r.state
  unfolding move with_open with_waiting with_notes closed_to
  end_exit_settings (bytes_left l) = refl
  end_exit_settings (master_cut z l) = refl
  end_exit_settings (no_master_lem n m) = refl
  end_exit_settings (finishes n m z) = refl
  end_exit_settings (closes_all n m l) = refl

  eof_exit_settings : {r : Decoded} → EofExit es ps d s r → SameSettings d r.state
  eof_exit_settings (as_decoded q) = decode_settings
  eof_exit_settings (at_end q x) = end_exit_settings x ∙ noted_settings ps d (decide es ps d s).note

  -- and so does one at the end of input
  pub eof_settings : SameSettings d (decode_eof es ps d s).state
  eof_settings = eof_exit_settings (eof_exits es ps d s)
