-- The settling note of a call on a record that has not settled is the one that a caller can tell from the bytes lent
-- and the answer alone. Assumes nothing.
use Prim.Native.Nat.{ℕ, suc}
use mathlib.Core.Path.{◌≡◌, refl, sym, ap, ◌∙◌}
use mathlib.Core.Bool.{Bool, true, false, cond, ◌||◌, false≢true}
use mathlib.Core.List.{List}
use native.Mathlib.Omega.{arith}
use lib.ListN.{length}
use Rattle.table.specs.Shape.{good_shape}
use Rattle.table.specs.Table.{Entry, table_of}
use Rattle.tag_parse.specs.Header.{read_header}
use Rattle.tag_parse.specs.declared.types.ParseError.{ParseError}
use Rattle.tag_parse.specs.declared.types.ParseError.TheVariants as parse
use Rattle.tag_parse.specs.declared.types.TagHeader.{TagHeader}
use Rattle.decoder_rules.specs.Record.{with_settings}
use Rattle.decoder_rules.specs.Numbers.{error_number, parse_error, answer_refusal}
use Rattle.decoder_rules.specs.OneCall.{check_record10to12, good_form, step6, step7, is_settle}
use Rattle.decoder_rules.specs.Deciding.{decide}
use Rattle.decoder_rules.specs.Moving.{move, apply, decode}
use Rattle.decoder_rules.specs.EndOfInput.{decode_eof}
use Rattle.decoder_rules.specs.Recovery.{try_recover}
use Rattle.decoder_rules.specs.FirstPlace.{settle_header, settle_at, settle_before, record_on, Standing, Incomplete, Valid, Other, stands_at, first_place, recovered_at}
use Rattle.decoder_rules.specs.Settings.{limited_to}
use Rattle.decoder_rules.specs.declared.types.Action.{Action}
use Rattle.decoder_rules.specs.declared.types.Action.TheVariants as act
use Rattle.decoder_rules.specs.declared.types.Answer.{Answer}
use Rattle.decoder_rules.specs.declared.types.Answer.TheVariants as answer
use Rattle.decoder_rules.specs.declared.types.Decision.{Decision}
use Rattle.decoder_rules.specs.declared.types.DecodeError.TheVariants as error
use Rattle.decoder_rules.specs.declared.types.Decoded.{Decoded}
use Rattle.decoder_rules.specs.declared.types.Recovered.{Recovered}
use Rattle.decoder_rules.specs.declared.types.TagDecoder.{TagDecoder}
use Rattle.decoder_rules.proofs.GoodState.{GoodState}
use Rattle.decoder_rules.proofs.Exits as exit
use Rattle.decoder_rules.proofs.Exits.{Closing, HeaderExit, Exit, exits, finished_unlent}
use Rattle.decoder_rules.proofs.EndExits as end
use Rattle.decoder_rules.proofs.EndExits.{EndExit, end_keeps, EofExit, is_quiet, eof_exits}
use Rattle.decoder_rules.proofs.MoveLaws.{with_note, noted_settled, decode_settled}
use Rattle.decoder_rules.proofs.Places.{unsettled_note, settle_none}
use Rattle.decoder_rules.proofs.FirstPlace.{unsettled_before, recovery_is_first}
use Rattle.basics.proofs.Bools.{cond_yes, cond_no, or_none}
use Rattle.guarantees.specs.Calls.{Call, decoding, ending as at_end, recovering, allow, strictly, limit, lent, searched, response_to, next}
use Rattle.guarantees.specs.Settling.{comes_unread, search_note, seen_note}
use Rattle.guarantees.proofs.Notes.{search_note_or, note_of}
use Rattle.guarantees.proofs.Decided.{only_far}
use Rattle.guarantees.proofs.Recovery.{recover_keeps}
use Rattle.std.specs.Prelude.{Err, None, Ok, Option, Result, Some, ⊤}
use Rattle.decoder_rules.specs.declared.types.DecodeError.{DecodeError}
use Rattle.table.specs.declared.types.Path.{Path}
use Rattle.decoder_rules.specs.declared.types.Refusal.{Refusal}
use Rattle.tools.specs.declared.status.Status.{Status}

-- ---- no step after the first refuses with 12 or 13

-- the number of the refusal that was decided; 0 for any other action
abbrev action_refusal : Result Action DecodeError → ℕ
action_refusal (Err e) = error_number e
action_refusal (Ok (act.NeedMore missing)) = 0
action_refusal (Ok act.Finish) = 0
action_refusal (Ok act.HandOut) = 0
action_refusal (Ok (act.Close k)) = 0
action_refusal (Ok (act.Start x z len)) = 0
action_refusal (Ok (act.Data x v n)) = 0

move_refusal : (d : TagDecoder) (a : Result Action DecodeError) → answer_refusal (move d a).answer ≡ action_refusal a
unfolding move
move_refusal d (Err e) = refl
move_refusal d (Ok (act.NeedMore missing)) = refl
move_refusal d (Ok act.Finish) = refl
move_refusal d (Ok act.HandOut) = refl
move_refusal d (Ok (act.Close k)) = refl
move_refusal d (Ok (act.Start x z len)) = refl
move_refusal d (Ok (act.Data x v n)) = refl

-- what was decided is no refusal that comes before a byte is read
abbrev Late : Result Action DecodeError → Type 0
Late a = comes_unread (action_refusal a) ≡ false

parse_read : (e : ParseError) → comes_unread (error_number (parse_error e)) ≡ false
parse_read parse.InvalidTagData = refl
parse_read parse.FromUtf8Error = refl
parse_read parse.ReadF64Mismatch = refl

closing_late : {t : List Entry} {d : TagDecoder} {k : ℕ} {a : Result Action DecodeError} → Closing t d k a → Late a
closing_late (exit.closes e) = refl
closing_late (exit.no_master_lem e) = refl

header_late : {t : List Entry} {d : TagDecoder} {h : TagHeader} {s : List ℕ} {a : Result Action DecodeError} → HeaderExit t d h s a → Late a
header_late (exit.misplaced p) = refl
header_late (exit.oversized n p e f) = refl
header_late (exit.too_large n p e f g) = refl
header_late (exit.past_end p e f g) = refl
header_late (exit.ends_tops v l c) = closing_late c
header_late (exit.too_many at k l) = refl
header_late (exit.starts at k l) = refl
header_late (exit.no_size at k e) = refl
header_late (exit.payload_incomplete n has l) = refl
header_late (exit.payload_refused n x has l e) = parse_read x
header_late (exit.holds n v has l e) = refl

-- ---- the note of a decode call on a record that has not settled

-- nothing has settled, so nothing is open and nothing waits
pub record Began (d : TagDecoder) : Type 0 where
  pub unsettled : d.settled ≡ false
  pub none_waiting : d.waiting_count ≡ 0
  pub none_open : d.open_count ≡ 0

-- the note that a caller can tell where the refusal has this number
abbrev told_note : Bool → List Entry → List ℕ → ℕ → Option Path
told_note strict t s n = cond (comes_unread n) None (settle_at strict t s)

module _ (es ps : List ℕ) (shape : good_shape es ps ≡ true) (d : TagDecoder) (s : List ℕ) (good : GoodState d) (began : Began d) where
  -- the mode
  abbrev strict : Bool
  strict = d.settings.strict

  settle_is : {r : Result (Status TagHeader) ParseError} → read_header (table_of es ps) s ≡ r → settle_at strict (table_of es ps) s ≡ settle_header strict (table_of es ps) r
  unfolding settle_at
  settle_is e = ap (settle_header strict (table_of es ps)) e

  -- the refusals of step 6 come after bytes are read
  id_late : (b : Bool) → comes_unread (error_number (cond b error.InvalidTagId error.InvalidIdForm)) ≡ false
  id_late true = refl
  id_late false = refl

  -- the note of a decision is the one that a caller can tell
  abbrev Visible : Decision → Type 0
  Visible a = a.note ≡ told_note strict (table_of es ps) s (action_refusal a.action)

  exit_visible : {a : Decision} → Exit es ps d s a → Visible a
  exit_visible (exit.refused_first x e) = rw (only_far es ps d (length s) shape good e).number
  exit_visible (exit.after_finish e f l) = refl
  exit_visible (exit.hands_out ok w) = absurd (omega (arith, began.none_waiting))
  exit_visible (exit.finished ok w f) = sym (settle_none strict (table_of es ps) s (finished_unlent es ps d s ok f))
  exit_visible (exit.closes_full r l c) = absurd (omega (arith, began.none_open))
  exit_visible (exit.no_byte n z) = sym (settle_none strict (table_of es ps) s z)
  exit_visible (exit.header_incomplete at e) = sym (settle_is e)
  exit_visible (exit.header_refused x at e) = rw (parse_read x) (sym (settle_is e))
  exit_visible (exit.id_refused h at f) =
      rw (id_late (good_form strict h.id))
      (sym (settle_is at.read ∙ sym (unsettled_note (table_of es ps) d h began.unsettled) ∙ cond_no (step6 d h) _ _ f))
  exit_visible (exit.on_header h at f x) =
      rw (header_late x)
      (sym (cond_yes (step6 d h) (step7 (table_of es ps) d h) None f) ∙ unsettled_note (table_of es ps) d h began.unsettled ∙ sym (settle_is at.read))

  decode_seen : (decide es ps d s).note ≡ told_note strict (table_of es ps) s (answer_refusal (decode es ps d s).answer)
  unfolding apply
  decode_seen = exit_visible (exits es ps d s) ∙ ap (told_note strict (table_of es ps) s) (sym (move_refusal (with_note es ps d s) (decide es ps d s).action))

  -- ---- the end of input

  quiet_late : (a : Result Answer Refusal) → is_quiet a ≡ true → answer_refusal a ≡ 0
  quiet_late (Ok (answer.Event e)) q = refl
  quiet_late (Ok (answer.NeedMore missing)) q = refl
  quiet_late (Ok answer.Finished) q = refl
  quiet_late (Err r) q = absurd (false≢true q)

  end_late : {e : TagDecoder} {r : Decoded} → EndExit (table_of es ps) e s r → comes_unread (answer_refusal r.answer) ≡ false
  unfolding move
  end_late (end.bytes_left l) = refl
  end_late (end.master_cut z l) = refl
  end_late (end.no_master_lem n m) = refl
  end_late (end.finishes n m z) = refl
  end_late (end.closes_all n m l) = refl

  eof_visible : {r : Decoded} → EofExit es ps d s r → (decide es ps d s).note ≡ told_note strict (table_of es ps) s (answer_refusal r.answer)
  eof_visible (end.as_decoded q) = decode_seen
  eof_visible (end.at_end q x) = decode_seen ∙ ap (told_note strict (table_of es ps) s) (quiet_late (decode es ps d s).answer q) ∙ rw (end_late x)

  eof_seen : (decide es ps d s).note ≡ told_note strict (table_of es ps) s (answer_refusal (decode_eof es ps d s).answer)
  eof_seen = eof_visible (eof_exits es ps d s)

-- ---- a recovery

module _ (es ps : List ℕ) (d : TagDecoder) (s : List ℕ) (u : d.settled ≡ false) where
  standing-seen : (strict : Bool) (x : Standing) (n : ℕ) (e : TagDecoder)
      → search_note strict (table_of es ps) s (recovered_at x n e).answer ≡ settle_before strict (table_of es ps) (suc n) s
  standing-seen strict Incomplete n e = refl
  standing-seen strict Valid n e = refl
  standing-seen strict Other n e = refl

  recover_seen : search_note_or ps (table_of es ps) d s (check_record10to12 es ps d (length s))
      ≡ seen_note d.settings.strict (table_of es ps) s (searched (try_recover es ps d s).answer (try_recover es ps d s).taken)
  recover_seen = go (check_record10to12 es ps d (length s)) refl
    where
      go : (c : Result ⊤ DecodeError) → check_record10to12 es ps d (length s) ≡ c → search_note_or ps (table_of es ps) d s c ≡ search_note d.settings.strict (table_of es ps) s (try_recover es ps d s).answer
      go (Ok _) e =
          let i = first_place ps (table_of es ps) d s in
          unsettled_before (table_of es ps) d s (suc i) u
          ∙ sym
          (ap (λ (r : Recovered). search_note d.settings.strict (table_of es ps) s r.answer) (recovery_is_first es ps d s e)
          ∙ standing-seen d.settings.strict (stands_at ps (table_of es ps) d s i) i (record_on ps (table_of es ps) d s (suc i) i))
      go (Err x) e = unfold try_recover in rw e

-- ---- what has settled: the record says what the notes say

module _ (es ps : List ℕ) (d : TagDecoder) where
  eof_settled : (s : List ℕ) {r : Decoded} → EofExit es ps d s r → r.state.settled ≡ (d.settled || is_settle (decide es ps d s).note)
  eof_settled s (end.as_decoded q) = decode_settled es ps d s
  eof_settled s (end.at_end q x) = (end_keeps x).settled ∙ noted_settled ps d (decide es ps d s).note

  limit_settled : (n : Option ℕ) → (limited_to d n).settled ≡ (d.settled || false)
  unfolding with_settings
  limit_settled None = or_none d.settled
  limit_settled (Some n) = or_none d.settled

  -- a record has settled after a call where it had before, or where the call's note settles
  pub next_settled : (c : Call) → (next es ps d c).settled ≡ (d.settled || is_settle (note_of es ps d c))
  unfolding with_settings
  next_settled (decoding s) = decode_settled es ps d s
  next_settled (at_end s) = eof_settled s (eof_exits es ps d s)
  next_settled (recovering s) = (recover_keeps es ps d s).settled
  next_settled (allow ids hierarchy oversized) = or_none d.settled
  next_settled (strictly b) = or_none d.settled
  next_settled (limit n) = limit_settled n

  -- the note of a call on a record that has not settled
  pub note_seen : good_shape es ps ≡ true → GoodState d → Began d → (c : Call) → note_of es ps d c ≡ seen_note d.settings.strict (table_of es ps) (lent c) (response_to es ps d c)
  note_seen shape good began (decoding s) = decode_seen es ps shape d s good began
  note_seen shape good began (at_end s) = eof_seen es ps shape d s good began
  note_seen shape good began (recovering s) = recover_seen es ps d s began.unsettled
  note_seen shape good began (allow ids hierarchy oversized) = refl
  note_seen shape good began (strictly b) = refl
  note_seen shape good began (limit n) = refl
