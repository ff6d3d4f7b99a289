-- One call at the end of input, on a table that the table check passes: what it changes of the number of masters that are
-- open or wait for their End, that a Start takes bytes, and when it answers the finish. Assumes nothing.
use Prim.Native.Nat.{ℕ, ◌+◌, ◌<◌}
use mathlib.Core.Path.{◌≡◌, refl, sym, ap, ◌∙◌}
use mathlib.Core.Bool.{Bool, true, false, ◌||◌, false≢true, true≢false}
use mathlib.Core.List.{List}
use mathlib.Core.Logic.{◌⊎◌, inl, inr}
use native.Mathlib.Omega.{arith}
use lib.ListN.{length}
use Rattle.basics.proofs.Bools.{absurd_eq}
use Rattle.tools.specs.Bytes.{Octets}
use Rattle.table.specs.Check.{check_table, only_ids}
use Rattle.table.specs.Table.{Entry, table_of, data_type_of, path_of, is_master, is_typed}
use Rattle.table.specs.declared.types.TagDataType.{TagDataType}
use Rattle.table.specs.declared.types.TagDataType.TheVariants as type
use Rattle.table.proofs.Consequences.{master_of_ids_lem}
use Rattle.table.proofs.Passed.{passed_gives}
use Rattle.tag_parse.specs.declared.types.TagHeader.{TagHeader}
use Rattle.tag_parse.proofs.Headers.{header_sound, header_spec}
use Rattle.decoder_rules.specs.Record.{with_open, with_waiting, with_notes, counted, opened, closed_to, handed_out}
use Rattle.decoder_rules.specs.OneCall.{step7, is_settle, noted}
use Rattle.decoder_rules.specs.Deciding.{decide}
use Rattle.decoder_rules.specs.Moving.{move, apply}
use Rattle.decoder_rules.specs.EndOfInput.{decode_eof}
use Rattle.decoder_rules.specs.declared.types.Action.{Action}
use Rattle.decoder_rules.specs.declared.types.Answer.{Answer}
use Rattle.decoder_rules.specs.declared.types.Answer.TheVariants as answer
use Rattle.decoder_rules.specs.declared.types.Decision.{Decision}
use Rattle.decoder_rules.specs.declared.types.Decoded.{Decoded}
use Rattle.decoder_rules.specs.declared.types.Event.TheVariants as event
use Rattle.decoder_rules.specs.declared.types.TagDecoder.{TagDecoder}
use Rattle.decoder_rules.proofs.EndExits as at
use Rattle.decoder_rules.proofs.EndExits.{is_quiet, EndExit, end_keeps, EofExit, eof_exits}
use Rattle.decoder_rules.proofs.Exits as exit
use Rattle.decoder_rules.proofs.Exits.{Closing, HeaderExit, Exit, exits, settling_exit}
use Rattle.decoder_rules.proofs.MoveLaws.{with_note, noted_waiting_count, noted_finished, decode_settled, decode_finished}
use Rattle.tag_decoder_laws.proofs.Settling.{settles_when}
use Rattle.std.specs.Prelude.{Err, None, Ok, Option, Result, Some}
use Rattle.decoder_rules.specs.declared.types.DecodeError.{DecodeError}
use Rattle.table.specs.declared.types.Path.{Path}
use Rattle.decoder_rules.specs.declared.types.Refusal.{Refusal}

-- ---- masters that are open or wait for their End

-- how many they are
abbrev pub unended : TagDecoder → ℕ
unended d = d.open_count + d.waiting_count

-- by what is answered, with n of them before and m after, t bytes taken, and w Ends that wait: a Start is one more,
-- takes bytes and comes where no End waits; an End is one less
abbrev pub Balance : Result Answer Refusal → ℕ → ℕ → ℕ → ℕ → Type 0
Balance (Ok (answer.Event (event.Start x p))) n m t w = (m ≡ n + 1) × ((0 < t) × (w ≡ 0))
Balance (Ok (answer.Event (event.End e))) n m t w = m + 1 ≡ n
Balance (Ok (answer.Event (event.Data x p v))) n m t w = m ≡ n
Balance (Ok (answer.NeedMore missing)) n m t w = Unit {0}
Balance (Ok answer.Finished) n m t w = Unit {0}
Balance (Err r) n m t w = Unit {0}

abbrev pub Balanced : TagDecoder → Decoded → Type 0
Balanced d r = Balance r.answer (unended d) (unended r.state) r.taken r.state.waiting_count

closing_balanced : {t : List Entry} {e : TagDecoder} {k : ℕ} {a : Result Action DecodeError} → e.waiting_count ≡ 0 → k < e.open_count → Closing t e k a → Balanced e (move e a)
unfolding move with_open with_waiting closed_to
closing_balanced w l (exit.closes c) = omega arith
closing_balanced w l (exit.no_master_lem c) = tt

header_balanced : {t : List Entry} {e : TagDecoder} {h : TagHeader} {s : List ℕ} {a : Result Action DecodeError} → e.waiting_count ≡ 0 → 0 < h.len → HeaderExit t e h s a → Balanced e (move e a)
unfolding move counted with_open with_notes opened
header_balanced w some (exit.misplaced p) = tt
header_balanced w some (exit.oversized n p z f) = tt
header_balanced w some (exit.too_large n p z f g) = tt
header_balanced w some (exit.past_end p z f g) = tt
header_balanced w some (exit.ends_tops v k c) = closing_balanced w k c
header_balanced w some (exit.too_many at k f) = tt
header_balanced w some (exit.starts at k f) = (omega arith, (some, w))
header_balanced w some (exit.no_size at k z) = tt
header_balanced w some (exit.payload_incomplete n has f) = tt
header_balanced w some (exit.payload_refused n x has f z) = tt
header_balanced w some (exit.holds n v has f z) = refl

module _ (es ps : List ℕ) (d : TagDecoder) (s : List ℕ) (byte : Octets s) where
  exit_balanced : {a : Decision} → Exit es ps d s a → Balanced (noted ps d a.note) (apply ps d a)
  unfolding apply noted move with_waiting handed_out
  exit_balanced (exit.refused_first x e) = tt
  exit_balanced (exit.after_finish e f l) = tt
  exit_balanced (exit.hands_out ok w) = omega arith
  exit_balanced (exit.finished ok w f) = tt
  exit_balanced (exit.closes_full r l c) = closing_balanced r.none_waiting l c
  exit_balanced (exit.no_byte n z) = tt
  exit_balanced (exit.header_incomplete at e) = tt
  exit_balanced (exit.header_refused x at e) = tt
  exit_balanced (exit.id_refused h at f) = tt
  exit_balanced (exit.on_header h at f x) =
      let i = header_sound (table_of es ps) s h byte at.read in
      let some : 0 < h.len = let one = i.vint.vint.at_least_1 in omega (arith, i.taken) in
      let none : (noted ps d (step7 (table_of es ps) d h)).waiting_count ≡ 0 = omega (arith, noted_waiting_count ps d (step7 (table_of es ps) d h), at.at_bytes.none_full.reading.none_waiting) in
      header_balanced none some x

  -- before the end of input is looked at, no End waits
  quiet_none_waits : {a : Decision} → Exit es ps d s a → is_quiet (apply ps d a).answer ≡ true → d.waiting_count ≡ 0
  unfolding apply move
  quiet_none_waits (exit.refused_first x e) q = absurd (false≢true q)
  quiet_none_waits (exit.after_finish e f l) q = absurd (false≢true q)
  quiet_none_waits (exit.hands_out ok w) q = absurd (false≢true q)
  quiet_none_waits (exit.finished ok w f) q = w
  quiet_none_waits (exit.closes_full r l c) q = r.none_waiting
  quiet_none_waits (exit.no_byte n z) q = n.reading.none_waiting
  quiet_none_waits (exit.header_incomplete at e) q = at.none_full.reading.none_waiting
  quiet_none_waits (exit.header_refused x at e) q = at.none_full.reading.none_waiting
  quiet_none_waits (exit.id_refused h at f) q = at.at_bytes.none_full.reading.none_waiting
  quiet_none_waits (exit.on_header h at f x) q = at.at_bytes.none_full.reading.none_waiting

  end_balanced : {t : List Entry} {e : TagDecoder} {r : Decoded} → e.waiting_count ≡ 0 → EndExit t e s r → Balanced e r
  unfolding move with_open with_waiting with_notes closed_to
  end_balanced w (at.bytes_left l) = tt
  end_balanced w (at.master_cut z l) = tt
  end_balanced w (at.no_master_lem n m) = tt
  end_balanced w (at.finishes n m z) = tt
  end_balanced w (at.closes_all n m l) = omega arith

  note_none : (n : Option Path) → (decide es ps d s).note ≡ n → d.settled ≡ true → noted ps d n ≡ d
  unfolding noted
  note_none None q k = refl
  note_none (Some path) q k = absurd (false≢true (sym (settles_when (table_of es ps) d (settling_exit es ps d s (exits es ps d s) q).h (settling_exit es ps d s (exits es ps d s) q).settling).0 ∙ k))

  -- a settled record stays as it is before the move
  pub settled_notes_none : d.settled ≡ true → with_note es ps d s ≡ d
  settled_notes_none k = note_none (decide es ps d s).note refl k

  eof_balanced_noted : {r : Decoded} → EofExit es ps d s r → Balanced (with_note es ps d s) r
  eof_balanced_noted (at.as_decoded q) = exit_balanced (exits es ps d s)
  eof_balanced_noted (at.at_end q x) =
      end_balanced (noted_waiting_count ps d (decide es ps d s).note ∙ quiet_none_waits (exits es ps d s) q) x

  -- on any record, with the note made
  pub balanced_noted : Balanced (with_note es ps d s) (decode_eof es ps d s)
  balanced_noted = eof_balanced_noted (eof_exits es ps d s)

  -- on a settled record
  pub eof_balanced : d.settled ≡ true → Balanced d (decode_eof es ps d s)
  eof_balanced k = rw (settled_notes_none k) at balanced_noted

  -- which stays settled
  settled_or : (a b : Bool) → a ≡ true → (a || b) ≡ true
  settled_or true b e = refl
  settled_or false b e = absurd (false≢true e)

  exit_settled : {r : Decoded} → EofExit es ps d s r → d.settled ≡ true → r.state.settled ≡ true
  exit_settled (at.as_decoded q) k = decode_settled es ps d s ∙ settled_or d.settled (is_settle (decide es ps d s).note) k
  exit_settled (at.at_end q x) k = (end_keeps x).settled ∙ ap (λ (e : TagDecoder). e.settled) (settled_notes_none k) ∙ k

  pub eof_settled : d.settled ≡ true → (decode_eof es ps d s).state.settled ≡ true
  eof_settled k = exit_settled (eof_exits es ps d s) k

  -- ---- the finish

  end_finish : {t : List Entry} {e : TagDecoder} {r : Decoded} → EndExit t e s r → r.answer ≡ Ok answer.Finished → length s ≡ 0
  unfolding move
  end_finish (at.bytes_left l) q = let z : ◌≡◌ {A = ℕ} 0 1 = cc in absurd_eq z
  end_finish (at.master_cut z l) q = z
  end_finish (at.no_master_lem n m) q = n.no_byte
  end_finish (at.finishes n m z) q = n.no_byte
  end_finish (at.closes_all n m l) q = n.no_byte

  exit_finish : {r : Decoded} → EofExit es ps d s r → r.answer ≡ Ok answer.Finished → length s ≡ 0
  exit_finish (at.as_decoded q) f = absurd (true≢false (ap is_quiet (sym f) ∙ q))
  exit_finish (at.at_end q x) f = end_finish x f

  -- the finish comes where no byte is left
  pub finish_no_byte : (decode_eof es ps d s).answer ≡ Ok answer.Finished → length s ≡ 0
  finish_no_byte f = exit_finish (eof_exits es ps d s) f

  end_finished : {t : List Entry} {e : TagDecoder} {r : Decoded} → EndExit t e s r → r.state.finished ≡ true → (e.finished ≡ true) ⊎ (length s ≡ 0)
  end_finished (at.bytes_left l) q = inl q
  end_finished (at.master_cut z l) q = inl q
  end_finished (at.no_master_lem n m) q = inl q
  end_finished (at.finishes n m z) q = inr n.no_byte
  end_finished (at.closes_all n m l) q = inr n.no_byte

  exit_finished : {r : Decoded} → EofExit es ps d s r → r.state.finished ≡ true → (d.finished ≡ true) ⊎ (length s ≡ 0)
  exit_finished (at.as_decoded q) f = inl (sym (decode_finished es ps d s) ∙ f)
  exit_finished (at.at_end q x) f = by (end_finished x f)
    where
      by : ((with_note es ps d s).finished ≡ true) ⊎ (length s ≡ 0) → (d.finished ≡ true) ⊎ (length s ≡ 0)
      by (inl e) = inl (sym (noted_finished ps d (decide es ps d s).note) ∙ e)
      by (inr z) = inr z

  -- a record is marked finished where no byte is left
  pub finished_no_byte : (decode_eof es ps d s).state.finished ≡ true → (d.finished ≡ true) ⊎ (length s ≡ 0)
  finished_no_byte f = exit_finished (eof_exits es ps d s) f

-- ---- a Start settles the record

module _ (es ps : List ℕ) (checked : check_table es ps ≡ (Ok tt)) (d : TagDecoder) (s : List ℕ) (byte : Octets s) where
  -- whether an answer is a Start
  abbrev is_start : Result Answer Refusal → Bool
  is_start (Ok (answer.Event (event.Start x p))) = true
  is_start (Ok (answer.Event (event.End e))) = false
  is_start (Ok (answer.Event (event.Data x p v))) = false
  is_start (Ok (answer.NeedMore missing)) = false
  is_start (Ok answer.Finished) = false
  is_start (Err r) = false

  master_typed : (k : TagDataType) → is_master k ≡ true → (k ≡ type.Master) × (is_typed k ≡ true)
  unfolding is_master is_typed
  master_typed type.Untyped e = absurd (false≢true e)
  master_typed type.Master e = (refl, refl)
  master_typed type.UnsignedInt e = absurd (false≢true e)
  master_typed type.Integer e = absurd (false≢true e)
  master_typed type.Utf8 e = absurd (false≢true e)
  master_typed type.Binary e = absurd (false≢true e)
  master_typed type.Float e = absurd (false≢true e)

  settles_or : (h : TagHeader) → is_typed h.kind ≡ true → only_ids (path_of (table_of es ps) h.id) ≡ true → (d.settled || is_settle (step7 (table_of es ps) d h)) ≡ true
  settles_or h t o = by d.settled refl
    where
      by : (b : Bool) → d.settled ≡ b → (b || is_settle (step7 (table_of es ps) d h)) ≡ true
      by true e = refl
      by false e = rw (e, t, o)

  master_settles : (h : TagHeader) → h.kind ≡ data_type_of (table_of es ps) h.id → is_master h.kind ≡ true → (d.settled || is_settle (step7 (table_of es ps) d h)) ≡ true
  master_settles h k m =
      let t = master_typed h.kind m in
      settles_or h t.1 (master_of_ids_lem (table_of es ps) (passed_gives es ps checked) h.id (sym k ∙ t.0))

  header_settles : (h : TagHeader) {a : Result Action DecodeError} → h.kind ≡ data_type_of (table_of es ps) h.id → HeaderExit (table_of es ps) (noted ps d (step7 (table_of es ps) d h)) h s a
      → is_start (move (noted ps d (step7 (table_of es ps) d h)) a).answer ≡ true → (d.settled || is_settle (step7 (table_of es ps) d h)) ≡ true
  unfolding move
  header_settles h k (exit.misplaced p) q = absurd (false≢true q)
  header_settles h k (exit.oversized n p z f) q = absurd (false≢true q)
  header_settles h k (exit.too_large n p z f g) q = absurd (false≢true q)
  header_settles h k (exit.past_end p z f g) q = absurd (false≢true q)
  header_settles h k (exit.ends_tops v l (exit.closes c)) q = absurd (false≢true q)
  header_settles h k (exit.ends_tops v l (exit.no_master_lem c)) q = absurd (false≢true q)
  header_settles h k (exit.too_many at m f) q = absurd (false≢true q)
  header_settles h k (exit.starts at m f) q = master_settles h k m
  header_settles h k (exit.no_size at m z) q = absurd (false≢true q)
  header_settles h k (exit.payload_incomplete n has f) q = absurd (false≢true q)
  header_settles h k (exit.payload_refused n x has f z) q = absurd (false≢true q)
  header_settles h k (exit.holds n v has f z) q = absurd (false≢true q)

  exit_start_settles : {a : Decision} → Exit es ps d s a → is_start (apply ps d a).answer ≡ true → (d.settled || is_settle a.note) ≡ true
  unfolding apply move
  exit_start_settles (exit.refused_first x e) q = absurd (false≢true q)
  exit_start_settles (exit.after_finish e f l) q = absurd (false≢true q)
  exit_start_settles (exit.hands_out ok w) q = absurd (false≢true q)
  exit_start_settles (exit.finished ok w f) q = absurd (false≢true q)
  exit_start_settles (exit.closes_full r l (exit.closes c)) q = absurd (false≢true q)
  exit_start_settles (exit.closes_full r l (exit.no_master_lem c)) q = absurd (false≢true q)
  exit_start_settles (exit.no_byte n z) q = absurd (false≢true q)
  exit_start_settles (exit.header_incomplete at e) q = absurd (false≢true q)
  exit_start_settles (exit.header_refused x at e) q = absurd (false≢true q)
  exit_start_settles (exit.id_refused h at f) q = absurd (false≢true q)
  exit_start_settles (exit.on_header h at f x) q = header_settles h (header_spec (table_of es ps) s h at.read).kind x q

  end_no_start : {t : List Entry} {e : TagDecoder} {r : Decoded} → EndExit t e s r → is_start r.answer ≡ false
  unfolding move
  end_no_start (at.bytes_left l) = refl
  end_no_start (at.master_cut z l) = refl
  end_no_start (at.no_master_lem n m) = refl
  end_no_start (at.finishes n m z) = refl
  end_no_start (at.closes_all n m l) = refl

  eof_start_settles : {r : Decoded} → EofExit es ps d s r → is_start r.answer ≡ true → r.state.settled ≡ true
  eof_start_settles (at.as_decoded q) k = decode_settled es ps d s ∙ exit_start_settles (exits es ps d s) k
  eof_start_settles (at.at_end q x) k = absurd (false≢true (sym (end_no_start x) ∙ k))

  -- a record is settled after a Start
  pub start_settles : {x p : ℕ} → (decode_eof es ps d s).answer ≡ Ok (answer.Event (event.Start x p)) → (decode_eof es ps d s).state.settled ≡ true
  start_settles q = eof_start_settles (eof_exits es ps d s) (ap is_start q)
