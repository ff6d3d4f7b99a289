-- Every event brings the end of a run nearer: a Start and a Data take bytes, an End is one of finitely many that wait or
-- are still to be made (`event_nearer`). So calls on finitely many bytes come to an answer that is no event. Assumes
-- nothing.
use Prim.Native.Nat.{ℕ, ◌+◌, ◌-◌, ◌*◌, ◌≤◌, ◌<◌}
use mathlib.Core.Path.{◌≡◌, refl, ap}
use mathlib.Core.Bool.{Bool, true, false, cond, true≢false}
use mathlib.Core.List.{List}
use native.Mathlib.Omega.{arith}
use lib.ListN.{length}
use Rattle.tools.specs.Bytes.{Octets}
use Rattle.table.specs.Table.{Entry, table_of}
use Rattle.tag_parse.specs.declared.types.TagHeader.{TagHeader}
use Rattle.tag_parse.proofs.Headers.{header_sound}
use Rattle.decoder_rules.specs.Record.{with_open, with_waiting, with_notes, settled_to, counted, opened, closed_to, handed_out}
use Rattle.decoder_rules.specs.OneCall.{check_record10to12, step7, noted}
use Rattle.decoder_rules.specs.Deciding.{decide}
use Rattle.decoder_rules.specs.Moving.{needs_more, move, apply, decode}
use Rattle.decoder_rules.specs.EndOfInput.{decode_eof}
use Rattle.decoder_rules.specs.declared.types.Action.{Action}
use Rattle.decoder_rules.specs.declared.types.Answer.TheVariants as answer
use Rattle.decoder_rules.specs.declared.types.Decision.{Decision}
use Rattle.decoder_rules.specs.declared.types.Decoded.{Decoded}
use Rattle.decoder_rules.specs.declared.types.Event.{Event}
use Rattle.decoder_rules.specs.declared.types.TagDecoder.{TagDecoder}
use Rattle.decoder_rules.proofs.EndExits as at
use Rattle.decoder_rules.proofs.EndExits.{EndExit, EofExit, eof_exits}
use Rattle.decoder_rules.proofs.Exits as exit
use Rattle.decoder_rules.proofs.Exits.{Closing, HeaderExit, Exit, exits, settling_exit}
use Rattle.decoder_rules.proofs.GoodState.{passed12}
use Rattle.decoder_rules.proofs.MoveLaws.{is_no_event, with_note, noted_waiting_count, decode_more_stays}
use Rattle.decoder_move.proofs.DecisionApplies.{decide_applies, note_settles}
use Rattle.tag_decoder_laws.proofs.Settling.{settles_when}
use Rattle.std.specs.Prelude.{None, Ok, Option, Result, Some}
use Rattle.decoder_rules.specs.declared.types.DecodeError.{DecodeError}
use Rattle.table.specs.declared.types.Path.{Path}

-- ---- how far the end is

-- what a record may still make of Ends, and a settling
abbrev pub weight : TagDecoder → ℕ
weight d = cond d.settled 0 128 + (2 * d.open_count + d.waiting_count)

-- after an event less is to come than with n bytes at the record d: bytes are taken, or the record is lighter
abbrev Nearer : TagDecoder → ℕ → Decoded → Type 0
Nearer d n r = is_no_event r.answer ≡ false → 256 * (n - r.taken) + weight r.state < 256 * n + weight d

-- ---- one call

-- a closing where no End waits
closing_nearer : {t : List Entry} {e : TagDecoder} {k : ℕ} {a : Result Action DecodeError} (n : ℕ) → e.waiting_count ≡ 0 → k < e.open_count → Closing t e k a → Nearer e n (move e a)
unfolding move with_open with_waiting closed_to
closing_nearer n w l (exit.closes c) q = omega arith
closing_nearer n w l (exit.no_master_lem c) q = absurd (true≢false q)

-- 8 to 11 on a header that was read
header_nearer : {t : List Entry} {e : TagDecoder} {h : TagHeader} {s : List ℕ} {a : Result Action DecodeError} → e.waiting_count ≡ 0 → 0 < h.len → h.len ≤ length s
    → HeaderExit t e h s a → Nearer e (length s) (move e a)
unfolding move counted with_open with_notes opened
header_nearer w some l (exit.misplaced p) q = absurd (true≢false q)
header_nearer w some l (exit.oversized n p z f) q = absurd (true≢false q)
header_nearer w some l (exit.too_large n p z f g) q = absurd (true≢false q)
header_nearer w some l (exit.past_end p z f g) q = absurd (true≢false q)
header_nearer {s = s} w some l (exit.ends_tops v k c) q = closing_nearer (length s) w k c q
header_nearer w some l (exit.too_many at k f) q = absurd (true≢false q)
header_nearer w some l (exit.starts at k f) q = omega arith
header_nearer w some l (exit.no_size at k z) q = absurd (true≢false q)
header_nearer w some l (exit.payload_incomplete n has f) q = absurd (true≢false q)
header_nearer w some l (exit.payload_refused n x has f z) q = absurd (true≢false q)
header_nearer w some l (exit.holds n v has f z) q = omega arith

module _ (es ps : List ℕ) (d : TagDecoder) (s : List ℕ) (byte : Octets s) where
  exit_nearer : {a : Decision} → Exit es ps d s a → Nearer (noted ps d a.note) (length s) (apply ps d a)
  unfolding apply noted move with_waiting handed_out
  exit_nearer (exit.refused_first x e) q = absurd (true≢false q)
  exit_nearer (exit.after_finish e f l) q = absurd (true≢false q)
  exit_nearer (exit.hands_out ok w) q = omega arith
  exit_nearer (exit.finished ok w f) q = absurd (true≢false q)
  exit_nearer (exit.closes_full r l c) q = closing_nearer (length s) r.none_waiting l c q
  exit_nearer (exit.no_byte n z) q = absurd (true≢false q)
  exit_nearer (exit.header_incomplete at e) q = absurd (true≢false q)
  exit_nearer (exit.header_refused x at e) q = absurd (true≢false q)
  exit_nearer (exit.id_refused h at f) q = absurd (true≢false q)
  exit_nearer (exit.on_header h at f x) q =
      let i = header_sound (table_of es ps) s h byte at.read in
      let some : 0 < h.len = let one = i.vint.vint.at_least_1 in omega (arith, i.taken) in
      let none : (noted ps d (step7 (table_of es ps) d h)).waiting_count ≡ 0 = omega (arith, noted_waiting_count ps d (step7 (table_of es ps) d h), at.at_bytes.none_full.reading.none_waiting) in
      header_nearer none some i.whole x q

-- ---- the note makes no record heavier

module _ (es ps : List ℕ) (d : TagDecoder) (s : List ℕ) (byte : Octets s) where
  note_light : (n : Option Path) → (decide es ps d s).note ≡ n → weight (noted ps d n) ≤ weight d
  unfolding noted settled_to with_open with_notes
  note_light None q = omega arith
  note_light (Some path) q =
      let w = settling_exit es ps d s (exits es ps d s) q in
      let short = note_settles ps path (rw q at (decide_applies es ps d s byte).note) in
      rw (settles_when (table_of es ps) d w.h w.settling).0 (omega arith)

  -- so a call that asks for more leaves a record that is no heavier
  pub more_light : needs_more (decode es ps d s).answer ≡ true → weight (decode es ps d s).state ≤ weight d
  more_light q = rw (decode_more_stays es ps d s q).same (note_light (decide es ps d s).note refl)

  -- and what is nearer than the record with the note is nearer than the record
  from_note : (r : Decoded) → Nearer (with_note es ps d s) (length s) r → Nearer d (length s) r
  from_note r k q = let light = note_light (decide es ps d s).note refl in omega (arith, k q)

  -- ---- a call, and the end of input

  decode_nearer : Nearer d (length s) (decode es ps d s)
  decode_nearer = from_note (decode es ps d s) (exit_nearer es ps d s byte (exits es ps d s))

  end_nearer : {t : List Entry} {e : TagDecoder} {r : Decoded} → EndExit t e s r → Nearer e (length s) r
  unfolding move with_open with_waiting with_notes closed_to
  end_nearer (at.bytes_left l) q = absurd (true≢false q)
  end_nearer (at.master_cut z l) q = absurd (true≢false q)
  end_nearer (at.no_master_lem n m) q = absurd (true≢false q)
  end_nearer (at.finishes n m z) q = absurd (true≢false q)
  end_nearer (at.closes_all n m l) q = omega arith

  eof_nearer : {r : Decoded} → EofExit es ps d s r → Nearer d (length s) r
  eof_nearer (at.as_decoded q) = decode_nearer
  eof_nearer {r} (at.at_end q x) = from_note r (end_nearer x)

-- an event brings the end nearer
pub event_nearer : (es ps : List ℕ) (d : TagDecoder) (s : List ℕ) → Octets s → {x : Event} → (decode es ps d s).answer ≡ Ok (answer.Event x)
    → 256 * (length s - (decode es ps d s).taken) + weight (decode es ps d s).state < 256 * length s + weight d
event_nearer es ps d s byte q = decode_nearer es ps d s byte (ap is_no_event q)

-- so does an event of the end of input
pub eof_event_nearer : (es ps : List ℕ) (d : TagDecoder) (s : List ℕ) → Octets s → {x : Event} → (decode_eof es ps d s).answer ≡ Ok (answer.Event x)
    → 256 * (length s - (decode_eof es ps d s).taken) + weight (decode_eof es ps d s).state < 256 * length s + weight d
eof_event_nearer es ps d s byte q = eof_nearer es ps d s byte (eof_exits es ps d s) (ap is_no_event q)

-- ---- a record that answers an event is light

module _ (es ps : List ℕ) (d : TagDecoder) (s : List ℕ) where
  -- an event is answered only where 10, 11 and 12 are passed
  exit_passed : {a : Decision} → Exit es ps d s a → is_no_event (apply ps d a).answer ≡ false → check_record10to12 es ps d (length s) ≡ Ok tt
  unfolding apply move
  exit_passed (exit.refused_first x e) q = absurd (true≢false q)
  exit_passed (exit.after_finish e f l) q = e
  exit_passed (exit.hands_out ok w) q = ok.first
  exit_passed (exit.finished ok w f) q = ok.first
  exit_passed (exit.closes_full r l c) q = r.admitted.first
  exit_passed (exit.no_byte n z) q = n.reading.admitted.first
  exit_passed (exit.header_incomplete at e) q = at.none_full.reading.admitted.first
  exit_passed (exit.header_refused x at e) q = at.none_full.reading.admitted.first
  exit_passed (exit.id_refused h at f) q = at.at_bytes.none_full.reading.admitted.first
  exit_passed (exit.on_header h at f x) q = at.at_bytes.none_full.reading.admitted.first

  -- so by a record that holds no more than its places
  pub event_light : is_no_event (decode es ps d s).answer ≡ false → weight d < 256
  event_light q = go d.settled
    where
      go : (b : Bool) → cond b 0 128 + (2 * d.open_count + d.waiting_count) < 256
      go true = let g = (passed12 es ps d (length s) (exit_passed (exits es ps d s) q)).good in omega (arith, g.open_count, g.waiting_count)
      go false = let g = (passed12 es ps d (length s) (exit_passed (exits es ps d s) q)).good in omega (arith, g.open_count, g.waiting_count)
