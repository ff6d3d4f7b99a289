-- Document 02, CR 11: "what it accepts the ported mode answers alike". What a call on a record in either mode answers,
-- and does not refuse, is answered alike on the same record in the ported mode: where the table has no Global, or at
-- least the ID at the front has none in its path, unknown IDs are refused (15), and text at the front has no zero byte.
-- So of `decode`, of the end of input, and of these calls in a row. Case by case over the view of Exits.antt: a test
-- that is passed strictly is passed as ported, the same masters close, and the same payload is read. Assumes nothing.
use Prim.Native.Nat.{ℕ, suc, ◌+◌, ◌-◌, ◌≤◌, ◌<◌}
use mathlib.Core.Path.{◌≡◌, refl, sym, ap, ◌∙◌, subst}
use mathlib.Core.Bool.{Bool, true, false, cond, not, ◌||◌, false≢true, true≢false}
use mathlib.Core.List.{List, [], ◌∷◌, reverse}
use native.Mathlib.Omega.{arith}
use borrow.Author.Tests.{eqb-true}
use lib.Dec.{eqb}
use lib.ListN.{length, take, drop, length-drop}
use lib.Seq.{take-length, length-take-le}
use Rattle.basics.specs.Lists.{every, first_index}
use Rattle.table.specs.Check.{only_ids}
use Rattle.table.specs.Table.{Entry, table_of, entry_for, data_type_of, path_of, is_typed}
use Rattle.table.specs.declared.types.TagDataType.{TagDataType}
use Rattle.table.specs.declared.types.TagDataType.TheVariants as type
use Rattle.spec_util.specs.Walk.{validate_tag_path}
use Rattle.spec_util.proofs.StrictEndings.{typed_tops}
use Rattle.spec_util.proofs.StrictPlaces.{strictly_so_ported}
use Rattle.tag_parse.specs.Header.{read_header}
use Rattle.tag_parse.specs.Payload.{before_zero, value_of}
use Rattle.tag_parse.specs.declared.types.EBMLSize.{EBMLSize}
use Rattle.tag_parse.specs.declared.types.EBMLSize.TheVariants.{Known, Unknown}
use Rattle.tag_parse.specs.declared.types.Range.{Range}
use Rattle.tag_parse.specs.declared.types.TagHeader.{TagHeader}
use Rattle.tag_parse.proofs.Headers.{header_spec}
use Rattle.decoder_rules.specs.Deciding.{decide}
use Rattle.decoder_rules.specs.EndOfInput.{ended_or, decode_eof}
use Rattle.decoder_rules.specs.Moving.{move, apply, decode}
use Rattle.decoder_rules.specs.Numbers.{error_number, answer_refusal}
use Rattle.decoder_rules.specs.OneCall.{good_state, check_record10to12, good_form, step6, step7, noted, step8, fits_inside, step9, step10}
use Rattle.decoder_rules.specs.Record.{opens, with_settings}
use Rattle.decoder_rules.specs.Settings.{reading}
use Rattle.decoder_rules.specs.Strictly.{no_globals, no_zero, is_utf8, no_zero_after, no_zero_in_text, Alike, Ask, decoding, ending, lent_at, called, answers_to, left_by, no_refusal, Answered, RunAlike}
use Rattle.decoder_rules.specs.declared.types.Action.{Action}
use Rattle.decoder_rules.specs.declared.types.Action.TheVariants as act
use Rattle.decoder_rules.specs.declared.types.Answer.{Answer}
use Rattle.decoder_rules.specs.declared.types.Answer.TheVariants as answer
use Rattle.decoder_rules.specs.declared.types.DecodeError.{DecodeError}
use Rattle.decoder_rules.specs.declared.types.DecodeError.TheVariants as error
use Rattle.decoder_rules.specs.declared.types.Decision.{Decision}
use Rattle.decoder_rules.specs.declared.types.Decoded.{Decoded}
use Rattle.decoder_rules.specs.declared.types.Settings.{Settings}
use Rattle.decoder_rules.specs.declared.types.TagDecoder.{TagDecoder}
use Rattle.basics.proofs.Bools.{both}
use Rattle.decoder_rules.proofs.Exits.{Closing, closes, no_master_lem, payload_of, Valid, AtElement, HasPayload, HeaderExit, misplaced, oversized, too_large, past_end, ends_tops, too_many, starts, no_size, payload_incomplete, payload_refused, holds, Admitted, Reading, NoneFull, AtBytes, AtHeader, Exit, refused_first, after_finish, hands_out, finished, closes_full, no_byte, header_incomplete, header_refused, id_refused, on_header, exits, exit_decides}
use Rattle.decoder_rules.proofs.ModeKept.{in_mode, noted_mode, move_mode, ended_mode, decode_settings, eof_settings}
use Rattle.decoder_rules.proofs.MoveEffects.{SameSettings}
use Rattle.std.specs.Prelude.{Err, Ok, Result}
use Rattle.decoder_rules.specs.declared.types.Refusal.{Refusal}
use Rattle.tools.specs.declared.status.Status.TheVariants as status

-- ---- the conditions

-- in a table without a Global the path of every ID holds IDs only
pub only_ids_lem : (t : List Entry) (x : ℕ) → no_globals t ≡ true → only_ids (path_of t x) ≡ true
unfolding no_globals every entry_for only_ids
only_ids_lem [] x g = refl
only_ids_lem (e ∷ t) x g = let b = both (only_ids e.path) (no_globals t) g in go (eqb e.id x) b.left (only_ids_lem t x b.right)
  where
    go : (b : Bool) → only_ids e.path ≡ true → only_ids (path_of t x) ≡ true → only_ids (cond b e (entry_for t x)).path ≡ true
    go true p q = p
    go false p q = q

-- the ID of a header at the front of s has a path of IDs only
abbrev pub IdsInFront : List Entry → List ℕ → Type 0
IdsInFront t s = (h : TagHeader) → read_header t s ≡ Ok (status.Complete h) → only_ids (path_of t h.id) ≡ true

-- as in a table without a Global
ids_in_front : (t : List Entry) (s : List ℕ) → no_globals t ≡ true → IdsInFront t s
ids_in_front t s g h e = only_ids_lem t h.id g

-- where no byte is zero, all of them come before the first zero byte
before_all : (s : List ℕ) → no_zero s ≡ true → before_zero s ≡ length s
unfolding no_zero every first_index
before_all [] z = refl
before_all (a ∷ s) z = go (eqb a 0) (both (not (eqb a 0)) (no_zero s) z).left (before_all s (both (not (eqb a 0)) (no_zero s) z).right)
  where
    go : (b : Bool) → not b ≡ true → before_zero s ≡ length s → cond b 0 (before_zero s + 1) ≡ suc (length s)
    go true p q = absurd (false≢true p)
    go false p q = omega arith

-- a payload in which no text has a zero byte has the same value in either mode
pub value_alike : (m : Bool) (k : TagDataType) (s : List ℕ) (r : Range) → r.end ≡ r.begin + length s → (not (is_utf8 k) || no_zero s) ≡ true
    → value_of false k s r ≡ value_of m k s r
unfolding value_of
value_alike false k s r e z = refl
value_alike true type.UnsignedInt s r e z = refl
value_alike true type.Integer s r e z = refl
value_alike true type.Utf8 s r e z = sym (rw (before_all s z, take-length, e))
value_alike true type.Binary s r e z = refl
value_alike true type.Float s r e z = refl
value_alike true type.Master s r e z = refl
value_alike true type.Untyped s r e z = refl

-- ---- 6 to 11

or_other : (a : Bool) {x y : Bool} → (x ≡ true → y ≡ true) → (a || x) ≡ true → (a || y) ≡ true
or_other true f e = refl
or_other false f e = f e

-- a refusal is decided
abbrev pub refuses : Result Action DecodeError → Bool
refuses (Err e) = true
refuses (Ok (act.NeedMore missing)) = false
refuses (Ok act.Finish) = false
refuses (Ok act.HandOut) = false
refuses (Ok (act.Close k)) = false
refuses (Ok (act.Start x z len)) = false
refuses (Ok (act.Data x v n)) = false

-- the same record in the ported mode
abbrev ported : TagDecoder → TagDecoder
ported d = reading d false

closing_alike : {t : List Entry} {d : TagDecoder} {k : ℕ} {a : Result Action DecodeError} → Closing t d k a → Closing t (ported d) k a
unfolding with_settings
closing_alike (closes e) = closes e
closing_alike (no_master_lem e) = no_master_lem e

module _ (t : List Entry) (d : TagDecoder) (h : TagHeader) (s : List ℕ) (typed : is_typed (data_type_of t h.id) ≡ true) (ids : only_ids (path_of t h.id) ≡ true) (text : no_zero_after h s ≡ true) where
  path_alike : (m : Bool) → validate_tag_path m t h.id (opens d) ≡ true → validate_tag_path false t h.id (opens d) ≡ true
  path_alike true e = strictly_so_ported t h.id typed ids (opens d) e
  path_alike false e = e

  step9_alike : (z : EBMLSize) → step9 d h.len z ≡ Ok tt → step9 (ported d) h.len z ≡ Ok tt
  unfolding step9 fits_inside with_settings
  step9_alike Unknown e = refl
  step9_alike (Known n) e = e

  step10_alike : step10 t d h.id ≡ step10 t (ported d) h.id
  unfolding with_settings
  step10_alike = ap (λ (n : ℕ). d.open_count - n) (typed_tops t h.id typed ids d.settings.strict (reverse (opens d)))

  valid_alike : Valid t d h → Valid t (ported d) h
  unfolding step8 with_settings
  valid_alike v =
      record {
        path = or_other (not (is_typed h.kind) || not d.settled || d.settings.allow_hierarchy) (path_alike d.settings.strict) v.path;
        size = step9_alike h.size v.size;
      }

  element_alike : AtElement t d h → AtElement t (ported d) h
  element_alike at = record { valid = valid_alike at.valid; none_ended = unfold with_settings in rw step10_alike at at.none_ended }

  has_alike : {n : ℕ} → HasPayload t d h n → HasPayload t (ported d) h n
  has_alike has = record { at = element_alike has.at; no_master_lem = has.no_master_lem; known = has.known }

  payload_alike : {n : ℕ} → HasPayload t d h n → h.len + n ≤ length s → payload_of (ported d) h n s ≡ payload_of d h n s
  unfolding with_settings no_zero_after
  payload_alike {n} has l =
      let body : n ≤ length (drop h.len s) = rw length-drop (omega arith) in
      value_alike d.settings.strict h.kind (take n (drop h.len s)) _ (omega (arith, length-take-le n (drop h.len s) body)) (rw has.known at text)

  -- 8 to 11
  header_alike : {a : Result Action DecodeError} → HeaderExit t d h s a → refuses a ≡ false → HeaderExit t (ported d) h s a
  header_alike (misplaced p) q = absurd (true≢false q)
  header_alike (oversized n p e f) q = absurd (true≢false q)
  header_alike (too_large n p e f g) q = absurd (true≢false q)
  header_alike (past_end p e m f) q = absurd (true≢false q)
  header_alike (ends_tops {a} v l c) q =
      ends_tops (valid_alike v) (unfold with_settings in rw step10_alike at l) (closing_alike (subst (λ (k : ℕ). Closing t d k a) step10_alike c))
  header_alike (too_many at k l) q = absurd (true≢false q)
  header_alike (starts at k l) q = starts (element_alike at) k (unfold with_settings in l)
  header_alike (no_size at k e) q = absurd (true≢false q)
  header_alike (payload_incomplete n has l) q = payload_incomplete n (has_alike has) l
  header_alike (payload_refused n x has l e) q = absurd (true≢false q)
  header_alike (holds n v has l e) q = holds n v (has_alike has) l (payload_alike has l ∙ e)

-- ---- the whole decision

typed_or : (a b : Bool) → b ≡ false → (a || b) ≡ true → a ≡ true
typed_or true b f e = refl
typed_or false b f e = absurd (false≢true (sym f ∙ e))

module _ (es ps : List ℕ) (d : TagDecoder) (s : List ℕ) (ids : IdsInFront (table_of es ps) s) (typed-only : d.settings.allow_ids ≡ false) (text : no_zero_in_text (table_of es ps) s ≡ true) where
  admitted_alike : Admitted es ps d s → Admitted es ps (ported d) s
  unfolding check_record10to12 good_state with_settings
  admitted_alike ok = record { first = ok.first; second = ok.second }

  reading_alike : Reading es ps d s → Reading es ps (ported d) s
  unfolding with_settings
  reading_alike r = record { admitted = admitted_alike r.admitted; none_waiting = r.none_waiting; unfinished = r.unfinished }

  none_full_alike : NoneFull es ps d s → NoneFull es ps (ported d) s
  unfolding with_settings
  none_full_alike n = record { reading = reading_alike n.reading; none_full = n.none_full }

  bytes_alike : AtBytes es ps d s → AtBytes es ps (ported d) s
  bytes_alike at = record { none_full = none_full_alike at.none_full; some_byte = at.some_byte }

  at_header_alike : {h : TagHeader} → AtHeader es ps d s h → AtHeader es ps (ported d) s h
  at_header_alike at = record { at_bytes = bytes_alike at.at_bytes; read = at.read }

  typed_or_allowed : (h : TagHeader) → step6 d h ≡ true → (is_typed h.kind || d.settings.allow_ids) ≡ true
  unfolding step6
  typed_or_allowed h e = (both (good_form d.settings.strict h.id) _ e).right

  step6_alike : (h : TagHeader) → step6 d h ≡ true → step6 (ported d) h ≡ true
  unfolding step6 good_form with_settings
  step6_alike h e = typed_or_allowed h e

  typed_read : (h : TagHeader) → AtHeader es ps d s h → step6 d h ≡ true → is_typed (data_type_of (table_of es ps) h.id) ≡ true
  typed_read h at e =
      ap is_typed (sym (header_spec (table_of es ps) s h at.read).kind) ∙ typed_or (is_typed h.kind) d.settings.allow_ids typed-only (typed_or_allowed h e)

  text_read : (h : TagHeader) → AtHeader es ps d s h → no_zero_after h s ≡ true
  unfolding no_zero_in_text
  text_read h at = rw at.read at text

  exit_alike : {a : Decision} → Exit es ps d s a → refuses a.action ≡ false → Exit es ps (ported d) s a
  unfolding with_settings
  exit_alike (refused_first x e) q = absurd (true≢false q)
  exit_alike (after_finish e f l) q = absurd (true≢false q)
  exit_alike (hands_out ok l) q = hands_out (admitted_alike ok) l
  exit_alike (finished ok w f) q = finished (admitted_alike ok) w f
  exit_alike (closes_full r l c) q = closes_full (reading_alike r) l (closing_alike c)
  exit_alike (no_byte n z) q = no_byte (none_full_alike n) z
  exit_alike (header_incomplete at e) q = header_incomplete (bytes_alike at) e
  exit_alike (header_refused x at e) q = absurd (true≢false q)
  exit_alike (id_refused h at f) q = absurd (true≢false q)
  exit_alike (on_header {a} h at f x) q =
      let t = table_of es ps in
      let n = step7 t d h in
      on_header h (at_header_alike at) (step6_alike h f)
      (subst (λ (e : TagDecoder). HeaderExit t e h s a) (sym (noted_mode d false ps n))
      (header_alike t (noted ps d n) h s (typed_read h at f) (ids h at.read) (text_read h at) x q))

  -- what is decided, and is no refusal, is decided as ported too
  pub decide_alike : refuses (decide es ps d s).action ≡ false → decide es ps d s ≡ decide es ps (reading d false) s
  decide_alike q = exit_decides es ps (ported d) s (exit_alike (exits es ps d s) q)

-- ---- the calls

-- every refusal has a number
pub some_number : (e : DecodeError) → 0 < error_number e
some_number error.TableShape = omega arith
some_number error.BadState = omega arith
some_number error.TooFar = omega arith
some_number error.AfterFinish = omega arith
some_number error.InvalidTagData = omega arith
some_number error.InvalidTagId = omega arith
some_number error.HierarchyError = omega arith
some_number error.InvalidTagSize = omega arith
some_number error.OversizedChildElement = omega arith
some_number error.TooManyOpen = omega arith
some_number error.FromUtf8Error = omega arith
some_number error.ReadF64Mismatch = omega arith
some_number (error.UnexpectedEOF c) = omega arith
some_number error.NotAMaster = omega arith
some_number error.InvalidIdForm = omega arith
some_number error.UnknownSizePastEnd = omega arith

not_refused : (d : TagDecoder) (a : Result Action DecodeError) → answer_refusal (move d a).answer ≡ 0 → refuses a ≡ false
unfolding move
not_refused d (Err e) z = absurd (omega (arith, some_number e))
not_refused d (Ok (act.NeedMore missing)) z = refl
not_refused d (Ok act.Finish) z = refl
not_refused d (Ok act.HandOut) z = refl
not_refused d (Ok (act.Close k)) z = refl
not_refused d (Ok (act.Start x size len)) z = refl
not_refused d (Ok (act.Data x v n)) z = refl

-- where the end of input refuses nothing, nor did the decoding before it
eof_decoded : (t : List Entry) (s : List ℕ) (r : Decoded) (a : Result Answer Refusal) → r.answer ≡ a → answer_refusal (ended_or t s r a).answer ≡ 0 → answer_refusal a ≡ 0
eof_decoded t s r (Ok (answer.Event e)) q z = refl
eof_decoded t s r (Ok (answer.NeedMore missing)) q z = refl
eof_decoded t s r (Ok answer.Finished) q z = refl
eof_decoded t s r (Err e) q z = sym (ap answer_refusal q) ∙ z

alike_by : {r p : Decoded} → p ≡ in_mode false r → Alike r p
alike_by e = record { answer = ap (λ (x : Decoded). x.answer) e; taken = ap (λ (x : Decoded). x.taken) e; state = ap (λ (x : Decoded). x.state) e }

module _ (es ps : List ℕ) (d : TagDecoder) (s : List ℕ) (ids : IdsInFront (table_of es ps) s) (typed-only : d.settings.allow_ids ≡ false) (text : no_zero_in_text (table_of es ps) s ≡ true) where
  -- a call of `decode` that is no refusal is answered alike as ported
  pub decode_same : answer_refusal (decode es ps d s).answer ≡ 0 → decode es ps (reading d false) s ≡ in_mode false (decode es ps d s)
  unfolding apply
  decode_same z =
      let a = decide es ps d s in
      let same = decide_alike es ps d s ids typed-only text (not_refused (noted ps d a.note) a.action z) in
      ap (λ (b : Decision). move (noted ps (ported d) b.note) b.action) (sym same)
      ∙ ap (λ (e : TagDecoder). move e a.action) (noted_mode d false ps a.note)
      ∙ move_mode (noted ps d a.note) false a.action

  -- and so is one at the end of input
  pub eof_same : answer_refusal (decode_eof es ps d s).answer ≡ 0 → decode_eof es ps (reading d false) s ≡ in_mode false (decode_eof es ps d s)
  unfolding decode_eof
  eof_same z =
      let t = table_of es ps in
      let r = decode es ps d s in
      ap (λ (p : Decoded). ended_or t s p p.answer) (decode_same (eof_decoded t s r r.answer refl z)) ∙ ended_mode false t s r r.answer

-- ---- in a table without a Global

module _ (es ps : List ℕ) (globals : no_globals (table_of es ps) ≡ true) (d : TagDecoder) (s : List ℕ) (typed-only : d.settings.allow_ids ≡ false) (text : no_zero_in_text (table_of es ps) s ≡ true) where
  -- what `decode` answers and does not refuse, it answers alike as ported
  pub decode_alike : answer_refusal (decode es ps d s).answer ≡ 0 → Alike (decode es ps d s) (decode es ps (reading d false) s)
  decode_alike z = alike_by (decode_same es ps d s (ids_in_front (table_of es ps) s globals) typed-only text z)

  -- and so does the end of input
  pub eof_alike : answer_refusal (decode_eof es ps d s).answer ≡ 0 → Alike (decode_eof es ps d s) (decode_eof es ps (reading d false) s)
  eof_alike z = alike_by (eof_same es ps d s (ids_in_front (table_of es ps) s globals) typed-only text z)

-- ---- calls in a row

module _ (es ps : List ℕ) (globals : no_globals (table_of es ps) ≡ true) where
  called_same : (d : TagDecoder) (c : Ask) → d.settings.allow_ids ≡ false → no_zero_in_text (table_of es ps) (lent_at c) ≡ true → answer_refusal (called es ps d c).answer ≡ 0
      → called es ps (ported d) c ≡ in_mode false (called es ps d c)
  called_same d (decoding s) k n z = decode_same es ps d s (ids_in_front (table_of es ps) s globals) k n z
  called_same d (ending s) k n z = eof_same es ps d s (ids_in_front (table_of es ps) s globals) k n z

  called_settings : (d : TagDecoder) (c : Ask) → SameSettings d (called es ps d c).state
  called_settings d (decoding s) = decode_settings es ps d s
  called_settings d (ending s) = eof_settings es ps d s

  -- calls of which none is refused are answered alike as ported, one after the other
  pub run_alike : (d : TagDecoder) (cs : List Ask) → d.settings.allow_ids ≡ false → every (λ c. no_zero_in_text (table_of es ps) (lent_at c)) cs ≡ true
      → no_refusal (answers_to es ps d cs) ≡ true → RunAlike es ps d cs
  unfolding answers_to left_by every no_refusal
  run_alike d [] k n z = record { answers = refl; left = refl }
  run_alike d (c ∷ cs) k n z =
      let r = called es ps d c in
      let texts = both (no_zero_in_text (table_of es ps) (lent_at c)) _ n in
      let accepted = both (eqb (answer_refusal r.answer) 0) (no_refusal (answers_to es ps r.state cs)) z in
      let same = called_same d c k texts.left (eqb-true _ _ accepted.left) in
      let later = run_alike r.state cs (ap (λ (s : Settings). s.allow_ids) (called_settings d c) ∙ k) texts.right accepted.right in
      record {
        answers =
            ap (λ (p : Decoded). record { answer = p.answer; taken = p.taken } ∷ answers_to es ps p.state cs) same
            ∙ ap (λ (l : List Answered). record { answer = r.answer; taken = r.taken } ∷ l) later.answers;
        left = ap (λ (p : Decoded). left_by es ps p.state cs) same ∙ later.left;
      }
