-- A call that hands out a Start or a Data has tested its place: the element has passed step 8, and step 10 closed
-- nothing before it. So where it has a type and a path of IDs, and the hierarchy test is on, the open masters of the
-- record are that path: strictly always, as ported where each of them stays open before it. Assumes nothing.
use Prim.Native.Nat.{ℕ, ◌-◌, ◌≤◌}
use mathlib.Core.Path.{◌≡◌, refl, sym, ap, ◌∙◌, subst}
use mathlib.Core.Bool.{Bool, true, false, not, ◌&&◌, ◌||◌}
use mathlib.Core.List.{List, map, reverse}
use native.Mathlib.Omega.{arith}
use lib.ListN.{length}
use lib.Seq.{take_all}
use Rattle.basics.specs.Lists.{every}
use Rattle.basics.proofs.Bools.{absurd_eq, and_both}
use Rattle.table.specs.Check.{only_ids}
use Rattle.table.specs.Table.{Entry, table_of, data_type_of, path_of, path_ids, is_typed}
use Rattle.spec_util.specs.Rfc8794.{stays_open}
use Rattle.spec_util.specs.Walk.{ended_tops, left_open, validate_tag_path}
use Rattle.spec_util.specs.declared.types.OpenTag.{OpenTag}
use Rattle.spec_util.proofs.StrictPlaces.{place_is}
use Rattle.spec_util.proofs.WalkByRfc.{accepted_in_open}
use Rattle.tag_parse.specs.Header.{read_header}
use Rattle.tag_parse.specs.declared.types.TagHeader.{TagHeader}
use Rattle.tag_parse.proofs.Headers.{header_spec}
use Rattle.decoder_rules.specs.Record.{opens}
use Rattle.decoder_rules.specs.OneCall.{noted, step8, step10}
use Rattle.decoder_rules.specs.Moving.{move, apply, decode}
use Rattle.decoder_rules.specs.Deciding.{decide}
use Rattle.decoder_rules.specs.EndOfInput.{decode_eof}
use Rattle.decoder_rules.specs.declared.types.Action.{Action}
use Rattle.decoder_rules.specs.declared.types.Action.TheVariants as act
use Rattle.decoder_rules.specs.declared.types.Answer.{Answer}
use Rattle.decoder_rules.specs.declared.types.Refusal.{Refusal}
use Rattle.decoder_rules.specs.declared.types.Answer.TheVariants as answer
use Rattle.decoder_rules.specs.declared.types.Decision.{Decision}
use Rattle.decoder_rules.specs.declared.types.Decoded.{Decoded}
use Rattle.decoder_rules.specs.declared.types.Event.{Event}
use Rattle.decoder_rules.specs.declared.types.Event.TheVariants as event
use Rattle.decoder_rules.specs.declared.types.TagDecoder.{TagDecoder}
use Rattle.decoder_rules.specs.declared.types.WaitingEnd.{WaitingEnd}
use Rattle.decoder_rules.proofs.EndExits as end
use Rattle.decoder_rules.proofs.EndExits.{EndExit, EofExit, eof_exits}
use Rattle.decoder_rules.proofs.Exits as exit
use Rattle.decoder_rules.proofs.Exits.{Closing, AtElement, HeaderExit, Exit, exits}
use Rattle.decoder_rules.proofs.MoveLaws.{with_note}
use Rattle.guarantees.specs.Promises.{event_id, element_offset}
use Rattle.guarantees.proofs.Decided.{Facts}
use Rattle.std.specs.Prelude.{Err, Ok, Result, Some}
use Rattle.decoder_rules.specs.declared.types.DecodeError.{DecodeError}
use Rattle.tools.specs.declared.status.Status.TheVariants as status

-- ---- the place has been tested

-- the header at the front of the bytes is that of the ID x, and has come to step 11; d has the note
pub record AtId (t : List Entry) (d : TagDecoder) (s : List ℕ) (x : ℕ) : Type 0 where
  pub its : TagHeader
  pub read : read_header t s ≡ Ok (status.Complete its)
  pub same_id : its.id ≡ x
  pub at : AtElement t d its

-- so it is where a Start or a Data was decided
abbrev Placed : List Entry → TagDecoder → List ℕ → Result Action DecodeError → Type 0
Placed t d s (Err e) = Unit {0}
Placed t d s (Ok (act.NeedMore missing)) = Unit {0}
Placed t d s (Ok act.Finish) = Unit {0}
Placed t d s (Ok act.HandOut) = Unit {0}
Placed t d s (Ok (act.Close k)) = Unit {0}
Placed t d s (Ok (act.Start x z len)) = AtId t d s x
Placed t d s (Ok (act.Data x v n)) = AtId t d s x

closing_placed : (t : List Entry) (d e : TagDecoder) (s : List ℕ) {k : ℕ} {a : Result Action DecodeError} → Closing t e k a → Placed t d s a
closing_placed t d e s (exit.closes m) = tt
closing_placed t d e s (exit.no_master_lem m) = tt

header_placed : (t : List Entry) (d : TagDecoder) (s : List ℕ) (h : TagHeader) → read_header t s ≡ Ok (status.Complete h) → {a : Result Action DecodeError} → HeaderExit t d h s a → Placed t d s a
header_placed t d s h is (exit.misplaced e) = tt
header_placed t d s h is (exit.oversized n p k f) = tt
header_placed t d s h is (exit.too_large n p k f g) = tt
header_placed t d s h is (exit.past_end p k m f) = tt
header_placed t d s h is (exit.ends_tops v l c) = closing_placed t d d s c
header_placed t d s h is (exit.too_many at k l) = tt
header_placed t d s h is (exit.starts at k l) = record { its = h; read = is; same_id = refl; at = at }
header_placed t d s h is (exit.no_size at k e) = tt
header_placed t d s h is (exit.payload_incomplete n p l) = tt
header_placed t d s h is (exit.payload_refused n x p l e) = tt
header_placed t d s h is (exit.holds n v p l e) = record { its = h; read = is; same_id = refl; at = p.at }

module _ (es ps : List ℕ) (d : TagDecoder) (s : List ℕ) where
  exit_placed : {a : Decision} → Exit es ps d s a → Placed (table_of es ps) (noted ps d a.note) s a.action
  exit_placed (exit.refused_first x e) = tt
  exit_placed (exit.after_finish e f l) = tt
  exit_placed (exit.hands_out ok w) = tt
  exit_placed (exit.finished ok w f) = tt
  exit_placed (exit.closes_full r l c) = closing_placed (table_of es ps) (noted ps d _) d s c
  exit_placed (exit.no_byte n z) = tt
  exit_placed (exit.header_incomplete at e) = tt
  exit_placed (exit.header_refused x at e) = tt
  exit_placed (exit.id_refused h at f) = tt
  exit_placed (exit.on_header h at f x) = header_placed (table_of es ps) (noted ps d _) s h at.read x

-- ---- where a call hands out a Start or a Data

-- what holds of its ID x; d has the note
pub record Handed (t : List Entry) (d : TagDecoder) (s : List ℕ) (x : ℕ) : Type 0 where
  pub at : AtId t d s x
  pub none_waiting : d.waiting_count ≡ 0
  pub settled : (is_typed (data_type_of t x) && only_ids (path_of t x)) ≡ true → d.settled ≡ true

-- an End is no such element
no_element : (end : WaitingEnd) (e : Event) (o : ℕ) → element_offset e ≡ Some o → ◌≡◌ {A = Result Answer Refusal} (Ok (answer.Event (event.End end))) (Ok (answer.Event e)) → ⊥
no_element end (event.Start x p) o i q = let z : ◌≡◌ {A = ℕ} 0 1 = cc in absurd_eq z
no_element end (event.End f) o i q = let z : ◌≡◌ {A = ℕ} 0 1 = cc in absurd_eq z
no_element end (event.Data x p v) o i q = let z : ◌≡◌ {A = ℕ} 0 1 = cc in absurd_eq z

module _ (t : List Entry) (d : TagDecoder) (s : List ℕ) (e : Event) (o : ℕ) (i : element_offset e ≡ Some o) where
  moved_handed : (a : Result Action DecodeError) → Placed t d s a → Facts t d s a → (move d a).answer ≡ Ok (answer.Event e) → Handed t d s (event_id e)
  unfolding move
  moved_handed (Err x) p f q = let z : ◌≡◌ {A = ℕ} 0 1 = cc in absurd_eq z
  moved_handed (Ok (act.NeedMore missing)) p f q = let z : ◌≡◌ {A = ℕ} 0 1 = cc in absurd_eq z
  moved_handed (Ok act.Finish) p f q = let z : ◌≡◌ {A = ℕ} 0 1 = cc in absurd_eq z
  moved_handed (Ok act.HandOut) p f q = absurd (no_element _ e o i q)
  moved_handed (Ok (act.Close k)) p f q = absurd (no_element _ e o i q)
  moved_handed (Ok (act.Start x z len)) p f q =
      let w : event.Start x d.position ≡ e = cc in
      subst (λ (e : Event). Handed t d s (event_id e)) w (record { at = p; none_waiting = f.reading.none_waiting; settled = λ _. f.settled })
  moved_handed (Ok (act.Data x v n)) p f q =
      let w : event.Data x d.position v ≡ e = cc in
      subst (λ (e : Event). Handed t d s (event_id e)) w (record { at = p; none_waiting = f.reading.none_waiting; settled = f.settled })

  -- what the end of input adds are Ends
  ended_none : {r : Decoded} → EndExit t d s r → r.answer ≡ Ok (answer.Event e) → ⊥
  unfolding move
  ended_none (end.bytes_left l) q = let z : ◌≡◌ {A = ℕ} 0 1 = cc in absurd_eq z
  ended_none (end.master_cut z l) q = let z : ◌≡◌ {A = ℕ} 0 1 = cc in absurd_eq z
  ended_none (end.no_master_lem n m) q = let z : ◌≡◌ {A = ℕ} 0 1 = cc in absurd_eq z
  ended_none (end.finishes n m z) q = let z : ◌≡◌ {A = ℕ} 0 1 = cc in absurd_eq z
  ended_none (end.closes_all n m l) q = no_element _ e o i q

module _ (es ps : List ℕ) (d : TagDecoder) (s : List ℕ) (facts : Facts (table_of es ps) (with_note es ps d s) s (decide es ps d s).action)
    (e : Event) (o : ℕ) (i : element_offset e ≡ Some o) where
  -- a call of `decode`
  pub decode_handed : (decode es ps d s).answer ≡ Ok (answer.Event e) → Handed (table_of es ps) (with_note es ps d s) s (event_id e)
  unfolding apply
  decode_handed q = moved_handed (table_of es ps) (with_note es ps d s) s e o i (decide es ps d s).action (exit_placed es ps d s (exits es ps d s)) facts q

  exit_handed : {r : Decoded} → EofExit es ps d s r → r.answer ≡ Ok (answer.Event e) → Handed (table_of es ps) (with_note es ps d s) s (event_id e)
  exit_handed (end.as_decoded q) = decode_handed
  exit_handed (end.at_end q x) = λ r. absurd (ended_none (table_of es ps) (with_note es ps d s) s e o i x r)

  -- a call at the end of input
  pub eof_handed : (decode_eof es ps d s).answer ≡ Ok (answer.Event e) → Handed (table_of es ps) (with_note es ps d s) s (event_id e)
  eof_handed = exit_handed (eof_exits es ps d s)

-- ---- the open masters of the record are the path

-- 8 by its four tests
walked : (typed settled allowed walk : Bool) → typed ≡ true → settled ≡ true → allowed ≡ false → (not typed || not settled || allowed || walk) ≡ true → walk ≡ true
walked typed settled allowed walk p q r e = rw (p, q, r) at e

module _ (t : List Entry) (d : TagDecoder) (s : List ℕ) (x : ℕ) (k : Handed t d s x) (typed : is_typed (data_type_of t x) ≡ true) (ids : only_ids (path_of t x) ≡ true)
    (on : d.settings.allow_hierarchy ≡ false) (count : length (opens d) ≡ d.open_count) where
  -- the walk has accepted the ID
  walk_passed : validate_tag_path d.settings.strict t x (opens d) ≡ true
  unfolding step8
  walk_passed =
      let h = k.at.its in
      let kind : is_typed h.kind ≡ true = ap is_typed ((header_spec t s h k.at.read).kind ∙ ap (data_type_of t) k.at.same_id) ∙ typed in
      subst (λ (y : ℕ). validate_tag_path d.settings.strict t y (opens d) ≡ true) k.at.same_id
      (walked (is_typed h.kind) d.settled d.settings.allow_hierarchy (validate_tag_path d.settings.strict t h.id (opens d)) kind (k.settled (and_both typed ids)) on
      k.at.at.valid.path)

  -- strictly none of the masters at the top ends, so all are left open
  all_left : d.settings.strict ≡ true → left_open true t x (opens d) ≡ opens d
  unfolding left_open
  all_left strict =
      let n = ended_tops true t x (reverse (opens d)) in
      let none : d.open_count ≤ d.open_count - n =
      subst (λ (b : Bool). d.open_count ≤ d.open_count - ended_tops b t x (reverse (opens d))) strict
      (subst (λ (y : ℕ). d.open_count ≤ step10 t d y) k.at.same_id k.at.at.none_ended) in
      take_all (length (opens d) - n) (opens d) (omega (arith, count))

  pub strict_ids : d.settings.strict ≡ true → map (λ (m : OpenTag). m.id) (opens d) ≡ path_ids (path_of t x)
  strict_ids strict =
      let walk : validate_tag_path true t x (opens d) ≡ true = subst (λ (b : Bool). validate_tag_path b t x (opens d) ≡ true) strict walk_passed in
      ap (map (λ (m : OpenTag). m.id)) (sym (all_left strict)) ∙ ((place_is t x ids (opens d)).0 walk).0

  -- in either mode, where each stays open before the ID
  pub open_ids_lem : every (stays_open t x) (opens d) ≡ true → map (λ (m : OpenTag). m.id) (opens d) ≡ path_ids (path_of t x)
  open_ids_lem stay = go d.settings.strict refl
    where
      go : (b : Bool) → d.settings.strict ≡ b → map (λ (m : OpenTag). m.id) (opens d) ≡ path_ids (path_of t x)
      go true q = strict_ids q
      go false q = (accepted_in_open t x (opens d) ids stay).0 (subst (λ (b : Bool). validate_tag_path b t x (opens d) ≡ true) q walk_passed)
