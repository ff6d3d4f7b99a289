-- Beyond promise 4: where there was no recovery, the implied parents too have had their Ends when the finish is answered,
-- or `is_finished` says so. After the end of input nothing is open in the record, and no call but a recovery opens anything then.
-- Assumes nothing.
use Prim.Native.Nat.{ℕ}
use mathlib.Core.Path.{◌≡◌, refl, sym, ap, ◌∙◌, subst}
use mathlib.Core.Bool.{Bool, true, false, true≢false, false≢true}
use mathlib.Core.List.{List, [], ◌∷◌}
use native.Mathlib.Omega.{arith}
use borrow.Author.Tests.{eqb-true}
use lib.Dec.{eqb}
use Rattle.table.specs.Table.{Entry, table_of}
use Rattle.decoder_rules.specs.Record.{with_settings, with_open, with_waiting, with_notes, closed_to, handed_out}
use Rattle.decoder_rules.specs.OneCall.{noted}
use Rattle.decoder_rules.specs.Deciding.{decide}
use Rattle.decoder_rules.specs.Moving.{move, apply, decode}
use Rattle.decoder_rules.specs.Settings.{limited_to, is_finished}
use Rattle.decoder_rules.specs.declared.types.Action.{Action}
use Rattle.decoder_rules.specs.declared.types.Action.TheVariants as act
use Rattle.decoder_rules.specs.declared.types.Answer.TheVariants as answer
use Rattle.decoder_rules.specs.declared.types.Decision.{Decision}
use Rattle.decoder_rules.specs.declared.types.Decoded.{Decoded}
use Rattle.decoder_rules.specs.declared.types.TagDecoder.{TagDecoder}
use Rattle.decoder_rules.proofs.Exits as exit
use Rattle.decoder_rules.proofs.Exits.{Exit, exits}
use Rattle.decoder_rules.proofs.EndExits as end
use Rattle.decoder_rules.proofs.EndExits.{EndExit, EofExit, eof_exits}
use Rattle.decoder_rules.proofs.MoveLaws.{decode_finished, decode_stays}
use Rattle.basics.proofs.Bools.{both}
use Rattle.guarantees.specs.Calls.{Call, decoding, ending, recovering, allow, strictly, limit, Response, next, record_after, history}
use Rattle.guarantees.specs.History.{left_by, parents_left, is_no_recovery, never_recovered}
use Rattle.guarantees.specs.Promises.{Runs, Answers, open_at, left_at}
use Rattle.guarantees.proofs.Tied.{none_open}
use Rattle.guarantees.proofs.Steps.{no_starts, stack_length, quiet_no_event}
use Rattle.guarantees.proofs.AnyCalls.{QuietResponse, tied_after, promised_after}
use Rattle.std.specs.Prelude.{Err, None, Ok, Option, Result, Some}
use Rattle.decoder_rules.specs.declared.types.DecodeError.{DecodeError}

-- after the end of input nothing is open
abbrev pub Emptied : TagDecoder → Type 0
Emptied d = d.finished ≡ true → d.open_count ≡ 0

-- ---- a decode call

-- what is done after the end of input: no note, and no action that opens or closes
abbrev is_still : Result Action DecodeError → Bool
is_still (Err e) = true
is_still (Ok (act.NeedMore missing)) = true
is_still (Ok act.Finish) = true
is_still (Ok act.HandOut) = true
is_still (Ok (act.Close k)) = false
is_still (Ok (act.Start x z len)) = false
is_still (Ok (act.Data x v n)) = false

record Still (a : Decision) : Type 0 where
  note : a.note ≡ None
  action : is_still a.action ≡ true

module _ (es ps : List ℕ) (d : TagDecoder) (s : List ℕ) where
  -- the end of input has not come where a call reads on
  read_on : exit.Reading es ps d s → {A : Type 0} → d.finished ≡ true → A
  read_on r f = absurd (true≢false (sym f ∙ r.unfinished))

  exit_still : {a : Decision} → Exit es ps d s a → d.finished ≡ true → Still a
  exit_still (exit.refused_first x e) f = record { note = refl; action = refl }
  exit_still (exit.after_finish e g l) f = record { note = refl; action = refl }
  exit_still (exit.hands_out ok w) f = record { note = refl; action = refl }
  exit_still (exit.finished ok w g) f = record { note = refl; action = refl }
  exit_still (exit.closes_full r l c) f = read_on r f
  exit_still (exit.no_byte n z) f = record { note = refl; action = refl }
  exit_still (exit.header_incomplete at e) f = record { note = refl; action = refl }
  exit_still (exit.header_refused x at e) f = record { note = refl; action = refl }
  exit_still (exit.id_refused h at g) f = record { note = refl; action = refl }
  exit_still (exit.on_header h at g x) f = read_on at.at_bytes.none_full.reading f

  still_count : (a : Result Action DecodeError) → is_still a ≡ true → (move d a).state.open_count ≡ d.open_count
  unfolding move handed_out with_waiting
  still_count (Err e) q = refl
  still_count (Ok (act.NeedMore missing)) q = refl
  still_count (Ok act.Finish) q = refl
  still_count (Ok act.HandOut) q = refl
  still_count (Ok (act.Close k)) q = absurd (false≢true q)
  still_count (Ok (act.Start x z len)) q = absurd (false≢true q)
  still_count (Ok (act.Data x v n)) q = absurd (false≢true q)

  decode_emptied : Emptied d → Emptied (decode es ps d s).state
  unfolding apply noted
  decode_emptied h f =
      let g : d.finished ≡ true = sym (decode_finished es ps d s) ∙ f in
      let a = exit_still (exits es ps d s) g in
      rw a.note (still_count (decide es ps d s).action a.action ∙ h g)

-- ---- the end of input

ended_emptied : {t : List Entry} {d : TagDecoder} {s : List ℕ} {r : Decoded} → EndExit t d s r → Emptied d → Emptied r.state
unfolding move with_open with_waiting with_notes closed_to
ended_emptied (end.bytes_left l) h = h
ended_emptied (end.master_cut z l) h = h
ended_emptied (end.no_master_lem n m) h = h
ended_emptied (end.finishes n m z) h = λ f. z
ended_emptied (end.closes_all n m l) h = λ f. refl

eof_emptied : (es ps : List ℕ) (d : TagDecoder) (s : List ℕ) → Emptied d → {r : Decoded} → EofExit es ps d s r → Emptied r.state
eof_emptied es ps d s h (end.as_decoded q) = decode_emptied es ps d s h
eof_emptied es ps d s h (end.at_end q x) =
    ended_emptied x (subst Emptied (decode_stays es ps d s (quiet_no_event (decode es ps d s).answer q)).same (decode_emptied es ps d s h))

-- ---- any calls

module _ (es ps : List ℕ) (d : TagDecoder) (h : Emptied d) where
  limit_emptied : (n : Option ℕ) → Emptied (limited_to d n)
  unfolding with_settings
  limit_emptied None = h
  limit_emptied (Some n) = h

  next_emptied : (c : Call) → is_no_recovery c ≡ true → Emptied (next es ps d c)
  unfolding with_settings
  next_emptied (decoding s) e = decode_emptied es ps d s h
  next_emptied (ending s) e = eof_emptied es ps d s h (eof_exits es ps d s)
  next_emptied (recovering s) e = absurd (false≢true e)
  next_emptied (allow ids hierarchy oversized) e = h
  next_emptied (strictly b) e = h
  next_emptied (limit n) e = limit_emptied n

emptied_after : (es ps : List ℕ) (cs : List Call) → never_recovered cs ≡ true → Emptied (record_after es ps cs)
unfolding record_after never_recovered
emptied_after es ps [] e = λ f. refl
emptied_after es ps (c ∷ cs) e =
    let b = both (is_no_recovery c) (never_recovered cs) e in
    next_emptied es ps (record_after es ps cs) (emptied_after es ps cs b.right) c b.left

-- a call that answers the finish leaves the implied parents as they were
finish_left : (es ps : List ℕ) (cs : List Call) (c : Call) → Answers es ps cs c (Ok answer.Finished) → parents_left ps (table_of es ps) (history es ps (c ∷ cs)) ≡ left_at es ps cs c
unfolding history parents_left
finish_left es ps cs c a = ap (λ (x : Response). left_by x (open_at es ps cs) (left_at es ps cs c)) a.1

-- when the finish is answered and no call was a recovery, every implied parent too has had its End
pub finish_closes_parents : (es ps : List ℕ) (cs : List Call) (c : Call) → Runs es ps (c ∷ cs) → never_recovered (c ∷ cs) ≡ true → Answers es ps cs c (Ok answer.Finished) → left_at es ps cs c ≡ []
unfolding record_after
finish_closes_parents es ps cs c run none a =
    let e = next es ps (record_after es ps cs) c in
    let q = subst (λ (x : Response). QuietResponse x e) a.1 (promised_after es ps cs c run).quiet in
    let k = tied_after es ps run.checked (c ∷ cs) run.octets in
    let l = stack_length (table_of es ps) e _ _ _ k.linked q.1 in
    let z : e.open_count ≡ 0 = emptied_after es ps (c ∷ cs) none q.2 in
    sym (finish_left es ps cs c a) ∙ (none_open (open_at es ps (c ∷ cs)) (parents_left ps (table_of es ps) (history es ps (c ∷ cs))) (no_starts _ (omega arith))).1

-- where `is_finished` says so and no call was a recovery, every implied parent has had its End
pub is_finished_closes_parents : (es ps : List ℕ) (cs : List Call) → Runs es ps cs → never_recovered cs ≡ true → is_finished (record_after es ps cs) ≡ true → parents_left ps (table_of es ps) (history es ps cs) ≡ []
is_finished_closes_parents es ps cs run none e =
    let d = record_after es ps cs in
    let b = both d.finished (eqb d.waiting_count 0) e in
    let k = tied_after es ps run.checked cs run.octets in
    let l = stack_length (table_of es ps) d _ _ _ k.linked (eqb-true d.waiting_count 0 b.right) in
    let z : d.open_count ≡ 0 = emptied_after es ps cs none b.left in
    (none_open (open_at es ps cs) (parents_left ps (table_of es ps) (history es ps cs)) (no_starts _ (omega arith))).1
